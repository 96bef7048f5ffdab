-- What a value begins with, by its first token.
use Rattle.std.specs.Prelude.{ℕ, ◌≡◌, true, List, [], ◌∷◌, codes}
use Rattle.wave_wasm.specs.Names.{is_one_of}
use Rattle.wave_lex.specs.declared.lex.Token as lex
use Rattle.wave_lex.specs.declared.lex.Token.TheVariants as class
use Rattle.wave_grammar.specs.Tree.{word_of, leaf_word, none_word, some_word, ok_word, err_word, case_word}
use Rattle.wave_grammar.specs.declared.form.NodeType.{NodeType}
use Rattle.wave_grammar.specs.declared.form.NodeType.TheVariants as kind
use Rattle.wave_tree.specs.declared.role.ValueStart.{ValueStart}
use Rattle.wave_tree.specs.declared.role.ValueStart.TheVariants as starts

-- a word of this text is a value on its own, and this is the type of its node
abbrev pub IsAloneWord : NodeType → List ℕ → Type 0
IsAloneWord kind.BoolTrue text = (word_of text ≡ leaf_word) × (text ≡ codes "true")
IsAloneWord kind.BoolFalse text = (word_of text ≡ leaf_word) × (text ≡ codes "false")
IsAloneWord kind.Number text = (word_of text ≡ leaf_word) × (is_one_of (codes "inf" ∷ codes "nan" ∷ []) text ≡ true)
IsAloneWord kind.OptionNone text = word_of text ≡ none_word
IsAloneWord _ text = ⊥

-- a token of this class and text is a value on its own, whatever stands after it, and this is the type of its node
abbrev pub IsAlone : lex.Token → List ℕ → NodeType → Type 0
IsAlone class.Number text ty = ty ≡ kind.Number
IsAlone class.Char text ty = ty ≡ kind.Char
IsAlone class.String text ty = ty ≡ kind.String
IsAlone class.MultilineString text ty = ty ≡ kind.MultilineString
IsAlone class.LabelOrKeyword text ty = IsAloneWord ty text
IsAlone _ text ty = ⊥

-- a word of this text may have a payload; these are the types of its node without one, and with one
abbrev pub IsLabelWord : NodeType → NodeType → List ℕ → Type 0
IsLabelWord kind.ResultOk kind.ResultOk text = word_of text ≡ ok_word
IsLabelWord kind.ResultErr kind.ResultErr text = word_of text ≡ err_word
IsLabelWord kind.Label kind.VariantWithPayload text = word_of text ≡ case_word
IsLabelWord _ _ text = ⊥

-- no value begins with a token of this class
abbrev pub BeginsNothing : lex.Token → Type 0
BeginsNothing class.Number = ⊥
BeginsNothing class.Char = ⊥
BeginsNothing class.String = ⊥
BeginsNothing class.MultilineString = ⊥
BeginsNothing class.LabelOrKeyword = ⊥
BeginsNothing class.ParenOpen = ⊥
BeginsNothing class.BracketOpen = ⊥
BeginsNothing class.BraceOpen = ⊥
BeginsNothing _ = Unit {0}

-- a value whose first token has this class and text begins so
abbrev pub IsValueStart : lex.Token → List ℕ → ValueStart → Type 0
IsValueStart c text (starts.Alone ty) = IsAlone c text ty
IsValueStart c text starts.Some = (c ≡ class.LabelOrKeyword) × (word_of text ≡ some_word)
IsValueStart c text (starts.Label alone with) = (c ≡ class.LabelOrKeyword) × IsLabelWord alone with text
IsValueStart c text starts.Paren = c ≡ class.ParenOpen
IsValueStart c text starts.Bracket = c ≡ class.BracketOpen
IsValueStart c text starts.Brace = c ≡ class.BraceOpen
IsValueStart c text starts.Nothing = BeginsNothing c
