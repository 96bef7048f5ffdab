-- Tokens that are values on their own.
use Rattle.std.proofs.Common.{◌≡◌, ℕ, ◌<◌, ◌-◌, Some, Ok, List, length, refl, sym, ap, subst, inl, inr}
use Rattle.wave_lex.specs.declared.lex.Token as lex
use Rattle.wave_lex.specs.declared.lex.Token.TheVariants.{BraceClose, ParenClose, BracketClose, Colon, Comma, Number, LabelOrKeyword, Char, String, MultilineString}
use Rattle.wave_grammar.specs.ParserPosition.{Place, TakesItem, span_at, text_at, token_of}
use Rattle.wave_grammar.specs.Tree.{word_of}
use Rattle.wave_grammar.specs.PrefixAutomaton.{StackSymbol, expected_behind, value, behind_value, behind_label, value_step, unexpected}
use Rattle.wave_grammar.specs.SyntaxErrors.{LeadsBehindValue}
use Rattle.wave_grammar.specs.NodeTree.{node, no_nodes}
use Rattle.wave_grammar.specs.declared.form.NodeType.{NodeType}
use Rattle.wave_grammar.specs.declared.form.NodeType.TheVariants as kind
use Rattle.wave_tree.specs.ParsedNodes.{IsParsed}
use Rattle.wave_tree.specs.ValueStarts.{IsAlone, IsAloneWord, IsLabelWord, BeginsNothing}
use Rattle.wave_tree.proofs.NodeCorrectness.Items.{same_level, leaf_tied, number_word_tied, none_tied}
use Rattle.wave_tree.proofs.NodeCorrectness.Tokens.{number_parsed, char_parsed, string_parsed, multiline_parsed}
use Rattle.wave_tree.proofs.ParserCorrectness.Steps.{value_read, read_there}

-- such a word is the whole tree
word_alone : (n : ℕ) (p q : Place) (ty : NodeType) → 0 < n → TakesItem p (Some (Ok LabelOrKeyword)) q → IsAloneWord ty (text_at q) → IsParsed n p q (node ty (span_at q) no_nodes)
word_alone n p q kind.BoolTrue l h (w, e) = same_level n p q _ l (leaf_tied (n - 1) q kind.BoolTrue _ w (inl (refl, e)) refl p h)
word_alone n p q kind.BoolFalse l h (w, e) = same_level n p q _ l (leaf_tied (n - 1) q kind.BoolFalse _ w (inr (refl, e)) refl p h)
word_alone n p q kind.Number l h (w, e) = same_level n p q _ l (number_word_tied (n - 1) q _ w e refl p h)
word_alone n p q kind.OptionNone l h w = same_level n p q _ l (none_tied (n - 1) q _ w refl p h)
word_alone n p q _ l h w = absurd w

-- such a token is the whole tree
pub alone_parsed : (n : ℕ) (p q : Place) (c : lex.Token) (ty : NodeType) → 0 < n → TakesItem p (Some (Ok c)) q → IsAlone c (text_at q) ty → IsParsed n p q (node ty (span_at q) no_nodes)
alone_parsed n p q Number ty l h e = subst (λ z. IsParsed n p q (node z (span_at q) no_nodes)) (sym e) (number_parsed n p q l h)
alone_parsed n p q Char ty l h e = subst (λ z. IsParsed n p q (node z (span_at q) no_nodes)) (sym e) (char_parsed n p q l h)
alone_parsed n p q String ty l h e = subst (λ z. IsParsed n p q (node z (span_at q) no_nodes)) (sym e) (string_parsed n p q l h)
alone_parsed n p q MultilineString ty l h e = subst (λ z. IsParsed n p q (node z (span_at q) no_nodes)) (sym e) (multiline_parsed n p q l h)
alone_parsed n p q LabelOrKeyword ty l h w = word_alone n p q ty l h w
alone_parsed n p q _ ty l h w = absurd w

-- the word of such a text
word_behind : (ty : NodeType) (text : List ℕ) → IsAloneWord ty text → expected_behind (word_of text) ≡ behind_value
word_behind kind.BoolTrue text (w, e) = ap expected_behind w
word_behind kind.BoolFalse text (w, e) = ap expected_behind w
word_behind kind.Number text (w, e) = ap expected_behind w
word_behind kind.OptionNone text w = ap expected_behind w
word_behind _ text h = absurd h

-- such a token leads behind a value
pub alone_led : (n : ℕ) (s : List StackSymbol) (p q : Place) (c : lex.Token) (ty : NodeType) → length s < n → TakesItem p (Some (Ok c)) q → IsAlone c (text_at q) ty → LeadsBehindValue n value s p q s
alone_led n s p q Number ty l h e = read_there (value_read n behind_value s s p q Number Number l h refl refl) (inl refl)
alone_led n s p q Char ty l h e = read_there (value_read n behind_value s s p q Char Char l h refl refl) (inl refl)
alone_led n s p q String ty l h e = read_there (value_read n behind_value s s p q String String l h refl refl) (inl refl)
alone_led n s p q MultilineString ty l h e = read_there (value_read n behind_value s s p q MultilineString MultilineString l h refl refl) (inl refl)
alone_led n s p q LabelOrKeyword ty l h w = read_there (value_read n (expected_behind (word_of (text_at q))) s s p q LabelOrKeyword LabelOrKeyword l h refl refl) (inl (word_behind ty (text_at q) w))
alone_led n s p q _ ty l h w = absurd w

-- no value begins with such a token
pub nothing_begins : (s : List StackSymbol) (c : lex.Token) (text : List ℕ) → BeginsNothing c → value_step s (token_of c text) ≡ unexpected
nothing_begins s BraceClose text h = refl
nothing_begins s ParenClose text h = refl
nothing_begins s BracketClose text h = refl
nothing_begins s Colon text h = refl
nothing_begins s Comma text h = refl
nothing_begins s _ text h = absurd h

-- after a label that may have a payload
pub label_behind : (alone with : NodeType) (text : List ℕ) → IsLabelWord alone with text → expected_behind (word_of text) ≡ behind_label
label_behind kind.ResultOk kind.ResultOk text h = ap expected_behind h
label_behind kind.ResultErr kind.ResultErr text h = ap expected_behind h
label_behind kind.Label kind.VariantWithPayload text h = ap expected_behind h
label_behind _ _ text h = absurd h
