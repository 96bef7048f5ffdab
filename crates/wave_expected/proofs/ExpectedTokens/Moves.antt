-- Each move is a step of the automaton.
use Rattle.std.proofs.Common.{ℕ, ◌≡◌, ◌-◌, inl, inr, List, [], ◌∷◌, ◌++◌, length, Option, Bool, true, false, refl, sym, subst, arith}
use Rattle.std.specs.Prelude.{◌⊎◌, nat_lt, if◌then◌else◌}
use Rattle.wave_wasm.specs.Names.{is_one_of}
use Rattle.wave_lex.specs.declared.lex.Token as lex
use Rattle.wave_lex.specs.declared.lex.Token.TheVariants.{BraceOpen, BraceClose, ParenOpen, ParenClose, BracketOpen, BracketClose}
use Rattle.wave_lex.specs.declared.lex.Token.TheVariants.{Colon, Comma, Number, LabelOrKeyword, Char, String, MultilineString}
use Rattle.wave_grammar.specs.declared.form.NodeType.{NodeType}
use Rattle.wave_grammar.specs.declared.form.NodeType.TheVariants as node
use Rattle.wave_grammar.specs.LeafTokens.{name_of}
use Rattle.wave_grammar.specs.Token.{label}
use Rattle.wave_grammar.specs.Tree.{Word, word_of, leaf_word, none_word, some_word}
use Rattle.wave_grammar.specs.ParserPosition.{token_of}
use Rattle.wave_grammar.specs.PrefixAutomaton as expectation
use Rattle.wave_grammar.specs.PrefixAutomaton.{Expectation, StackSymbol, Step, step, reads, too_deep, value_step, level_step, behind_step, key_step, flag_step, behind_flag_step}
use Rattle.wave_tree.specs.declared.role.ValueStart.{ValueStart}
use Rattle.wave_tree.specs.declared.role.ValueStart.TheVariants as starts
use Rattle.wave_expected.specs.declared.expected.moves.State.TheVariants as known
use Rattle.wave_expected.specs.declared.expected.moves.Form.{Form}
use Rattle.wave_expected.specs.declared.expected.moves.Form.TheVariants as form
use Rattle.wave_expected.specs.declared.expected.moves.Move.{Move}
use Rattle.wave_expected.specs.declared.expected.moves.Move.TheVariants.{To, Open, Close, Refused}
use Rattle.wave_tree.specs.ValueStarts.{IsValueStart, IsAloneWord}
use Rattle.wave_tree.proofs.ParserCorrectness.AloneTokens.{label_behind}
use Rattle.wave_expected.specs.Private.Moves.{start_move, value_move, behind_move, brace_move, next_move, expected_of, innermost}

-- ---- what a move is among the steps of the automaton

-- the innermost form is a tuple or a list
abbrev pub IsInItems : List StackSymbol → Type 0
IsInItems (expectation.tuple ∷ s) = Unit {0}
IsInItems (expectation.list ∷ s) = Unit {0}
IsInItems _ = ⊥

-- r are the forms around the innermost one of s
abbrev pub AreAround : List StackSymbol → List StackSymbol → Type 0
AreAround r s = (f : StackSymbol) × (s ≡ f ∷ r)

-- where d is expected, these flags were read
abbrev pub WereRead : List (List ℕ) → Expectation → Type 0
WereRead names d = (d ≡ expectation.behind_flag names) ⊎ ((text : List ℕ) × (d ≡ expectation.behind_word text) × (names ≡ name_of text ∷ []))

-- a token of this text, where d is expected within s, is read by the move, after which e is expected within r
abbrev pub LeadsBy : Move → List ℕ → Expectation → List StackSymbol → Expectation → List StackSymbol → Type 0
LeadsBy (Open form.Tuple known.FirstItem) text d s e r = (e ≡ expectation.first_item) × (r ≡ expectation.tuple ∷ s)
LeadsBy (Open form.List known.FirstItem) text d s e r = (e ≡ expectation.first_item) × (r ≡ expectation.list ∷ s)
LeadsBy (Open form.Payload known.Value) text d s e r = (e ≡ expectation.value) × (r ≡ expectation.payload ∷ s)
LeadsBy (Open form.Entries known.Value) text d s e r = (e ≡ expectation.value) × (r ≡ expectation.entries ∷ s)
LeadsBy (Close known.BehindValue) text d s e r = (e ≡ expectation.behind_value) × AreAround r s
LeadsBy (Close known.Key) text d s e r = (e ≡ expectation.key) × AreAround r s
LeadsBy (To known.NextItem) text d s e r = (e ≡ expectation.next_item) × (r ≡ s) × IsInItems s
LeadsBy (To known.BehindValue) text d s e r = (e ≡ expectation.behind_value) × (r ≡ s)
LeadsBy (To known.BehindLabel) text d s e r = (e ≡ expectation.behind_label) × (r ≡ s)
LeadsBy (To known.Paren) text d s e r = (e ≡ expectation.paren) × (r ≡ s)
LeadsBy (To known.InBraces) text d s e r = (e ≡ expectation.in_braces) × (r ≡ s)
LeadsBy (To known.NoFields) text d s e r = (e ≡ expectation.no_fields) × (r ≡ s)
LeadsBy (To known.BehindWord) text d s e r = (e ≡ expectation.behind_word text) × (r ≡ s)
LeadsBy (To known.BehindKey) text d s e r = (e ≡ expectation.behind_key) × (r ≡ s)
LeadsBy (To known.Flag) text d s e r = (names : List (List ℕ)) × (e ≡ expectation.flag names) × (r ≡ s) × WereRead names d
LeadsBy (To known.BehindFlag) text d s e r =
    (names : List (List ℕ)) × (d ≡ expectation.flag names) × (is_one_of names (name_of text) ≡ false) × (e ≡ expectation.behind_flag (names ++ name_of text ∷ [])) × (r ≡ s)
LeadsBy _ text d s e r = ⊥

-- a flag of this text is read by the move, and was read before
abbrev pub IsRepeated : Move → List ℕ → Expectation → Type 0
IsRepeated (To known.BehindFlag) text d = (names : List (List ℕ)) × (d ≡ expectation.flag names) × (is_one_of names (name_of text) ≡ true)
IsRepeated _ text d = ⊥

-- this move is this step from where d is expected within s; of flags that are repeated it knows nothing
abbrev pub IsMove : Move → List ℕ → Expectation → List StackSymbol → Step → Type 0
IsMove m text d s (expectation.reads e r) = LeadsBy m text d s e r
IsMove m text d s expectation.repeated_flag = IsRepeated m text d
IsMove m text d s _ = m ≡ Refused

-- ---- where a value is expected

-- after a label, by what it is
word_leads : (m : Move) (text : List ℕ) (d : Expectation) (s : List StackSymbol) (w : Word) → word_of text ≡ w → IsMove m text d s (reads (expectation.expected_behind w) s) → IsMove m text d s (value_step s (label text))
word_leads m text d s w e h = subst (λ z. IsMove m text d s (reads (expectation.expected_behind z) s)) (sym e) h

-- a label that is a value on its own
alone_word : (ty : NodeType) (text : List ℕ) (d : Expectation) (s : List StackSymbol) → IsAloneWord ty text → IsMove (To known.BehindValue) text d s (value_step s (label text))
alone_word node.BoolTrue text d s h = word_leads (To known.BehindValue) text d s leaf_word h.0 (refl, refl)
alone_word node.BoolFalse text d s h = word_leads (To known.BehindValue) text d s leaf_word h.0 (refl, refl)
alone_word node.Number text d s h = word_leads (To known.BehindValue) text d s leaf_word h.0 (refl, refl)
alone_word node.OptionNone text d s h = word_leads (To known.BehindValue) text d s none_word h (refl, refl)
alone_word ty text d s h = absurd h

-- a token that is a label
a_label : (m : Move) (c : lex.Token) (text : List ℕ) (d : Expectation) (s : List StackSymbol) (w : Word) → c ≡ LabelOrKeyword → word_of text ≡ w → IsMove m text d s (reads (expectation.expected_behind w) s) → IsMove m text d s (value_step s (token_of c text))
a_label m c text d s w e k h = subst (λ z. IsMove m text d s (value_step s (token_of z text))) (sym e) (word_leads m text d s w k h)

-- a token that is a mark
a_mark : (m : Move) (c k : lex.Token) (text : List ℕ) (d : Expectation) (s : List StackSymbol) → c ≡ k → IsMove m text d s (value_step s (token_of k text)) → IsMove m text d s (value_step s (token_of c text))
a_mark m c k text d s e h = subst (λ z. IsMove m text d s (value_step s (token_of z text))) (sym e) h

-- the first token of a value
prefix_leads : (start : ValueStart) (c : lex.Token) (text : List ℕ) (d : Expectation) (s : List StackSymbol) → IsValueStart c text start → IsMove (start_move start) text d s (value_step s (token_of c text))
prefix_leads (starts.Alone ty) Number text d s h = (refl, refl)
prefix_leads (starts.Alone ty) Char text d s h = (refl, refl)
prefix_leads (starts.Alone ty) String text d s h = (refl, refl)
prefix_leads (starts.Alone ty) MultilineString text d s h = (refl, refl)
prefix_leads (starts.Alone ty) LabelOrKeyword text d s h = alone_word ty text d s h
prefix_leads (starts.Alone ty) c text d s h = absurd h
prefix_leads starts.Some c text d s h = a_label (To known.Paren) c text d s some_word h.0 h.1 (refl, refl)
prefix_leads (starts.Label alone with) c text d s h =
    a_label (To known.BehindLabel) c text d s (word_of text) h.0 refl (subst (λ z. IsMove (To known.BehindLabel) text d s (reads z s)) (sym (label_behind alone with text h.1)) (refl, refl))
prefix_leads starts.Paren c text d s h = a_mark (start_move starts.Paren) c ParenOpen text d s h (refl, refl)
prefix_leads starts.Bracket c text d s h = a_mark (start_move starts.Bracket) c BracketOpen text d s h (refl, refl)
prefix_leads starts.Brace c text d s h = a_mark (start_move starts.Brace) c BraceOpen text d s h (refl, refl)
prefix_leads starts.Nothing BraceClose text d s h = refl
prefix_leads starts.Nothing ParenClose text d s h = refl
prefix_leads starts.Nothing BracketClose text d s h = refl
prefix_leads starts.Nothing Colon text d s h = refl
prefix_leads starts.Nothing Comma text d s h = refl
prefix_leads starts.Nothing c text d s h = absurd h

-- two tests that agree
both : (a b : Bool) (m k : Move) (text : List ℕ) (d : Expectation) (s : List StackSymbol) (x y : Step) → a ≡ b → IsMove m text d s x → IsMove k text d s y → IsMove (if a then m else k) text d s (if b then x else y)
both true true m k text d s x y e h g = h
both false false m k text d s x y e h g = g
both true false m k text d s x y e h g = absurd (differ e)
  where
    differ : true ≡ false → ⊥
    differ e = cc
both false true m k text d s x y e h g = absurd (differ e)
  where
    differ : false ≡ true → ⊥
    differ e = cc

-- so many levels are left where some are
levels_left : (n k : ℕ) → nat_lt 0 (n - k) ≡ nat_lt k n
levels_left n k = grind arith

-- the first token of a value on a level that is left
value_leads : (n : ℕ) (start : ValueStart) (c : lex.Token) (text : List ℕ) (d : Expectation) (s : List StackSymbol) → IsValueStart c text start → IsMove (value_move (n - length s) start) text d s (level_step n s (token_of c text))
value_leads n start c text d s h =
    both (nat_lt 0 (n - length s)) (nat_lt (length s) n) (start_move start) Refused text d s (value_step s (token_of c text)) too_deep (levels_left n (length s)) (prefix_leads start c text d s h) refl

-- ---- after a value

behind_leads : (c : lex.Token) (text : List ℕ) (d : Expectation) (s : List StackSymbol) → IsMove (behind_move (innermost s) c) text d s (behind_step s (token_of c text))
behind_leads c text d [] = refl
behind_leads Comma text d (expectation.tuple ∷ s) = (refl, refl, tt)
behind_leads ParenClose text d (expectation.tuple ∷ s) = (refl, (expectation.tuple, refl))
behind_leads c text d (expectation.tuple ∷ s) = refl
behind_leads Comma text d (expectation.list ∷ s) = (refl, refl, tt)
behind_leads BracketClose text d (expectation.list ∷ s) = (refl, (expectation.list, refl))
behind_leads c text d (expectation.list ∷ s) = refl
behind_leads ParenClose text d (expectation.payload ∷ s) = (refl, (expectation.payload, refl))
behind_leads c text d (expectation.payload ∷ s) = refl
behind_leads Comma text d (expectation.entries ∷ s) = (refl, (expectation.entries, refl))
behind_leads BraceClose text d (expectation.entries ∷ s) = (refl, (expectation.entries, refl))
behind_leads c text d (expectation.entries ∷ s) = refl

-- ---- items

first_leads : (n : ℕ) (c : lex.Token) (text : List ℕ) (start : ValueStart) (s : List StackSymbol) → IsValueStart c text start →
    IsMove (next_move known.FirstItem (innermost s) (n - length s) c start) text expectation.first_item s (step n expectation.first_item s (token_of c text))
first_leads n c text start [] h = value_leads n start c text expectation.first_item [] h
first_leads n ParenClose text start (expectation.tuple ∷ s) h = refl
first_leads n c text start (expectation.tuple ∷ s) h = value_leads n start c text expectation.first_item (expectation.tuple ∷ s) h
first_leads n BracketClose text start (expectation.list ∷ s) h = (refl, (expectation.list, refl))
first_leads n c text start (expectation.list ∷ s) h = value_leads n start c text expectation.first_item (expectation.list ∷ s) h
first_leads n c text start (expectation.payload ∷ s) h = value_leads n start c text expectation.first_item (expectation.payload ∷ s) h
first_leads n c text start (expectation.entries ∷ s) h = value_leads n start c text expectation.first_item (expectation.entries ∷ s) h

next_leads : (n : ℕ) (c : lex.Token) (text : List ℕ) (start : ValueStart) (s : List StackSymbol) → IsValueStart c text start →
    IsMove (next_move known.NextItem (innermost s) (n - length s) c start) text expectation.next_item s (step n expectation.next_item s (token_of c text))
next_leads n c text start [] h = value_leads n start c text expectation.next_item [] h
next_leads n ParenClose text start (expectation.tuple ∷ s) h = (refl, (expectation.tuple, refl))
next_leads n c text start (expectation.tuple ∷ s) h = value_leads n start c text expectation.next_item (expectation.tuple ∷ s) h
next_leads n BracketClose text start (expectation.list ∷ s) h = (refl, (expectation.list, refl))
next_leads n c text start (expectation.list ∷ s) h = value_leads n start c text expectation.next_item (expectation.list ∷ s) h
next_leads n c text start (expectation.payload ∷ s) h = value_leads n start c text expectation.next_item (expectation.payload ∷ s) h
next_leads n c text start (expectation.entries ∷ s) h = value_leads n start c text expectation.next_item (expectation.entries ∷ s) h

-- ---- labels and braces

label_leads : (n left : ℕ) (start : ValueStart) (c : lex.Token) (text : List ℕ) (s : List StackSymbol) → IsMove (next_move known.BehindLabel (innermost s) left c start) text expectation.behind_label s (step n expectation.behind_label s (token_of c text))
label_leads n left start ParenOpen text s = (refl, refl)
label_leads n left start c text s = behind_leads c text expectation.behind_label s

paren_leads : (n left : ℕ) (start : ValueStart) (f : Option Form) (c : lex.Token) (text : List ℕ) (s : List StackSymbol) → IsMove (next_move known.Paren f left c start) text expectation.paren s (step n expectation.paren s (token_of c text))
paren_leads n left start f ParenOpen text s = (refl, refl)
paren_leads n left start f c text s = refl

key_leads : (c : lex.Token) (text : List ℕ) (s : List StackSymbol) → IsMove (brace_move known.Key c) text expectation.key s (key_step s (token_of c text))
key_leads LabelOrKeyword text s = (refl, refl)
key_leads Number text s = (refl, refl)
key_leads Char text s = (refl, refl)
key_leads String text s = (refl, refl)
key_leads MultilineString text s = (refl, refl)
key_leads BraceClose text s = (refl, refl)
key_leads c text s = refl

brace_leads : (n : ℕ) (c : lex.Token) (text : List ℕ) (s : List StackSymbol) → IsMove (brace_move known.InBraces c) text expectation.in_braces s (step n expectation.in_braces s (token_of c text))
brace_leads n LabelOrKeyword text s = (refl, refl)
brace_leads n Colon text s = (refl, refl)
brace_leads n Number text s = (refl, refl)
brace_leads n Char text s = (refl, refl)
brace_leads n String text s = (refl, refl)
brace_leads n MultilineString text s = (refl, refl)
brace_leads n BraceClose text s = (refl, refl)
brace_leads n c text s = refl

colon_leads : (n : ℕ) (c : lex.Token) (text : List ℕ) (s : List StackSymbol) → IsMove (brace_move known.BehindKey c) text expectation.behind_key s (step n expectation.behind_key s (token_of c text))
colon_leads n Colon text s = (refl, refl)
colon_leads n c text s = refl

no_fields_leads : (n : ℕ) (c : lex.Token) (text : List ℕ) (s : List StackSymbol) → IsMove (brace_move known.NoFields c) text expectation.no_fields s (step n expectation.no_fields s (token_of c text))
no_fields_leads n BraceClose text s = (refl, refl)
no_fields_leads n c text s = refl

-- ---- flags

-- a flag, which may be repeated
flagged : (b : Bool) (names : List (List ℕ)) (text : List ℕ) (s : List StackSymbol) → is_one_of names (name_of text) ≡ b →
    IsMove (To known.BehindFlag) text (expectation.flag names) s (if b then expectation.repeated_flag else reads (expectation.behind_flag (names ++ name_of text ∷ [])) s)
flagged true names text s e = (names, refl, e)
flagged false names text s e = (names, refl, e, refl, refl)

flag_leads : (c : lex.Token) (names : List (List ℕ)) (text : List ℕ) (s : List StackSymbol) → IsMove (brace_move known.Flag c) text (expectation.flag names) s (flag_step names s (token_of c text))
flag_leads LabelOrKeyword names text s = flagged (is_one_of names (name_of text)) names text s refl
flag_leads BraceClose names text s = (refl, refl)
flag_leads c names text s = refl

behind_flag_leads : (c : lex.Token) (names : List (List ℕ)) (text : List ℕ) (s : List StackSymbol) → IsMove (brace_move known.BehindFlag c) text (expectation.behind_flag names) s (behind_flag_step names s (token_of c text))
behind_flag_leads Comma names text s = (names, refl, refl, inl refl)
behind_flag_leads BraceClose names text s = (refl, refl)
behind_flag_leads c names text s = refl

word_behind_leads : (n : ℕ) (c : lex.Token) (word text : List ℕ) (s : List StackSymbol) → IsMove (brace_move known.BehindWord c) text (expectation.behind_word word) s (step n (expectation.behind_word word) s (token_of c text))
word_behind_leads n Colon word text s = (refl, refl)
word_behind_leads n Comma word text s = (name_of word ∷ [], refl, refl, inr (word, refl, refl))
word_behind_leads n BraceClose word text s = (refl, refl)
word_behind_leads n c word text s = refl

-- ---- any token

-- what a token does is what the move says
pub move_is_step : (n : ℕ) (d : Expectation) (s : List StackSymbol) (c : lex.Token) (text : List ℕ) (start : ValueStart) → IsValueStart c text start →
    IsMove (next_move (expected_of d) (innermost s) (n - length s) c start) text d s (step n d s (token_of c text))
move_is_step n expectation.value s c text start h = value_leads n start c text expectation.value s h
move_is_step n expectation.first_item s c text start h = first_leads n c text start s h
move_is_step n expectation.next_item s c text start h = next_leads n c text start s h
move_is_step n expectation.behind_value s c text start h = behind_leads c text expectation.behind_value s
move_is_step n expectation.behind_label s c text start h = label_leads n (n - length s) start c text s
move_is_step n expectation.paren s c text start h = paren_leads n (n - length s) start (innermost s) c text s
move_is_step n expectation.in_braces s c text start h = brace_leads n c text s
move_is_step n expectation.no_fields s c text start h = no_fields_leads n c text s
move_is_step n (expectation.behind_word word) s c text start h = word_behind_leads n c word text s
move_is_step n expectation.key s c text start h = key_leads c text s
move_is_step n expectation.behind_key s c text start h = colon_leads n c text s
move_is_step n (expectation.flag names) s c text start h = flag_leads c names text s
move_is_step n (expectation.behind_flag names) s c text start h = behind_flag_leads c names text s
