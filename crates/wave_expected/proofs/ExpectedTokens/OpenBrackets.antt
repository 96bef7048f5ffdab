-- As many brackets are open as forms.
use Rattle.std.proofs.Common.{ℕ, ◌≡◌, ◌+◌, List, [], ◌∷◌, ◌++◌, length, Bool, true, false, refl, sym, ap, subst, ◌∙◌, arith, length-append}
use Rattle.std.specs.Prelude.{if◌then◌else◌, fold, map, slice_range}
use Rattle.std.specs.declared.ops.Range.{Range}
use Rattle.wave_wasm.specs.Names.{is_one_of}
use Rattle.wave_lex.specs.declared.lex.Token as lex
use Rattle.wave_lex.specs.declared.lex.Token.TheVariants.{BraceOpen, BraceClose, ParenOpen, ParenClose, BracketOpen, BracketClose}
use Rattle.wave_lex.specs.declared.lex.Token.TheVariants.{Colon, Comma, Number, LabelOrKeyword, Char, String, MultilineString}
use Rattle.wave_grammar.specs.Token.{Token, brace_open, brace_close, paren_open, paren_close, bracket_open, bracket_close, colon, comma, number, label, char, string, multiline}
use Rattle.wave_grammar.specs.LeafTokens.{name_of}
use Rattle.wave_grammar.specs.Tree.{Word, word_of, leaf_word, none_word, some_word, ok_word, err_word, case_word}
use Rattle.wave_grammar.specs.ParserPosition.{token_of}
use Rattle.wave_grammar.specs.PrefixAutomaton as expectation
use Rattle.wave_grammar.specs.PrefixAutomaton.{Expectation, StackSymbol, Step, unexpected, reads, step, Shifts, value_step, behind_step, key_step, flag_step, behind_flag_step}
use Rattle.wave_grammar.proofs.Automaton.Prefixes.{level_there}
use Rattle.wave_expected.specs.Expected.{Placed, token_at, but_last, open_after}
use Rattle.wave_expected.specs.ExpectedLaws.{bare_braces, BracketsAreForms}

-- how many brackets are open where this is expected within these forms
abbrev count : Expectation → List StackSymbol → ℕ
count d s = length s + bare_braces d

-- b brackets are open after the token, where a were before it
abbrev Counts : Token → ℕ → ℕ → Type 0
Counts brace_open a b = b ≡ a + 1
Counts paren_open a b = b ≡ a + 1
Counts bracket_open a b = b ≡ a + 1
Counts brace_close a b = b + 1 ≡ a
Counts paren_close a b = b + 1 ≡ a
Counts bracket_close a b = b + 1 ≡ a
Counts _ a b = b ≡ a

-- where a token was read
there : (t : Token) (a : ℕ) (d e : Expectation) (s r : List StackSymbol) → reads d s ≡ reads e r → Counts t a (count d s) → Counts t a (count e r)
there t a d e s r h counts =
    let forms : s ≡ r = cc in
    let states : d ≡ e = cc in
    subst (λ z. Counts t a (count z r)) states (subst (λ z. Counts t a (count d z)) forms counts)

-- after a label that stands for a value
no_braces : (w : Word) → bare_braces (expectation.expected_behind w) ≡ 0
no_braces leaf_word = refl
no_braces none_word = refl
no_braces some_word = refl
no_braces ok_word = refl
no_braces err_word = refl
no_braces case_word = refl

value_counts : (s : List StackSymbol) (t : Token) (e : Expectation) (r : List StackSymbol) → value_step s t ≡ reads e r → Counts t (length s + 0) (count e r)
value_counts s paren_open e r h = there paren_open (length s + 0) expectation.first_item e (expectation.tuple ∷ s) r h (omega arith)
value_counts s bracket_open e r h = there bracket_open (length s + 0) expectation.first_item e (expectation.list ∷ s) r h (omega arith)
value_counts s brace_open e r h = there brace_open (length s + 0) expectation.in_braces e s r h (omega arith)
value_counts s (number text) e r h = there (number text) (length s + 0) expectation.behind_value e s r h refl
value_counts s (char text) e r h = there (char text) (length s + 0) expectation.behind_value e s r h refl
value_counts s (string text) e r h = there (string text) (length s + 0) expectation.behind_value e s r h refl
value_counts s (multiline text) e r h = there (multiline text) (length s + 0) expectation.behind_value e s r h refl
value_counts s (label text) e r h = there (label text) (length s + 0) (expectation.expected_behind (word_of text)) e s r h (ap (λ k. length s + k) (no_braces (word_of text)))
value_counts s t e r h = let k : unexpected ≡ reads e r = h in cc

behind_counts : (s : List StackSymbol) (t : Token) (e : Expectation) (r : List StackSymbol) → behind_step s t ≡ reads e r → Counts t (length s + 0) (count e r)
behind_counts [] t e r h = let k : unexpected ≡ reads e r = h in cc
behind_counts (expectation.tuple ∷ s) comma e r h = there comma (length (expectation.tuple ∷ s) + 0) expectation.next_item e (expectation.tuple ∷ s) r h refl
behind_counts (expectation.tuple ∷ s) paren_close e r h = there paren_close (length (expectation.tuple ∷ s) + 0) expectation.behind_value e s r h (omega arith)
behind_counts (expectation.list ∷ s) comma e r h = there comma (length (expectation.list ∷ s) + 0) expectation.next_item e (expectation.list ∷ s) r h refl
behind_counts (expectation.list ∷ s) bracket_close e r h = there bracket_close (length (expectation.list ∷ s) + 0) expectation.behind_value e s r h (omega arith)
behind_counts (expectation.payload ∷ s) paren_close e r h = there paren_close (length (expectation.payload ∷ s) + 0) expectation.behind_value e s r h (omega arith)
behind_counts (expectation.entries ∷ s) comma e r h = there comma (length (expectation.entries ∷ s) + 0) expectation.key e s r h (omega arith)
behind_counts (expectation.entries ∷ s) brace_close e r h = there brace_close (length (expectation.entries ∷ s) + 0) expectation.behind_value e s r h (omega arith)
behind_counts (f ∷ s) t e r h = let k : unexpected ≡ reads e r = h in cc

-- where an item or the close is expected
next_counts : (n : ℕ) (s : List StackSymbol) (t : Token) (e : Expectation) (r : List StackSymbol) → step n expectation.next_item s t ≡ reads e r → Counts t (length s + 0) (count e r)
next_counts n [] t e r h = value_counts [] t e r (level_there n [] t e r h).1
next_counts n (expectation.tuple ∷ s) paren_close e r h = there paren_close (length (expectation.tuple ∷ s) + 0) expectation.behind_value e s r h (omega arith)
next_counts n (expectation.tuple ∷ s) t e r h = value_counts (expectation.tuple ∷ s) t e r (level_there n (expectation.tuple ∷ s) t e r h).1
next_counts n (expectation.list ∷ s) bracket_close e r h = there bracket_close (length (expectation.list ∷ s) + 0) expectation.behind_value e s r h (omega arith)
next_counts n (expectation.list ∷ s) t e r h = value_counts (expectation.list ∷ s) t e r (level_there n (expectation.list ∷ s) t e r h).1
next_counts n (expectation.payload ∷ s) t e r h = value_counts (expectation.payload ∷ s) t e r (level_there n (expectation.payload ∷ s) t e r h).1
next_counts n (expectation.entries ∷ s) t e r h = value_counts (expectation.entries ∷ s) t e r (level_there n (expectation.entries ∷ s) t e r h).1

first_counts : (n : ℕ) (s : List StackSymbol) (t : Token) (e : Expectation) (r : List StackSymbol) → step n expectation.first_item s t ≡ reads e r → Counts t (length s + 0) (count e r)
first_counts n [] t e r h = value_counts [] t e r (level_there n [] t e r h).1
first_counts n (expectation.tuple ∷ s) paren_close e r h = let k : expectation.empty_tuple ≡ reads e r = h in cc
first_counts n (expectation.tuple ∷ s) t e r h = value_counts (expectation.tuple ∷ s) t e r (level_there n (expectation.tuple ∷ s) t e r h).1
first_counts n (expectation.list ∷ s) bracket_close e r h = there bracket_close (length (expectation.list ∷ s) + 0) expectation.behind_value e s r h (omega arith)
first_counts n (expectation.list ∷ s) t e r h = value_counts (expectation.list ∷ s) t e r (level_there n (expectation.list ∷ s) t e r h).1
first_counts n (expectation.payload ∷ s) t e r h = value_counts (expectation.payload ∷ s) t e r (level_there n (expectation.payload ∷ s) t e r h).1
first_counts n (expectation.entries ∷ s) t e r h = value_counts (expectation.entries ∷ s) t e r (level_there n (expectation.entries ∷ s) t e r h).1

label_counts : (n : ℕ) (s : List StackSymbol) (t : Token) (e : Expectation) (r : List StackSymbol) → step n expectation.behind_label s t ≡ reads e r → Counts t (length s + 0) (count e r)
label_counts n s paren_open e r h = there paren_open (length s + 0) expectation.value e (expectation.payload ∷ s) r h (omega arith)
label_counts n s t e r h = behind_counts s t e r h

paren_counts : (n : ℕ) (s : List StackSymbol) (t : Token) (e : Expectation) (r : List StackSymbol) → step n expectation.paren s t ≡ reads e r → Counts t (length s + 0) (count e r)
paren_counts n s paren_open e r h = there paren_open (length s + 0) expectation.value e (expectation.payload ∷ s) r h (omega arith)
paren_counts n s t e r h = let k : unexpected ≡ reads e r = h in cc

key_counts : (s : List StackSymbol) (t : Token) (e : Expectation) (r : List StackSymbol) → key_step s t ≡ reads e r → Counts t (length s + 1) (count e r)
key_counts s brace_close e r h = there brace_close (length s + 1) expectation.behind_value e s r h (omega arith)
key_counts s (number text) e r h = there (number text) (length s + 1) expectation.behind_key e s r h refl
key_counts s (label text) e r h = there (label text) (length s + 1) expectation.behind_key e s r h refl
key_counts s (char text) e r h = there (char text) (length s + 1) expectation.behind_key e s r h refl
key_counts s (string text) e r h = there (string text) (length s + 1) expectation.behind_key e s r h refl
key_counts s (multiline text) e r h = there (multiline text) (length s + 1) expectation.behind_key e s r h refl
key_counts s t e r h = let k : unexpected ≡ reads e r = h in cc

brace_counts : (n : ℕ) (s : List StackSymbol) (t : Token) (e : Expectation) (r : List StackSymbol) → step n expectation.in_braces s t ≡ reads e r → Counts t (length s + 1) (count e r)
brace_counts n s (label text) e r h = there (label text) (length s + 1) (expectation.behind_word text) e s r h refl
brace_counts n s colon e r h = there colon (length s + 1) expectation.no_fields e s r h refl
brace_counts n s t e r h = key_counts s t e r h

no_fields_counts : (n : ℕ) (s : List StackSymbol) (t : Token) (e : Expectation) (r : List StackSymbol) → step n expectation.no_fields s t ≡ reads e r → Counts t (length s + 1) (count e r)
no_fields_counts n s brace_close e r h = there brace_close (length s + 1) expectation.behind_value e s r h (omega arith)
no_fields_counts n s t e r h = let k : unexpected ≡ reads e r = h in cc

colon_counts : (n : ℕ) (s : List StackSymbol) (t : Token) (e : Expectation) (r : List StackSymbol) → step n expectation.behind_key s t ≡ reads e r → Counts t (length s + 1) (count e r)
colon_counts n s colon e r h = there colon (length s + 1) expectation.value e (expectation.entries ∷ s) r h (omega arith)
colon_counts n s t e r h = let k : unexpected ≡ reads e r = h in cc

behind_flag_counts : (names : List (List ℕ)) (s : List StackSymbol) (t : Token) (e : Expectation) (r : List StackSymbol) → behind_flag_step names s t ≡ reads e r → Counts t (length s + 1) (count e r)
behind_flag_counts names s comma e r h = there comma (length s + 1) (expectation.flag names) e s r h refl
behind_flag_counts names s brace_close e r h = there brace_close (length s + 1) expectation.behind_value e s r h (omega arith)
behind_flag_counts names s t e r h = let k : unexpected ≡ reads e r = h in cc

word_counts : (n : ℕ) (word : List ℕ) (s : List StackSymbol) (t : Token) (e : Expectation) (r : List StackSymbol) → step n (expectation.behind_word word) s t ≡ reads e r → Counts t (length s + 1) (count e r)
word_counts n word s colon e r h = there colon (length s + 1) expectation.value e (expectation.entries ∷ s) r h (omega arith)
word_counts n word s t e r h = behind_flag_counts (name_of word ∷ []) s t e r h

new_flag : (b : Bool) (text : List ℕ) (names : List (List ℕ)) (s : List StackSymbol) (e : Expectation) (r : List StackSymbol) → if b then expectation.repeated_flag else reads (expectation.behind_flag names) s ≡ reads e r → Counts (label text) (length s + 1) (count e r)
new_flag true text names s e r h = let k : expectation.repeated_flag ≡ reads e r = h in cc
new_flag false text names s e r h = there (label text) (length s + 1) (expectation.behind_flag names) e s r h refl

flag_counts : (names : List (List ℕ)) (s : List StackSymbol) (t : Token) (e : Expectation) (r : List StackSymbol) → flag_step names s t ≡ reads e r → Counts t (length s + 1) (count e r)
flag_counts names s (label text) e r h = new_flag (is_one_of names (name_of text)) text (names ++ name_of text ∷ []) s e r h
flag_counts names s brace_close e r h = there brace_close (length s + 1) expectation.behind_value e s r h (omega arith)
flag_counts names s t e r h = let k : unexpected ≡ reads e r = h in cc

-- a token that is read
step_counts : (n : ℕ) (d : Expectation) (s : List StackSymbol) (t : Token) (e : Expectation) (r : List StackSymbol) → step n d s t ≡ reads e r → Counts t (count d s) (count e r)
step_counts n expectation.value s t e r h = value_counts s t e r (level_there n s t e r h).1
step_counts n expectation.first_item s t e r h = first_counts n s t e r h
step_counts n expectation.next_item s t e r h = next_counts n s t e r h
step_counts n expectation.behind_value s t e r h = behind_counts s t e r h
step_counts n expectation.behind_label s t e r h = label_counts n s t e r h
step_counts n expectation.paren s t e r h = paren_counts n s t e r h
step_counts n expectation.in_braces s t e r h = brace_counts n s t e r h
step_counts n expectation.no_fields s t e r h = no_fields_counts n s t e r h
step_counts n (expectation.behind_word word) s t e r h = word_counts n word s t e r h
step_counts n expectation.key s t e r h = key_counts s t e r h
step_counts n expectation.behind_key s t e r h = colon_counts n s t e r h
step_counts n (expectation.flag names) s t e r h = flag_counts names s t e r h
step_counts n (expectation.behind_flag names) s t e r h = behind_flag_counts names s t e r h

-- ---- the spans

length-but_last : (x : Range ℕ) (xs : List (Range ℕ)) → length (but_last (x ∷ xs)) ≡ length xs
length-but_last x [] = refl
length-but_last x (y ∷ xs) = let more = length-but_last y xs in omega arith

-- one less
one_less : (spans : List (Range ℕ)) (a b : ℕ) → length spans ≡ a → b + 1 ≡ a → length (but_last spans) ≡ b
one_less [] a b e h = absurd (omega arith)
one_less (x ∷ xs) a b e h = let less = length-but_last x xs in omega arith

-- one more
one_more : (spans : List (Range ℕ)) (at : Range ℕ) (a b : ℕ) → length spans ≡ a → b ≡ a + 1 → length (spans ++ at ∷ []) ≡ b
one_more spans at a b e h = omega (arith, length-append spans (at ∷ []))

-- after a token
spans_count : (c : lex.Token) (at : Range ℕ) (text : List ℕ) (spans : List (Range ℕ)) (a b : ℕ) → length spans ≡ a → Counts (token_of c text) a b → length (open_after spans (c, at)) ≡ b
spans_count BraceOpen at text spans a b e h = one_more spans at a b e h
spans_count ParenOpen at text spans a b e h = one_more spans at a b e h
spans_count BracketOpen at text spans a b e h = one_more spans at a b e h
spans_count BraceClose at text spans a b e h = one_less spans a b e h
spans_count ParenClose at text spans a b e h = one_less spans a b e h
spans_count BracketClose at text spans a b e h = one_less spans a b e h
spans_count Colon at text spans a b e h = e ∙ sym h
spans_count Comma at text spans a b e h = e ∙ sym h
spans_count Number at text spans a b e h = e ∙ sym h
spans_count LabelOrKeyword at text spans a b e h = e ∙ sym h
spans_count Char at text spans a b e h = e ∙ sym h
spans_count String at text spans a b e h = e ∙ sym h
spans_count MultilineString at text spans a b e h = e ∙ sym h

-- after tokens, from where some are open
all_count : (source : List ℕ) (n : ℕ) (tokens : List Placed) (d e : Expectation) (s r : List StackSymbol) (spans : List (Range ℕ)) → length spans ≡ count d s → Shifts n d s (map (token_at source) tokens) e r →
    length (fold open_after spans tokens) ≡ count e r
all_count source n [] d e s r spans h (a, b) = h ∙ (ap (λ z. count z s) a ∙ ap (count e) b)
all_count source n (p ∷ tokens) d e s r spans h (f, q, x, more) =
    all_count source n tokens f e q r (open_after spans p)
    (spans_count p.0 p.1 (slice_range source p.1.start p.1.end) spans (count d s) (count f q) h (step_counts n d s (token_at source p) f q x)) more

-- as many brackets are open as forms, and braces without a value
pub brackets_are_forms : BracketsAreForms
brackets_are_forms source n before d s leads = all_count source n before expectation.value d [] s [] refl leads
