-- What the automaton says of brackets, and of commas before a close.
use Rattle.std.proofs.Common.{◌≡◌, ℕ, Bool, true, false, nat_lt, List, [], ◌∷◌, ◌++◌, Option, Some, None, refl, sym, ap, subst, ◌∙◌, map, length}
use Rattle.std.specs.Prelude.{if◌then◌else◌}
use Rattle.wave_lex.specs.declared.lex.Token as lex
use Rattle.wave_lex.specs.declared.lex.Token.TheVariants as class
use Rattle.wave_wasm.specs.Names.{is_one_of}
use Rattle.wave_grammar.specs.Token.{Token, lexeme_of, brace_open, brace_close, paren_open, paren_close, bracket_open, bracket_close, colon, comma, number, label, char, string, multiline}
use Rattle.wave_grammar.specs.LeafTokens.{name_of}
use Rattle.wave_grammar.specs.Tree.{Word, word_of, leaf_word, none_word, some_word, ok_word, err_word, case_word}
use Rattle.wave_grammar.specs.PrefixAutomaton as automaton
use Rattle.wave_grammar.specs.PrefixAutomaton.{Expectation, StackSymbol, Step, reads, repeated_flag, too_deep, value, first_item, next_item, behind_value, behind_label, paren}
use Rattle.wave_grammar.specs.PrefixAutomaton.{in_braces, no_fields, behind_word, key, behind_key, flag, behind_flag, tuple, list, payload, entries}
use Rattle.wave_grammar.specs.PrefixAutomaton.{expected_behind, value_step, behind_step, step}
use Rattle.wave_format.specs.Private.Brackets.{is_payload, payloads, is_behind, takes_payload, ends_item, is_label, Follows, outer_of, brackets_after}

-- ---- steps

-- P holds of what is expected after the token, and of the open forms
abbrev After : (Expectation → List StackSymbol → Type 0) → Step → Type 0
After P (reads e r) = P e r
After P _ = Unit {0}

after : (P : Expectation → List StackSymbol → Type 0) (s : Step) (e : Expectation) (r : List StackSymbol) → s ≡ reads e r → After P s → P e r
after P s e r same h = subst (After P) same h

-- a token on its level
on_level : (P : Expectation → List StackSymbol → Type 0) (b : Bool) (s : Step) → After P s → After P (if b then s else too_deep)
on_level P true s h = h
on_level P false s h = tt

-- a token that closes, or one on its level
on_level_or : (P : Expectation → List StackSymbol → Type 0) (c b : Bool) (q s : Step) → After P q → After P s → After P (if c then q else (if b then s else too_deep))
on_level_or P true b q s h f = h
on_level_or P false b q s h f = on_level P b s f

-- one of two steps
either : (P : Expectation → List StackSymbol → Type 0) (b : Bool) (q s : Step) → After P q → After P s → After P (if b then q else s)
either P true q s h f = h
either P false q s h f = f

-- ---- what was read last

-- what is expected fits a last token
abbrev Fits : Option lex.Token → Expectation → List StackSymbol → Type 0
Fits last d forms = Follows d last

-- after a label behind which a value may end
label_fits : (w : Word) → Follows (expected_behind w) (Some class.LabelOrKeyword)
label_fits leaf_word = record { ends = λ e. refl; label = λ e. cc }
label_fits none_word = record { ends = λ e. refl; label = λ e. cc }
label_fits some_word = record { ends = λ e. refl; label = λ e. refl }
label_fits ok_word = record { ends = λ e. refl; label = λ e. refl }
label_fits err_word = record { ends = λ e. refl; label = λ e. refl }
label_fits case_word = record { ends = λ e. refl; label = λ e. refl }

value_fits : (forms : List StackSymbol) (t : Token) → After (Fits (Some (lexeme_of t).0)) (value_step forms t)
value_fits forms (number text) = record { ends = λ e. refl; label = λ e. cc }
value_fits forms (char text) = record { ends = λ e. refl; label = λ e. cc }
value_fits forms (string text) = record { ends = λ e. refl; label = λ e. cc }
value_fits forms (multiline text) = record { ends = λ e. refl; label = λ e. cc }
value_fits forms (label text) = label_fits (word_of text)
value_fits forms paren_open = record { ends = λ e. cc; label = λ e. cc }
value_fits forms bracket_open = record { ends = λ e. cc; label = λ e. cc }
value_fits forms brace_open = record { ends = λ e. cc; label = λ e. cc }
value_fits forms _ = tt

behind_fits : (forms : List StackSymbol) (t : Token) → After (Fits (Some (lexeme_of t).0)) (behind_step forms t)
behind_fits (tuple ∷ outer) comma = record { ends = λ e. cc; label = λ e. cc }
behind_fits (tuple ∷ outer) paren_close = record { ends = λ e. refl; label = λ e. cc }
behind_fits (list ∷ outer) comma = record { ends = λ e. cc; label = λ e. cc }
behind_fits (list ∷ outer) bracket_close = record { ends = λ e. refl; label = λ e. cc }
behind_fits (payload ∷ outer) paren_close = record { ends = λ e. refl; label = λ e. cc }
behind_fits (entries ∷ outer) comma = record { ends = λ e. cc; label = λ e. cc }
behind_fits (entries ∷ outer) brace_close = record { ends = λ e. refl; label = λ e. cc }
behind_fits _ _ = tt

-- a token that closes a tuple or a list
closing_fits : (forms : List StackSymbol) (t : Token) → automaton.closes forms t ≡ true → After (Fits (Some (lexeme_of t).0)) (automaton.closed forms)
closing_fits (tuple ∷ outer) paren_close h = record { ends = λ e. refl; label = λ e. cc }
closing_fits (list ∷ outer) bracket_close h = record { ends = λ e. refl; label = λ e. cc }
closing_fits _ _ h = cc

-- before the first item
closing_empty_fits : (forms : List StackSymbol) (t : Token) → automaton.closes forms t ≡ true → After (Fits (Some (lexeme_of t).0)) (automaton.closed_empty forms)
closing_empty_fits (tuple ∷ outer) t h = tt
closing_empty_fits [] t h = tt
closing_empty_fits (list ∷ outer) t h = closing_fits (list ∷ outer) t h
closing_empty_fits (payload ∷ outer) t h = closing_fits (payload ∷ outer) t h
closing_empty_fits (entries ∷ outer) t h = closing_fits (entries ∷ outer) t h

item_fits : (b c : Bool) (forms : List StackSymbol) (t : Token) (q : Step) → (b ≡ true → After (Fits (Some (lexeme_of t).0)) q) → After (Fits (Some (lexeme_of t).0)) (if b then q else (if c then value_step forms t else too_deep))
item_fits true c forms t q h = h refl
item_fits false c forms t q h = on_level (Fits (Some (lexeme_of t).0)) c (value_step forms t) (value_fits forms t)

key_fits : (forms : List StackSymbol) (t : Token) → After (Fits (Some (lexeme_of t).0)) (automaton.key_step forms t)
key_fits forms (label text) = record { ends = λ e. refl; label = λ e. cc }
key_fits forms (number text) = record { ends = λ e. refl; label = λ e. cc }
key_fits forms (char text) = record { ends = λ e. refl; label = λ e. cc }
key_fits forms (string text) = record { ends = λ e. refl; label = λ e. cc }
key_fits forms (multiline text) = record { ends = λ e. refl; label = λ e. cc }
key_fits forms brace_close = record { ends = λ e. refl; label = λ e. cc }
key_fits forms _ = tt

brace_fits : (forms : List StackSymbol) (t : Token) → After (Fits (Some (lexeme_of t).0)) (automaton.brace_step forms t)
brace_fits forms (label text) = record { ends = λ e. refl; label = λ e. cc }
brace_fits forms colon = record { ends = λ e. cc; label = λ e. cc }
brace_fits forms t = key_fits forms t

flag_fits : (names : List (List ℕ)) (forms : List StackSymbol) (t : Token) → After (Fits (Some (lexeme_of t).0)) (automaton.flag_step names forms t)
flag_fits names forms (label text) = either (Fits (Some class.LabelOrKeyword)) (is_one_of names (name_of text)) repeated_flag (reads (behind_flag (names ++ name_of text ∷ [])) forms) tt (record { ends = λ e. refl; label = λ e. cc })
flag_fits names forms brace_close = record { ends = λ e. refl; label = λ e. cc }
flag_fits names forms _ = tt

behind_flag_fits : (names : List (List ℕ)) (forms : List StackSymbol) (t : Token) → After (Fits (Some (lexeme_of t).0)) (automaton.behind_flag_step names forms t)
behind_flag_fits names forms comma = record { ends = λ e. cc; label = λ e. cc }
behind_flag_fits names forms brace_close = record { ends = λ e. refl; label = λ e. cc }
behind_flag_fits names forms _ = tt

word_fits : (text : List ℕ) (forms : List StackSymbol) (t : Token) → After (Fits (Some (lexeme_of t).0)) (automaton.word_behind_step text forms t)
word_fits text forms colon = record { ends = λ e. cc; label = λ e. cc }
word_fits text forms t = behind_flag_fits (name_of text ∷ []) forms t

-- what is expected after a token fits it
step_fits : (n : ℕ) (d : Expectation) (forms : List StackSymbol) (t : Token) → After (Fits (Some (lexeme_of t).0)) (step n d forms t)
step_fits n value forms t = on_level (Fits (Some (lexeme_of t).0)) (nat_lt (length forms) n) (value_step forms t) (value_fits forms t)
step_fits n first_item forms t = item_fits (automaton.closes forms t) (nat_lt (length forms) n) forms t (automaton.closed_empty forms) (closing_empty_fits forms t)
step_fits n next_item forms t = item_fits (automaton.closes forms t) (nat_lt (length forms) n) forms t (automaton.closed forms) (closing_fits forms t)
step_fits n behind_value forms t = behind_fits forms t
step_fits n behind_label forms paren_open = record { ends = λ e. cc; label = λ e. cc }
step_fits n behind_label forms t = behind_fits forms t
step_fits n paren forms paren_open = record { ends = λ e. cc; label = λ e. cc }
step_fits n paren forms _ = tt
step_fits n in_braces forms t = brace_fits forms t
step_fits n no_fields forms brace_close = record { ends = λ e. refl; label = λ e. cc }
step_fits n no_fields forms _ = tt
step_fits n (behind_word text) forms t = word_fits text forms t
step_fits n key forms t = key_fits forms t
step_fits n behind_key forms colon = record { ends = λ e. cc; label = λ e. cc }
step_fits n behind_key forms _ = tt
step_fits n (flag names) forms t = flag_fits names forms t
step_fits n (behind_flag names) forms t = behind_flag_fits names forms t

pub follows_step : (n : ℕ) (d : Expectation) (forms : List StackSymbol) (t : Token) (e : Expectation) (r : List StackSymbol) → step n d forms t ≡ reads e r → Follows e (Some (lexeme_of t).0)
follows_step n d forms t e r h = after (Fits (Some (lexeme_of t).0)) (step n d forms t) e r h (step_fits n d forms t)

pub follows_start : Follows value None
follows_start = record { ends = λ e. cc; label = λ e. cc }

-- ---- open brackets

-- the brackets after a token, where b says whether a payload may begin
abbrev brackets_then : Bool → Token → List Bool → List Bool
brackets_then b paren_open fs = b ∷ fs
brackets_then b brace_open fs = false ∷ fs
brackets_then b bracket_open fs = false ∷ fs
brackets_then b paren_close fs = outer_of fs
brackets_then b brace_close fs = outer_of fs
brackets_then b bracket_close fs = outer_of fs
brackets_then b _ fs = fs

-- these brackets are open
abbrev Are : List Bool → Expectation → List StackSymbol → Type 0
Are fs d forms = payloads d forms ≡ fs

word_opens : (w : Word) (forms : List StackSymbol) → payloads (expected_behind w) forms ≡ map is_payload forms
word_opens leaf_word forms = refl
word_opens none_word forms = refl
word_opens some_word forms = refl
word_opens ok_word forms = refl
word_opens err_word forms = refl
word_opens case_word forms = refl

value_opens : (forms : List StackSymbol) (t : Token) → After (Are (brackets_then false t (map is_payload forms))) (value_step forms t)
value_opens forms (number text) = refl
value_opens forms (char text) = refl
value_opens forms (string text) = refl
value_opens forms (multiline text) = refl
value_opens forms (label text) = word_opens (word_of text) forms
value_opens forms paren_open = refl
value_opens forms bracket_open = refl
value_opens forms brace_open = refl
value_opens forms _ = tt

behind_opens : (b : Bool) (forms : List StackSymbol) (t : Token) → After (Are (brackets_then b t (map is_payload forms))) (behind_step forms t)
behind_opens b (tuple ∷ outer) comma = refl
behind_opens b (tuple ∷ outer) paren_close = refl
behind_opens b (list ∷ outer) comma = refl
behind_opens b (list ∷ outer) bracket_close = refl
behind_opens b (payload ∷ outer) paren_close = refl
behind_opens b (entries ∷ outer) comma = refl
behind_opens b (entries ∷ outer) brace_close = refl
behind_opens b _ _ = tt

closing_opens : (forms : List StackSymbol) (t : Token) → automaton.closes forms t ≡ true → After (Are (brackets_then false t (map is_payload forms))) (automaton.closed forms)
closing_opens (tuple ∷ outer) paren_close h = refl
closing_opens (list ∷ outer) bracket_close h = refl
closing_opens _ _ h = cc

closing_empty_opens : (forms : List StackSymbol) (t : Token) → automaton.closes forms t ≡ true → After (Are (brackets_then false t (map is_payload forms))) (automaton.closed_empty forms)
closing_empty_opens (tuple ∷ outer) t h = tt
closing_empty_opens [] t h = tt
closing_empty_opens (list ∷ outer) t h = closing_opens (list ∷ outer) t h
closing_empty_opens (payload ∷ outer) t h = closing_opens (payload ∷ outer) t h
closing_empty_opens (entries ∷ outer) t h = closing_opens (entries ∷ outer) t h

item_opens : (b c : Bool) (forms : List StackSymbol) (t : Token) (q : Step) → (b ≡ true → After (Are (brackets_then false t (map is_payload forms))) q) → After (Are (brackets_then false t (map is_payload forms))) (if b then q else (if c then value_step forms t else too_deep))
item_opens true c forms t q h = h refl
item_opens false c forms t q h = on_level (Are (brackets_then false t (map is_payload forms))) c (value_step forms t) (value_opens forms t)

key_opens : (forms : List StackSymbol) (t : Token) → After (Are (brackets_then false t (false ∷ map is_payload forms))) (automaton.key_step forms t)
key_opens forms (label text) = refl
key_opens forms (number text) = refl
key_opens forms (char text) = refl
key_opens forms (string text) = refl
key_opens forms (multiline text) = refl
key_opens forms brace_close = refl
key_opens forms _ = tt

brace_opens : (forms : List StackSymbol) (t : Token) → After (Are (brackets_then false t (false ∷ map is_payload forms))) (automaton.brace_step forms t)
brace_opens forms (label text) = refl
brace_opens forms colon = refl
brace_opens forms t = key_opens forms t

flag_opens : (names : List (List ℕ)) (forms : List StackSymbol) (t : Token) → After (Are (brackets_then false t (false ∷ map is_payload forms))) (automaton.flag_step names forms t)
flag_opens names forms (label text) = either (Are (false ∷ map is_payload forms)) (is_one_of names (name_of text)) repeated_flag (reads (behind_flag (names ++ name_of text ∷ [])) forms) tt refl
flag_opens names forms brace_close = refl
flag_opens names forms _ = tt

behind_flag_opens : (names : List (List ℕ)) (forms : List StackSymbol) (t : Token) → After (Are (brackets_then false t (false ∷ map is_payload forms))) (automaton.behind_flag_step names forms t)
behind_flag_opens names forms comma = refl
behind_flag_opens names forms brace_close = refl
behind_flag_opens names forms _ = tt

word_behind_opens : (text : List ℕ) (forms : List StackSymbol) (t : Token) → After (Are (brackets_then false t (false ∷ map is_payload forms))) (automaton.word_behind_step text forms t)
word_behind_opens text forms colon = refl
word_behind_opens text forms t = behind_flag_opens (name_of text ∷ []) forms t

-- a token leaves these brackets open
step_opens : (n : ℕ) (d : Expectation) (forms : List StackSymbol) (t : Token) → After (Are (brackets_then (takes_payload d) t (payloads d forms))) (step n d forms t)
step_opens n value forms t = on_level (Are (brackets_then false t (map is_payload forms))) (nat_lt (length forms) n) (value_step forms t) (value_opens forms t)
step_opens n first_item forms t = item_opens (automaton.closes forms t) (nat_lt (length forms) n) forms t (automaton.closed_empty forms) (closing_empty_opens forms t)
step_opens n next_item forms t = item_opens (automaton.closes forms t) (nat_lt (length forms) n) forms t (automaton.closed forms) (closing_opens forms t)
step_opens n behind_value forms t = behind_opens false forms t
step_opens n behind_label forms paren_open = refl
step_opens n behind_label forms t = behind_opens true forms t
step_opens n paren forms paren_open = refl
step_opens n paren forms _ = tt
step_opens n in_braces forms t = brace_opens forms t
step_opens n no_fields forms brace_close = refl
step_opens n no_fields forms _ = tt
step_opens n (behind_word text) forms t = word_behind_opens text forms t
step_opens n key forms t = key_opens forms t
step_opens n behind_key forms colon = refl
step_opens n behind_key forms _ = tt
step_opens n (flag names) forms t = flag_opens names forms t
step_opens n (behind_flag names) forms t = behind_flag_opens names forms t

-- where a parenthesis may open, a payload may begin exactly behind a label
paren_after : (last : Option lex.Token) (n : ℕ) (d : Expectation) (forms : List StackSymbol) (e : Expectation) (r : List StackSymbol) → Follows d last → step n d forms paren_open ≡ reads e r → is_label last ≡ takes_payload d
paren_after last n d forms e r f h = by_test (takes_payload d) (is_label last) refl refl
  where
    label_ends : (last : Option lex.Token) → is_label last ≡ true → ends_item last ≡ true
    label_ends (Some class.LabelOrKeyword) q = refl
    label_ends _ q = cc

    no_payload : (d : Expectation) → is_behind d ≡ true → takes_payload d ≡ false → step n d forms paren_open ≡ reads e r → true ≡ false
    no_payload behind_value b t h = behind_paren forms h
      where
        behind_paren : (forms : List StackSymbol) → behind_step forms paren_open ≡ reads e r → true ≡ false
        behind_paren [] h = cc
        behind_paren (tuple ∷ outer) h = cc
        behind_paren (list ∷ outer) h = cc
        behind_paren (payload ∷ outer) h = cc
        behind_paren (entries ∷ outer) h = cc
    no_payload behind_label b t h = t
    no_payload paren b t h = t
    no_payload (behind_word text) b t h = cc
    no_payload behind_key b t h = cc
    no_payload (behind_flag names) b t h = cc
    no_payload _ b t h = cc

    by_test : (p l : Bool) → takes_payload d ≡ p → is_label last ≡ l → is_label last ≡ takes_payload d
    by_test true l p q = f.label p ∙ sym p
    by_test false true p q = let wrong : true ≡ false = no_payload d (f.ends (label_ends last q)) p h in cc
    by_test false false p q = q ∙ sym p

-- the brackets by the last token
then_after : (last : Option lex.Token) (n : ℕ) (d : Expectation) (forms : List StackSymbol) (t : Token) (e : Expectation) (r : List StackSymbol) → Follows d last → step n d forms t ≡ reads e r
    → (fs : List Bool) → brackets_then (takes_payload d) t fs ≡ brackets_after last (lexeme_of t).0 fs
then_after last n d forms paren_open e r f h fs = ap (λ (b : Bool). b ∷ fs) (sym (paren_after last n d forms e r f h))
then_after last n d forms brace_open e r f h fs = refl
then_after last n d forms brace_close e r f h fs = refl
then_after last n d forms paren_close e r f h fs = refl
then_after last n d forms bracket_open e r f h fs = refl
then_after last n d forms bracket_close e r f h fs = refl
then_after last n d forms colon e r f h fs = refl
then_after last n d forms comma e r f h fs = refl
then_after last n d forms (number text) e r f h fs = refl
then_after last n d forms (label text) e r f h fs = refl
then_after last n d forms (char text) e r f h fs = refl
then_after last n d forms (string text) e r f h fs = refl
then_after last n d forms (multiline text) e r f h fs = refl

pub brackets_step : (last : Option lex.Token) (n : ℕ) (d : Expectation) (forms : List StackSymbol) (t : Token) (e : Expectation) (r : List StackSymbol) → Follows d last → step n d forms t ≡ reads e r
    → payloads e r ≡ brackets_after last (lexeme_of t).0 (payloads d forms)
brackets_step last n d forms t e r f h =
    after (Are (brackets_then (takes_payload d) t (payloads d forms))) (step n d forms t) e r h (step_opens n d forms t) ∙ then_after last n d forms t e r f h (payloads d forms)
