-- What stands before a token that is refused for an empty tuple, a repeated flag or its depth.
use Rattle.std.proofs.Common.{ℕ, ◌≡◌, ◌≤◌, List, [], ◌∷◌, ◌++◌, length, Bool, true, false, refl, sym, ap, subst, ◌∙◌, arith, append_assoc}
use Rattle.std.proofs.lemmas.List.{append-nil}
use Rattle.std.specs.Prelude.{nat_lt, if◌then◌else◌, map}
use Rattle.wave_wasm.specs.Names.{IsOneOf, is_one_of}
use Rattle.wave_grammar.specs.Token.{Token, brace_open, brace_close, paren_open, paren_close, bracket_open, bracket_close, colon, comma, number, label, char, string, multiline}
use Rattle.wave_grammar.specs.LeafTokens.{name_of}
use Rattle.wave_grammar.specs.Tree.{Word, word_of, leaf_word, none_word, some_word, ok_word, err_word, case_word}
use Rattle.wave_grammar.specs.PrefixLaws.{flags_before, EmptyTuplesAreEmpty, RepeatedFlagsAreRepeated, DeepValuesAreDeep}
use Rattle.wave_grammar.specs.PrefixAutomaton as expectation
use Rattle.wave_grammar.specs.PrefixAutomaton.{Expectation, StackSymbol, value, first_item, next_item, behind_value, behind_label, Step, too_deep, empty_tuple, repeated_flag, unexpected, reads, step, Shifts, closes, closed, closed_empty, level_step, value_step, behind_step, key_step, behind_flag_step, flag_step, IsValueExpected}
use Rattle.wave_wasm.proofs.Names.NameTests.{is_one}
use Rattle.wave_grammar.proofs.Automaton.Sound.{close_token}
use Rattle.wave_grammar.proofs.Automaton.Prefixes.{Fits, leads_fit, level_there}

-- the last tokens before this is expected
abbrev Behind : List Token → Expectation → List StackSymbol → Type 0
Behind prefix first_item (expectation.tuple ∷ s) = (before : List Token) × (prefix ≡ before ++ paren_open ∷ [])
Behind prefix expectation.in_braces s = (before : List Token) × (prefix ≡ before ++ brace_open ∷ [])
Behind prefix (expectation.behind_word text) s = (before : List Token) × (prefix ≡ before ++ brace_open ∷ label text ∷ [])
Behind prefix (expectation.flag names) s = (before : List Token) × (texts : List (List ℕ)) × (prefix ≡ before ++ brace_open ∷ flags_before texts) × (names ≡ map name_of texts)
Behind prefix (expectation.behind_flag names) s =
    (before : List Token) × (texts : List (List ℕ)) × (last : List ℕ) × (prefix ≡ before ++ (brace_open ∷ (flags_before texts ++ label last ∷ []))) × (names ≡ map name_of (texts ++ last ∷ []))
Behind prefix d s = Unit {0}

-- the same for what is expected where a token was read
there : (prefix : List Token) (d e : Expectation) (s r : List StackSymbol) → reads d s ≡ reads e r → Behind prefix d s → Behind prefix e r
there prefix d e s r h behind =
    let forms : s ≡ r = cc in
    let expectations : d ≡ e = cc in
    subst (λ z. Behind prefix z r) expectations (subst (Behind prefix d) forms behind)

-- either of two answers
either : {X : Type 0} (b : Bool) (x y : Step) (e : Expectation) (r : List StackSymbol) → (x ≡ reads e r → X) → (y ≡ reads e r → X) → if b then x else y ≡ reads e r → X
either true x y e r f g h = f h
either false x y e r f g h = g h

-- one more token after others
with_last : (prefix before tokens : List Token) (t : Token) → prefix ≡ before ++ tokens → prefix ++ t ∷ [] ≡ before ++ (tokens ++ t ∷ [])
with_last prefix before tokens t e = ap (λ z. z ++ t ∷ []) e ∙ append_assoc before tokens (t ∷ [])

-- one more flag and its comma
flags_more : (texts : List (List ℕ)) (last : List ℕ) → flags_before (texts ++ last ∷ []) ≡ (flags_before texts ++ label last ∷ []) ++ comma ∷ []
flags_more [] last = refl
flags_more (text ∷ texts) last = ap (λ z. label text ∷ comma ∷ z) (flags_more texts last)

-- one more name
names_more : (texts : List (List ℕ)) (last : List ℕ) → map name_of (texts ++ last ∷ []) ≡ map name_of texts ++ name_of last ∷ []
names_more [] last = refl
names_more (text ∷ texts) last = ap (λ z. name_of text ∷ z) (names_more texts last)

-- after a label that stands for a value
word_behind : (prefix : List Token) (w : Word) (s : List StackSymbol) → Behind prefix (expectation.expected_behind w) s
word_behind prefix leaf_word s = tt
word_behind prefix none_word s = tt
word_behind prefix some_word s = tt
word_behind prefix ok_word s = tt
word_behind prefix err_word s = tt
word_behind prefix case_word s = tt

-- the first token of a value
value_behind : (prefix : List Token) (s : List StackSymbol) (t : Token) (e : Expectation) (r : List StackSymbol) → value_step s t ≡ reads e r → Behind (prefix ++ t ∷ []) e r
value_behind prefix s paren_open e r h = there (prefix ++ paren_open ∷ []) first_item e (expectation.tuple ∷ s) r h (prefix, refl)
value_behind prefix s bracket_open e r h = there (prefix ++ bracket_open ∷ []) first_item e (expectation.list ∷ s) r h tt
value_behind prefix s brace_open e r h = there (prefix ++ brace_open ∷ []) expectation.in_braces e s r h (prefix, refl)
value_behind prefix s (number text) e r h = there (prefix ++ number text ∷ []) behind_value e s r h tt
value_behind prefix s (char text) e r h = there (prefix ++ char text ∷ []) behind_value e s r h tt
value_behind prefix s (string text) e r h = there (prefix ++ string text ∷ []) behind_value e s r h tt
value_behind prefix s (multiline text) e r h = there (prefix ++ multiline text ∷ []) behind_value e s r h tt
value_behind prefix s (label text) e r h = there (prefix ++ label text ∷ []) (expectation.expected_behind (word_of text)) e s r h (word_behind (prefix ++ label text ∷ []) (word_of text) s)
value_behind prefix s t e r h = let k : unexpected ≡ reads e r = h in cc

-- what follows a value
next_behind : (prefix : List Token) (s : List StackSymbol) (t : Token) (e : Expectation) (r : List StackSymbol) → behind_step s t ≡ reads e r → Behind prefix e r
next_behind prefix [] t e r h = let k : unexpected ≡ reads e r = h in cc
next_behind prefix (expectation.tuple ∷ s) comma e r h = there prefix next_item e (expectation.tuple ∷ s) r h tt
next_behind prefix (expectation.tuple ∷ s) paren_close e r h = there prefix behind_value e s r h tt
next_behind prefix (expectation.list ∷ s) comma e r h = there prefix next_item e (expectation.list ∷ s) r h tt
next_behind prefix (expectation.list ∷ s) bracket_close e r h = there prefix behind_value e s r h tt
next_behind prefix (expectation.payload ∷ s) paren_close e r h = there prefix behind_value e s r h tt
next_behind prefix (expectation.entries ∷ s) comma e r h = there prefix expectation.key e s r h tt
next_behind prefix (expectation.entries ∷ s) brace_close e r h = there prefix behind_value e s r h tt
next_behind prefix (f ∷ s) t e r h = let k : unexpected ≡ reads e r = h in cc

-- a close
closed_behind : (prefix : List Token) (s : List StackSymbol) (e : Expectation) (r : List StackSymbol) → closed s ≡ reads e r → Behind prefix e r
closed_behind prefix [] e r h = let k : unexpected ≡ reads e r = h in cc
closed_behind prefix (f ∷ s) e r h = there prefix behind_value e s r h tt

-- a close before the first item
closed_empty_behind : (prefix : List Token) (s : List StackSymbol) (e : Expectation) (r : List StackSymbol) → closed_empty s ≡ reads e r → Behind prefix e r
closed_empty_behind prefix [] e r h = let k : unexpected ≡ reads e r = h in cc
closed_empty_behind prefix (expectation.tuple ∷ s) e r h = let k : empty_tuple ≡ reads e r = h in cc
closed_empty_behind prefix (f ∷ s) e r h = closed_behind prefix (f ∷ s) e r h

-- a key or a close
key_behind : (prefix : List Token) (s : List StackSymbol) (t : Token) (e : Expectation) (r : List StackSymbol) → key_step s t ≡ reads e r → Behind prefix e r
key_behind prefix s brace_close e r h = there prefix behind_value e s r h tt
key_behind prefix s (number text) e r h = there prefix expectation.behind_key e s r h tt
key_behind prefix s (label text) e r h = there prefix expectation.behind_key e s r h tt
key_behind prefix s (char text) e r h = there prefix expectation.behind_key e s r h tt
key_behind prefix s (string text) e r h = there prefix expectation.behind_key e s r h tt
key_behind prefix s (multiline text) e r h = there prefix expectation.behind_key e s r h tt
key_behind prefix s t e r h = let k : unexpected ≡ reads e r = h in cc

-- an unexpected token is not read
unexpected_behind : (prefix : List Token) (e : Expectation) (r : List StackSymbol) → unexpected ≡ reads e r → Behind prefix e r
unexpected_behind prefix e r h = cc

-- the first token in braces
brace_behind : (prefix : List Token) (s : List StackSymbol) (t : Token) (e : Expectation) (r : List StackSymbol) → Behind prefix expectation.in_braces s → expectation.brace_step s t ≡ reads e r → Behind (prefix ++ t ∷ []) e r
brace_behind prefix s (label text) e r (before, same) h = there (prefix ++ label text ∷ []) (expectation.behind_word text) e s r h (before, with_last prefix before (brace_open ∷ []) (label text) same)
brace_behind prefix s colon e r behind h = there (prefix ++ colon ∷ []) expectation.no_fields e s r h tt
brace_behind prefix s t e r behind h = key_behind (prefix ++ t ∷ []) s t e r h

-- what follows the first label in braces
word_next : (prefix : List Token) (text : List ℕ) (s : List StackSymbol) (t : Token) (e : Expectation) (r : List StackSymbol) → Behind prefix (expectation.behind_word text) s → expectation.word_behind_step text s t ≡ reads e r → Behind (prefix ++ t ∷ []) e r
word_next prefix text s colon e r behind h = there (prefix ++ colon ∷ []) value e (expectation.entries ∷ s) r h tt
word_next prefix text s comma e r (before, same) h =
    there (prefix ++ comma ∷ []) (expectation.flag (name_of text ∷ [])) e s r h (before, text ∷ [], with_last prefix before (brace_open ∷ label text ∷ []) comma same, refl)
word_next prefix text s brace_close e r behind h = there (prefix ++ brace_close ∷ []) behind_value e s r h tt
word_next prefix text s t e r behind h = let k : unexpected ≡ reads e r = h in cc

-- a further flag or a close
flag_next : (prefix : List Token) (names : List (List ℕ)) (s : List StackSymbol) (t : Token) (e : Expectation) (r : List StackSymbol) → Behind prefix (expectation.flag names) s → flag_step names s t ≡ reads e r → Behind (prefix ++ t ∷ []) e r
flag_next prefix names s brace_close e r behind h = there (prefix ++ brace_close ∷ []) behind_value e s r h tt
flag_next prefix names s (label text) e r (before, texts, same, all) h =
    either (is_one_of names (name_of text)) repeated_flag (reads (expectation.behind_flag (names ++ name_of text ∷ [])) s) e r (λ k. cc)
    (λ k. there (prefix ++ label text ∷ []) (expectation.behind_flag (names ++ name_of text ∷ [])) e s r k
    (before, texts, text, with_last prefix before (brace_open ∷ flags_before texts) (label text) same, ap (λ z. z ++ name_of text ∷ []) all ∙ sym (names_more texts text))) h
flag_next prefix names s t e r behind h = let k : unexpected ≡ reads e r = h in cc

-- what follows a flag
behind_flag_next : (prefix : List Token) (names : List (List ℕ)) (s : List StackSymbol) (t : Token) (e : Expectation) (r : List StackSymbol) → Behind prefix (expectation.behind_flag names) s → behind_flag_step names s t ≡ reads e r → Behind (prefix ++ t ∷ []) e r
behind_flag_next prefix names s brace_close e r behind h = there (prefix ++ brace_close ∷ []) behind_value e s r h tt
behind_flag_next prefix names s comma e r (before, texts, last, same, all) h =
    there (prefix ++ comma ∷ []) (expectation.flag names) e s r h (
      before,
      texts ++ last ∷ [],
      with_last prefix before (brace_open ∷ (flags_before texts ++ label last ∷ [])) comma same ∙ ap (λ z. before ++ (brace_open ∷ z)) (sym (flags_more texts last)),
      all,
    )
behind_flag_next prefix names s t e r behind h = let k : unexpected ≡ reads e r = h in cc

-- a token that is read
step_behind : (n : ℕ) (prefix : List Token) (d : Expectation) (s : List StackSymbol) (t : Token) (e : Expectation) (r : List StackSymbol) → Behind prefix d s → step n d s t ≡ reads e r → Behind (prefix ++ t ∷ []) e r
step_behind n prefix value s t e r behind h = value_behind prefix s t e r (level_there n s t e r h).1
step_behind n prefix first_item s t e r behind h =
    either (closes s t) (closed_empty s) (level_step n s t) e r (closed_empty_behind (prefix ++ t ∷ []) s e r) (λ g. value_behind prefix s t e r (level_there n s t e r g).1) h
step_behind n prefix next_item s t e r behind h =
    either (closes s t) (closed s) (level_step n s t) e r (closed_behind (prefix ++ t ∷ []) s e r) (λ g. value_behind prefix s t e r (level_there n s t e r g).1) h
step_behind n prefix behind_value s t e r behind h = next_behind (prefix ++ t ∷ []) s t e r h
step_behind n prefix behind_label s t e r behind h =
    either (expectation.is_paren t) (reads value (expectation.payload ∷ s)) (behind_step s t) e r (λ g. there (prefix ++ t ∷ []) value e (expectation.payload ∷ s) r g tt) (next_behind (prefix ++ t ∷ []) s t e r) h
step_behind n prefix expectation.paren s t e r behind h =
    either (expectation.is_paren t) (reads value (expectation.payload ∷ s)) unexpected e r (λ g. there (prefix ++ t ∷ []) value e (expectation.payload ∷ s) r g tt) (unexpected_behind (prefix ++ t ∷ []) e r) h
step_behind n prefix expectation.in_braces s t e r behind h = brace_behind prefix s t e r behind h
step_behind n prefix expectation.no_fields s t e r behind h =
    either (expectation.is_brace_close t) (reads behind_value s) unexpected e r (λ g. there (prefix ++ t ∷ []) behind_value e s r g tt) (unexpected_behind (prefix ++ t ∷ []) e r) h
step_behind n prefix (expectation.behind_word text) s t e r behind h = word_next prefix text s t e r behind h
step_behind n prefix expectation.key s t e r behind h = key_behind (prefix ++ t ∷ []) s t e r h
step_behind n prefix expectation.behind_key s t e r behind h =
    either (expectation.is_colon t) (reads value (expectation.entries ∷ s)) unexpected e r (λ g. there (prefix ++ t ∷ []) value e (expectation.entries ∷ s) r g tt) (unexpected_behind (prefix ++ t ∷ []) e r) h
step_behind n prefix (expectation.flag names) s t e r behind h = flag_next prefix names s t e r behind h
step_behind n prefix (expectation.behind_flag names) s t e r behind h = behind_flag_next prefix names s t e r behind h

-- tokens that are read after others
leads_behind : (n : ℕ) (before : List Token) (d : Expectation) (s : List StackSymbol) (ts : List Token) (e : Expectation) (r : List StackSymbol) → Behind before d s → Shifts n d s ts e r → Behind (before ++ ts) e r
leads_behind n before d s [] e r behind (a, b) = subst (λ z. Behind z e r) (sym (append-nil before)) (subst (λ z. Behind before z r) a (subst (Behind before d) b behind))
leads_behind n before d s (t ∷ ts) e r behind (d', s', x, more) =
    subst (λ z. Behind z e r) (append_assoc before (t ∷ []) ts) (leads_behind n (before ++ t ∷ []) d' s' ts e r (step_behind n before d s t d' s' behind x) more)

-- ---- the three refusals

-- what is so where a token has this answer
abbrev KindOf : ℕ → Expectation → List StackSymbol → Token → Step → Type 0
KindOf n d s t empty_tuple = (r : List StackSymbol) × (d ≡ first_item) × (s ≡ expectation.tuple ∷ r) × (t ≡ paren_close)
KindOf n d s t repeated_flag = (names : List (List ℕ)) × (text : List ℕ) × (d ≡ expectation.flag names) × (t ≡ label text) × (is_one_of names (name_of text) ≡ true)
KindOf n d s t too_deep = IsValueExpected d × (n ≤ length s)
KindOf n d s t _ = Unit {0}

-- a token is read or unexpected
abbrev IsPlain : Step → Type 0
IsPlain (reads d s) = Unit {0}
IsPlain unexpected = Unit {0}
IsPlain _ = ⊥

-- of such an answer nothing more is said
plain_kind : (n : ℕ) (d : Expectation) (s : List StackSymbol) (t : Token) (x : Step) → IsPlain x → KindOf n d s t x
plain_kind n d s t (reads e r) h = tt
plain_kind n d s t unexpected h = tt
plain_kind n d s t x h = absurd h

-- either of two such answers
plain_either : (b : Bool) (x y : Step) → IsPlain x → IsPlain y → IsPlain (if b then x else y)
plain_either true x y f g = f
plain_either false x y f g = g

-- where a value is expected
value_plain : (s : List StackSymbol) (t : Token) → IsPlain (value_step s t)
value_plain s paren_open = tt
value_plain s bracket_open = tt
value_plain s brace_open = tt
value_plain s t = tt

-- after a value
behind_plain : (s : List StackSymbol) (t : Token) → IsPlain (behind_step s t)
behind_plain [] t = tt
behind_plain (expectation.tuple ∷ s) comma = tt
behind_plain (expectation.tuple ∷ s) paren_close = tt
behind_plain (expectation.list ∷ s) comma = tt
behind_plain (expectation.list ∷ s) bracket_close = tt
behind_plain (expectation.payload ∷ s) paren_close = tt
behind_plain (expectation.entries ∷ s) comma = tt
behind_plain (expectation.entries ∷ s) brace_close = tt
behind_plain (f ∷ s) t = tt

-- a close
closed_plain : (s : List StackSymbol) → IsPlain (closed s)
closed_plain [] = tt
closed_plain (f ∷ s) = tt

-- where a key is expected
key_plain : (s : List StackSymbol) (t : Token) → IsPlain (key_step s t)
key_plain s brace_close = tt
key_plain s t = tt

-- in braces
brace_plain : (s : List StackSymbol) (t : Token) → IsPlain (expectation.brace_step s t)
brace_plain s colon = tt
brace_plain s t = tt

-- after a flag
behind_flag_plain : (names : List (List ℕ)) (s : List StackSymbol) (t : Token) → IsPlain (behind_flag_step names s t)
behind_flag_plain names s comma = tt
behind_flag_plain names s t = tt

-- after the first label in braces
word_plain : (text : List ℕ) (s : List StackSymbol) (t : Token) → IsPlain (expectation.word_behind_step text s t)
word_plain text s colon = tt
word_plain text s t = tt

-- where a value is expected a token may be too deep
level_kind : (n : ℕ) (d : Expectation) (s : List StackSymbol) (t : Token) → IsValueExpected d → KindOf n d s t (level_step n s t)
level_kind n d s t h = which (nat_lt (length s) n) refl
  where
    which : (b : Bool) → nat_lt (length s) n ≡ b → KindOf n d s t (level_step n s t)
    which true k = subst (λ b. KindOf n d s t (if b then value_step s t else too_deep)) (sym k) (plain_kind n d s t (value_step s t) (value_plain s t))
    which false k = let full : n ≤ length s = grind arith in subst (λ b. KindOf n d s t (if b then value_step s t else too_deep)) (sym k) (h, full)

-- where the first item is expected an empty tuple may be closed
first_kind : (n : ℕ) (s : List StackSymbol) (t : Token) → closes s t ≡ true → KindOf n first_item s t (closed_empty s)
first_kind n [] t h = tt
first_kind n (expectation.tuple ∷ s) t h = (s, refl, refl, close_token expectation.tuple s t h)
first_kind n (f ∷ s) t h = tt

-- either of two answers, each where it is given
kind_either : (n : ℕ) (d : Expectation) (s : List StackSymbol) (t : Token) (b : Bool) (x y : Step) → (b ≡ true → KindOf n d s t x) → KindOf n d s t y → KindOf n d s t (if b then x else y)
kind_either n d s t true x y f g = f refl
kind_either n d s t false x y f g = g

-- where a further flag is expected it may be repeated
flag_kind : (n : ℕ) (names : List (List ℕ)) (s : List StackSymbol) (t : Token) → KindOf n (expectation.flag names) s t (flag_step names s t)
flag_kind n names s (label text) =
    kind_either n (expectation.flag names) s (label text) (is_one_of names (name_of text)) repeated_flag (reads (expectation.behind_flag (names ++ name_of text ∷ [])) s) (λ h. (names, text, refl, refl, h)) tt
flag_kind n names s brace_close = tt
flag_kind n names s t = tt

-- each refusal is of its kind
kind_there : (n : ℕ) (d : Expectation) (s : List StackSymbol) (t : Token) → KindOf n d s t (step n d s t)
kind_there n value s t = level_kind n value s t tt
kind_there n first_item s t = kind_either n first_item s t (closes s t) (closed_empty s) (level_step n s t) (first_kind n s t) (level_kind n first_item s t tt)
kind_there n next_item s t = kind_either n next_item s t (closes s t) (closed s) (level_step n s t) (λ h. plain_kind n next_item s t (closed s) (closed_plain s)) (level_kind n next_item s t tt)
kind_there n behind_value s t = plain_kind n behind_value s t (behind_step s t) (behind_plain s t)
kind_there n behind_label s t = plain_kind n behind_label s t (step n behind_label s t) (plain_either (expectation.is_paren t) (reads value (expectation.payload ∷ s)) (behind_step s t) tt (behind_plain s t))
kind_there n expectation.paren s t = plain_kind n expectation.paren s t (step n expectation.paren s t) (plain_either (expectation.is_paren t) (reads value (expectation.payload ∷ s)) unexpected tt tt)
kind_there n expectation.in_braces s t = plain_kind n expectation.in_braces s t (expectation.brace_step s t) (brace_plain s t)
kind_there n expectation.no_fields s t = plain_kind n expectation.no_fields s t (step n expectation.no_fields s t) (plain_either (expectation.is_brace_close t) (reads behind_value s) unexpected tt tt)
kind_there n (expectation.behind_word text) s t = plain_kind n (expectation.behind_word text) s t (expectation.word_behind_step text s t) (word_plain text s t)
kind_there n expectation.key s t = plain_kind n expectation.key s t (key_step s t) (key_plain s t)
kind_there n expectation.behind_key s t = plain_kind n expectation.behind_key s t (step n expectation.behind_key s t) (plain_either (expectation.is_colon t) (reads value (expectation.entries ∷ s)) unexpected tt tt)
kind_there n (expectation.flag names) s t = flag_kind n names s t
kind_there n (expectation.behind_flag names) s t = plain_kind n (expectation.behind_flag names) s t (behind_flag_step names s t) (behind_flag_plain names s t)

-- an empty tuple is refused after its open parenthesis
pub empty_there : EmptyTuplesAreEmpty
empty_there n prefix d s t led h =
    let (r, expectations, forms, close) : KindOf n d s t empty_tuple = subst (KindOf n d s t) h (kind_there n d s t) in
    let (before, same) = subst (λ z. Behind prefix first_item z) forms (subst (λ z. Behind prefix z s) expectations (leads_behind n [] value [] prefix d s tt led)) in
    (before, same, close)

-- a repeated flag is refused after the flag that it repeats
pub repeated_there : RepeatedFlagsAreRepeated
repeated_there n prefix d s t led h =
    let (names, text, expectations, a_label, found) : KindOf n d s t repeated_flag = subst (KindOf n d s t) h (kind_there n d s t) in
    let (before, texts, same, all) = subst (λ z. Behind prefix z s) expectations (leads_behind n [] value [] prefix d s tt led) in
    (before, texts, text, same, a_label, subst (λ z. IsOneOf z (name_of text)) all (is_one names (name_of text) found))

-- a value is refused for its depth where n forms are open
pub deep_there : DeepValuesAreDeep
deep_there n prefix d s t led h =
    let (a_value, full) : KindOf n d s t too_deep = subst (KindOf n d s t) h (kind_there n d s t) in
    (a_value, room d a_value (leads_fit n value [] prefix d s (omega arith) led) full)
  where
    room : (d : Expectation) → IsValueExpected d → Fits n d s → n ≤ length s → length s ≡ n
    room value v fits full = omega arith
    room first_item v fits full = omega arith
    room next_item v fits full = omega arith
    room e v fits full = absurd v
