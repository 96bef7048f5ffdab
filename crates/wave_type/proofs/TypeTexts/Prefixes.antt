-- Where the words and names in the text of a type end.
use Rattle.std.proofs.Common.{◌≡◌, ℕ, Bool, true, false, not, List, [], ◌∷◌, ◌++◌, inl, inr, Option, Some, None, refl, sym, ap, ◌∙◌, arith, get_or, drop, append_assoc}
use Rattle.std.specs.Prelude.{◌&&◌, ◌||◌, ◌+◌, ◌%◌, ◌^◌, ◌<◌, ◌≤◌, nat_lt, find}
use Rattle.std.specs.Fmt.{decimal}
use Rattle.std.proofs.lemmas.Fmt.{decimal_by_steps}
use Rattle.std.specs.List.{list_all}
use Rattle.std.specs.Str.{bytes_eq}
use Rattle.std.proofs.lemmas.Bool.{false≢true, and_parts, and_from}
use Rattle.std.proofs.lemmas.Bool.Decides.{nat_tests}
use Rattle.std.proofs.lemmas.List.Folds.{list_all-append}
use Rattle.wave_wasm.specs.declared.wasm.WasmTypeKind.{WasmTypeKind}
use Rattle.wave_wasm.specs.declared.wasm.WasmTypeKind.TheVariants as kinds
use Rattle.wave_wasm.specs.TypeText.{kind_word}
use Rattle.wave_wasm.specs.Lists.{AllOf}
use Rattle.wave_lex.specs.Regex.{Regex, nothing, empty, range, except, seq, alt, star, Matches, joined, is_within}
use Rattle.wave_lex.specs.Labels.{IsLabel}
use Rattle.wave_lex.specs.Tokens.{label}

-- ---- bytes that stop a word or a name

-- the byte is in no word and no name: a space, `(`, `)`, `,`, `:`, `<`, `>` and `_` are such bytes
abbrev pub is_stop : ℕ → Bool
is_stop c = nat_lt c 45 || (is_within 58 64 c || is_within 91 96 c)

-- no byte stops the word or name
abbrev pub has_no_stop : List ℕ → Bool
has_no_stop = list_all (λ c. not (is_stop c))

-- nothing follows, or first a byte that stops
abbrev pub StopsFirst : List ℕ → Type 0
StopsFirst [] = Unit {0}
StopsFirst (c ∷ s) = is_stop c ≡ true

stop_differs : (c d : ℕ) → is_stop c ≡ true → not (is_stop d) ≡ true → c ≡ d → ⊥
stop_differs c d stops goes e = false≢true (ap not (sym stops) ∙ (ap (λ z. not (is_stop z)) e ∙ goes))

pub first_of : {c d : ℕ} {r s : List ℕ} → c ∷ r ≡ d ∷ s → c ≡ d
first_of e = ap (λ l. get_or l 0 0) e

-- what stands before the first stop is one word or name, and what follows is one
pub one_prefix : (x y r s : List ℕ) → has_no_stop x ≡ true → has_no_stop y ≡ true → StopsFirst r → StopsFirst s → x ++ r ≡ y ++ s → (x ≡ y) × (r ≡ s)
one_prefix [] [] r s h k a b e = (refl, e)
one_prefix [] (d ∷ y) [] s h k a b e = absurd (cc)
one_prefix [] (d ∷ y) (c ∷ r) s h k a b e = absurd (stop_differs c d a (and_parts _ _ k).0 (first_of e))
one_prefix (c ∷ x) [] r [] h k a b e = absurd (cc)
one_prefix (c ∷ x) [] r (d ∷ s) h k a b e = absurd (stop_differs d c b (and_parts _ _ h).0 (sym (first_of e)))
one_prefix (c ∷ x) (d ∷ y) r s h k a b e =
    let p : c ≡ d = first_of e in
    let q = one_prefix x y r s (and_parts _ _ h).1 (and_parts _ _ k).1 a b (ap (drop 1) e) in
    ((λ i. p i ∷ q.0 i), q.1)

-- the parts of two texts, the other way in parentheses
pub regroup : (x y r a b s : List ℕ) → (x ++ y) ++ r ≡ (a ++ b) ++ s → x ++ (y ++ r) ≡ a ++ (b ++ s)
regroup x y r a b s e = sym (append_assoc x y r) ∙ (e ∙ append_assoc a b s)

-- ---- labels

-- no byte of a text of such a shape stops it
abbrev goes_on : Regex → Bool
goes_on nothing = true
goes_on empty = true
goes_on (range lo hi) = nat_lt 44 lo && (nat_lt hi 58 || (nat_lt 64 lo && (nat_lt hi 91 || nat_lt 96 lo)))
goes_on (except cs) = false
goes_on (seq p q) = goes_on p && goes_on q
goes_on (alt p q) = goes_on p && goes_on q
goes_on (star p) = goes_on p

within_goes_on : (lo hi c : ℕ) → goes_on (range lo hi) ≡ true → is_within lo hi c ≡ true → not (is_stop c) ≡ true
within_goes_on lo hi c h e = grind (arith, nat_tests)

append_goes_on : (x y : List ℕ) → has_no_stop x ≡ true → has_no_stop y ≡ true → has_no_stop (x ++ y) ≡ true
append_goes_on x y h k = list_all-append (λ c. not (is_stop c)) x y ∙ and_from _ _ h k

joined_goes_on : (p : Regex) → ((s : List ℕ) → Matches p s → has_no_stop s ≡ true) → (parts : List (List ℕ)) → AllOf (Matches p) parts → has_no_stop (joined parts) ≡ true
joined_goes_on p each [] h = refl
joined_goes_on p each (x ∷ parts) h = append_goes_on x (joined parts) (each x h.0) (joined_goes_on p each parts h.1)

text_goes_on : (p : Regex) (s : List ℕ) → goes_on p ≡ true → Matches p s → has_no_stop s ≡ true
text_goes_on nothing s a h = absurd h
text_goes_on empty s a h = ap has_no_stop h
text_goes_on (range lo hi) s a (c, e, t) = ap has_no_stop e ∙ and_from _ _ (within_goes_on lo hi c a t) refl
text_goes_on (except cs) s a h = absurd (false≢true a)
text_goes_on (seq p q) s a (x, y, e, hx, hy) =
    let w = and_parts _ _ a in
    ap has_no_stop e ∙ append_goes_on x y (text_goes_on p x w.0 hx) (text_goes_on q y w.1 hy)
text_goes_on (alt p q) s a (inl h) = text_goes_on p s (and_parts _ _ a).0 h
text_goes_on (alt p q) s a (inr h) = text_goes_on q s (and_parts _ _ a).1 h
text_goes_on (star p) s a (parts, e, h) = ap has_no_stop e ∙ joined_goes_on p (λ x. text_goes_on p x a) parts h

-- no byte of a label stops it
pub label_goes_on : (name : List ℕ) → IsLabel name → has_no_stop name ≡ true
label_goes_on name h = text_goes_on label name refl h

-- ---- numbers

digit_goes_on : (d : ℕ) → d < 10 → not (is_stop (48 + d)) ≡ true
digit_goes_on d h = grind (arith, nat_tests)

one_digit : (d : ℕ) → d < 10 → has_no_stop ((48 + d) ∷ []) ≡ true
one_digit d h = and_from _ _ (digit_goes_on d h) refl

more_digits : (n : ℕ) (ds : List ℕ) → 10 ≤ n → has_no_stop ds ≡ true → has_no_stop (ds ++ ((48 + n % 10) ∷ [])) ≡ true
more_digits n ds l h = append_goes_on ds _ h (one_digit (n % 10) (omega arith))

-- no byte of a number stops it
pub number_goes_on : (n : ℕ) → n < 2 ^ 64 → has_no_stop (decimal n) ≡ true
number_goes_on n h = decimal_by_steps (λ m ds. has_no_stop ds ≡ true) one_digit more_digits n h

-- ---- the words of kinds

abbrev all_kinds : List WasmTypeKind
all_kinds =
    kinds.Bool ∷ kinds.S8 ∷ kinds.S16 ∷ kinds.S32 ∷ kinds.S64 ∷ kinds.U8 ∷ kinds.U16 ∷ kinds.U32 ∷ kinds.U64 ∷ kinds.F32 ∷ kinds.F64 ∷ kinds.Char
    ∷ kinds.String ∷ kinds.List ∷ kinds.FixedLengthList ∷ kinds.Record ∷ kinds.Tuple ∷ kinds.Variant ∷ kinds.Enum ∷ kinds.Option ∷ kinds.Result ∷ kinds.Flags ∷ kinds.Map ∷ kinds.Unsupported ∷ []

-- the kind of this word
abbrev kind_at : List ℕ → Option WasmTypeKind
kind_at word = find (λ k. bytes_eq word (kind_word k)) all_kinds

kind_back : (k : WasmTypeKind) → kind_at (kind_word k) ≡ Some k
kind_back kinds.Bool = refl
kind_back kinds.S8 = refl
kind_back kinds.S16 = refl
kind_back kinds.S32 = refl
kind_back kinds.S64 = refl
kind_back kinds.U8 = refl
kind_back kinds.U16 = refl
kind_back kinds.U32 = refl
kind_back kinds.U64 = refl
kind_back kinds.F32 = refl
kind_back kinds.F64 = refl
kind_back kinds.Char = refl
kind_back kinds.String = refl
kind_back kinds.List = refl
kind_back kinds.FixedLengthList = refl
kind_back kinds.Record = refl
kind_back kinds.Tuple = refl
kind_back kinds.Variant = refl
kind_back kinds.Enum = refl
kind_back kinds.Option = refl
kind_back kinds.Result = refl
kind_back kinds.Flags = refl
kind_back kinds.Map = refl
kind_back kinds.Unsupported = refl

-- kinds of one word are one
pub one_kind : (j k : WasmTypeKind) → kind_word j ≡ kind_word k → j ≡ k
one_kind j k e = let same : Some j ≡ Some k = sym (kind_back j) ∙ (ap kind_at e ∙ kind_back k) in cc

-- a kind has a word
pub has_word : (k : WasmTypeKind) → [] ≡ kind_word k → ⊥
has_word k e = let none : None ≡ Some k = ap kind_at e ∙ kind_back k in cc
