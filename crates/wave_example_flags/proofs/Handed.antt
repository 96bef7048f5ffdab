-- Names that are handed in one after another: those that are kept, and those that are refused.
use Rattle.std.proofs.Common.{ℕ, ◌≡◌, ◌≢◌, ◌<◌, ◌≤◌, ◌+◌, zero, suc, Bool, true, false, ◌||◌, List, [], ◌∷◌, ◌++◌, map, length, take, get_or, inl, inr, refl, sym, ap, subst, ◌∙◌, arith, Bor}
use Rattle.std.specs.Prelude.{filter}
use Rattle.std.specs.List.{list_any}
use Rattle.std.specs.Str.{bytes_eq}
use Rattle.std.proofs.lemmas.List.{take_more, take_all, map-append}
use Rattle.wave_wasm.specs.Names.{IsOneOf, IsNoneOf, AreAllOf, AreDistinct, ArePicked, is_one_of}
use Rattle.wave_wasm.specs.Borrowed.{texts}
use Rattle.wave_wasm.specs.Types as type
use Rattle.wave_wasm.specs.Types.{flags_names}
use Rattle.wave_wasm.specs.Values.{flags}
use Rattle.wave_wasm.specs.ConstructorContracts.{MakesFlags}
use Rattle.wave_wasm.proofs.Names.NameTests.{is_one, passes, none_of, distinct_more}
use Rattle.wave_wasm.proofs.Names.Subsequences.{picked_of}
use Rattle.wave_example_flags.specs.OrderedFlags.{AreFlagsOf, TakesNames}

-- a test of what f makes
pub tested_map : {A B : Type 0} (p : B → Bool) (f : A → B) (xs : List A) → list_any p (map f xs) ≡ list_any (λ x. p (f x)) xs
tested_map p f [] = refl
tested_map p f (x ∷ xs) = ap (λ b. p (f x) || b) (tested_map p f xs)

-- ---- the name at hand among those that are handed in

texts_more : (xs : List (Bor (List ℕ))) (i : ℕ) (d : Bor (List ℕ)) → i < length xs → texts (take (i + 1) xs) ≡ texts (take i xs) ++ (get_or xs i d).now ∷ []
texts_more xs i d lt = rw (take_more xs i d lt) (map-append (λ (n : Bor (List ℕ)). n.now) (take i xs) (get_or xs i d ∷ []))

-- the names before the one at hand, that one, and the others
parted : (xs : List (Bor (List ℕ))) (i : ℕ) (d : Bor (List ℕ)) → i < length xs → (others : List (List ℕ)) × (texts xs ≡ texts (take i xs) ++ (get_or xs i d).now ∷ others)
parted [] i d lt = absurd (omega arith)
parted (x ∷ xs) zero d lt = (texts xs, refl)
parted (x ∷ xs) (suc i) d lt = let more = parted xs i d (omega arith) in (more.0, ap (λ ns. x.now ∷ ns) more.1)

among : (before others : List (List ℕ)) (n : List ℕ) → IsOneOf (before ++ n ∷ others) n
among [] others n = inl refl
among (m ∷ before) others n = inr (among before others n)

apart : (before others : List (List ℕ)) (n m : List ℕ) → IsNoneOf (before ++ n ∷ others) m → m ≢ n
apart [] others n m h = h.0
apart (k ∷ before) others n m h = apart before others n m h.1

repeated : (before others : List (List ℕ)) (n : List ℕ) → IsOneOf before n → AreDistinct (before ++ n ∷ others) → ⊥
repeated [] others n one d = one
repeated (m ∷ before) others n (inl e) d = apart before others n m d.0 (sym e)
repeated (m ∷ before) others n (inr one) d = repeated before others n one d.1

of_all : (all ns : List (List ℕ)) (n : List ℕ) → AreAllOf all ns → IsOneOf ns n → IsOneOf all n
of_all all [] n h one = absurd one
of_all all (m ∷ ns) n h (inl e) = subst (IsOneOf all) (sym e) h.0
of_all all (m ∷ ns) n h (inr one) = of_all all ns n h.1 one

one_none : (all : List (List ℕ)) (n : List ℕ) → IsOneOf all n → IsNoneOf all n → ⊥
one_none [] n one none = one
one_none (m ∷ all) n (inl e) none = none.0 e
one_none (m ∷ all) n (inr one) none = one_none all n one none.1

-- ---- refusals

-- a name that is none of the type's
pub unknown : (all : List (List ℕ)) (xs : List (Bor (List ℕ))) (i : ℕ) (d : Bor (List ℕ)) (known : Bool) (s : List ℕ) → i < length xs
    → known ≡ is_one_of all (get_or xs i d).now → known ≡ false → s ≡ (get_or xs i d).now → IsOneOf (texts xs) s × IsNoneOf all s
unknown all xs i d known s lt test missing same =
    let part = parted xs i d lt in
    let one : IsOneOf (texts xs) (get_or xs i d).now = subst (λ ns. IsOneOf ns (get_or xs i d).now) (sym part.1) (among (texts (take i xs)) part.0 (get_or xs i d).now) in
    subst (λ z. IsOneOf (texts xs) z × IsNoneOf all z) (sym same) (one, none_of all (get_or xs i d).now (sym test ∙ missing))

-- with such a name they are not picked of the type's
pub not_picked : (all others : List (List ℕ)) (xs : List (Bor (List ℕ))) (s : List ℕ) → IsOneOf (texts xs) s × IsNoneOf all s → type.flags all ≡ type.flags others → ArePicked others (texts xs) → ⊥
not_picked all others xs s h is picked =
    one_none others s (of_all others (texts xs) s (picked_of others (texts xs) picked) h.0) (subst (λ T. IsNoneOf (flags_names T) s) is h.1)

-- a name that is kept already
pub twice : {S : Type 0} (f : S → List ℕ) (kept : List S) (xs : List (Bor (List ℕ))) (i : ℕ) (d : Bor (List ℕ)) (found : Bool) → i < length xs
    → map f kept ≡ texts (take i xs) → found ≡ list_any (λ x. bytes_eq (get_or xs i d).now (f x)) kept → found ≡ true → AreDistinct (texts xs) → ⊥
twice f kept xs i d found lt same test kept_already distinct =
    let part = parted xs i d lt in
    let n = (get_or xs i d).now in
    let passed : is_one_of (texts (take i xs)) n ≡ true = ap (λ ns. is_one_of ns n) (sym same) ∙ (tested_map (bytes_eq n) f kept ∙ (sym test ∙ kept_already)) in
    repeated (texts (take i xs)) part.0 n (is_one (texts (take i xs)) n passed) (subst AreDistinct part.1 distinct)

-- ---- names that are kept

all_push : (all ns : List (List ℕ)) (n : List ℕ) → AreAllOf all ns → IsOneOf all n → AreAllOf all (ns ++ n ∷ [])
all_push all [] n h one = (one, tt)
all_push all (m ∷ ns) n h one = (h.0, all_push all ns n h.1 one)

-- one more name of the type, which is not kept yet
pub kept_more : {S : Type 0} (f : S → List ℕ) (all : List (List ℕ)) (kept more : List S) (one : S) (xs : List (Bor (List ℕ))) (i : ℕ) (d : Bor (List ℕ)) (known found : Bool) → i < length xs
    → known ≡ is_one_of all (get_or xs i d).now → known ≡ true → found ≡ list_any (λ x. bytes_eq (get_or xs i d).now (f x)) kept → found ≡ false
    → f one ≡ (get_or xs i d).now → more ≡ kept ++ one ∷ []
    → (map f kept ≡ texts (take i xs)) × TakesNames all (texts (take i xs)) → (map f more ≡ texts (take (i + 1) xs)) × TakesNames all (texts (take (i + 1) xs))
kept_more f all kept more one xs i d known found lt test listed tried fresh same pushed h =
    let n = (get_or xs i d).now in
    let before = texts (take i xs) in
    let failed : is_one_of before n ≡ false = ap (λ ns. is_one_of ns n) (sym h.0) ∙ (tested_map (bytes_eq n) f kept ∙ (sym tried ∙ fresh)) in
    let mapped : map f more ≡ before ++ n ∷ [] = ap (map f) pushed ∙ (map-append f kept (one ∷ []) ∙ (ap (λ ns. ns ++ f one ∷ []) h.0 ∙ ap (λ m. before ++ m ∷ []) same)) in
    subst (λ ns. (map f more ≡ ns) × TakesNames all ns) (sym (texts_more xs i d lt))
    (mapped, (all_push all before n h.1.0 (is_one all n (sym test ∙ listed)), distinct_more before n h.1.1 (none_of before n failed)))

known_kept : (all ns : List (List ℕ)) → AreAllOf all ns → filter (is_one_of all) ns ≡ ns
known_kept all [] h = refl
known_kept all (n ∷ ns) h = rw (passes all n h.0) (ap (λ ms. n ∷ ms) (known_kept all ns h.1))

-- what is kept at the end is the flags that are asked for
pub flags_built : (all : List (List ℕ)) (xs : List (Bor (List ℕ))) (kept : List (List ℕ)) (i : ℕ) → length xs ≤ i
    → (kept ≡ texts (take i xs)) × TakesNames all (texts (take i xs)) → MakesFlags flags AreFlagsOf (type.flags all) xs kept
flags_built all xs kept i past h = λ distinct unlike picked.
    let whole : take i xs ≡ xs = take_all i xs past in
    let known : AreAllOf all (texts xs) = subst (λ ys. AreAllOf all (texts ys)) whole h.1.0 in
    let some : ArePicked all (texts xs) = subst (ArePicked all) (known_kept all (texts xs) known) picked in
    let same : kept ≡ texts xs = h.0 ∙ ap texts whole in
    record { means = ap flags same; fits = (texts xs, some, refl); is_of = (texts xs, some, ap flags same) }
