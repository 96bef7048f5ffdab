-- Labels in byte order of their names.
use Rattle.std.proofs.Common.{◌≡◌, ◌≢◌, ℕ, List, [], ◌∷◌, Bool, true, false, refl, sym, ap, subst, ◌∙◌, map, length, ◌<◌, arith}
use Rattle.std.specs.Prelude.{if◌then◌else◌}
use Rattle.wave_wasm.specs.Lists.{AllOf}
use Rattle.wave_wasm.specs.Names.{IsNoneOf, AreDistinct}
use Rattle.wave_grammar.specs.LeafTokens.{name_of}
use Rattle.wave_grammar.specs.Tree.{is_before, put_in_order, in_order}
use Rattle.wave_grammar.proofs.NodeMeaning.FlagOrder.{asym, total, trans}

-- each label's name is before the names after it
abbrev pub IsOrdered : List (List ℕ) → Type 0
IsOrdered [] = Unit {0}
IsOrdered (x ∷ more) = AllOf (λ y. is_before (name_of x) (name_of y) ≡ true) more × IsOrdered more

put_before : (x y : List ℕ) (ys : List (List ℕ)) → is_before (name_of x) (name_of y) ≡ true → put_in_order x (y ∷ ys) ≡ x ∷ y ∷ ys
put_before x y ys e = ap (λ (b : Bool). if b then x ∷ y ∷ ys else y ∷ put_in_order x ys) e

put_behind : (x y : List ℕ) (ys : List (List ℕ)) → is_before (name_of x) (name_of y) ≡ false → put_in_order x (y ∷ ys) ≡ y ∷ put_in_order x ys
put_behind x y ys e = ap (λ (b : Bool). if b then x ∷ y ∷ ys else y ∷ put_in_order x ys) e

put_all : (P : List ℕ → Type 0) (x : List ℕ) (ys : List (List ℕ)) → P x → AllOf P ys → AllOf P (put_in_order x ys)
put_all P x [] p all = (p, tt)
put_all P x (y ∷ ys) p all = by_test (is_before (name_of x) (name_of y)) refl (put_all P x ys p all.1)
  where
    by_test : (b : Bool) → is_before (name_of x) (name_of y) ≡ b → AllOf P (put_in_order x ys) → AllOf P (put_in_order x (y ∷ ys))
    by_test true e behind = subst (AllOf P) (sym (put_before x y ys e)) (p, all)
    by_test false e behind = subst (AllOf P) (sym (put_behind x y ys e)) (all.0, behind)

-- what holds of each label holds of each in order
pub order_all : (P : List ℕ → Type 0) (xs : List (List ℕ)) → AllOf P xs → AllOf P (in_order xs)
order_all P [] all = tt
order_all P (x ∷ more) all = put_all P x (in_order more) all.0 (order_all P more all.1)

put_some : (x : List ℕ) (ys : List (List ℕ)) → 0 < length (put_in_order x ys)
put_some x [] = omega arith
put_some x (y ∷ ys) = by_test (is_before (name_of x) (name_of y)) refl
  where
    by_test : (b : Bool) → is_before (name_of x) (name_of y) ≡ b → 0 < length (put_in_order x (y ∷ ys))
    by_test true e = subst (λ (l : List (List ℕ)). 0 < length l) (sym (put_before x y ys e)) (omega arith)
    by_test false e = subst (λ (l : List (List ℕ)). 0 < length l) (sym (put_behind x y ys e)) (omega arith)

-- where there are labels, there are labels in order
pub order_some : (xs : List (List ℕ)) → 0 < length xs → 0 < length (in_order xs)
order_some [] l = l
order_some (x ∷ more) l = put_some x (in_order more)

past : (x y : List ℕ) (zs : List (List ℕ)) → is_before (name_of x) (name_of y) ≡ true → AllOf (λ z. is_before (name_of y) (name_of z) ≡ true) zs → AllOf (λ z. is_before (name_of x) (name_of z) ≡ true) zs
past x y [] e all = tt
past x y (z ∷ zs) e all = (trans (name_of x) (name_of y) (name_of z) e all.0, past x y zs e all.1)

put_ordered : (x : List ℕ) (ys : List (List ℕ)) → AllOf (λ y. name_of x ≢ name_of y) ys → IsOrdered ys → IsOrdered (put_in_order x ys)
put_ordered x [] apart o = (tt, tt)
put_ordered x (y ∷ ys) apart o = by_test (is_before (name_of x) (name_of y)) refl (put_ordered x ys apart.1 o.1)
  where
    by_test : (b : Bool) → is_before (name_of x) (name_of y) ≡ b → IsOrdered (put_in_order x ys) → IsOrdered (put_in_order x (y ∷ ys))
    by_test true e behind = subst IsOrdered (sym (put_before x y ys e)) ((e, past x y ys e o.0), o)
    by_test false e behind = subst IsOrdered (sym (put_behind x y ys e)) (put_all (λ z. is_before (name_of y) (name_of z) ≡ true) x ys (total (name_of x) (name_of y) apart.0 e) o.0, behind)

apart_from : (x : List ℕ) (ys : List (List ℕ)) → IsNoneOf (map name_of ys) (name_of x) → AllOf (λ y. name_of x ≢ name_of y) ys
apart_from x [] n = tt
apart_from x (y ∷ ys) n = (n.0, apart_from x ys n.1)

-- labels of distinct names are ordered, once they are in order
pub ordered : (xs : List (List ℕ)) → AreDistinct (map name_of xs) → IsOrdered (in_order xs)
ordered [] d = tt
ordered (x ∷ more) d = put_ordered x (in_order more) (order_all (λ y. name_of x ≢ name_of y) more (apart_from x more d.0)) (ordered more d.1)

put_first : (x : List ℕ) (ys : List (List ℕ)) → AllOf (λ y. is_before (name_of x) (name_of y) ≡ true) ys → put_in_order x ys ≡ x ∷ ys
put_first x [] all = refl
put_first x (y ∷ ys) all = put_before x y ys all.0

-- ordered labels stay as they are
pub stays_ordered : (xs : List (List ℕ)) → IsOrdered xs → in_order xs ≡ xs
stays_ordered [] o = refl
stays_ordered (x ∷ more) o = ap (put_in_order x) (stays_ordered more o.1) ∙ put_first x more o.0

-- the names stand for themselves
abbrev pub AreNames : List (List ℕ) → Type 0
AreNames xs = AllOf (λ x. name_of (name_of x) ≡ name_of x) xs

names_behind : (x : List ℕ) (ys : List (List ℕ)) → name_of (name_of x) ≡ name_of x → AreNames ys → AllOf (λ y. is_before (name_of x) (name_of y) ≡ true) ys → AllOf (λ y. is_before (name_of (name_of x)) (name_of y) ≡ true) (map name_of ys)
names_behind x [] e names all = tt
names_behind x (y ∷ ys) e names all =
    (ap (λ (z : List ℕ). is_before z (name_of (name_of y))) e ∙ (ap (λ (z : List ℕ). is_before (name_of x) z) names.0 ∙ all.0), names_behind x ys e names.1 all.1)

-- the names of ordered labels are ordered
pub names_ordered : (xs : List (List ℕ)) → AreNames xs → IsOrdered xs → IsOrdered (map name_of xs)
names_ordered [] names o = tt
names_ordered (x ∷ more) names o = (names_behind x more names.0 names.1 o.0, names_ordered more names.1 o.1)

-- and are the names of themselves
pub names_stay : (xs : List (List ℕ)) → AreNames xs → map name_of (map name_of xs) ≡ map name_of xs
names_stay [] names = refl
names_stay (x ∷ more) names = ap (λ (z : List ℕ). z ∷ map name_of (map name_of more)) names.0 ∙ ap (λ (zs : List (List ℕ)). name_of x ∷ zs) (names_stay more names.1)

before_not_same : (x y : List ℕ) → is_before x y ≡ true → x ≢ y
before_not_same x y e same =
    let back : is_before y x ≡ true = subst (λ (z : List ℕ). is_before z x ≡ true) same (subst (λ (z : List ℕ). is_before x z ≡ true) (sym same) e) in
    let wrong : true ≡ false = sym back ∙ asym x y e in cc

none_behind : (x : List ℕ) (ys : List (List ℕ)) → AllOf (λ y. is_before (name_of x) (name_of y) ≡ true) ys → IsNoneOf (map name_of ys) (name_of x)
none_behind x [] all = tt
none_behind x (y ∷ ys) all = (before_not_same (name_of x) (name_of y) all.0, none_behind x ys all.1)

-- ordered labels have distinct names
pub ordered_distinct : (xs : List (List ℕ)) → IsOrdered xs → AreDistinct (map name_of xs)
ordered_distinct [] o = tt
ordered_distinct (x ∷ more) o = (none_behind x more o.0, ordered_distinct more o.1)
