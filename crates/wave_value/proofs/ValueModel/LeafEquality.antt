-- Equality of contents is equality of values.
use Rattle.std.proofs.Common.{◌≡◌, true, ap, subst}
use Rattle.std.specs.Cmp.{both_ways}
use Rattle.wave_wasm.specs.Values as value
use Rattle.wave_wasm.specs.Values.{Leaf, Value}
use Rattle.wave_wasm.specs.Merge.{leaf_eq}
use Rattle.wave_wasm.proofs.Merging.LastValues.{leaf_eq-true, leaf_eq-self}
use Rattle.wave_value.specs.ValueEncoding.{stored_value, value_apart}
use Rattle.wave_value.specs.ValueEquality.{same_value, one_stored, stored_itself}

abbrev leaf_in : Value → Leaf
leaf_in (value.leaf one) = one
leaf_in _ = value.char 0

one_leaf : (a b : Leaf) → same_value (value.leaf a) (value.leaf b) ≡ true → leaf_eq a b ≡ true
one_leaf a b e =
    let same : value.leaf a ≡ value.leaf b = value_apart _ _ (one_stored _ _ e) in
    subst (λ c. leaf_eq a c ≡ true) (ap leaf_in same) (leaf_eq-self a)

same_leaf_path : (a b : Leaf) → leaf_eq a b ≡ true → same_value (value.leaf a) (value.leaf b) ≡ true
same_leaf_path a b e = subst (λ c. same_value (value.leaf a) (value.leaf c) ≡ true) (leaf_eq-true a b e) (stored_itself (stored_value (value.leaf a)))

-- two values of one token are one where the test of keys says so
pub same_leaf : (a b : Leaf) → same_value (value.leaf a) (value.leaf b) ≡ leaf_eq a b
same_leaf a b = both_ways _ _ (one_leaf a b) (same_leaf_path a b)
