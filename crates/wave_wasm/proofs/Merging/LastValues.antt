-- What merging gives; and keys are equal where their test says so.
use Rattle.std.proofs.Common.{◌≡◌, Bool, true, false, not, List, [], ◌∷◌, map, refl, ap, ◌∙◌, Option, Some, None}
use Rattle.std.specs.Option.{option_or}
use Rattle.std.specs.Prelude.{cond, filter, if◌then◌else◌, ◌&&◌}
use Rattle.wave_wasm.specs.Lists.{AllOf}
use Rattle.std.specs.Ordering.{int_eq}
use Rattle.wave_wasm.specs.Merge.{last_value, without, merge, distinct_keys, value_at_last, IsMergeOf, bool_eq, leaf_eq}
use Rattle.wave_wasm.specs.Values as value
use Rattle.wave_wasm.specs.Values.{Leaf}
use Rattle.wave_wasm.specs.SimpleEquality.{same_whole, one_whole, whole_itself}
use Rattle.std.proofs.lemmas.Bool.{eqb-true}
use Rattle.std.specs.Cmp.{signed_Decides, unsigned_Decides}
use Rattle.std.proofs.lemmas.Slice.Eq.{bytes_eq-Decides}

picked : {K V : Type 0} (b : Bool) (e : K × V) (xs : List (K × V)) (ks : List K) → map (λ e. e.0) xs ≡ ks → map (λ e. e.0) (cond (not b) (e ∷ xs) xs) ≡ cond (not b) (e.0 ∷ ks) ks
picked true e xs ks h = h
picked false e xs ks h = ap (λ z. e.0 ∷ z) h

stepped : {V : Type 0} (b : Bool) (o : Option V) (v w : V) (last : V → V) → ((x : V) → option_or o (Some x) ≡ Some (last x)) → option_or (option_or o (if b then Some w else None)) (Some v) ≡ Some (last (if b then w else v))
stepped true (Some a) v w last h = h w
stepped true None v w last h = h w
stepped false (Some a) v w last h = h v
stepped false None v w last h = h v

found_first : {V : Type 0} (b : Bool) (o : Option V) (v : V) → b ≡ true → option_or o (if b then Some v else None) ≡ option_or o (Some v)
found_first true o v e = refl
found_first false o v e = cc

module _ {K V : Type 0} (same : K → K → Bool) where
  -- the keys of the entries of other keys are the other keys
  keys_without : (key : K) (es : List (K × V)) → map (λ e. e.0) (without same key es) ≡ filter (λ other. not (same key other)) (map (λ e. e.0) es)
  keys_without key [] = refl
  keys_without key (e ∷ es) = picked (same key e.0) e (without same key es) (filter (λ other. not (same key other)) (map (λ e. e.0) es)) (keys_without key es)

  -- the keys are the distinct keys in the order of their first places
  merged_keys : (es : List (K × V)) → map (λ e. e.0) (merge same es) ≡ distinct_keys same es
  merged_keys [] = refl
  merged_keys (e ∷ es) = ap (λ (z : List K). e.0 ∷ z) (keys_without e.0 (merge same es) ∙ ap (filter (λ other. not (same e.0 other))) (merged_keys es))

  -- the last value is the value at the last place, or else the one that was given
  last_is : (key : K) (es : List (K × V)) (v : V) → option_or (value_at_last same key es) (Some v) ≡ Some (last_value same key v es)
  last_is key [] v = refl
  last_is key (e ∷ es) v = stepped (same key e.0) (value_at_last same key es) v e.1 (λ x. last_value same key x es) (last_is key es)

  -- of entries whose values are the last ones after e, those of other keys keep them with e before it
  values_without : (e : K × V) (es xs : List (K × V)) → AllOf (λ x. value_at_last same x.0 es ≡ Some x.1) xs → AllOf (λ x. value_at_last same x.0 (e ∷ es) ≡ Some x.1) (without same e.0 xs)
  values_without e es [] h = tt
  values_without e es (x ∷ xs) h = kept (same e.0 x.0) x (without same e.0 xs) (ap (λ (z : Option V). option_or z (if same x.0 e.0 then Some e.1 else None)) h.0) (values_without e es xs h.1)
    where
      kept : (b : Bool) (x : K × V) (xs : List (K × V)) → (value_at_last same x.0 (e ∷ es) ≡ Some x.1) → AllOf (λ x. value_at_last same x.0 (e ∷ es) ≡ Some x.1) xs → AllOf (λ x. value_at_last same x.0 (e ∷ es) ≡ Some x.1) (cond (not b) (x ∷ xs) xs)
      kept true x xs a h = h
      kept false x xs a h = (a, h)

  merged_values : ((key : K) → same key key ≡ true) → (es : List (K × V)) → AllOf (λ x. value_at_last same x.0 es ≡ Some x.1) (merge same es)
  merged_values self [] = tt
  merged_values self (e ∷ es) =
      (found_first (same e.0 e.0) (value_at_last same e.0 es) e.1 (self e.0) ∙ last_is e.0 es e.1, values_without e es (merge same es) (merged_values self es))

  -- `merge` gives the distinct keys in the order of their first places, each with its last value
  pub merge_is : ((key : K) → same key key ≡ true) → (es : List (K × V)) → IsMergeOf same es (merge same es)
  merge_is self es = record { keys = merged_keys es; values = merged_values self es }

-- ---- keys

bool_eq-true : (a b : Bool) → bool_eq a b ≡ true → a ≡ b
bool_eq-true true true e = refl
bool_eq-true true false e = cc
bool_eq-true false true e = cc
bool_eq-true false false e = refl

bool_eq-self : (b : Bool) → bool_eq b b ≡ true
bool_eq-self true = refl
bool_eq-self false = refl

both_true : (a b : Bool) → (a && b) ≡ true → (a ≡ true) × (b ≡ true)
both_true true b e = (refl, e)
both_true false b e = cc

-- keys of which the test says so are equal
pub leaf_eq-true : (a b : Leaf) → leaf_eq a b ≡ true → a ≡ b
leaf_eq-true (value.bool a) (value.bool b) e = ap value.bool (bool_eq-true a b e)
leaf_eq-true (value.whole kind y) (value.whole other z) e =
    let p = both_true (same_whole kind other) (int_eq y z) e in
    let k : kind ≡ other = one_whole kind other p.0 in
    let n : y ≡ z = (signed_Decides y z).0 p.1 in cc
leaf_eq-true (value.char c) (value.char d) e = ap value.char (eqb-true c d e)
leaf_eq-true (value.string s) (value.string t) e = ap value.string ((bytes_eq-Decides s t).0 e)
leaf_eq-true _ _ e = cc

-- a key is equal to itself
pub leaf_eq-self : (a : Leaf) → leaf_eq a a ≡ true
leaf_eq-self (value.bool b) = bool_eq-self b
leaf_eq-self (value.whole kind z) = both (same_whole kind kind) (int_eq z z) (whole_itself kind) ((signed_Decides z z).1 refl)
  where
    both : (a b : Bool) → a ≡ true → b ≡ true → (a && b) ≡ true
    both true true e f = refl
    both true false e f = cc
    both false b e f = cc
leaf_eq-self (value.char c) = (unsigned_Decides c c).1 refl
leaf_eq-self (value.string s) = (bytes_eq-Decides s s).1 refl

-- so does merging entries by value
pub merge_of_values : {V : Type 0} (es : List (Leaf × V)) → IsMergeOf leaf_eq es (merge leaf_eq es)
merge_of_values es = merge_is leaf_eq leaf_eq-self es
