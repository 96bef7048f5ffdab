-- The field of a name, found in a loop over the fields.
use Rattle.std.proofs.Common.{ℕ, arith, ◌≡◌, ◌≢◌, ◌<◌, Bool, true, false, List, [], ◌∷◌, ◌++◌, map, take, length, get_or, Bor, sym, ap, subst, ◌∙◌, refl}
use Rattle.std.specs.Str.{bytes_eq}
use Rattle.std.proofs.lemmas.Bool.{false≢true}
use Rattle.std.proofs.lemmas.List.{map-append}
use Rattle.std.proofs.lemmas.Slice.Eq.{bytes_eq-Decides}
use Rattle.wave_wasm.specs.Borrowed.{denoted_fields}
use Rattle.wave_wasm.specs.Values.{Value}
use Rattle.wasm_wave.specs.FieldByName.{HasNoField, IsFirstField}

module _ {S : Type 0} (tree : S → Value) where
  abbrev Parts : Type 0
  Parts = List (Bor (List ℕ) × Bor S)

  -- what was handed out, what is, and the rest
  split : (ys all : Parts) (x : Bor (List ℕ) × Bor S) → map (λ y. y) ys ≡ take (length ys) all → (length ys < length all) × (x ≡ get_or all (length ys) x) → (rest : Parts) × (all ≡ ys ++ x ∷ rest)
  split [] [] x so at = let w : ⊥ = omega (arith, at.0) in absurd w
  split [] (a ∷ all) x so at = (all, ap (λ b. b ∷ all) (sym at.1))
  split (y ∷ ys) [] x so at = absurd (cc so)
  split (y ∷ ys) (a ∷ all) x so (less, is) =
      let more = split ys all x (cc so) (omega (arith, less), is) in
      let head : y ≡ a = cc so in
      (more.0, λ i. sym head i ∷ more.1 i)

  -- the field whose name it is
  pub found : (ys all : Parts) (x : Bor (List ℕ) × Bor S) (name : List ℕ) (same : Bool) (fields : List (List ℕ × Value)) → HasNoField name (denoted_fields tree ys) → denoted_fields tree all ≡ fields
      → map (λ y. y) ys ≡ take (length ys) all → (length ys < length all) × (x ≡ get_or all (length ys) x) → same ≡ bytes_eq x.0.now name → same ≡ true → IsFirstField name fields (tree x.1.now)
  found ys all x name same fields none are so at tested is =
      let parts = split ys all x so at in
      let named : x.0.now ≡ name = (bytes_eq-Decides x.0.now name).0 (sym tested ∙ is) in (
        denoted_fields tree ys,
        denoted_fields tree parts.0,
        sym are ∙ (ap (denoted_fields tree) parts.1 ∙ (map-append (λ f. (f.0.now, tree f.1.now)) ys (x ∷ parts.0) ∙ ap (λ n. denoted_fields tree ys ++ (n, tree x.1.now) ∷ denoted_fields tree parts.0) named)),
        none,
      )

  -- one more field, whose name it isn't
  pub none_more : (ys : Parts) (x : Bor (List ℕ) × Bor S) (name : List ℕ) (same : Bool) → HasNoField name (denoted_fields tree ys) → same ≡ bytes_eq x.0.now name → same ≡ false → HasNoField name (denoted_fields tree (ys ++ x ∷ []))
  none_more [] x name same none tested is = (λ named. false≢true (sym is ∙ (tested ∙ (bytes_eq-Decides x.0.now name).1 named)), tt)
  none_more (y ∷ ys) x name same none tested is = (none.0, none_more ys x name same none.1 tested is)

  given : (ys all : Parts) → map (λ y. y) ys ≡ all → ys ≡ all
  given [] all is = is
  given (y ∷ ys) [] is = absurd (cc is)
  given (y ∷ ys) (x ∷ all) is =
      let head : y ≡ x = cc is in
      let more : ys ≡ all = given ys all (cc is) in
      λ i. head i ∷ more i

  -- no field of all
  pub none_of_all : (ys all : Parts) (name : List ℕ) (fields : List (List ℕ × Value)) → HasNoField name (denoted_fields tree ys) → map (λ y. y) ys ≡ all → denoted_fields tree all ≡ fields → HasNoField name fields
  none_of_all ys all name fields none end are = subst (HasNoField name) (ap (denoted_fields tree) (given ys all end) ∙ are) none
