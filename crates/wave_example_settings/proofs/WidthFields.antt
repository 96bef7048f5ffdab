-- The width among the fields of a record.
use Rattle.std.proofs.Common.{ℕ, ◌≡◌, ◌<◌, inl, inr, Bool, true, false, List, [], ◌∷◌, ◌++◌, map, length, get_or, Bor, sym, ap, subst, ◌∙◌}
use Rattle.std.specs.Prelude.{codes}
use Rattle.std.specs.Str.{bytes_eq}
use Rattle.std.proofs.lemmas.Bool.{false≢true}
use Rattle.std.proofs.lemmas.Slice.Eq.{bytes_eq-Decides}
use Rattle.wave_wasm.specs.Lists.{SomeOf}
use Rattle.wave_wasm.specs.Borrowed.{denoted_fields}
use Rattle.wave_wasm.specs.Values.{Value, record_fields}
use Rattle.wave_value.specs.TypedValue.{TypedValue}
use Rattle.wave_value.proofs.ValueModel.Lists.{some_mapped}
use Rattle.wave_example_settings.specs.Settings.{number, HasWidth}

abbrev Fields : Type 0
Fields = List (Bor (List ℕ) × Bor TypedValue)

abbrev IsWidth : ℕ → List ℕ × Value → Type 0
IsWidth n f = f ≡ (codes "width", number n)

abbrev field_of : Bor (List ℕ) × Bor TypedValue → List ℕ × Value
field_of x = (x.0.now, x.1.now.tree)

-- a field of this name and number
pub found : (items : Fields) (v : Value) (i n : ℕ) (x : Bor (List ℕ) × Bor TypedValue) (same : Bool) → denoted_fields (λ w. w.tree) items ≡ record_fields v → (i < length items) × (x ≡ get_or items i x) → same ≡ bytes_eq x.0.now (codes "width") → same ≡ true → x.1.now.tree ≡ number n → HasWidth v n
found items v i n x same denoted at tested named is =
    let name : x.0.now ≡ codes "width" = (bytes_eq-Decides x.0.now (codes "width")).0 (sym tested ∙ named) in
    subst (SomeOf (IsWidth n)) denoted (some_mapped field_of (IsWidth n) items i x at.0 at.1 (λ j. (name j, is j)))

-- one more field, which is none
pub none_more : (n : ℕ) (ys : Fields) (x : Bor (List ℕ) × Bor TypedValue) → (SomeOf (IsWidth n) (denoted_fields (λ w. w.tree) ys) → ⊥) → (IsWidth n (field_of x) → ⊥) → SomeOf (IsWidth n) (denoted_fields (λ w. w.tree) (ys ++ x ∷ [])) → ⊥
none_more n [] x none other (inl is) = other is
none_more n [] x none other (inr one) = one
none_more n (y ∷ ys) x none other (inl is) = none (inl is)
none_more n (y ∷ ys) x none other (inr one) = none_more n ys x (λ more. none (inr more)) other one

-- a field of another name
pub other_name : (n : ℕ) (x : Bor (List ℕ) × Bor TypedValue) (same : Bool) → same ≡ bytes_eq x.0.now (codes "width") → same ≡ false → IsWidth n (field_of x) → ⊥
other_name n x same tested other is = false≢true (sym other ∙ (tested ∙ (bytes_eq-Decides x.0.now (codes "width")).1 (ap (λ f. f.0) is)))

-- what a loop was given, at its end
pub given : (ys xs : Fields) → map (λ y. y) ys ≡ xs → ys ≡ xs
given [] xs is = is
given (y ∷ ys) [] is = absurd (cc is)
given (y ∷ ys) (x ∷ xs) is =
    let head : y ≡ x = cc is in
    let more : ys ≡ xs = given ys xs (cc is) in
    λ i. head i ∷ more i

-- no field of all
pub none_of_all : (n : ℕ) (ys items : Fields) (v : Value) → (SomeOf (IsWidth n) (denoted_fields (λ w. w.tree) ys) → ⊥) → map (λ y. y) ys ≡ items → denoted_fields (λ w. w.tree) items ≡ record_fields v → HasWidth v n → ⊥
none_of_all n ys items v none all denoted has =
    none (subst (λ zs. SomeOf (IsWidth n) (denoted_fields (λ w. w.tree) zs)) (sym (given ys items all)) (subst (SomeOf (IsWidth n)) (sym denoted) has))
