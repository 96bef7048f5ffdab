-- Fields that are found by their names.
use Rattle.std.proofs.Common.{ℕ, ◌≡◌, ◌⊎◌, inl, inr, Bool, true, false, if◌then◌else◌, List, [], ◌∷◌, Some, None, refl}
use Rattle.std.specs.Str.{bytes_eq}
use Rattle.std.proofs.lemmas.Slice.Eq.{bytes_eq-Decides}
use Rattle.wave_wasm.specs.Names.{IsOneOf, IsNoneOf}
use Rattle.wave_grammar.specs.TypedGrammar.{look_up, names_of}

-- a name that is found is one of the names
pub is_found : {A : Type 0} (fs : List (List ℕ × A)) (name : List ℕ) (x : A) → look_up fs name ≡ Some x → IsOneOf (names_of fs) name
is_found [] name x e = absurd (cc)
is_found (f ∷ fs) name x e = by (bytes_eq name f.0) refl (is_found fs name x) e
  where
    by : (b : Bool) → bytes_eq name f.0 ≡ b → (look_up fs name ≡ Some x → IsOneOf (names_of fs) name) → (if b then Some f.1 else look_up fs name) ≡ Some x → (name ≡ f.0) ⊎ IsOneOf (names_of fs) name
    by true is more e = inl ((bytes_eq-Decides name f.0).0 is)
    by false is more e = inr (more e)

-- none of the names is not found
pub finds_none : {A : Type 0} (fs : List (List ℕ × A)) (name : List ℕ) → IsNoneOf (names_of fs) name → look_up fs name ≡ None
finds_none [] name none = refl
finds_none (f ∷ fs) name none = by (bytes_eq name f.0) refl (finds_none fs name none.1)
  where
    by : (b : Bool) → bytes_eq name f.0 ≡ b → look_up fs name ≡ None → (if b then Some f.1 else look_up fs name) ≡ None
    by true is more = absurd (none.0 ((bytes_eq-Decides name f.0).0 is))
    by false is more = more
