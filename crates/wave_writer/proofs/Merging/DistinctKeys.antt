-- Entries whose keys have distinct texts are left as they are by merging.
use Rattle.std.proofs.Common.{◌≡◌, ℕ, List, [], ◌∷◌, Bool, false, not, cond, if◌then◌else◌, inl, inr, refl, sym, ap, subst, ◌∙◌, map}
use Rattle.std.specs.Prelude.{◌≢◌}
use Rattle.std.specs.Str.{bytes_eq}
use Rattle.std.proofs.lemmas.Bool.{cases_Bool}
use Rattle.std.proofs.lemmas.Slice.Eq.{bytes_eq-Decides}
use Rattle.wave_wasm.specs.Merge.{last_value, without, merge, merge_by_text}
use Rattle.wave_wasm.specs.Names.{IsNoneOf, AreDistinct}
use Rattle.wave_wasm.proofs.CanonicalText.ValueParts.{map_map}

apart : (a b : List ℕ) → a ≢ b → bytes_eq a b ≡ false
apart a b h = elim (cases_Bool (bytes_eq a b)) [
  | inl t ↦ absurd (h ((bytes_eq-Decides a b).0 t))
  | inr f ↦ f
]

module _ {K : Type 0} (t : K → List ℕ) where
  abbrev same : K → K → Bool
  same a b = bytes_eq (t a) (t b)

module _ {K V : Type 0} (t : K → List ℕ) where
  last_stays : (key : K) (v : V) (es : List (K × V)) → IsNoneOf (map (λ e. t e.0) es) (t key) → last_value (same t) key v es ≡ v
  last_stays key v [] h = refl
  last_stays key v (e ∷ es) h = ap (λ b. last_value (same t) key (if b then e.1 else v) es) (apart (t key) (t e.0) h.0) ∙ last_stays key v es h.1

  others_stay : (key : K) (es : List (K × V)) → IsNoneOf (map (λ e. t e.0) es) (t key) → without (same t) key es ≡ es
  others_stay key [] h = refl
  others_stay key (e ∷ es) h = ap (λ b. cond (not b) (e ∷ without (same t) key es) (without (same t) key es)) (apart (t key) (t e.0) h.0) ∙ ap (λ l. e ∷ l) (others_stay key es h.1)

  -- entries are left whose keys have distinct texts
  pub merge_distinct : (es : List (K × V)) → AreDistinct (map (λ e. t e.0) es) → merge (same t) es ≡ es
  merge_distinct [] h = refl
  merge_distinct (e ∷ es) h =
      ap (λ l. (e.0, last_value (same t) e.0 e.1 es) ∷ without (same t) e.0 l) (merge_distinct es h.1) ∙ (ap (λ v. (e.0, v) ∷ without (same t) e.0 es) (last_stays e.0 e.1 es h.0) ∙ ap (λ l. e ∷ l) (others_stay e.0 es h.0))

-- the same by the texts that stand beside the keys
pub distinct_by_text : {E K V : Type 0} (f : E → (List ℕ × K) × V) (es : List E) → AreDistinct (map (λ e. (f e).0.0) es) → merge_by_text (map f es) ≡ map (λ e. ((f e).0.1, (f e).1)) es
distinct_by_text {E} {K} {V} f es h =
    let text : (List ℕ × K) × V → List ℕ = λ e. e.0.0 in
    let pair : (List ℕ × K) × V → K × V = λ e. (e.0.1, e.1) in
    ap (map pair) (merge_distinct (λ a. a.0) (map f es) (subst AreDistinct (sym (map_map text f es)) h)) ∙ map_map pair f es
