-- Merging as a walk from the first entry to the last.
use Rattle.std.proofs.Common.{◌≡◌, List, [], ◌∷◌, ◌++◌, Bool, true, false, not, cond, if◌then◌else◌, inl, inr, refl, ap, ◌∙◌}
use Rattle.std.proofs.lemmas.Bool.{cases_Bool}
use Rattle.wave_wasm.specs.Merge.{last_value, without, merge}

module _ {K V : Type 0} (same : K → K → Bool) where
  -- the value goes to the place of its key, which is the end where the key is new
  abbrev pub put : K → V → List (K × V) → List (K × V)
  put key v [] = (key, v) ∷ []
  put key v (e ∷ es) = if same key e.0 then (e.0, v) ∷ es else e ∷ put key v es

module _ {K : Type 0} (same : K → K → Bool) (turned : (a b : K) → same a b ≡ true → same b a ≡ true) (through : (a b c : K) → same a b ≡ true → same b c ≡ true → same a c ≡ true) where
  -- another key stays another
  apart : (a b c : K) → same a b ≡ false → same b c ≡ true → same a c ≡ false
  apart a b c h k = elim (cases_Bool (same a c)) [
    | inl t ↦ let u = through a c b t (turned b c k) in cc
    | inr f ↦ f
  ]

  apart_turned : (a b : K) → same a b ≡ false → same b a ≡ false
  apart_turned a b h = elim (cases_Bool (same b a)) [
    | inl t ↦ let u = turned b a t in cc
    | inr f ↦ f
  ]

module _ {K V : Type 0} (same : K → K → Bool) (turned : (a b : K) → same a b ≡ true → same b a ≡ true) (through : (a b c : K) → same a b ≡ true → same b c ≡ true → same a c ≡ true) where
  last_push : (key : K) (v : V) (es : List (K × V)) (e : K × V) → last_value same key v (es ++ e ∷ []) ≡ (if same key e.0 then e.1 else last_value same key v es)
  last_push key v [] e = refl
  last_push key v (x ∷ es) e = last_push key (if same key x.0 then x.1 else v) es e

  without_put_same : (key k : K) (v : V) (es : List (K × V)) → same key k ≡ true → without same key (put same k v es) ≡ without same key es
  without_put_same key k v [] h = rw h refl
  without_put_same key k v (x ∷ es) h = elim (cases_Bool (same k x.0)) [
    | inl t ↦ rw t (rw (through key k x.0 h t) refl)
    | inr f ↦ rw f (ap (λ l. cond (not (same key x.0)) (x ∷ l) l) (without_put_same key k v es h))
  ]

  without_put_other : (key k : K) (v : V) (es : List (K × V)) → same key k ≡ false → without same key (put same k v es) ≡ put same k v (without same key es)
  without_put_other key k v [] h = rw h refl
  without_put_other key k v (x ∷ es) h = elim (cases_Bool (same k x.0)) [
    | inl t ↦ rw t (rw (apart same turned through key k x.0 h t) (rw t refl))
    | inr f ↦ rw f (elim (cases_Bool (same key x.0)) [
      | inl u ↦ rw u (without_put_other key k v es h)
      | inr g ↦ rw g (rw f (ap (λ l. x ∷ l) (without_put_other key k v es h)))
    ])
  ]

  -- one more entry goes to its place
  pub merge_push : (es : List (K × V)) (e : K × V) → merge same (es ++ e ∷ []) ≡ put same e.0 e.1 (merge same es)
  merge_push [] e = refl
  merge_push (x ∷ es) e =
      let last = last_value same x.0 x.1 es in
      ap (λ w. (x.0, w) ∷ without same x.0 (merge same (es ++ e ∷ []))) (last_push x.0 x.1 es e) ∙ (ap (λ l. (x.0, if same x.0 e.0 then e.1 else last) ∷ without same x.0 l) (merge_push es e) ∙ elim (cases_Bool (same x.0 e.0)) [
        | inl t ↦ rw (turned x.0 e.0 t) (rw t (ap (λ l. (x.0, e.1) ∷ l) (without_put_same x.0 e.0 e.1 (merge same es) t)))
        | inr f ↦ rw (apart_turned same turned through x.0 e.0 f) (rw f (ap (λ l. (x.0, last) ∷ l) (without_put_other x.0 e.0 e.1 (merge same es) f)))
      ])
