-- Merging looks at the keys through their test alone.
use Rattle.std.proofs.Common.{◌≡◌, ℕ, List, [], ◌∷◌, Bool, true, false, not, cond, if◌then◌else◌, refl, ap, ◌∙◌, map}
use Rattle.wave_wasm.specs.Lists.{AllOf}
use Rattle.wave_wasm.specs.Merge.{last_value, without, merge, same_text, merge_by_text}
use Rattle.std.specs.Str.{bytes_eq}

pushed : {V W : Type 0} (q : V → W) (b : Bool) (v w : V) → (if b then q v else q w) ≡ q (if b then v else w)
pushed q true v w = refl
pushed q false v w = refl

kept : {A : Type 0} (P : A → Type 0) (b : Bool) (a : A) (more : List A) → P a → AllOf P more → AllOf P (cond b (a ∷ more) more)
kept P true a more p h = (p, h)
kept P false a more p h = h

-- what holds of all entries holds of those of other keys
without_keeps : {K V : Type 0} (P : K × V → Type 0) (same : K → K → Bool) (key : K) (es : List (K × V)) → AllOf P es → AllOf P (without same key es)
without_keeps P same key [] h = tt
without_keeps P same key (e ∷ es) h = kept P (not (same key e.0)) e (without same key es) h.0 (without_keeps P same key es h.1)

-- what holds of all keys holds of those that are left
pub keys_keep : {K V : Type 0} (P : K → Type 0) (same : K → K → Bool) (es : List (K × V)) → AllOf (λ e. P e.0) es → AllOf (λ e. P e.0) (merge same es)
keys_keep P same [] h = tt
keys_keep P same (e ∷ es) h = (h.0, without_keeps (λ e. P e.0) same e.0 (merge same es) (keys_keep P same es h.1))

chosen : {V : Type 0} (P : V → Type 0) (b : Bool) (v w : V) → P v → P w → P (if b then v else w)
chosen P true v w p q = p
chosen P false v w p q = q

last_keeps : {K V : Type 0} (P : V → Type 0) (same : K → K → Bool) (key : K) (v : V) (es : List (K × V)) → P v → AllOf (λ e. P e.1) es → P (last_value same key v es)
last_keeps P same key v [] p h = p
last_keeps P same key v (e ∷ es) p h = last_keeps P same key (if same key e.0 then e.1 else v) es (chosen P (same key e.0) e.1 v h.0 p) h.1

-- what holds of all values holds of those that are left
pub values_keep : {K V : Type 0} (P : V → Type 0) (same : K → K → Bool) (es : List (K × V)) → AllOf (λ e. P e.1) es → AllOf (λ e. P e.1) (merge same es)
values_keep P same [] h = tt
values_keep P same (e ∷ es) h = (last_keeps P same e.0 e.1 es h.0 h.1, without_keeps (λ e. P e.1) same e.0 (merge same es) (values_keep P same es h.1))

-- the entries, each key and each value mapped
abbrev pub paired : {K L V W : Type 0} → (K → L) → (V → W) → List (K × V) → List (L × W)
paired p q es = map (λ e. (p e.0, q e.1)) es

module _ {K L V W : Type 0} (P : K → Type 0) (p : K → L) (q : V → W) (same : K → K → Bool) (alike : L → L → Bool) (agree : (a b : K) → P a → P b → alike (p a) (p b) ≡ same a b) where
  last_paired : (key : K) (v : V) (es : List (K × V)) → P key → AllOf (λ e. P e.0) es → last_value alike (p key) (q v) (paired p q es) ≡ q (last_value same key v es)
  last_paired key v [] k h = refl
  last_paired key v (e ∷ es) k h =
      ap (λ w. last_value alike (p key) w (paired p q es)) (ap (λ b. if b then q e.1 else q v) (agree key e.0 k h.0) ∙ pushed q (same key e.0) e.1 v) ∙ last_paired key (if same key e.0 then e.1 else v) es k h.1

  both_kept : (b : Bool) (e : K × V) (es : List (K × V)) (ls : List (L × W)) → ls ≡ paired p q es → cond b ((p e.0, q e.1) ∷ ls) ls ≡ paired p q (cond b (e ∷ es) es)
  both_kept true e es ls h = ap (λ l. (p e.0, q e.1) ∷ l) h
  both_kept false e es ls h = h

  without_paired : (key : K) (es : List (K × V)) → P key → AllOf (λ e. P e.0) es → without alike (p key) (paired p q es) ≡ paired p q (without same key es)
  without_paired key [] k h = refl
  without_paired key (e ∷ es) k h =
      ap (λ b. cond (not b) ((p e.0, q e.1) ∷ without alike (p key) (paired p q es)) (without alike (p key) (paired p q es))) (agree key e.0 k h.0) ∙ both_kept (not (same key e.0)) e (without same key es) (without alike (p key) (paired p q es)) (without_paired key es k h.1)

  -- entries with their keys and values mapped merge as they do, where the tests agree on their keys
  pub merge_paired : (es : List (K × V)) → AllOf (λ e. P e.0) es → merge alike (paired p q es) ≡ paired p q (merge same es)
  merge_paired [] h = refl
  merge_paired (e ∷ es) h =
      ap (λ w. (p e.0, w) ∷ without alike (p e.0) (merge alike (paired p q es))) (last_paired e.0 e.1 es h.0 h.1) ∙ ap (λ l. (p e.0, q (last_value same e.0 e.1 es)) ∷ l) (ap (without alike (p e.0)) (merge_paired es h.1) ∙ without_paired e.0 (merge same es) h.0 (keys_keep P same es h.1))

-- ---- by texts

unkeyed : {K V : Type 0} (t : K → List ℕ) (es : List (K × V)) → map {A = (List ℕ × K) × V} {B = K × V} (λ e. (e.0.1, e.1)) (map (λ e. ((t e.0, e.0), e.1)) es) ≡ es
unkeyed t [] = refl
unkeyed t (e ∷ es) = ap (λ l. e ∷ l) (unkeyed t es)

anything : {K V : Type 0} (es : List (K × V)) → AllOf (λ e. Unit {0}) es
anything [] = tt
anything (e ∷ es) = (tt, anything es)

-- entries merged by the texts beside their keys are the entries merged by the test of those texts
pub merge_keyed : {K V : Type 0} (t : K → List ℕ) (es : List (K × V)) → merge_by_text (map (λ e. ((t e.0, e.0), e.1)) es) ≡ merge (λ a b. bytes_eq (t a) (t b)) es
merge_keyed {K} {V} t es =
    ap (map {A = (List ℕ × K) × V} {B = K × V} (λ e. (e.0.1, e.1))) (merge_paired (λ a. Unit {0}) (λ a. (t a, a)) (λ v. v) (λ a b. bytes_eq (t a) (t b)) same_text (λ a b p q. refl) es (anything es)) ∙ unkeyed t (merge (λ a b. bytes_eq (t a) (t b)) es)
