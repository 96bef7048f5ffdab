-- Labels as tokens, names that are picked, and merged entries that are merged again.
use Rattle.std.proofs.Common.{◌≡◌, ℕ, ◌≢◌, Bool, true, false, not, cond, List, [], ◌∷◌, ◌++◌, inl, inr, refl, ap, subst, ◌∙◌, arith}
use Rattle.std.specs.Prelude.{◌==◌, codes, if◌then◌else◌}
use Rattle.std.proofs.lemmas.Bool.{eqb-true}
use Rattle.wave_wasm.specs.Lists.{AllOf}
use Rattle.wave_wasm.specs.Names.{IsNoneOf}
use Rattle.wave_wasm.specs.Keywords.{keywords, is_keyword, case_label}
use Rattle.wave_wasm.specs.Merge.{merge, last_value, without}
use Rattle.wave_wasm.proofs.Names.NameTests.{none_of}
use Rattle.wave_lex.specs.Tokens as shapes
use Rattle.wave_lex.specs.Labels.{IsLabel}
use Rattle.wave_lex.proofs.RegularShapes.Derivatives.{after_into}
use Rattle.wave_grammar.specs.Token.{label}
use Rattle.wave_grammar.specs.LeafTokens.{name_of}
use Rattle.wave_grammar.proofs.RoundTrip.Injective.{IsOneToken, label_cut}

-- ---- labels

-- a label, bare or after a `%`, is one token
pub label_token : (name : List ℕ) → IsLabel name → IsOneToken name (label name)
label_token name h = label_cut name ([], name, refl, inl refl, h)

prefixed_token : (name : List ℕ) → IsLabel name → IsOneToken (37 ∷ name) (label (37 ∷ name))
prefixed_token name h = label_cut (37 ∷ name) (37 ∷ [], name, refl, inr (37, refl, refl), h)

-- a label has no `%`
pub label_name : (name : List ℕ) → IsLabel name → name_of name ≡ name
label_name [] h = refl
label_name (b ∷ more) h = by_test (b == 37) refl
  where
    by_test : (t : Bool) → (b == 37) ≡ t → (if t then more else b ∷ more) ≡ b ∷ more
    by_test true e = let same : b ≡ 37 = eqb-true b 37 e in absurd (after_into 37 shapes.label more (subst (λ (z : ℕ). IsLabel (z ∷ more)) same h))
    by_test false e = refl

-- how a case is written: a token that stands for its name and is no keyword
pub case_token : (name : List ℕ) → IsLabel name → IsOneToken (case_label name) (label (case_label name)) × (name_of (case_label name) ≡ name) × IsNoneOf keywords (case_label name)
case_token name h = by_test (is_keyword name) refl
  where
    no_word : (b : ℕ) (word : List ℕ) → 37 ≢ b → (37 ∷ name) ≢ (b ∷ word)
    no_word b word n e = n cc

    by_test : (t : Bool) → is_keyword name ≡ t
        → IsOneToken (if t then codes "%" ++ name else name) (label (if t then codes "%" ++ name else name)) × (name_of (if t then codes "%" ++ name else name) ≡ name) × IsNoneOf keywords (if t then codes "%" ++ name else name)
    by_test true e = (
      prefixed_token name h,
      refl,
      (
        no_word _ _ (λ f. omega (arith, f)),
        (no_word _ _ (λ f. omega (arith, f)), (no_word _ _ (λ f. omega (arith, f)), (no_word _ _ (λ f. omega (arith, f)), (no_word _ _ (λ f. omega (arith, f)), (no_word _ _ (λ f. omega (arith, f)), (no_word _ _ (λ f. omega (arith, f)), (no_word _ _ (λ f. omega (arith, f)), tt))))))),
      ),
    )
    by_test false e = (label_token name h, label_name name h, none_of keywords name e)

-- ---- merged entries

module _ {K V : Type 0} (same : K → K → Bool) where
  -- no key is the key of an entry after it
  abbrev pub AreApart : List (K × V) → Type 0
  AreApart [] = Unit {0}
  AreApart (e ∷ es) = AllOf (λ f. same e.0 f.0 ≡ false) es × AreApart es

  kept : (P : K × V → Type 0) (key : K) (es : List (K × V)) → AllOf P es → AllOf P (without same key es)
  kept P key [] h = tt
  kept P key (e ∷ es) h = by_test (same key e.0) (kept P key es h.1)
    where
      by_test : (t : Bool) → AllOf P (without same key es) → AllOf P (cond (not t) (e ∷ without same key es) (without same key es))
      by_test true w = w
      by_test false w = (h.0, w)

  kept_apart : (key : K) (es : List (K × V)) → AreApart es → AreApart (without same key es)
  kept_apart key [] h = tt
  kept_apart key (e ∷ es) h = by_test (same key e.0) (kept_apart key es h.1)
    where
      by_test : (t : Bool) → AreApart (without same key es) → AreApart (cond (not t) (e ∷ without same key es) (without same key es))
      by_test true w = w
      by_test false w = (kept (λ f. same e.0 f.0 ≡ false) key es h.0, w)

  kept_other : (key : K) (es : List (K × V)) → AllOf (λ f. same key f.0 ≡ false) (without same key es)
  kept_other key [] = tt
  kept_other key (e ∷ es) = by_test (same key e.0) refl (kept_other key es)
    where
      by_test : (t : Bool) → same key e.0 ≡ t → AllOf (λ f. same key f.0 ≡ false) (without same key es) → AllOf (λ f. same key f.0 ≡ false) (cond (not t) (e ∷ without same key es) (without same key es))
      by_test true f w = w
      by_test false f w = (f, w)

  -- merged entries have keys apart
  merge_apart : (es : List (K × V)) → AreApart (merge same es)
  merge_apart [] = tt
  merge_apart (e ∷ es) = (kept_other e.0 (merge same es), kept_apart e.0 (merge same es) (merge_apart es))

  last_alone : (key : K) (v : V) (es : List (K × V)) → AllOf (λ f. same key f.0 ≡ false) es → last_value same key v es ≡ v
  last_alone key v [] h = refl
  last_alone key v (e ∷ es) h = rw h.0 (last_alone key v es h.1)

  without_none : (key : K) (es : List (K × V)) → AllOf (λ f. same key f.0 ≡ false) es → without same key es ≡ es
  without_none key [] h = refl
  without_none key (e ∷ es) h = rw h.0 (ap (λ (z : List (K × V)). e ∷ z) (without_none key es h.1))

  apart_merge : (es : List (K × V)) → AreApart es → merge same es ≡ es
  apart_merge [] h = refl
  apart_merge (e ∷ es) h =
      let rest : merge same es ≡ es = apart_merge es h.1 in
      ap (λ (z : V). (e.0, z) ∷ without same e.0 (merge same es)) (last_alone e.0 e.1 es h.0)
      ∙ (ap (λ (z : List (K × V)). e ∷ without same e.0 z) rest ∙ ap (λ (z : List (K × V)). e ∷ z) (without_none e.0 es h.0))

  -- what is merged is merged again to itself
  pub merge_twice : (es : List (K × V)) → merge same (merge same es) ≡ merge same es
  merge_twice es = apart_merge (merge same es) (merge_apart es)

  last_keeps : (P : K → Type 0) (Q : V → Type 0) (key : K) (v : V) (es : List (K × V)) → Q v → AllOf (λ e. P e.0 × Q e.1) es → Q (last_value same key v es)
  last_keeps P Q key v [] q h = q
  last_keeps P Q key v (e ∷ es) q h = last_keeps P Q key (if same key e.0 then e.1 else v) es (by_test (same key e.0)) h.1
    where
      by_test : (t : Bool) → Q (if t then e.1 else v)
      by_test true = h.0.1
      by_test false = q

  -- merged entries have keys and values of the entries
  pub merge_keeps : (P : K → Type 0) (Q : V → Type 0) (es : List (K × V)) → AllOf (λ e. P e.0 × Q e.1) es → AllOf (λ e. P e.0 × Q e.1) (merge same es)
  merge_keeps P Q [] h = tt
  merge_keeps P Q (e ∷ es) h = ((h.0.0, last_keeps P Q e.0 e.1 es h.0.1 h.1), kept (λ f. P f.0 × Q f.1) e.0 (merge same es) (merge_keeps P Q es h.1))
