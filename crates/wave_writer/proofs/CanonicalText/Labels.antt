-- How the name of a case is written.
use Rattle.std.proofs.Common.{◌≡◌, ◌≢◌, ℕ, List, ◌++◌, false, inl, inr, refl, Option, Some, None, codes}
use Rattle.std.specs.Str.{bytes_eq}
use Rattle.std.proofs.lemmas.Bool.{cases_Bool}
use Rattle.std.proofs.lemmas.Slice.Eq.{bytes_eq-Decides}
use Rattle.wave_wasm.specs.declared.keyword.Keyword.{Keyword}
use Rattle.wave_wasm.specs.declared.keyword.Keyword.TheVariants as keyword
use Rattle.wave_wasm.specs.Keywords.{keyword_text, case_label, DecodesTo}

-- texts that differ don't match
no_match : (s t : List ℕ) → s ≢ t → bytes_eq s t ≡ false
no_match s t differ = elim (cases_Bool (bytes_eq s t)) [
  | inl h ↦ absurd (differ ((bytes_eq-Decides s t).0 h))
  | inr h ↦ h
]

word_labelled : (k : Keyword) → case_label (keyword_text k) ≡ codes "%" ++ keyword_text k
word_labelled keyword.True = refl
word_labelled keyword.False = refl
word_labelled keyword.Some = refl
word_labelled keyword.None = refl
word_labelled keyword.Ok = refl
word_labelled keyword.Err = refl
word_labelled keyword.Inf = refl
word_labelled keyword.Nan = refl

-- a keyword stands after a `%`
pub keyword_labelled : (s : List ℕ) (r : Option Keyword) (k : Keyword) → DecodesTo s r → r ≡ Some k → case_label s ≡ codes "%" ++ s
keyword_labelled s (Some other) k e is = rw e (word_labelled other)
keyword_labelled s None k e is = absurd (cc)

-- any other name stands for itself
pub name_labelled : (s : List ℕ) (r : Option Keyword) → DecodesTo s r → r ≡ None → case_label s ≡ s
name_labelled s (Some other) e is = absurd (cc)
name_labelled s None other is =
    rw (no_match s _ (other keyword.True), no_match s _ (other keyword.False), no_match s _ (other keyword.Some), no_match s _ (other keyword.None), no_match s _ (other keyword.Ok), no_match s _ (other keyword.Err), no_match s _ (other keyword.Inf), no_match s _ (other keyword.Nan)) refl
