-- What was written by one write after another.
use Rattle.std.proofs.Common.{ℕ, ◌≡◌, ◌≢◌, ◌⊎◌, Bool, true, false, List, [], ◌∷◌, ◌++◌, Option, refl, sym, ap, subst, ◌∙◌, inl, inr, append_assoc}
use Rattle.std.specs.Prelude.{MatchBool}
use Rattle.std.proofs.KnownBytes.{Appends-nil, Appends-trans}
use Rattle.wave_files.specs.declared.output.Output.{Output}
use Rattle.wave_files.specs.Counts.{CountsOne}
use Rattle.wave_files.specs.Written.{WritesWhole, WritesLess}

longer : (x y : List ℕ) → x ≢ [] → x ++ y ≢ []
longer [] y some is = some refl
longer (b ∷ x) y some is = cc

module _ {W : Type 0} (contents : W → Option (List ℕ)) where
  pub whole_nothing : (a : Output W) → WritesWhole contents a a []
  whole_nothing a = (Appends-nil (contents a.writer), refl)

  pub whole_whole : (a b c : Output W) (s t : List ℕ) → WritesWhole contents a b s → WritesWhole contents b c t → WritesWhole contents a c (s ++ t)
  whole_whole a b c s t (first, well) (later, fine) = (Appends-trans _ _ _ s t first later, fine ∙ well)

  pub whole_less : (a b c : Output W) (s t : List ℕ) → WritesWhole contents a b s → WritesLess contents b c t → WritesLess contents a c (s ++ t)
  whole_less a b c s t (first, well) (one, prefix, rest, is, some, later) =
      (subst (λ n. CountsOne n c.failures) well one, s ++ prefix, rest, ap (λ z. s ++ z) is ∙ sym (append_assoc s prefix rest), some, Appends-trans _ _ _ s prefix first later)

  pub less_more : (a b : Output W) (s t : List ℕ) → WritesLess contents a b s → WritesLess contents a b (s ++ t)
  less_more a b s t (one, prefix, rest, is, some, wrote) = (one, prefix, rest ++ t, ap (λ z. z ++ t) is ∙ append_assoc prefix rest t, longer rest t some, wrote)

  -- one text more was written, unless a write had failed
  pub reported_more : (a b c : Output W) (s t : List ℕ) (was is : Bool) → MatchBool was (WritesWhole contents a b s) (WritesLess contents a b s)
      → (was ≡ true → is ≡ true → WritesWhole contents b c t) → (was ≡ true → is ≡ false → WritesLess contents b c t) → (was ≡ false → (c ≡ b) × (is ≡ false))
      → MatchBool is (WritesWhole contents a c (s ++ t)) (WritesLess contents a c (s ++ t))
  reported_more a b c s t true true reported whole less none = whole_whole a b c s t reported (whole refl refl)
  reported_more a b c s t true false reported whole less none = whole_less a b c s t reported (less refl refl)
  reported_more a b c s t false true reported whole less none = let h = none refl in absurd (cc (h.1))
  reported_more a b c s t false false reported whole less none = let h = none refl in subst (λ z. WritesLess contents a z (s ++ t)) (sym h.0) (less_more a b s t reported)

  pub either_reported : (a b : Output W) (s : List ℕ) (is : Bool) → MatchBool is (WritesWhole contents a b s) (WritesLess contents a b s) → WritesWhole contents a b s ⊎ WritesLess contents a b s
  either_reported a b s true reported = inl reported
  either_reported a b s false reported = inr reported
