-- What is said of what may stand at a place.
use Rattle.std.proofs.Common.{◌≡◌, ◌≢◌, ◌⊎◌, inl, inr, List, [], ◌∷◌, ◌++◌, Bool, true, false, refl, ap, ◌∙◌, codes}
use Rattle.wave_type_explain.specs.declared.expected.Class.{Class}
use Rattle.wave_type_explain.specs.Expected.{expected_words}
use Rattle.wave_type_explain.specs.TypeExplained.{expectation}

-- something may stand there: the line says what
pub some_said : (classes : List Class) (end : Bool) → (classes ≢ []) ⊎ (end ≡ true) → expectation classes end ≡ codes "  = expected " ++ (expected_words classes end ++ codes "\n")
some_said [] true some = refl
some_said [] false (inl some) = absurd (some refl)
some_said [] false (inr some) = cc
some_said (c ∷ more) end some = refl

-- nothing may: nothing is said
pub none_said : (classes : List Class) (end : Bool) → classes ≡ [] → end ≡ false → expectation classes end ≡ []
none_said classes end none not_end = ap (λ (x : List Class). expectation x end) none ∙ ap (λ (b : Bool). expectation [] b) not_end
