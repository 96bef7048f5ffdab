-- What is said of what may stand at a place.
use Rattle.std.proofs.Common.{ℕ, ◌≡◌, ◌≢◌, ◌⊎◌, inl, inr, List, [], ◌∷◌, ◌++◌, Bool, true, false, Some, None, refl, ap, ◌∙◌, append_assoc}
use Rattle.wave_lex.specs.declared.lex.Token.{Token}
use Rattle.wave_expected.specs.declared.expected.Expected.{Expected}
use Rattle.wave_explain.specs.declared.syntax.Reading.{Reading}
use Rattle.wave_explain.specs.declared.syntax.Reading.TheVariants.{Value, Call}
use Rattle.wave_expected.specs.Expected.{expected_words}
use Rattle.wave_explain.specs.ValueExplained.{expected_line, expectation, BeginWith}
use Rattle.wave_explain.specs.Private.Readings.{MayStandAs, TellsAs}

-- something may stand there: the line says what
pub some_expected : (classes : List Token) (end : Bool) → (classes ≢ []) ⊎ (end ≡ true) → expectation classes end ≡ expected_line (expected_words classes end) []
some_expected [] true some = refl
some_expected [] false (inl some) = absurd (some refl)
some_expected [] false (inr some) = cc
some_expected (c ∷ more) end some = refl

-- nothing may: nothing is said
pub none_expected : (classes : List Token) (end : Bool) → classes ≡ [] → end ≡ false → expectation classes end ≡ []
none_expected classes end none not_end = ap (λ (x : List Token). expectation x end) none ∙ ap (λ (b : Bool). expectation [] b) not_end

-- what may stand there is said
pub said_as : (r : Reading) (source : List ℕ) (at : ℕ) (x : Expected) (said : List ℕ) → MayStandAs r source at (Some x) → said ≡ expectation x.classes.items x.may_end → TellsAs r source at said
said_as Value source at x said may is = (x, may, is)
said_as Call source at x said may is = inr (x, may, is)

-- a call has no name before the place
pub unnamed_as : (r : Reading) (source : List ℕ) (at : ℕ) (said : List ℕ) → MayStandAs r source at None → said ≡ [] → TellsAs r source at said
unnamed_as Value source at said may is = absurd may
unnamed_as Call source at said may is = inl (may, is)

-- further lines change nothing
pub more_lines : (Reports : List ℕ → ℕ → List ℕ → Type 0) (source : List ℕ) (at : ℕ) (lines more all : List ℕ) → all ≡ lines ++ more → BeginWith Reports source at lines → BeginWith Reports source at all
more_lines Reports source at lines more all is (said, rest, reported, begin) =
    (said, rest ++ more, reported, is ∙ (ap (λ x. x ++ more) begin ∙ append_assoc said rest more))

-- what is said, and further lines
pub said_first : (r : Reading) (source : List ℕ) (at : ℕ) (said more all : List ℕ) → all ≡ said ++ more → TellsAs r source at said → BeginWith (TellsAs r) source at all
said_first r source at said more all is tells = (said, more, tells, is)
