-- What may stand at a place, and what is reported of it, by what a text is read as.
use Rattle.std.specs.Prelude.{ℕ, List, Option, Some, None}
use Rattle.wave_expected.specs.declared.expected.Expected.{Expected}
use Rattle.wave_expected.specs.Expected.{IsExpected, IsExpectedInCallWithin, IsWithoutName}
use Rattle.wave_explain.specs.declared.syntax.Reading.{Reading}
use Rattle.wave_explain.specs.declared.syntax.Reading.TheVariants.{Value, Call}
use Rattle.wave_explain.specs.ValueExplained.{ReportsExpectedAt}
use Rattle.wave_explain.specs.CallExplained.{ReportsExpectedInCall}

-- this may stand there; or a call has no name before it
abbrev pub MayStandAs : Reading → List ℕ → ℕ → Option Expected → Type 0
MayStandAs Value source at (Some x) = IsExpected source at 1000 x
MayStandAs Value source at None = ⊥
MayStandAs Call source at (Some x) = IsExpectedInCallWithin 1000 source at x
MayStandAs Call source at None = IsWithoutName source at

-- so much is said of the place
abbrev pub TellsAs : Reading → List ℕ → ℕ → List ℕ → Type 0
TellsAs Value = ReportsExpectedAt
TellsAs Call = ReportsExpectedInCall
