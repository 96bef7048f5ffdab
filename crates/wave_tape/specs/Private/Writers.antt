-- What a writer of the code answers.
use Rattle.std.specs.Prelude.{ℕ, ◌≡◌, Bool, true, false, List, ◌++◌, length, take, Result, OnOk, IfErr}
use Rattle.wave_tape.specs.declared.error.TapeErrorKind.TheVariants as kinds
use Rattle.wave_tape.specs.declared.error.Stop.{Stop}
use Rattle.wave_tape.specs.declared.error.Stop.TheVariants as stops

-- writing stopped for want of memory, or because a part has no tape
abbrev pub IsGrounded : Stop → Bool → Type 0
IsGrounded stops.Memory has = Unit {0}
IsGrounded (stops.Refused left) has = ⊥
IsGrounded (stops.Fault kind left) has = (kind ≡ kinds.Unsupported) × (has ≡ false)

-- the answer of a call that appends bytes: `Ok` where all were appended and each part has a tape, else why not. What was there stays in front
pub record Puts (bytes : List ℕ) (has : Bool) (result : Result (Unit {0}) Stop) (old new : List ℕ) : Type 0 where
  pub ok : OnOk result ((new ≡ old ++ bytes) × (has ≡ true))
  pub err : IfErr result (λ s. IsGrounded s has)
  pub kept : take (length old) new ≡ old
