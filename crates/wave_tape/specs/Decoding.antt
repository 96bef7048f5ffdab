-- What a refusal of a tape says.
use Rattle.std.specs.Prelude.{ℕ, ◌≡◌, ◌⊎◌, ◌-◌, List, length, Result, Err}
use Rattle.wave_wasm.specs.Values.{Value}
use Rattle.wave_tape.specs.Reading.{Fault}
use Rattle.wave_tape.specs.declared.error.TapeErrorKind.TheVariants as kinds
use Rattle.wave_tape.specs.Errors.{Refusal}

-- memory was refused, and the place is 0, or a constructor refused, and that not at a full type
abbrev pub IsLacking : Type 0 → Refusal → Type 0
IsLacking Full e = ((e.kind ≡ kinds.OutOfMemory) × (e.place ≡ 0)) ⊎ ((e.kind ≡ kinds.Value) × (Full → ⊥))

-- so, or it is the fault that reading gives, where it gives it
abbrev pub IsFirstFault : Type 0 → Refusal → List ℕ → Result Value Fault → Type 0
IsFirstFault Full e bytes read = IsLacking Full e ⊎ ((left : ℕ) × (read ≡ Err (record { kind = e.kind; left = left })) × (e.place ≡ length bytes - left))
