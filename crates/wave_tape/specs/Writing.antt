-- The text that is written of a tape.
use Rattle.std.specs.Prelude.{ℕ, ◌≡◌, true, List}
use Rattle.wave_wasm.specs.HasType.{HasType}
use Rattle.wave_wasm.specs.Text.{text, has_text}
use Rattle.wave_wasm.specs.Types.{TypeTree}
use Rattle.wave_wasm.specs.Values.{Value}
use Rattle.wave_tape.specs.Tape.{tape}

-- the canonical text of the value of the type of which the bytes are the tape
abbrev pub IsTextOfTape : TypeTree → List ℕ → List ℕ → Type 0
IsTextOfTape T bytes s = (v : Value) × HasType T v × (bytes ≡ tape v) × (has_text v ≡ true) × (s ≡ text v)
