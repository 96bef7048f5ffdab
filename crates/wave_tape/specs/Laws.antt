-- Laws of tapes.
use Rattle.std.specs.Prelude.{ℕ, ◌≡◌, true, ◌<◌, ◌≤◌, ◌^◌, List, ◌++◌, length}
use Rattle.wave_wasm.specs.Names.{AreDistinct}
use Rattle.wave_wasm.specs.Types.{TypeTree, Types, HasDistinctNames, EachNamesOfTypes}
use Rattle.wave_wasm.specs.Values.{Value}
use Rattle.wave_wasm.specs.HasType.{HasType, HasTypes}
use Rattle.wave_tape.specs.Tape.{bytes_of, tape, call_tape}
use Rattle.wave_tape.specs.TypeTape.{type_tape, has_type_tape}

-- no two values of one type have one tape, whatever follows it
abbrev pub OneTapeEach : Type 0
OneTapeEach =
    (T : TypeTree) (v w : Value) (r s : List ℕ) → HasDistinctNames T → HasType T v → HasType T w
    → length (tape v ++ r) < 2 ^ 64 → tape v ++ r ≡ tape w ++ s → (v ≡ w) × (r ≡ s)

-- each value of a type takes a byte of a tape at least
abbrev pub TakesAByte : Type 0
TakesAByte = (T : TypeTree) (v : Value) → HasType T v → 1 ≤ length (bytes_of v)

-- no two types have one tape, whatever follows it
abbrev pub OneTypeTapeEach : Type 0
OneTypeTapeEach =
    (T U : TypeTree) (r s : List ℕ) → has_type_tape T ≡ true → has_type_tape U ≡ true
    → length (type_tape T ++ r) < 2 ^ 64 → type_tape T ++ r ≡ type_tape U ++ s → (T ≡ U) × (r ≡ s)

-- no two calls with arguments of the same types have one tape, whatever follows it
abbrev pub OneCallTapeEach : Type 0
OneCallTapeEach =
    (Ts : Types) (name other : List ℕ) (vs ws : List Value) (r s : List ℕ) → EachNamesOfTypes AreDistinct Ts → HasTypes Ts vs → HasTypes Ts ws
    → length (call_tape name vs ++ r) < 2 ^ 64 → call_tape name vs ++ r ≡ call_tape other ws ++ s → (name ≡ other) × (vs ≡ ws) × (r ≡ s)
