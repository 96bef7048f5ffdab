-- Words of the contracts of reading and writing.
use Rattle.std.specs.Prelude.{ℕ, ◌≡◌, ◌≤◌, ◌↔◌, List, true}
use Rattle.wave_wasm.specs.Types.{TypeTree}
use Rattle.wave_wasm.specs.Values.{Value}
use Rattle.wave_wasm.specs.HasType.{HasType}
use Rattle.wave_wasm.specs.Merge.{merged}
use Rattle.wave_wasm.specs.Text.{text, has_text}
use Rattle.wave_writer.specs.WriterState.{IsGrounded, IsForMemory}
use Rattle.wave_writer.specs.declared.writer.WriterError.{WriterError}
use Rattle.wave_grammar.specs.Tree.{levels}
use Rattle.wave_grammar.specs.Denotes.{Means}
use Rattle.wave_grammar.specs.RoundTripLaws.{ReadBack}

-- no text means two values of the type, whatever the levels
abbrev pub OneValue : TypeTree → Type 0
OneValue T = (n m : ℕ) (s : List ℕ) (v w : Value) → Means T n s v → Means T m s w → v ≡ w

-- these are the bytes of the value's canonical text, which it has
abbrev pub IsTextOf : Value → List ℕ → Type 0
IsTextOf v s = (has_text v ≡ true) × (s ≡ text v)

-- `UnsupportedType` is answered only for a value that has no text, and `Io` never; a value of a type is refused for lack of memory alone
abbrev pub RefusesWriting : Value → WriterError → Type 0
RefusesWriting v e = IsGrounded e (has_text v) 0 0 × IsForMemory v e

-- another value of the type has the same canonical text exactly where the two are equal, merged
abbrev pub IsDistinguishedByText : TypeTree → Value → Type 0
IsDistinguishedByText T v = (w : Value) → HasType T w → (text v ≡ text w) ↔ (merged v ≡ merged w)

-- where its canonical text holds at most n levels, that text means the value, merged, within n levels
abbrev pub IsReadAgain : TypeTree → Value → Type 0
IsReadAgain T v = (n : ℕ) (back : ReadBack T v) → levels back.tree ≤ n → Means T n (text v) (merged v)
