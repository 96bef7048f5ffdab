-- A text means one value; what writing a value answers.
use Rattle.std.proofs.Common.{◌≡◌, ℕ, List, [], sym, ◌∙◌}
use Rattle.std.specs.Prelude.{IfOk, IfErr, OnOk, Result, Ok, Err, true}
use Rattle.std.proofs.lemmas.List.{append-nil}
use Rattle.wave_wasm.specs.Types.{TypeTree, HasDistinctNames}
use Rattle.wave_wasm.specs.Values.{Value}
use Rattle.wave_wasm.specs.Text.{text, has_text}
use Rattle.wave_writer.specs.WriterState.{IsGrounded, IsForMemory}
use Rattle.wave_writer.specs.declared.writer.WriterError.{WriterError}
use Rattle.wave_grammar.proofs.Unambiguity.OneReading.{one_reading}
use Rattle.wave_grammar.proofs.RoundTrip.Leaves.{one_cut_into}
use Rattle.wasm_wave.specs.MainTheorem.{OneValue, IsTextOf, RefusesWriting}

-- a text means one value at most
pub one_value_of : (T : TypeTree) → HasDistinctNames T → OneValue T
one_value_of T distinct n m s v w (ts, cut, reads) (us, cut2, reads2) =
    let same : us ≡ ts = one_cut_into s us ts cut2 cut in
    (one_reading T distinct n m ts us [] v w reads reads2 (same ∙ sym (append-nil ts))).1

-- ---- writing

-- what was written is the text of a value that has one
pub text_written : {S : Type 0} (bytes : S → List ℕ) (v : Value) (r : Result S WriterError) → IfOk r (λ s. bytes s ≡ text v) → OnOk r (has_text v ≡ true) → IfOk r (λ s. IsTextOf v (bytes s))
text_written bytes v (Ok s) is has = (has, is)
text_written bytes v (Err e) is has = tt

-- what a refusal says of the value
pub writing_refused : {S : Type 0} (v : Value) (r : Result S WriterError) → IfErr r (λ e. IsGrounded e (has_text v) 0 0) → IfErr r (IsForMemory v) → IfErr r (RefusesWriting v)
writing_refused v (Ok s) grounded memory = tt
writing_refused v (Err e) grounded memory = (grounded, memory)
