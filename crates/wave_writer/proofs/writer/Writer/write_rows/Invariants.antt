use Rattle.std.proofs.Common.{◌≡◌, ◌-◌, length, true}
use Rattle.wave_wasm.specs.Text.{has_text, text}
use Rattle.wave_writer.proofs.CanonicalText.Rows.{Taken}
use Rattle.wave_writer.proofs.writer.Writer.write_rows.Given as goal

abbrev pub invariant-loop-at : goal.invariant-loop-at
invariant-loop-at g l =
    Taken (λ v. text (g.V.WasmValue.tree v.now)) (λ v. has_text (g.V.WasmValue.tree v.now) ≡ true) l.items l.at (g.W.TextWrite.output l.fn.self) (g.W.TextWrite.output l.self)

abbrev pub decreases-loop-at : goal.decreases-loop-at
decreases-loop-at g l = length l.items - l.at
