use Rattle.std.proofs.Common.{◌≡◌, true}
use Rattle.wave_wasm.specs.Text.{has_text, text}
use Rattle.wave_writer.proofs.CanonicalText.Rows.{Row}
use Rattle.wave_writer.proofs.rows.fill_row.Given as goal

abbrev pub invariant-loop-i : goal.invariant-loop-i
invariant-loop-i g l = Row (λ v. text (g.V.WasmValue.tree v.now)) (λ v. has_text (g.V.WasmValue.tree v.now) ≡ true) l.items l.i l.start l.room
