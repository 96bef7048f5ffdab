use Rattle.std.proofs.Common.{length, refl, arith, ◌∙◌, ap}
use Rattle.wave_wasm.specs.HasType.{HasType}
use Rattle.wave_wasm.specs.Text.{text}
use Rattle.wave_writer.proofs.CanonicalText.Writable.{writes}
use Rattle.wave_tape.specs.Reading.{tape_at}
use Rattle.wave_tape.proofs.Taken.{tape_taken}
use Rattle.wave_tape.proofs.TypedReadings.{tape_typed}
use Rattle.wave_tape.proofs.Whole.{first_fault, lacking, within, again, same_value}
use Rattle.wave_tape.proofs.write.write.Goals as goal

pub returns-in-Ok-clause-written : goal.returns-in-Ok-clause-written
returns-in-Ok-clause-written g c =
    let h = c.in-Ok.ensures in
    let typed : HasType (g.V.Type.WasmType.tree c.args.ty.now) h.0 = tape_typed (g.V.Type.WasmType.tree c.args.ty.now) c.args.bytes.now h.0 (λ i. omega (arith, c.type_inv.bytes i)) h.1 in
    (h.0, typed, tape_taken (g.V.Type.WasmType.tree c.args.ty.now) c.args.bytes.now h.0 (λ i. omega (arith, c.type_inv.bytes i)) h.1, writes (g.V.Type.WasmType.tree c.args.ty.now) h.0 typed, h.2)

pub returns-in-Ok-clause-only : goal.returns-in-Ok-clause-only
returns-in-Ok-clause-only g c = λ v distinct named typed same.
    let h = c.in-Ok.ensures in
    h.2 ∙ ap text (same_value (tape_at (g.V.Type.WasmType.tree c.args.ty.now) c.args.bytes.now) h.0 v h.1 (again (g.V.Type.WasmType.tree c.args.ty.now) v c.args.bytes.now distinct typed (omega arith) same))

pub returns-in-Err-clause-only : goal.returns-in-Err-clause-only
returns-in-Err-clause-only g c = λ v distinct named typed same.
    lacking (g.V.WasmValue.is_full (g.V.Type.WasmType.tree c.args.ty.now)) c.in-Err.stop c.new.result (length c.args.bytes.now) (tape_at (g.V.Type.WasmType.tree c.args.ty.now) c.args.bytes.now) v (record { kind = c.new.ensures.kind; place = c.new.ensures.place }) (c.in-Err.ensures named) (again (g.V.Type.WasmType.tree c.args.ty.now) v c.args.bytes.now distinct typed (omega arith) same)

pub returns-in-Err-clause-fault : goal.returns-in-Err-clause-fault
returns-in-Err-clause-fault g c = λ named. first_fault (g.V.WasmValue.is_full (g.V.Type.WasmType.tree c.args.ty.now)) c.in-Err.stop c.new.result c.args.bytes.now (length c.args.bytes.now) (tape_at (g.V.Type.WasmType.tree c.args.ty.now) c.args.bytes.now) refl (record { kind = c.new.ensures.kind; place = c.new.ensures.place }) (c.in-Err.ensures named)

pub returns-in-Err-clause-place : goal.returns-in-Err-clause-place
returns-in-Err-clause-place g c =
    let h = within c.in-Err.stop c.new.result (length c.args.bytes.now) (record { kind = c.new.ensures.kind; place = c.new.ensures.place }) in
    omega (arith, h)
