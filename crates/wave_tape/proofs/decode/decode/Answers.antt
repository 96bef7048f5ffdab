use Rattle.std.proofs.Common.{length, refl, arith}
use Rattle.wave_tape.specs.Reading.{tape_at}
use Rattle.wave_tape.proofs.Taken.{tape_taken}
use Rattle.wave_tape.proofs.Whole.{first_fault, lacking, within, again, same_value}
use Rattle.wave_tape.proofs.decode.decode.Goals as goal

pub returns-in-Ok-clause-built : goal.returns-in-Ok-clause-built
returns-in-Ok-clause-built g c = λ distinct.
    let h = c.in-Ok.ensures distinct in
    (g.met.V.WasmValue.of_fits c.in-Ok.val (g.V.Type.WasmType.tree c.args.ty.now) h.1, h.1, tape_taken (g.V.Type.WasmType.tree c.args.ty.now) c.args.bytes.now (g.V.WasmValue.tree c.in-Ok.val) (λ i. omega (arith, c.type_inv.bytes i)) h.0)

pub returns-in-Ok-clause-only : goal.returns-in-Ok-clause-only
returns-in-Ok-clause-only g c = λ v distinct named typed same.
    same_value (tape_at (g.V.Type.WasmType.tree c.args.ty.now) c.args.bytes.now) (g.V.WasmValue.tree c.in-Ok.val) v (c.in-Ok.ensures distinct).0 (again (g.V.Type.WasmType.tree c.args.ty.now) v c.args.bytes.now distinct typed (omega arith) same)

pub returns-in-Err-clause-only : goal.returns-in-Err-clause-only
returns-in-Err-clause-only g c = λ v distinct named typed same.
    lacking (g.V.WasmValue.is_full (g.V.Type.WasmType.tree c.args.ty.now)) c.in-Err.stop c.new.result (length c.args.bytes.now) (tape_at (g.V.Type.WasmType.tree c.args.ty.now) c.args.bytes.now) v (record { kind = c.new.ensures.kind; place = c.new.ensures.place }) (c.in-Err.ensures distinct named) (again (g.V.Type.WasmType.tree c.args.ty.now) v c.args.bytes.now distinct typed (omega arith) same)

pub returns-in-Err-clause-fault : goal.returns-in-Err-clause-fault
returns-in-Err-clause-fault g c = λ distinct named.
    first_fault (g.V.WasmValue.is_full (g.V.Type.WasmType.tree c.args.ty.now)) c.in-Err.stop c.new.result c.args.bytes.now (length c.args.bytes.now) (tape_at (g.V.Type.WasmType.tree c.args.ty.now) c.args.bytes.now) refl (record { kind = c.new.ensures.kind; place = c.new.ensures.place }) (c.in-Err.ensures distinct named)

pub returns-in-Err-clause-place : goal.returns-in-Err-clause-place
returns-in-Err-clause-place g c =
    let h = within c.in-Err.stop c.new.result (length c.args.bytes.now) (record { kind = c.new.ensures.kind; place = c.new.ensures.place }) in
    omega (arith, h)
