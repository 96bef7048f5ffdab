use Rattle.std.proofs.Common.{sym, ◌∙◌}
use Rattle.std.specs.Int.{w8}
use Rattle.std.proofs.lemmas.Result.{err_from_is_err_and}
use Rattle.wave_tape.specs.Reading.{number_at, value_at, tape_at}
use Rattle.wave_tape.proofs.Puts.{zero_of, some_of}
use Rattle.wave_tape.proofs.Readings.{fault_of, fails_of}
use Rattle.wave_tape.proofs.Whole.{version_stop, other_version, value_stop, whole_value, trailing}
use Rattle.wave_tape.proofs.decode.read_tape.Goals as goal

pub returns-in_err-version : goal.returns-in_err-version
returns-in_err-version g c =
    let p = err_from_is_err_and c.from_residual.result c.from_residual.ensures.1 in
    rw (p.1, p.2) (λ distinct named. fault_of (g.V.WasmValue.is_full (g.V.Type.WasmType.tree c.args.ty.now)) c.in_err-version.field-0.0 (number_at w8 c.args.bytes.now) (tape_at (g.V.Type.WasmType.tree c.args.ty.now) c.args.bytes.now) (version_stop (g.V.Type.WasmType.tree c.args.ty.now) c.args.bytes.now) c.in_err-version.ensures)

pub returns-then-version-ne1 : goal.returns-then-version-ne1
returns-then-version-ne1 g c = λ distinct named. other_version (g.V.Type.WasmType.tree c.args.ty.now) c.args.bytes.now c.in_ok-version.version c.in_ok-version.rest.now c.in_ok-version.ensures c.if-version-ne1.true

pub returns-in_err-val : goal.returns-in_err-val
returns-in_err-val g c =
    let p = err_from_is_err_and c.from_residual-in_err-val.result c.from_residual-in_err-val.ensures.1 in
    rw (p.1, p.2) (λ distinct named.
    fails_of (g.V.WasmValue.is_full (g.V.Type.WasmType.tree c.args.ty.now)) (g.V.WasmValue.is_full (g.V.Type.WasmType.tree c.args.ty.now)) c.in_err-val.field-0.0 (value_at (g.V.Type.WasmType.tree c.args.ty.now) c.in_ok-version.rest.now) (tape_at (g.V.Type.WasmType.tree c.args.ty.now) c.args.bytes.now) (λ full. full)
    (value_stop (g.V.Type.WasmType.tree c.args.ty.now) c.args.bytes.now c.in_ok-version.version c.in_ok-version.rest.now c.in_ok-version.ensures c.if-version-ne1.false) (c.in_err-val.ensures distinct named))

pub returns-then-not-is_empty : goal.returns-then-not-is_empty
returns-then-not-is_empty g c = λ distinct named.
    trailing (g.V.Type.WasmType.tree c.args.ty.now) c.args.bytes.now c.in_ok-version.version c.in_ok-version.rest.now c.in_ok-version.ensures c.if-version-ne1.false (g.V.WasmValue.tree c.in_ok-val.val) c.in_ok-val.behind.now (c.in_ok-val.ensures distinct).0 (some_of _ (sym c.is_empty.ensures ∙ c.if-not-is_empty.true))

pub returns : goal.returns
returns g c = λ distinct.
    let h = c.in_ok-val.ensures distinct in
    (whole_value (g.V.Type.WasmType.tree c.args.ty.now) c.args.bytes.now c.in_ok-version.version c.in_ok-version.rest.now c.in_ok-version.ensures c.if-version-ne1.false (g.V.WasmValue.tree c.in_ok-val.val) c.in_ok-val.behind.now h.0 (zero_of _ (sym c.is_empty.ensures ∙ c.if-not-is_empty.false)), h.1)
