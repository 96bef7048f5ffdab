use Rattle.std.proofs.Common.{◌++◌, List, ℕ, sym, ap, ◌∙◌}
use Rattle.std.specs.Int.{w8}
use Rattle.std.proofs.lemmas.Result.{err_from_is_err_and}
use Rattle.wave_wasm.specs.Text.{text}
use Rattle.wave_tape.specs.Reading.{number_at, value_at, tape_at}
use Rattle.wave_tape.proofs.Puts.{zero_of, some_of}
use Rattle.wave_tape.proofs.Readings.{fault_of, fails_of}
use Rattle.wave_tape.proofs.Whole.{version_stop, other_version, value_stop, whole_value, trailing}
use Rattle.wave_tape.proofs.write.write_tape.Goals as goal

pub returns-in_err-version : goal.returns-in_err-version
returns-in_err-version g c =
    let p = err_from_is_err_and c.from_residual.result c.from_residual.ensures.1 in
    rw (p.1, p.2) (λ named. fault_of (g.V.WasmValue.is_full (g.V.Type.WasmType.tree c.args.ty.now)) c.in_err-version.field-0.0 (number_at w8 c.args.bytes.now) (tape_at (g.V.Type.WasmType.tree c.args.ty.now) c.args.bytes.now) (version_stop (g.V.Type.WasmType.tree c.args.ty.now) c.args.bytes.now) c.in_err-version.ensures)

pub returns-then-version-ne1 : goal.returns-then-version-ne1
returns-then-version-ne1 g c = λ named. other_version (g.V.Type.WasmType.tree c.args.ty.now) c.args.bytes.now c.in_ok-version.version c.in_ok-version.rest.now c.in_ok-version.ensures c.if-version-ne1.true

pub returns-in_err-out : goal.returns-in_err-out
returns-in_err-out g c =
    let p = err_from_is_err_and c.from_residual-in_err-out.result c.from_residual-in_err-out.ensures.1 in
    rw (p.1, p.2) (λ named. tt)

pub returns-in_err-behind : goal.returns-in_err-behind
returns-in_err-behind g c =
    let p = err_from_is_err_and c.from_residual-in_err-behind.result c.from_residual-in_err-behind.ensures.1 in
    rw (p.1, p.2) (λ named. fails_of (g.V.WasmValue.is_full (g.V.Type.WasmType.tree c.args.ty.now)) (g.V.WasmValue.is_full (g.V.Type.WasmType.tree c.args.ty.now)) c.in_err-behind.field-0.0 (value_at (g.V.Type.WasmType.tree c.args.ty.now) c.in_ok-version.rest.now) (tape_at (g.V.Type.WasmType.tree c.args.ty.now) c.args.bytes.now) (λ full. full) (value_stop (g.V.Type.WasmType.tree c.args.ty.now) c.args.bytes.now c.in_ok-version.version c.in_ok-version.rest.now c.in_ok-version.ensures c.if-version-ne1.false) (c.in_err-behind.ensures named))

pub returns-then-not-is_empty : goal.returns-then-not-is_empty
returns-then-not-is_empty g c = λ named.
    let h = c.in_ok-behind.ensures in
    trailing (g.V.Type.WasmType.tree c.args.ty.now) c.args.bytes.now c.in_ok-version.version c.in_ok-version.rest.now c.in_ok-version.ensures c.if-version-ne1.false h.0 c.in_ok-behind.behind.now h.1 (some_of _ (sym c.is_empty.ensures ∙ c.if-not-is_empty.true))

pub returns : goal.returns
returns g c =
    let h = c.in_ok-behind.ensures in
    (h.0, whole_value (g.V.Type.WasmType.tree c.args.ty.now) c.args.bytes.now c.in_ok-version.version c.in_ok-version.rest.now c.in_ok-version.ensures c.if-version-ne1.false h.0 c.in_ok-behind.behind.now h.1 (zero_of _ (sym c.is_empty.ensures ∙ c.if-not-is_empty.false)), h.2 ∙ ap (λ (s : List ℕ). s ++ text h.0) c.in_ok-out.ensures.bytes)
