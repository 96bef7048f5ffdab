use Rattle.std.proofs.Common.{ℕ, Ok, eqb, refl, sym, subst}
use Rattle.std.proofs.lemmas.Result.{err_from_is_err_and}
use Rattle.wave_tape.specs.Private.TextWriters.{AreCounted}
use Rattle.wave_tape.proofs.WrittenRows.{list_of, fixed_of, list_counted, fixed_counted, fixed_stopped}
use Rattle.wave_tape.proofs.write.count_at.Goals as goal

pub returns-in_err-rest-in-Some : goal.returns-in_err-rest-in-Some
returns-in_err-rest-in-Some g c =
    let p = err_from_is_err_and c.from_residual.result c.from_residual.ensures.1 in
    rw (p.1, p.2) (let is = fixed_of (g.T.WasmType.tree c.args.ty.now) c.in-Some.length c.in-Some.ensures in fixed_stopped (g.T.WasmType.tree c.args.ty.now) is.0 c.in-Some.length (eqb c.in-Some.length 0) c.args.bytes.now c.in_err-rest-in-Some.field-0.0 is.1 refl c.in_err-rest-in-Some.ensures)

pub returns-in_ok-rest-in-Some : goal.returns-in_ok-rest-in-Some
returns-in_ok-rest-in-Some g c =
    let is = fixed_of (g.T.WasmType.tree c.args.ty.now) c.in-Some.length c.in-Some.ensures in
    subst (λ (n : ℕ). AreCounted (g.T.WasmType.tree c.args.ty.now) c.args.bytes.now (Ok (n, c.in_ok-rest-in-Some.rest))) (sym c.from.ensures) (fixed_counted (g.T.WasmType.tree c.args.ty.now) is.0 c.in-Some.length (eqb c.in-Some.length 0) c.args.bytes.now c.in_ok-rest-in-Some.rest is.1 refl c.in_ok-rest-in-Some.ensures)

pub returns-in-None : goal.returns-in-None
returns-in-None g c =
    let is = list_of (g.T.WasmType.tree c.args.ty.now) c.requires c.in-None.ensures in
    list_counted (g.T.WasmType.tree c.args.ty.now) is.0 c.args.bytes.now c.u64_at.result is.1 c.u64_at.ensures
