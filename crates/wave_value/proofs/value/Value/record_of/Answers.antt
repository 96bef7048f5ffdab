use Rattle.std.proofs.Common.{map, sym, ap, ◌∙◌}
use Rattle.std.proofs.lemmas.Result.{err_from_is_err_and}
use Rattle.wave_wasm.specs.Borrowed.{named}
use Rattle.wave_type.specs.TypeModel.{by_bytes, record_part}
use Rattle.wave_value.specs.RecordConstructor.{last_under}
use Rattle.wave_value.proofs.ConstructorAnswers.Records.{record_fits, record_built, record_taken, record_refused}
use Rattle.wave_value.proofs.value.Value.record_of.Goals as goal

pub returns-in_err-vals-clause-refused : goal.returns-in_err-vals-clause-refused
returns-in_err-vals-clause-refused g c =
    let p = err_from_is_err_and c.from_residual.result c.from_residual.ensures.1 in
    rw (p.1, p.2) (record_refused g.S.ShowsValue.words c.args.ty.now (map by_bytes c.in-Some.stated.now.items) (named c.args.fields.items) _ c.in-Some.ensures c.in_err-vals.ensures.refused)

pub invariant_of-result : goal.invariant_of-result
invariant_of-result g c =
    record_fits c.in_ok-clone.field-0 (map by_bytes c.in-Some.stated.now.items) (last_under (named c.args.fields.items)) c.in_ok-vals.vals.items (c.in-Some.ensures ∙ ap record_part (sym c.in_ok-clone.ensures.cases)) c.in_ok-vals.ensures.given

pub returns-clause-built : goal.returns-clause-built
returns-clause-built g c =
    record_built c.args.ty.now c.in_ok-clone.field-0 (map by_bytes c.in-Some.stated.now.items) (named c.args.fields.items) c.in_ok-vals.vals.items c.in_ok-clone.ensures.cases c.in-Some.ensures c.in_ok-vals.ensures.given

pub returns-clause-taken : goal.returns-clause-taken
returns-clause-taken g c =
    record_taken c.args.ty.now (map by_bytes c.in-Some.stated.now.items) (named c.args.fields.items) c.in_ok-vals.vals.items c.in-Some.ensures c.in_ok-vals.ensures.given
