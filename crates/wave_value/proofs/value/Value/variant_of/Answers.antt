use Rattle.std.proofs.lemmas.Result.{err_from_is_err_and}
use Rattle.wave_value.proofs.ConstructorAnswers.VariantsAndFlags.{variant_fits, variant_built, variant_taken, payload_refused, unknown}
use Rattle.wave_value.proofs.value.Value.variant_of.Goals as goal

pub returns-in_err-val-in-Some-clause-refused : goal.returns-in_err-val-in-Some-clause-refused
returns-in_err-val-in-Some-clause-refused g c =
    let p = err_from_is_err_and c.from_residual.result c.from_residual.ensures.1 in
    rw (p.1, p.2) (payload_refused g.S.ShowsValue.words _ _ _ _ _ _ c.in-Variant.ensures c.in-Some.ensures c.variant_case.ensures c.in_err-val-in-Some.ensures.refused)

pub invariant_of-result : goal.invariant_of-result
invariant_of-result g c =
    variant_fits c.args.ty.now _ _ _ _ _ _ c.in_ok-clone-in-Some.ensures.cases c.in-Some.ensures c.variant_case.ensures c.in_ok-val-in-Some.ensures.boxed c.in_ok-val-in-Some.ensures.taken

pub returns-in_ok-clone-in-Some-clause-built : goal.returns-in_ok-clone-in-Some-clause-built
returns-in_ok-clone-in-Some-clause-built g c =
    variant_built _ _ _ _ _ _ c.in_ok-clone-in-Some.ensures.cases c.in-Some.ensures c.in_ok-val-in-Some.ensures.boxed (invariant_of-result g c)

pub returns-in_ok-clone-in-Some-clause-taken : goal.returns-in_ok-clone-in-Some-clause-taken
returns-in_ok-clone-in-Some-clause-taken g c = variant_taken _ _ _ _ _ c.in-Some.ensures c.variant_case.ensures c.in_ok-val-in-Some.ensures.taken

pub returns-in-None-clause-refused : goal.returns-in-None-clause-refused
returns-in-None-clause-refused g c = unknown g.S.ShowsValue.words _ _ _ _ c.in-Variant.ensures c.in-None.ensures c.named.ensures
