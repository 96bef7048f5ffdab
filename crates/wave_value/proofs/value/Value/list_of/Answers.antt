use Rattle.std.proofs.Common.{subst, sym}
use Rattle.std.proofs.lemmas.Result.{err_from_is_err_and}
use Rattle.wave_value.specs.TypedValue.{IsAt}
use Rattle.wave_value.specs.Private.ValueModel.{ListFits}
use Rattle.wave_value.proofs.ValueModel.Lists.{all_more, all_items}
use Rattle.wave_value.proofs.ConstructorAnswers.ListsAndEnums.{is_at, not_at, length_refused, list_fits, list_taken, list_built, list_refused}
use Rattle.wave_value.proofs.value.Value.list_of.Goals as goal

pub returns-in_err-check_length-clause-refused : goal.returns-in_err-check_length-clause-refused
returns-in_err-check_length-clause-refused g c =
    let p = err_from_is_err_and c.from_residual.result c.from_residual.ensures.1 in
    rw (p.1, p.2) (length_refused g.S.ShowsValue.words c.args.ty.now c.args.vals.items _ c.in_err-check_length.ensures.refused)

pub returns-then-not-is_at-clause-refused : goal.returns-then-not-is_at-clause-refused
returns-then-not-is_at-clause-refused g c =
    list_refused g.S.ShowsValue.words _ _ c.deref-val-items.result.now _ c.loop-val.val-index c.val-item.result _ c.in-Some.ensures c.in_ok-check_length.ensures.counted c.deref-val-items.ensures.value c.loop-val-test.true c.val-item.is (not_at _ _ _ c.if-not-is_at.true c.is_at.ensures) c.wrong_type.ensures

pub loop-val-preserved : goal.loop-val-preserved
loop-val-preserved g c =
    all_more (IsAt c.in-Some.element.now) c.deref-val-items.result.now c.loop-val.val-index c.val-item.result c.loop-val-test.true c.val-item.is (is_at _ _ _ c.if-not-is_at.false c.is_at.ensures) c.loop-val.invariant

pub invariant_of-result : goal.invariant_of-result
invariant_of-result g c =
    subst (λ T. ListFits T c.args.vals.items) (sym c.in_ok-clone.ensures.cases) (list_fits c.args.ty.now _ c.args.vals.items c.in-Some.ensures c.in_ok-check_length.ensures.counted (all_items (IsAt c.in-Some.element.now) c.deref-val-items.result.now _ c.loop-val.val-index c.deref-val-items.ensures.value c.loop-val-test.false c.loop-val.invariant))

pub returns-clause-built : goal.returns-clause-built
returns-clause-built g c = list_built _ _ _ c.in_ok-clone.ensures.cases (invariant_of-result g c)

pub returns-clause-taken : goal.returns-clause-taken
returns-clause-taken g c =
    list_taken c.args.ty.now c.args.vals.items (subst (λ T. ListFits T c.args.vals.items) c.in_ok-clone.ensures.cases (invariant_of-result g c))
