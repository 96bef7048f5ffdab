use Rattle.std.proofs.Common.{inl, inr, subst}
use Rattle.wave_grammar.proofs.Elaboration.ParamsInTurn.{error_handed}
use Rattle.wave_tree.specs.UntypedCall.{IsCalledWithin, RefusesCallWithin, RefusesParamsAt, GivesParamsAt}
use Rattle.wave_type.specs.FunctionType.{types_of}
use Rattle.wave_value.specs.FullTypes.{IsFull}
use Rattle.wave_value.specs.TypedValue.{TypedValue, IsAt}
use Rattle.wave_c.specs.Failures.{limit_of, RefusesCallAt}
use Rattle.wave_c.proofs.untyped.read_call.Goals as goal

pub returns-in_err-call-clause-refused : goal.returns-in_err-call-clause-refused
returns-in_err-call-clause-refused c =
    let n = limit_of c.args.levels in
    let s = c.args.text.now in
    let e = c.in_err-call.field-0.0 in
    error_handed (RefusesCallAt n c.args.func.now s) c.from_residual.result e c.from_residual.ensures.1 (inl (subst (λ m. RefusesCallWithin m s e) c.limit_of.ensures.value c.in_err-call.ensures.refused))

pub returns-in_err-values-clause-refused : goal.returns-in_err-values-clause-refused
returns-in_err-values-clause-refused c =
    let n = limit_of c.args.levels in
    let f = c.args.func.now in
    let s = c.args.text.now in
    let e = c.in_err-values.field-0.0 in
    let u = c.in_ok-call.call in
    let is = subst (λ m. IsCalledWithin m s u) c.limit_of.ensures.value c.in_ok-call.ensures.value in
    error_handed (RefusesCallAt n f s) c.from_residual-in_err-values.result e c.from_residual-in_err-values.ensures.1
    (inr (u, is, subst (λ z. RefusesParamsAt IsFull (types_of f.params) z u.name u.params e) is.source c.in_err-values.ensures.refused))

pub returns-clause-called : goal.returns-clause-called
returns-clause-called c =
    let f = c.args.func.now in
    let s = c.args.text.now in
    let u = c.in_ok-call.call in
    let is = subst (λ m. IsCalledWithin m s u) c.limit_of.ensures.value c.in_ok-call.ensures.value in
    (is, subst (λ z. GivesParamsAt (λ (v : TypedValue). v.tree) (λ v T. IsAt T v) (types_of f.params) z u.params c.in_ok-values.values.items) is.source c.in_ok-values.ensures.values)
