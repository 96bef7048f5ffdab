use Rattle.std.proofs.Common.{◌∙◌, ap, sym, refl}
use Rattle.wave_wasm.specs.Borrowed.{denoted_all}
use Rattle.wave_wasm.specs.Types.{TypeTree}
use Rattle.wave_type.specs.FunctionType.{types_of}
use Rattle.wave.proofs.HavingValue.{none_tested, one_tested, all_tested, none_next}
use Rattle.wave.proofs.types.params_have_values.Goals as goal

pub loop-ty-init : goal.loop-ty-init
loop-ty-init c =
    none_tested c.deref-ty-items.result.now (types_of c.args.function.now.params) (ap (denoted_all (λ (T : TypeTree). T)) c.deref-ty-items.ensures.value ∙ c.in_ok-types.ensures)

pub returns-then-not-branch : goal.returns-then-not-branch
returns-then-not-branch c =
    let none = none_next c.deref-ty-items.result.now (types_of c.args.function.now.params) c.loop-ty.ty-index c.loop-ty.invariant c.ty-item.result c.loop-ty-test.true c.ty-item.is
    (λ has. absurd (cc (sym c.if-not-branch.true ∙ c.in_ok-is_inhabited.ensures.1 has))) in
    (λ wrong. absurd (cc wrong), λ have. absurd (none have))

pub loop-ty-preserved : goal.loop-ty-preserved
loop-ty-preserved c =
    one_tested c.deref-ty-items.result.now (types_of c.args.function.now.params) c.loop-ty.ty-index c.loop-ty.invariant c.ty-item.result c.loop-ty-test.true c.ty-item.is
    (c.in_ok-is_inhabited.ensures.0 c.if-not-branch.false)

pub returns : goal.returns
returns c = (λ _. all_tested c.deref-ty-items.result.now (types_of c.args.function.now.params) c.loop-ty.ty-index c.loop-ty.invariant c.loop-ty-test.false, λ _. refl)
