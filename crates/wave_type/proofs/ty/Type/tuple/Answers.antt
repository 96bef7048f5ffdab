use Rattle.std.proofs.Common.{◌≡◌, take, subst, ◌∙◌}
use Rattle.std.proofs.lemmas.List.{take_all}
use Rattle.wave_wasm.specs.Lists.{AllOf}
use Rattle.wave_wasm.specs.Types.{IsRepresentable}
use Rattle.wave_type.proofs.DistinctNames.WithinTypes.{tuple_tells}
use Rattle.wave_type.proofs.TypeTrees.RepresentableParts.{tuple_representable, not_empty}
use Rattle.wave_type.proofs.ty.Type.tuple.Goals as goal

pub invariant_of-result : goal.invariant_of-result
invariant_of-result c =
    let some = not_empty _ _ _ c.is_empty.ensures c.if-is_empty.false c.args.types.ok.0 in
    let tested = take c.loop-ty.ty-index c.deref-ty-items.result.now in
    let all : tested ≡ c.args.types.items = take_all c.loop-ty.ty-index c.deref-ty-items.result.now c.loop-ty-test.false ∙ c.deref-ty-items.ensures.value in
    record { key = tt; places = tt; distinct = rw c.in_ok-new.ensures.ok (tuple_tells c.args.types.items tested c.loop-ty.distinct all c.loop-ty.invariant.1); representable = rw c.in_ok-new.ensures.ok (tuple_representable c.args.types.items some (subst (AllOf IsRepresentable) all c.loop-ty.invariant.0)) }
