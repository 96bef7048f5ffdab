use Rattle.std.proofs.Common.{inr, subst}
use Rattle.wave_wasm.specs.Lists.{AllOf}
use Rattle.wave_grammar.specs.NodeAccessors.{IsEntryOf}
use Rattle.wave_place.specs.Paths.{field}
use Rattle.wave_place.proofs.Steps.{all_at, search_more, search_found, search_end, no_field, so, refused}
use Rattle.wave_place.proofs.path.step_to_field.Goals as goal

pub field_of-requires : goal.field_of-requires
field_of-requires g c =
    inr (all_at (IsEntryOf c.args.source.now) _ (c.in-Some.key.now, c.in-Some.value.now) (subst (AllOf (IsEntryOf c.args.source.now)) c.in-Ok.ensures.1 (c.in-Ok.ensures.2 c.args.source.now c.requires)) (search_found _ _ _ (c.in-Some.key.now, c.in-Some.value.now) _ c.loop-key.invariant.0 c.in-Some.ensures.steps)).0

pub returns-in-Some-2-clause-taken : goal.returns-in-Some-2-clause-taken
returns-in-Some-2-clause-taken g c =
    let found = rw c.in-Some-2.is at c.in_ok-name.ensures.some in
    record {
      step = field c.in-Some-2.name.now;
      steps = (c.in-Some.key.now, (c.in-Ok.ensures.0, search_found _ _ _ (c.in-Some.key.now, c.in-Some.value.now) _ c.loop-key.invariant.0 c.in-Some.ensures.steps), found.0.0, found.0.1, found.1);
      holds = so c.if-holds.true c.holds.ensures;
      text_is = rw (← c.loop-key.invariant.1) c.in_ok-push_name.ensures;
    }

pub returns-in-Some-2-clause-value : goal.returns-in-Some-2-clause-value
returns-in-Some-2-clause-value g c =
    (all_at (IsEntryOf c.args.source.now) _ (c.in-Some.key.now, c.in-Some.value.now) (subst (AllOf (IsEntryOf c.args.source.now)) c.in-Ok.ensures.1 (c.in-Ok.ensures.2 c.args.source.now c.requires)) (search_found _ _ _ (c.in-Some.key.now, c.in-Some.value.now) _ c.loop-key.invariant.0 c.in-Some.ensures.steps)).1

pub loop-key-preserved-in_default-2 : goal.loop-key-preserved-in_default-2
loop-key-preserved-in_default-2 g c =
    let none = rw c.in_default-2.is at c.in_ok-name.ensures.none in
    (search_more _ _ _ (c.in-Some.key.now, c.in-Some.value.now) _ c.loop-key.invariant.0 c.in-Some.ensures.steps (λ name U named is lies. none name U named is), c.loop-key.invariant.1)

pub loop-key-preserved : goal.loop-key-preserved
loop-key-preserved g c =
    (search_more _ _ _ (c.in-Some.key.now, c.in-Some.value.now) _ c.loop-key.invariant.0 c.in-Some.ensures.steps (λ name U named is lies. refused c.if-holds.false c.holds.ensures lies), c.loop-key.invariant.1)

pub returns-clause-none : goal.returns-clause-none
returns-clause-none g c =
    no_field c.args.source.now c.args.span.now c.args.node.now (g.T.WasmType.tree c.args.ty.now) (λ e one. search_end _ _ _ c.loop-key.invariant.0 c.in_default-next.ensures.steps.0 e one)
