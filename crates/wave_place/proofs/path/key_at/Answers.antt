use Rattle.std.proofs.Common.{inr, subst}
use Rattle.wave_wasm.specs.Lists.{AllOf}
use Rattle.wave_grammar.specs.NodeAccessors.{IsEntryOf}
use Rattle.wave_place.proofs.Steps.{all_at, search_more, search_found, search_end, so, refused}
use Rattle.wave_place.proofs.path.key_at.Goals as goal

pub returns-then-holds-clause-some : goal.returns-then-holds-clause-some
returns-then-holds-clause-some c = (
  (c.in-Some.field-0-1.now, (c.in-Ok.ensures.0, search_found _ _ _ (c.in-Some.key.now, c.in-Some.field-0-1.now) _ c.loop-key.invariant c.in-Some.ensures.steps)),
  so c.if-holds.true c.holds.ensures,
)

pub returns-then-holds-clause-parsed : goal.returns-then-holds-clause-parsed
returns-then-holds-clause-parsed c = λ source is.
    inr (all_at (IsEntryOf source) _ (c.in-Some.key.now, c.in-Some.field-0-1.now) (subst (AllOf (IsEntryOf source)) c.in-Ok.ensures.1 (c.in-Ok.ensures.2 source is)) (search_found _ _ _ (c.in-Some.key.now, c.in-Some.field-0-1.now) _ c.loop-key.invariant c.in-Some.ensures.steps)).0

pub loop-key-preserved : goal.loop-key-preserved
loop-key-preserved c = search_more _ _ _ (c.in-Some.key.now, c.in-Some.field-0-1.now) _ c.loop-key.invariant c.in-Some.ensures.steps (refused c.if-holds.false c.holds.ensures)

pub returns-clause-none : goal.returns-clause-none
returns-clause-none c = λ k v has lies. search_end _ _ _ c.loop-key.invariant c.in_default-next.ensures.steps.0 (k, v) has.1 lies
