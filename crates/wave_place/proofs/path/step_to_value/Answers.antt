use Rattle.std.proofs.Common.{◌∙◌}
use Rattle.wave_place.proofs.Steps.{none_at, none_so, some_so, each_step, alone_taken}
use Rattle.wave_place.proofs.path.step_to_value.Goals as goal

pub returns-clause-none : goal.returns-clause-none
returns-clause-none g c =
    none_so c.payload_alone.result (λ alones. each_step c.args.source.now c.args.span.now c.args.node.now (g.T.WasmType.tree c.args.ty.now)
    (none_at c.in_default.is c.in_ok-found.ensures.list)
    (none_at c.in_default.is c.in_ok-found.ensures.tuple)
    (none_at c.in_default-2.is c.in_ok-found-2.ensures.none)
    (none_at c.in_default-3.is c.in_ok-found-3.ensures.none)
    (none_at c.in_default-4.is c.in_ok-found-4.ensures.none)
    (none_at c.in_default-5.is c.in_ok-found-5.ensures.none)
    (none_at c.in_default-6.is c.in_ok-found-6.ensures.none)
    (none_at c.in_default-7.is c.in_ok-found-7.ensures.none)
    alones) c.payload_alone.ensures.none

pub returns-clause-taken : goal.returns-clause-taken
returns-clause-taken g c =
    some_so c.payload_alone.result (λ p h. alone_taken c.args.source.now c.args.span.now c.args.node.now (g.T.WasmType.tree c.args.ty.now) _ _ p.0.now (g.T.WasmType.tree p.1.now) h.0 h.1 h.2 h.3
    (none_at c.in_default-7.is c.in_ok-found-7.ensures.same
    ∙ (none_at c.in_default-6.is c.in_ok-found-6.ensures.same
    ∙ (none_at c.in_default-5.is c.in_ok-found-5.ensures.same
    ∙ (none_at c.in_default-4.is c.in_ok-found-4.ensures.same
    ∙ (none_at c.in_default-3.is c.in_ok-found-3.ensures.same
    ∙ (none_at c.in_default-2.is c.in_ok-found-2.ensures.same
    ∙ none_at c.in_default.is c.in_ok-found.ensures.same))))))) c.payload_alone.ensures.some
