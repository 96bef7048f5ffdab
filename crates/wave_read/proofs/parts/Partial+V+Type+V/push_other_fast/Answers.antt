use Rattle.std.proofs.Common.{Ok, sym, subst, ◌∙◌}
use Rattle.wave_wasm.specs.Borrowed.{denoted}
use Rattle.wave_leaf.specs.Leaves.{leaf_node}
use Rattle.wave_leaf.specs.Reading.{IsReadWhereExpected}
use Rattle.wave_read.proofs.parts.Partial+V+Type+V.push_other_fast.Goals as goal

pub returns-in_ok-push_value-in-Some-read_fast-clause-grown : goal.returns-in_ok-push_value-in-Some-read_fast-clause-grown
returns-in_ok-push_value-in-Some-read_fast-clause-grown g c = λ w T source of children here takes parts.
    c.in_ok-push_value-in-Some-read_fast.ensures.grown w T source of children (leaf_node c.args.leaf.now) takes parts
    (subst (λ d. IsReadWhereExpected g.V.WasmValue.tree g.V.WasmValue.is_of g.V.WasmValue.is_full w w (denoted g.V.Type.WasmType.tree d) source (leaf_node c.args.leaf.now) (Ok c.in-Some-read_fast.val))
    (sym c.in-Some.is ∙ c.next.ensures) (c.in-Some-read_fast.ensures w w source here))
