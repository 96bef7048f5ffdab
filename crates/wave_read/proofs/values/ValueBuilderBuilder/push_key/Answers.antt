use Rattle.wave_grammar.specs.NodeTree.{node, no_nodes}
use Rattle.wave_read.proofs.PartByPart.FrameSteps.{one_more, wants_where_expected}
use Rattle.wave_read.proofs.PartByPart.OneMore.{where_ok}
use Rattle.wave_read.proofs.values.ValueBuilderBuilder.push_key.Goals as goal

pub returns-clause-kept : goal.returns-clause-kept
returns-clause-kept g c = where_ok _ _ c.push_key.result (λ done step. λ w expected source whole children here takes kept.
    one_more g.V.Type.WasmType.tree g.V.WasmValue.tree g.V.WasmValue.is_of g.V.WasmValue.is_full w source whole expected children (node c.args.ty c.args.span no_nodes) c.args.parts.now c.push_key.new.self
    (λ U parts. step w U source whole children here takes parts) (λ bare. (c.push_key.ensures.bare bare).0) kept)
    c.push_key.ensures.grown

pub returns-clause-memory : goal.returns-clause-memory
returns-clause-memory g c = wants_where_expected g.V.Type.WasmType.tree g.V.WasmValue.tree g.V.WasmValue.is_of g.V.WasmValue.is_full c.args.parts.now c.push_key.result (λ bare. (c.push_key.ensures.bare bare).1)
