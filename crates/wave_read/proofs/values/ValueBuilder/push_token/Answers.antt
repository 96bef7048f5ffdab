use Rattle.std.proofs.Common.{ap, sym, subst}
use Rattle.wave_wasm.specs.Borrowed.{denoted}
use Rattle.wave_leaf.specs.Leaves.{leaf_node}
use Rattle.wave_leaf.specs.PlainReading.{IsReadSparing}
use Rattle.wave_read.proofs.PartByPart.OneMore.{where_ok}
use Rattle.wave_read.proofs.values.ValueBuilder.push_token.Goals as goal

pub returns-clause-kept : goal.returns-clause-kept
returns-clause-kept g c = where_ok _ _ c.push_part.result (λ done step. λ w expected source whole children here takes kept. step w expected source whole children (leaf_node c.args.leaf.now) takes kept
    (subst (λ d. IsReadSparing g.V.WasmValue.tree g.V.WasmValue.is_of g.V.WasmValue.is_full w w (denoted g.V.Type.WasmType.tree d) source (leaf_node c.args.leaf.now) c.leaf-built.result) (ap (λ b. b.expected) c.part.ensures)
    (c.leaf-built.ensures w w source c.requires.0 here)))
    c.push_part.ensures.kept
