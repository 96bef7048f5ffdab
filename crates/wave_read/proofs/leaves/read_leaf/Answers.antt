use Rattle.std.proofs.Common.{refl}
use Rattle.wave_grammar.specs.FaultOrder.{in_text}
use Rattle.wave_leaf.specs.Leaves.{leaf_node}
use Rattle.wave_read.proofs.leaves.read_leaf.Goals as goal

pub wrap-requires : goal.wrap-requires
wrap-requires g c =
    let (token, some) = c.requires in
    (c.args.leaf.now.ty, g.V.Type.WasmType.tree c.in-Some.payload.now, c.in-Some.ensures, (c.read_directly-built.ensures in_text in_text some.0 token some.1).typed)

pub returns-in-Some : goal.returns-in-Some
returns-in-Some g c = λ o w source token here.
    c.wrap.ensures o w source (leaf_node c.args.leaf.now) (g.V.Type.WasmType.tree c.in-Some.payload.now) c.in-Some.ensures refl (c.read_directly-built.ensures o w source token here)
