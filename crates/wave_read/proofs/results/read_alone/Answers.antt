use Rattle.std.proofs.Common.{[], sym, ◌∙◌, ap, subst}
use Rattle.wave_grammar.specs.FaultOrder.{in_text}
use Rattle.wave_grammar.specs.NodeTree.{node, no_nodes}
use Rattle.wave_grammar.specs.declared.form.NodeType.{NodeType}
use Rattle.wave_leaf.specs.Reading.{IsReadAs}
use Rattle.wave_read.specs.Payloads.{result_node}
use Rattle.wave_read.proofs.results.read_alone.Goals as goal

pub finish-requires : goal.finish-requires
finish-requires g c = (in_text, g.V.Type.WasmType.tree c.args.ty.now, [], [], c.new-payload.ensures.parts in_text [])

pub returns : goal.returns
returns g c = λ o w source.
    subst (λ (ty : NodeType). IsReadAs g.V.WasmValue.tree g.V.WasmValue.is_of g.V.WasmValue.is_full o w (g.V.Type.WasmType.tree c.args.ty.now) source (node ty c.args.leaf.now.span no_nodes) c.finish.result) (ap result_node c.new-payload.ensures.case ∙ sym c.requires.form)
    (c.finish.ensures o w (g.V.Type.WasmType.tree c.args.ty.now) source [] (c.new-payload.ensures.parts w source))
