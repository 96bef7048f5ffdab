use Rattle.std.proofs.Common.{rules, ap, sym, ◌∙◌, subst, refl}
use Rattle.std.specs.Fmt.{HasWritten}
use Rattle.std.proofs.lemmas.Grind.{put_three}
use Rattle.std.proofs.Output.{has_written_of_eq}
use Rattle.wave_grammar.specs.LeafTokens.{name_of}
use Rattle.wave_grammar.specs.Nodes.{IsParsedFrom}
use Rattle.wave_tree.specs.Private.NodeDisplay.{name_at}
use Rattle.wave_wasm.proofs.Displays.JoinedTexts.{separator_more, joined_turn, all_joined}
use Rattle.wave_tree.proofs.untyped.display.write_names.Goals as goal

pub slice-requires : goal.slice-requires
slice-requires g c = subst (IsParsedFrom c.args.src.now) (sym c.node-item.is) (c.requires c.loop-node.node-index c.node-item.result c.loop-node-test.true)

pub loop-node-preserved : goal.loop-node-preserved
loop-node-preserved g c =
    let text = name_at c.args.src.now in
    let i = c.loop-node.node-index in
    let took = g.W.Write.write_str_gives in (
      separator_more text c.args.nodes.now i c.node-item.result c.loop-node-test.true,
      λ p.
          let before = c.loop-node.invariant.1 p in
          let comma : HasWritten took c.loop-node.f c.loop-node.separator.now c.write_str.new.self = search rules in
          let name : HasWritten took c.write_str.new.self c.label_name.result.now c.write_str-in-loop-node.new.self = search rules in
          let part : HasWritten took c.write_str.new.self (text c.node-item.result) c.write_str-in-loop-node.new.self = has_written_of_eq _ _ _ _ _ (c.label_name.ensures ∙ ap name_of c.slice.ensures) name in
          put_three _ _ _ _ _ _ _ _ _ before comma part (joined_turn text c.args.nodes.now i c.loop-node.separator.now c.node-item.result c.loop-node-test.true c.loop-node.invariant.0 c.node-item.is),
    )

pub returns : goal.returns
returns g c = λ p ok. has_written_of_eq _ _ _ _ _ (all_joined (name_at c.args.src.now) c.args.nodes.now c.args.nodes.now c.loop-node.node-index refl c.loop-node-test.false) (c.loop-node.invariant.1 p)
