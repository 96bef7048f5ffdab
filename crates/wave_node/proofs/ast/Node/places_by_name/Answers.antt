use Rattle.std.proofs.Common.{inl, map, ap, ◌∙◌}
use Rattle.wave_wasm.proofs.CanonicalText.Sequences.{all_at}
use Rattle.wave_grammar.specs.LeafTokens.{name_of}
use Rattle.wave_grammar.specs.NodeTree.{children_of}
use Rattle.wave_grammar.specs.Nodes.{IsParsedFrom}
use Rattle.wave_grammar.proofs.NodeMeaning.Flags.{labels_of}
use Rattle.wave_node.proofs.NodeReading.FlagPlaces.{holds_next, all_held, flags_whole}
use Rattle.wave_node.proofs.ast.Node.places_by_name.Goals as goal
use Rattle.wave_node.proofs.ParserCorrectness.FlagsSorted.{entry_of}

pub slice-requires : goal.slice-requires
slice-requires c =
    all_at (IsParsedFrom c.args.src.now) c.nodes-label-items.result.now (children_of c.args.self.now) c.loop-label.label-index c.label-item.result c.nodes-label-items.ensures c.loop-label-test.true c.label-item.is (labels_of c.args.src.now c.args.self.now (inl c.requires.value) (inl c.requires.form))

pub loop-label-init : goal.loop-label-init
loop-label-init c = ap (map entry_of) c.new-flags.ensures.empty

pub loop-label-preserved : goal.loop-label-preserved
loop-label-preserved c =
    holds_next c.args.src.now c.args.self.now c.nodes-label-items.result.now c.loop-label.label-index c.label-item.result c.loop-label.flags c.insert.new.self c.label_name.result c.span.result c.requires.value c.requires.form c.nodes-label-items.ensures c.loop-label-test.true c.label-item.is c.loop-label.invariant (c.label_name.ensures ∙ ap name_of c.slice.ensures) c.span.ensures c.in_ok-insert.ensures.entries

pub returns-clause-named : goal.returns-clause-named
returns-clause-named c = all_held c.args.src.now c.args.self.now c.nodes-label-items.result.now c.loop-label.label-index c.loop-label.flags c.nodes-label-items.ensures c.loop-label-test.false c.loop-label.invariant

pub returns-clause-nodes : goal.returns-clause-nodes
returns-clause-nodes c = flags_whole c.args.src.now c.args.self.now c.nodes-label-items.result.now c.loop-label.label-index c.loop-label.flags c.requires.value c.requires.form c.nodes-label-items.ensures c.loop-label-test.false c.loop-label.invariant
