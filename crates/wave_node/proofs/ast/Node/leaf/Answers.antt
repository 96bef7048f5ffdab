use Rattle.std.proofs.Common.{◌-◌, ◌++◌, length, drop, sym, ap, ◌∙◌, arith, length-drop}
use Rattle.std.proofs.lemmas.List.{length-take}
use Rattle.wave_grammar.specs.SpannedTree.{slice}
use Rattle.wave_grammar.specs.NodeTree.{NodeTree, type_of, place_of}
use Rattle.wave_grammar.specs.NodeAccessors.{quotes_of}
use Rattle.wave_grammar.specs.declared.form.NodeType.{NodeType}
use Rattle.wave_grammar.proofs.ErrorSpans.Nodes.{node_in_text}
use Rattle.wave_grammar.proofs.NodeTexts.Quoted.{node_inside}
use Rattle.wave_node.proofs.ast.Node.leaf.Goals as goal

pub returns-clause-text : goal.returns-clause-text
returns-clause-text c = c.with_text.ensures.text ∙ (c.slice.ensures ∙ ap (slice c.args.src.now) (sym (ap place_of c.with_text.ensures.node)))

pub returns-clause-quotes : goal.returns-clause-quotes
returns-clause-quotes c =
    let k = node_inside c.args.src.now c.args.self.now c.requires in
    (k.0, c.with_text.ensures.text ∙ (c.slice.ensures ∙ (k.1 ∙ ap (λ (ty : NodeType). quotes_of ty ++ (k.0 ++ quotes_of ty)) (sym (ap type_of c.with_text.ensures.node)))))

pub returns-clause-fits : goal.returns-clause-fits
returns-clause-fits c =
    let place = place_of c.args.self.now in
    let lies = node_in_text c.args.src.now c.args.self.now c.requires in
    let start = ap (λ (n : NodeTree). (place_of n).start) c.with_text.ensures.node in
    let size = ap length (c.with_text.ensures.text ∙ c.slice.ensures) ∙ length-take (place.end - place.start) (drop place.start c.args.src.now) in
    let left = length-drop place.start c.args.src.now in
    omega arith
