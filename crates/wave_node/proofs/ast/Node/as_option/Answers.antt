use Rattle.std.proofs.Common.{rules, ◌≡◌, inl}
use Rattle.wave_grammar.specs.NodeTree.{type_of, children_of}
use Rattle.wave_grammar.specs.NodeAccessors.{denoted_node, first_of}
use Rattle.wave_grammar.specs.declared.form.NodeType.TheVariants as kind
use Rattle.wave_grammar.proofs.ChildNodes.Parts.{some_within}
use Rattle.wave_node.proofs.ast.Node.as_option.Goals as goal

pub returns-in-OptionSome : goal.returns-in-OptionSome
returns-in-OptionSome c =
    let ty : type_of c.args.self.now ≡ kind.OptionSome = search rules in
    let is : denoted_node c.first.result ≡ first_of (children_of c.args.self.now) = search rules in
    inl (ty, is, some_within c.args.self.now c.first.result ty is)
