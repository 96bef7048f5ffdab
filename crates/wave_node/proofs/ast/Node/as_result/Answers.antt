use Rattle.std.proofs.Common.{rules, ◌≡◌}
use Rattle.wave_grammar.specs.NodeTree.{type_of, children_of}
use Rattle.wave_grammar.specs.NodeAccessors.{denoted_node, first_of}
use Rattle.wave_grammar.specs.declared.form.NodeType.TheVariants as kind
use Rattle.wave_grammar.proofs.ChildNodes.Parts.{ok_within, err_within}
use Rattle.wave_node.proofs.ast.Node.as_result.Goals as goal

pub returns-in-ResultOk : goal.returns-in-ResultOk
returns-in-ResultOk c =
    let ty : type_of c.args.self.now ≡ kind.ResultOk = search rules in
    let is : denoted_node c.first.result ≡ first_of (children_of c.args.self.now) = search rules in
    (ty, is, ok_within c.args.self.now c.first.result ty is)

pub returns-in-ResultErr : goal.returns-in-ResultErr
returns-in-ResultErr c =
    let ty : type_of c.args.self.now ≡ kind.ResultErr = search rules in
    let is : denoted_node c.first-in-ResultErr.result ≡ first_of (children_of c.args.self.now) = search rules in
    (ty, is, err_within c.args.self.now c.first-in-ResultErr.result ty is)
