use Rattle.std.proofs.Common.{◌∙◌, sym}
use Rattle.wave_grammar.proofs.Fields.Reading.{failed}
use Rattle.wave_node.proofs.ast.Node.is_keyword.Goals as goal

pub returns-then-not-is_of : goal.returns-then-not-is_of
returns-then-not-is_of c = λ word. failed c.is_of.result c.if-not-is_of.true c.is_of.ensures.1 word.0

pub returns-in-Some : goal.returns-in-Some
returns-in-Some c = (c.is_of.ensures.0 c.if-not-is_of.false, c.in-Some.field-0, sym c.slice.ensures ∙ c.in-Some.ensures)

pub returns-in-None : goal.returns-in-None
returns-in-None c = λ word. c.in-None.ensures word.1 (c.slice.ensures ∙ word.2)
