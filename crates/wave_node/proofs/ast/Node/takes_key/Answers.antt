use Rattle.std.proofs.Common.{◌%◌, eqb, refl, sym, ◌∙◌, subst}
use Rattle.wave_grammar.specs.NodeTree.{children_of}
use Rattle.wave_grammar.specs.declared.form.NodeType.{NodeType}
use Rattle.wave_node.proofs.NodeReading.Children.{IsNext, set_next, case_next, part_next}
use Rattle.wave_node.proofs.ast.Node.takes_key.Goals as goal

pub returns-in-TupleSet : goal.returns-in-TupleSet
returns-in-TupleSet c = λ source value form lt.
    subst (λ (k : NodeType). IsNext k (children_of c.args.self.now) c.args.at (eqb (c.args.at % 2) 0)) (sym c.in-TupleSet.is ∙ c.ty.ensures) (set_next (children_of c.args.self.now) c.args.at (eqb (c.args.at % 2) 0) lt refl)

pub returns-in-VariantWithPayload : goal.returns-in-VariantWithPayload
returns-in-VariantWithPayload c = λ source value form lt.
    subst (λ (k : NodeType). IsNext k (children_of c.args.self.now) c.args.at (eqb c.args.at 0)) (sym c.in-VariantWithPayload.is ∙ c.ty.ensures) (case_next source c.args.self.now c.args.at (eqb c.args.at 0) value (sym c.ty.ensures ∙ c.in-VariantWithPayload.is) lt refl)

pub returns-in_default : goal.returns-in_default
returns-in_default c = λ source value form lt.
    part_next source c.args.self.now c.args.at value form (λ e. c.in_default.not-TupleSet (c.ty.ensures ∙ e)) (λ e. c.in_default.not-VariantWithPayload (c.ty.ensures ∙ e)) lt
