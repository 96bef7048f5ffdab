use Rattle.std.proofs.Common.{List, inl, refl, sym, ap, ◌∙◌, subst}
use Rattle.wave_wasm.specs.Lists.{AllOf}
use Rattle.wave_grammar.specs.NodeTree.{NodeTree, children_of}
use Rattle.wave_grammar.specs.NodeAccessors.{IsEntryOf, node_pairs}
use Rattle.wave_grammar.specs.TypedReading.{IsValueOf}
use Rattle.wave_grammar.specs.NodeFields.{fields_at}
use Rattle.wave_grammar.proofs.ChildNodes.Parts.{fields_values, entries_within}
use Rattle.wave_grammar.proofs.Fields.Lookup.{set_value}
use Rattle.wave_grammar.specs.ErrorSpans.{StandsIn}
use Rattle.wave_grammar.proofs.Elaboration.ParamsInTurn.{error_handed}
use Rattle.wave_node.proofs.ast.Node.as_record.Goals as goal

pub new-requires : goal.new-requires
new-requires c =
    let set = c.in_ok-fields.ensures.given.is_set in
    subst (λ (ns : List NodeTree). AllOf (IsEntryOf c.args.src.now) (node_pairs ns)) (sym c.nodes.ensures) (entries_within c.args.self.now (node_pairs (children_of c.args.self.now)) (inl set) refl c.args.src.now (set_value c.args.src.now c.args.self.now c.requires set))

pub returns-clause-values : goal.returns-clause-values
returns-clause-values c = subst (AllOf (λ f. IsValueOf c.args.src.now f.1)) (sym (c.new.ensures ∙ ap (fields_at c.args.src.now) c.nodes.ensures)) (fields_values c.args.src.now c.args.self.now _ c.requires c.in_ok-fields.ensures.given)

pub returns-in_err-fields-clause-within : goal.returns-in_err-fields-clause-within
returns-in_err-fields-clause-within c = error_handed (StandsIn c.args.self.now) c.from_residual.result c.in_err-fields.field-0.0 c.from_residual.ensures.1 (c.in_err-fields.ensures.within.0)
