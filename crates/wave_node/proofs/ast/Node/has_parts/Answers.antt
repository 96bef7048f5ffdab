use Rattle.std.proofs.Common.{◌≡◌, ◌⊎◌, sym, ◌∙◌, subst}
use Rattle.wave_grammar.specs.declared.form.NodeType.{NodeType}
use Rattle.wave_grammar.specs.declared.form.NodeType.TheVariants as kind
use Rattle.wave_grammar.specs.NodeParts.{IsOneToken}
use Rattle.wave_node.proofs.NodeReading.Children.{token_type, token_other, payload_parts}
use Rattle.wave_node.proofs.ast.Node.has_parts.Goals as goal

pub returns-in-ResultOk : goal.returns-in-ResultOk
returns-in-ResultOk c = λ source value flags.
    payload_parts source c.args.self.now c.nodes.result.now c.is_empty.result value (subst (λ (k : NodeType). (k ≡ kind.ResultOk) ⊎ (k ≡ kind.ResultErr)) c.ty.ensures c.in-ResultOk.is) c.nodes.ensures c.is_empty.ensures

pub returns-in_default : goal.returns-in_default
returns-in_default c = λ source value flags.
    token_other source c.args.self.now value
    (subst IsOneToken c.ty.ensures (token_type c.ty.result (λ e. flags (sym c.ty.ensures ∙ e)) c.in_default.not-Tuple c.in_default.not-List c.in_default.not-TupleSet c.in_default.not-EmptySet c.in_default.not-VariantWithPayload c.in_default.not-OptionSome))
    (λ e. c.in_default.not-ResultOk (c.ty.ensures ∙ e)) (λ e. c.in_default.not-ResultErr (c.ty.ensures ∙ e))
