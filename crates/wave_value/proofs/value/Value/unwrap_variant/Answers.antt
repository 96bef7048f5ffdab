use Rattle.std.proofs.Common.{rules, Some, None}
use Rattle.wave_value.specs.Private.ValueModel.{VariantFits}
use Rattle.wave_value.proofs.ViewAnswers.Parts.{variant_denoted}
use Rattle.wave_value.proofs.value.Value.unwrap_variant.Goals as goal

pub returns-in-Variant-default-Some-clause-own : goal.returns-in-Variant-default-Some-clause-own
returns-in-Variant-default-Some-clause-own c =
    let fits : VariantFits c.self.inside.own c.in-Variant-default-Some.place (Some c.deref.result.now) = search rules in
    rw (← c.self.view_is) (variant_denoted c.self.inside.own c.in-Variant-default-Some.place (Some c.deref.result.now) c.variant_name.result.now fits c.variant_name.ensures)

pub returns-in-Variant-default-None-clause-own : goal.returns-in-Variant-default-None-clause-own
returns-in-Variant-default-None-clause-own c =
    let fits : VariantFits c.self.inside.own c.in-Variant-default-None.place None = search rules in
    rw (← c.self.view_is) (variant_denoted c.self.inside.own c.in-Variant-default-None.place None c.variant_name-in-Variant-default-None.result.now fits c.variant_name-in-Variant-default-None.ensures)
