use Rattle.wave_value.specs.ConstructorRules.{own_text}
use Rattle.wave_value.proofs.Lawful.VariantsFlagsMaps.{full_variant}
use Rattle.wave_value.proofs.value.wasm_value.ValueWasmValue.make_variant.Goals as goal

pub returns-clause-full : goal.returns-clause-full
returns-clause-full c = full_variant own_text c.args.ty.now c.args.case.now c.args.val _ c.variant_of.ensures.refused
