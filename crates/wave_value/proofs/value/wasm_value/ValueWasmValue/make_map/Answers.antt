use Rattle.wave_value.specs.ConstructorRules.{own_text}
use Rattle.wave_value.proofs.Lawful.VariantsFlagsMaps.{full_map}
use Rattle.wave_value.proofs.value.wasm_value.ValueWasmValue.make_map.Goals as goal

pub returns-clause-full : goal.returns-clause-full
returns-clause-full c = full_map own_text c.args.ty.now c.args.entries.items _ c.map_of.ensures.refused
