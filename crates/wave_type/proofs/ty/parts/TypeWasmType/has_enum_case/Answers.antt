use Rattle.std.proofs.Common.{ap, ◌∙◌}
use Rattle.std.specs.Option.{is_some}
use Rattle.std.specs.Str.{bytes_eq}
use Rattle.wave_wasm.specs.Types.{enum_names}
use Rattle.wave_type.proofs.DistinctNames.FoundPlaces.{is_some-position}
use Rattle.wave_type.proofs.ty.parts.TypeWasmType.has_enum_case.Goals as goal

pub returns : goal.returns
returns c = c.is_some.ensures ∙ (ap is_some c.enum_place.ensures ∙ is_some-position (bytes_eq c.args.name.now) (enum_names c.args.self.now))
