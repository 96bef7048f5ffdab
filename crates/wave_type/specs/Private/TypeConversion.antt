-- The payloads of a type that is converted.
use Rattle.std.specs.Prelude.{Option, Some, None, option_map}
use Rattle.wave_wasm.specs.Types.{TypeTree}
use Rattle.wave_type.specs.TypeConversion.{converted_type}

-- the payload's type converted, where there is one; none where it can't be
abbrev pub converted_payload : Option TypeTree → Option (Option TypeTree)
converted_payload None = Some None
converted_payload (Some T) = option_map (λ U. Some U) (converted_type T)
