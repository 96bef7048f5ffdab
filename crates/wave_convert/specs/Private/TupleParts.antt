-- The parts of a tuple, each of its own type.
use Rattle.wave_wasm.specs.Types.{TypeTree}
use Rattle.wave_wasm.specs.Values.{Value}
use Rattle.wave_value.specs.TypedValue.{TypedValue}

-- the value whose own type is this one
abbrev pub typed_as : TypeTree → Value → TypedValue
typed_as T v = record { own = T; tree = v }
