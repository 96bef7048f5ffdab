use Rattle.wave_wasm.specs.Types.{flags_names}
use Rattle.wave_value.proofs.TypedParts.FlagsInTurn.{PlacesInTurn}
use Rattle.wave_value.proofs.value.checked.cases.places_in_turn.Given as goal

abbrev pub invariant-loop-name : goal.invariant-loop-name
invariant-loop-name l = PlacesInTurn (flags_names l.ty) l.names l.last l.name-index l.places.items
