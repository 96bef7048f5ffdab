use Rattle.std.proofs.Common.{◌≡◌, map, take}
use Rattle.wave_wasm.specs.Types.{flags_names}
use Rattle.wave_wasm.specs.Borrowed.{texts}
use Rattle.wave_value.specs.ValueModel.{name_at}
use Rattle.wave_value.proofs.value.views.borrowed_flags.Given as goal

abbrev pub invariant-loop-place : goal.invariant-loop-place
invariant-loop-place l = texts l.answer.items ≡ map (name_at (flags_names l.own)) (take l.place-index l.places.items)
