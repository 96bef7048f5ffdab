use Rattle.std.proofs.Common.{◌≡◌, drop}
use Rattle.wave_wasm.specs.Borrowed.{texts}
use Rattle.wave_tape.specs.Reading.{names_behind}
use Rattle.wave_tape.proofs.decode.place_of.Given as goal

abbrev pub invariant-loop-i : goal.invariant-loop-i
invariant-loop-i l = names_behind (drop l.from (texts l.names)) l.name ≡ names_behind (drop l.i (texts l.names)) l.name
