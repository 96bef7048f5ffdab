use Rattle.std.proofs.Common.{◌≡◌, ◌-◌, drop}
use Rattle.wave_wasm.specs.Borrowed.{texts}
use Rattle.wave_tape.specs.Reading.{flags_at}
use Rattle.wave_tape.proofs.Loops.{with_front}
use Rattle.wave_tape.proofs.decode.read_names.Given as goal

abbrev pub invariant-loop : goal.invariant-loop
invariant-loop l =
    with_front (texts l.picked.items) (flags_at (drop l.next (texts l.names)) (l.count - l.counter) l.rest) ≡ flags_at (texts l.names) l.count l.bytes
