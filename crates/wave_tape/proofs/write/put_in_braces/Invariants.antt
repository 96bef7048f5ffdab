use Rattle.std.proofs.Common.{◌++◌, take, codes}
use Rattle.std.specs.String.{string_bytes}
use Rattle.wave_wasm.specs.Borrowed.{texts}
use Rattle.wave_tape.proofs.WrittenReadings.{Joining}
use Rattle.wave_tape.proofs.write.put_in_braces.Given as goal

abbrev pub invariant-loop-part : goal.invariant-loop-part
invariant-loop-part l = Joining (string_bytes l.fn.out ++ codes "{") (texts (take l.part-index l.parts)) l.later (string_bytes l.out)
