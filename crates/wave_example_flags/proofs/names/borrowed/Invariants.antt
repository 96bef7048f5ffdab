use Rattle.std.proofs.Common.{◌≡◌, map, string_bytes, take}
use Rattle.wave_wasm.specs.Borrowed.{texts}
use Rattle.wave_example_flags.proofs.names.borrowed.Given as goal

abbrev pub invariant-loop-name : goal.invariant-loop-name
invariant-loop-name l = texts l.answer.items ≡ map string_bytes (take l.name-index l.names.items)
