use Rattle.std.proofs.Common.{◌≡◌, map, string_bytes, take}
use Rattle.wave_wasm.specs.Borrowed.{texts}
use Rattle.wave_example_flags.proofs.names.owned.Given as goal

abbrev pub invariant-loop-name : goal.invariant-loop-name
invariant-loop-name l = map string_bytes l.answer.items ≡ texts (take l.name-index l.names)
