use Rattle.std.proofs.Common.{◌≡◌, map, string_bytes, take}
use Rattle.wave_wasm.specs.Borrowed.{texts}
use Rattle.wave_example_flags.specs.OrderedFlags.{TakesNames}
use Rattle.wave_example_flags.proofs.ordered_flags.OrderedFlagsWasmValue.make_flags.Given as goal

abbrev pub invariant-loop-name : goal.invariant-loop-name
invariant-loop-name l = let handed = texts (take l.name-index l.names) in (map string_bytes l.kept.items ≡ handed) × TakesNames l.ty handed
