use Rattle.std.proofs.Common.{◌≡◌, map, string_bytes, take}
use Rattle.wave_wasm.specs.Borrowed.{texts}
use Rattle.wave_type.proofs.ty.owned_names.Given as goal

abbrev pub invariant-loop-name : goal.invariant-loop-name
invariant-loop-name l = map string_bytes l.owned.items ≡ texts (take l.name-index l.names)
