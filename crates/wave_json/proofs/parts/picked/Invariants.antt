use Rattle.std.proofs.Common.{◌≡◌, ◌++◌, drop}
use Rattle.wave_wasm.specs.Borrowed.{texts}
use Rattle.wave_wasm.specs.Names.{found_in}
use Rattle.wave_json.proofs.parts.picked.Given as goal

abbrev pub invariant-loop-name : goal.invariant-loop-name
invariant-loop-name l = texts l.picked.items ++ found_in (texts l.given) (texts (drop l.name-index l.names)) ≡ found_in (texts l.given) (texts l.names)
