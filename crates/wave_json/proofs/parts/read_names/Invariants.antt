use Rattle.std.proofs.Common.{◌≡◌, drop}
use Rattle.json.specs.Value.{items_view}
use Rattle.wave_wasm.specs.Borrowed.{texts}
use Rattle.wave_json.specs.Reading.{each_at, name_at}
use Rattle.wave_json.proofs.Loops.{with_front}
use Rattle.wave_json.proofs.parts.read_names.Given as goal

abbrev pub invariant-loop-i : goal.invariant-loop-i
invariant-loop-i l =
    let read = name_at (texts l.names) in
    with_front (texts l.given.items) (each_at read l.i (items_view (drop l.i l.items))) ≡ each_at read 0 (items_view l.items)
