use Rattle.std.proofs.Common.{◌≡◌, take}
use Rattle.json.specs.Value.{members_view}
use Rattle.wave_wasm.specs.Borrowed.{texts}
use Rattle.wave_json.specs.Reading.{member_names}
use Rattle.wave_json.proofs.parts.check_distinct.Given as goal

abbrev pub invariant-loop-i : goal.invariant-loop-i
invariant-loop-i l = texts l.names.items ≡ member_names (members_view (take l.i l.members))
