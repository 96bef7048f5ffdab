use Rattle.std.proofs.Common.{◌≡◌, drop}
use Rattle.json.specs.Value.{members_view}
use Rattle.wave_json.specs.Reading.{member_of}
use Rattle.wave_json.proofs.parts.member_place.Given as goal

abbrev pub invariant-loop-i : goal.invariant-loop-i
invariant-loop-i l = member_of l.name (members_view (drop l.i l.members)) ≡ member_of l.name (members_view l.members)
