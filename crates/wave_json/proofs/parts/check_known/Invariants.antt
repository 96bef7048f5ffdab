use Rattle.std.proofs.Common.{◌≡◌, drop, map}
use Rattle.json.specs.Value.{members_view}
use Rattle.wave_json.specs.Reading.{first_unknown, member_names}
use Rattle.wave_json.proofs.parts.check_known.Given as goal

abbrev pub invariant-loop-i : goal.invariant-loop-i
invariant-loop-i g l =
    let names = map (λ f. f.0.now) l.fields in
    first_unknown names (member_names (members_view (drop l.i l.members))) ≡ first_unknown names (member_names (members_view l.members))
