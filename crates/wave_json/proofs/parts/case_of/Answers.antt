use Rattle.json.specs.Value.{value_view, members_view}
use Rattle.wave_json.proofs.Objects.{case_string, no_case, case_object}
use Rattle.wave_json.proofs.parts.case_of.Goals as goal

pub returns-in-Some : goal.returns-in-Some
returns-in-Some c = case_string (value_view c.args.json.now) c.in-Some.name.now c.in-Some.ensures

pub returns-in_default-members_of : goal.returns-in_default-members_of
returns-in_default-members_of c = no_case (value_view c.args.json.now) c.in_default.ensures c.in_default-members_of.ensures

pub returns-in_default-sole_member : goal.returns-in_default-sole_member
returns-in_default-sole_member c = case_object (value_view c.args.json.now) (members_view c.in-Some-members_of.members.now) _ c.in-Some-members_of.ensures c.in_default-sole_member.ensures

pub returns : goal.returns
returns c = case_object (value_view c.args.json.now) (members_view c.in-Some-members_of.members.now) _ c.in-Some-members_of.ensures c.in-Some-sole_member.ensures
