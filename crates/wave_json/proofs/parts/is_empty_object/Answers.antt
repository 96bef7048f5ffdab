use Rattle.std.proofs.Common.{◌≡◌, ◌≢◌, sym, subst}
use Rattle.std.specs.Bool.{MatchBool}
use Rattle.json.specs.Json.{object, no_members}
use Rattle.json.specs.Value.{value_view, members_view}
use Rattle.wave_json.proofs.Objects.{empty_object, is_object, no_object}
use Rattle.wave_json.proofs.parts.is_empty_object.Goals as goal

pub returns-in-Some : goal.returns-in-Some
returns-in-Some c =
    subst (λ j. MatchBool c.is_empty.result (j ≡ object no_members) (j ≢ object no_members)) (sym (is_object (value_view c.args.json.now) (members_view c.in-Some.members.now) c.in-Some.ensures))
    (empty_object c.in-Some.members.now c.is_empty.result c.is_empty.ensures)

pub returns-in-None : goal.returns-in-None
returns-in-None c = no_object (value_view c.args.json.now) c.in-None.ensures
