use Rattle.std.proofs.Common.{ap, sym, ◌∙◌, Bool, Some, None, if◌then◌else◌}
use Rattle.json.specs.Value.{value_view, members_view}
use Rattle.wave_json.proofs.Objects.{no_some, some_object}
use Rattle.wave_json.proofs.parts.some_of.Goals as goal

pub returns-in_default : goal.returns-in_default
returns-in_default c = no_some (value_view c.args.json.now) c.in_default.ensures

pub returns-in_default-sole_member : goal.returns-in_default-sole_member
returns-in_default-sole_member c = some_object (value_view c.args.json.now) (members_view c.in-Some.members.now) _ c.in-Some.ensures c.in_default-sole_member.ensures

pub returns-then-eq : goal.returns-then-eq
returns-then-eq c =
    ap (λ (b : Bool). if b then Some (value_view c.in-Some-sole_member.payload.now) else None) (sym c.if-eq.true ∙ c.eq.ensures)
    ∙ some_object (value_view c.args.json.now) (members_view c.in-Some.members.now) _ c.in-Some.ensures c.in-Some-sole_member.ensures

pub returns-else-eq : goal.returns-else-eq
returns-else-eq c =
    ap (λ (b : Bool). if b then Some (value_view c.in-Some-sole_member.payload.now) else None) (sym c.if-eq.false ∙ c.eq.ensures)
    ∙ some_object (value_view c.args.json.now) (members_view c.in-Some.members.now) _ c.in-Some.ensures c.in-Some-sole_member.ensures
