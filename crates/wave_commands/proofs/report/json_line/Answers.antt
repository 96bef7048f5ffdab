use Rattle.std.proofs.Common.{◌∙◌}
use Rattle.wave_place.proofs.Steps.{ok_so}
use Rattle.wave_commands.specs.Reports.{place_members, text_members}
use Rattle.wave_commands.proofs.Objects.{joined}
use Rattle.wave_commands.proofs.report.json_line.Goals as goal

pub returns : goal.returns
returns c =
    let place = c.args.place.now in
    let more = place_members place.line place.column c.args.span.now in
    let other = text_members c.args.path.now c.args.kind.now c.args.message.now c.args.lines.now in
    ok_so c.format.result (λ text is. is ∙ joined c.args.name.now _ _ more _ other c.in_ok-name.ensures c.in_ok-places.ensures c.in_ok-texts.ensures) c.format.ensures.ok
