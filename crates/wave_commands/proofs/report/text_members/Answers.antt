use Rattle.std.proofs.Common.{◌∙◌}
use Rattle.wave_place.proofs.Steps.{ok_so}
use Rattle.wave_commands.proofs.Objects.{quoted}
use Rattle.wave_commands.proofs.report.text_members.Goals as goal

pub returns : goal.returns
returns c =
    ok_so c.format.result
    (λ text is.
    is
    ∙ quoted c.args.path.now c.args.kind.now c.args.message.now c.args.lines.now _ _ _ _
    c.in_ok-path.ensures c.in_ok-kind.ensures c.in_ok-message.ensures c.in_ok-notes.ensures)
    c.format.ensures.ok
