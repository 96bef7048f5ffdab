use Rattle.std.proofs.Common.{inl, inr, string_bytes, subst}
use Rattle.wave_commands.specs.Formatted.{IsUsed}
use Rattle.wave_commands.proofs.Checking.{ok_both, ok_and}
use Rattle.wave_commands.proofs.format.FormatJob.answer.Goals as goal

pub returns-in_ok-with_end-in-Ok : goal.returns-in_ok-with_end-in-Ok
returns-in_ok-with_end-in-Ok c =
    let laid = c.in-Ok.laid in
    ok_both c.used.result
    (λ answer used quiet. inl (
      string_bytes laid,
      record { laid_out = c.in-Ok.ensures.laid; trees = c.in-Ok.ensures.trees; means = c.in-Ok.ensures.means },
      subst (λ t. IsUsed c.args.self.now.purpose c.args.name.now c.args.text.now t answer) c.in_ok-with_end-in-Ok.ensures used,
      quiet,
    ))
    c.used.ensures.used c.used.ensures.quiet

pub returns-in-Err : goal.returns-in-Err
returns-in-Err c =
    ok_and c.refused.result
    (λ answer told left reported. inr (c.in-Err.error, reported, c.in-Err.ensures.refused, told, left))
    c.refused.ensures.told c.refused.ensures.left c.refused.ensures.reported
