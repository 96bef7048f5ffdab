use Rattle.std.proofs.Common.{arith, ap, drop, ◌∙◌, ◌+◌}
use Rattle.std.proofs.lemmas.List.{take_rest}
use Rattle.std.proofs.lemmas.Str.{IsUtf8-drop}
use Rattle.wave_lex.proofs.QuickScan.Prefixes.{lead_boundary}
use Rattle.wave_lex.proofs.QuickScan.ByteRuns.{comment_step, behind_comment}
use Rattle.wave_lex.proofs.lex.scan.comment_at.Goals as goal

pub returns-clause-step : goal.returns-clause-step
returns-clause-step c = (
  omega arith,
  comment_step _ _ _ _ _ _ (take_rest _ c.args.place ∙ ap (drop c.args.place) c.as_bytes.ensures.value) (IsUtf8-drop _ _ c.utf8.text (lead_boundary _ _ _ _ c.utf8.text c.requires))
      (omega arith) (omega arith) (omega arith) (take_rest _ 2) c.in_ok-line.ensures (take_rest _ (c.in_ok-line.field-0 + 3)) c.run_of.ensures.within c.run_of.ensures.all,
)

pub returns-clause-stops : goal.returns-clause-stops
returns-clause-stops c = behind_comment _ _ _ c.args.place (c.in_ok-line.field-0 + 3) c.run_of.result
    (take_rest _ c.args.place ∙ ap (drop c.args.place) c.as_bytes.ensures.value) (take_rest _ (c.in_ok-line.field-0 + 3)) c.run_of.ensures.stops
