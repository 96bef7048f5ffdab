use Rattle.std.proofs.Common.{arith, ap, drop, ◌∙◌}
use Rattle.std.proofs.lemmas.List.{take_rest}
use Rattle.std.proofs.lemmas.Str.{IsUtf8-drop}
use Rattle.wave_lex.proofs.QuickScan.EscapeRuns.{plains_here}
use Rattle.wave_lex.proofs.QuickScan.Prefixes.{lead_boundary}
use Rattle.wave_lex.proofs.lex.scan.piece_at.Goals as goal

pub returns : goal.returns
returns c = (
  omega arith,
  plains_here _ _ _ (take_rest _ c.args.place ∙ ap (drop c.args.place) c.as_bytes.ensures.value) (IsUtf8-drop _ _ c.utf8.text (lead_boundary _ _ _ _ c.utf8.text c.requires)) c.run_of-run.ensures,
)
