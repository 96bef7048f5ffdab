use Rattle.std.proofs.Common.{length}
use denote.Text.{Utf8}
use denote.Shadow.{shadow}
use Rattle.wave_lex.specs.Multiline.{pieces}
use Rattle.wave_format.specs.Private.Sheets.{Sheet, PutsLines}
use Rattle.wave_format.proofs.page.Page.put_comments.Given as goal

-- what is put of the rest is put of the whole
abbrev pub invariant-loop-line : goal.invariant-loop-line
invariant-loop-line l = shadow (Utf8 l.rest) × ((end : Sheet) → PutsLines (pieces l.rest) l.self end → PutsLines (pieces l.gap) l.initial.self end)

abbrev pub decreases-loop-line : goal.decreases-loop-line
decreases-loop-line l = length l.rest
