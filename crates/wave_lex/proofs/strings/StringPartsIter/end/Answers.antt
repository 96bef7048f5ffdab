use Rattle.wave_lex.specs.Remaining.{one_line}
use Rattle.wave_lex.proofs.MultilineStrings.JoinedLines.{one_line_ends, ends_there}
use Rattle.wave_lex.proofs.strings.StringPartsIter.end.Goals as goal

pub returns-in-Normal : goal.returns-in-Normal
returns-in-Normal c = rw c.in-Normal.is (ends_there (one_line c.in-Normal.parts) c.end.result (rw c.in-Normal.is at c.requires) (one_line_ends c.in-Normal.parts c.end.result c.end.ensures))

pub returns-in-Multiline : goal.returns-in-Multiline
returns-in-Multiline c = rw c.in-Multiline.is (ends_there c.in-Multiline.parts c.end-in-Multiline.result (rw c.in-Multiline.is at c.requires) c.end-in-Multiline.ensures)
