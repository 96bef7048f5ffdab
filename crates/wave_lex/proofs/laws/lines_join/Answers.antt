use Rattle.wave_lex.proofs.MultilineStrings.JoinedLines.{lines_join}
use Rattle.wave_lex.proofs.laws.lines_join.Goals as goal

pub returns : goal.returns
returns c = lines_join
