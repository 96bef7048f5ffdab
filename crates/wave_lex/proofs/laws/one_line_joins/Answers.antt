use Rattle.wave_lex.proofs.MultilineStrings.JoinedLines.{one_line_joins}
use Rattle.wave_lex.proofs.laws.one_line_joins.Goals as goal

pub returns : goal.returns
returns c = one_line_joins
