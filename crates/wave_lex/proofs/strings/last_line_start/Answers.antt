use Rattle.std.proofs.Common.{None, Some, arith}
use Rattle.std.proofs.lemmas.Str.Pattern.{rfind_char}
use Rattle.wave_lex.proofs.MultilineStrings.Lines.{behind_found, behind_no_feed}
use Rattle.wave_lex.proofs.strings.last_line_start.Goals as goal

pub returns-in-Some : goal.returns-in-Some
returns-in-Some c = behind_found c.args.src.now c.in-Some.feed (rfind_char 10 c.args.src.now (Some c.in-Some.feed) c.in-Some.ensures.cases (omega arith))

pub returns-in-None : goal.returns-in-None
returns-in-None c = behind_no_feed c.args.src.now (rfind_char 10 c.args.src.now None c.in-None.ensures.cases (omega arith))
