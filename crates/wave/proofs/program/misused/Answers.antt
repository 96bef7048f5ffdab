use Rattle.std.proofs.Common.{map, string_bytes}
use Rattle.wave.specs.Misuse.{IsExplainedMisuse}
use Rattle.wave.proofs.Reported.{shown_text}
use Rattle.wave.proofs.program.misused.Goals as goal

pub returns-clause-shown : goal.returns-clause-shown
returns-clause-shown g c = λ _. shown_text g.E.Write.contents _ _ c.explain_misuse.result c.show.result (IsExplainedMisuse (map string_bytes c.args.words.now)) c.show.ensures c.explain_misuse.ensures
