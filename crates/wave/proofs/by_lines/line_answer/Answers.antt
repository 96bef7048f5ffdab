use Rattle.std.proofs.Common.{subst}
use Rattle.wave.specs.Private.Answers.{IsUnanswered}
use Rattle.wave.proofs.OneLine.{refused_line}
use Rattle.wave.proofs.by_lines.line_answer.Goals as goal

pub returns-in_ok-refused_line-in-Err-Refused-clause-answer : goal.returns-in_ok-refused_line-in-Err-Refused-clause-answer
returns-in_ok-refused_line-in-Err-Refused-clause-answer c =
    refused_line c.args.request.now c.args.number c.args.bytes.now c.in-Ok.text.now c.in-Ok.ensures.cases.0 c.in-Ok.ensures.cases.1 _ _ c.in-Err-Refused.refusal c.is_blank.result c.if-is_blank.false c.is_blank.ensures
    (subst (IsUnanswered c.args.request.now c.in-Ok.text.now) c.in-Err-Refused.field-0-is c.in-Err-Refused.ensures) c.in_ok-refused_line-in-Err-Refused.ensures.reported c.in_ok-refused_line-in-Err-Refused.ensures.shown c.in_ok-refused_line-in-Err-Refused.ensures.printed
