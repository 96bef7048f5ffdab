use Rattle.std.proofs.Common.{refl}
use Rattle.std.proofs.lemmas.Result.{err_from_is_err_and}
use Rattle.wave.proofs.LineReading.{line_taken, unread_part, on_err}
use Rattle.wave.proofs.LinesAnswered.{taken_unanswered}
use Rattle.wave.proofs.by_lines.next_answer.Goals as goal

pub returns-in_err-answer-clause-fault : goal.returns-in_err-answer-clause-fault
returns-in_err-answer-clause-fault g c =
    let taken = line_taken g.R.Read.remaining c.args.input.now c.args.unread.now c.skip.new.self c.in-Some.end c.line_before.result.now c.in-Some.ensures c.skip.ensures c.line_before.ensures in
    let fault = err_from_is_err_and c.from_residual.result c.from_residual.ensures.1 in
    rw (fault.1, fault.2) (taken_unanswered _ _ c.line_before.result.now c.args.input.now c.args.input.now c.in_err-answer.field-0.0 taken.0 refl c.in_err-answer.ensures.fault)

pub returns-in-Some-clause-answer : goal.returns-in-Some-clause-answer
returns-in-Some-clause-answer g c =
    let taken = line_taken g.R.Read.remaining c.args.input.now c.args.unread.now c.skip.new.self c.in-Some.end c.line_before.result.now c.in-Some.ensures c.skip.ensures c.line_before.ensures in
    let (said, is, printed) = c.in_ok-answer.ensures.answer in
    (c.line_before.result.now, said, taken.0, is, printed, taken.1)

pub returns-in_err-answer-clause-read : goal.returns-in_err-answer-clause-read
returns-in_err-answer-clause-read g c = unread_part g.R.Read.remaining c.args.input.now c.args.unread.now

pub returns-in-Some-clause-read : goal.returns-in-Some-clause-read
returns-in-Some-clause-read g c = unread_part g.R.Read.remaining c.args.input.now c.args.unread.now
