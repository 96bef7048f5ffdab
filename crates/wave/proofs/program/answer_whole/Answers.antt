use Rattle.std.proofs.Common.{◌≡◌, refl, sym, inl, inr, subst, ◌∙◌, arith}
use Rattle.wave.specs.Explained.{ShowsRefusal}
use Rattle.wave.specs.Private.Answers.{IsOutcome}
use Rattle.wave.proofs.Reported.{reported, shown, printed_so, is_fault, failed_so, failed_write, failed_refusal}
use Rattle.wave.proofs.program.answer_whole.Goals as goal

pub returns-in-Ok-Answered-clause-printed : goal.returns-in-Ok-Answered-clause-printed
returns-in-Ok-Answered-clause-printed g c =
    let (text, answer, input, answers, is) = subst (IsOutcome _ _) c.in-Ok-Answered.field-0-is c.in-Ok-Answered.ensures.outcome.0 in
    (_, _, inl (refl, (text, answer, input, answers, c.as_str.ensures.value ∙ is), c.in-Ok-Answered.ensures.outcome.1), printed_so g.W.Write.contents c.args.output.now c.print.new.output _ _ _ _ c.at.ensures.status c.print.ensures)

pub returns-in-Ok-Refused-clause-printed : goal.returns-in-Ok-Refused-clause-printed
returns-in-Ok-Refused-clause-printed g c =
    let h = subst (IsOutcome _ _) c.in-Ok-Refused.field-0-is c.in-Ok-Refused.ensures.outcome.0 in
    reported g.W.Write.contents c.args.is_quiet _ _ _ _ _ _ _ _ _ c.in-Ok-Refused.ensures.outcome.1 h.0 h.1 c.refuse.ensures.reported

pub returns-in-Ok-Refused-clause-shown : goal.returns-in-Ok-Refused-clause-shown
returns-in-Ok-Refused-clause-shown g c =
    let h = subst (IsOutcome _ _) c.in-Ok-Refused.field-0-is c.in-Ok-Refused.ensures.outcome.0 in
    shown g.W.Write.contents g.E.Write.contents c.args.is_quiet c.args.request.now _ _ _ _ _ _ _ _ _ h.0 h.1 c.refuse.ensures.reported
    (subst (λ whole. c.refuse.result.status ≡ 1 → ShowsRefusal g.E.Write.contents c.args.request.now c.args.errors.now c.refuse.new.errors whole c.in-Ok-Refused.refusal c.refuse.result.shown) c.as_str-in-Ok-Refused.ensures.value c.refuse.ensures.shown)

pub returns-in-Ok-Answered-clause-failed : goal.returns-in-Ok-Answered-clause-failed
returns-in-Ok-Answered-clause-failed g c =
    λ three. failed_write g.W.Write.contents g.E.Write.contents c.args.is_quiet _ _ _ _ _ _ _ _ _ 0 c.print.result c.print.ensures (λ is. absurd (omega (arith, is))) (sym c.at.ensures.status ∙ three) refl c.at.ensures.shown

pub returns-in-Ok-Refused-clause-failed : goal.returns-in-Ok-Refused-clause-failed
returns-in-Ok-Refused-clause-failed g c =
    λ three.
    let quiet = c.refuse.ensures.quiet (λ one. absurd (omega (arith, three, one))) in
    failed_refusal g.W.Write.contents g.E.Write.contents c.args.is_quiet _ _ _ _ _ _ _ _ c.in-Ok-Refused.refusal c.refuse.result.status c.in-Ok-Refused.ensures.outcome.1 c.refuse.ensures.reported three quiet.0 quiet.1

pub returns-in-Err-clause-printed : goal.returns-in-Err-clause-printed
returns-in-Err-clause-printed g c = (3, _, inr (inr (refl, (c.in-Err.fault, is_fault c.args.request.now _ _ _ _ c.in-Err.ensures.fault, refl))), c.fail.ensures.reported)

pub returns-in-Err-clause-failed : goal.returns-in-Err-clause-failed
returns-in-Err-clause-failed g c = λ _. failed_so g.W.Write.contents g.E.Write.contents c.args.is_quiet _ _ _ _ _ _ _ _ c.in-Err.fault (is_fault c.args.request.now _ _ _ _ c.in-Err.ensures.fault) c.fail.ensures.shown
