use Rattle.std.proofs.Common.{◌∙◌, inr, ap, subst}
use Rattle.wave.specs.Explained.{Explains}
use Rattle.wave.specs.Options.{unless_quiet}
use Rattle.wave_files.specs.Written.{Prints}
use Rattle.wave.proofs.Reported.{printed_so, shown_text}
use Rattle.wave.proofs.program.refuse.Goals as goal

pub returns-in_default-clause-reported : goal.returns-in_default-clause-reported
returns-in_default-clause-reported g c =
    inr (printed_so g.W.Write.contents c.args.output.now c.print.new.output _ 3 _ _ c.at.ensures.status
    (subst (λ t. Prints g.W.Write.contents c.args.output.now c.print.new.output t 3 c.print.result) (c.unless_quiet.ensures ∙ ap (unless_quiet c.args.is_quiet) c.fault_line-line.ensures) c.print.ensures))

pub returns-clause-shown : goal.returns-clause-shown
returns-clause-shown g c = λ _. shown_text g.E.Write.contents _ _ c.explain_refusal.result c.show.result (Explains c.args.request.now c.args.text.now c.args.refusal.now) c.show.ensures c.explain_refusal.ensures
