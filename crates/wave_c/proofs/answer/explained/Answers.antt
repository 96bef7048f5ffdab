use Rattle.std.proofs.Common.{inr, subst}
use Rattle.wave_c.specs.Answers.{IsExplanationAt}
use Rattle.wave_c.specs.Failures.{limit_of}
use Rattle.wave_c.proofs.answer.explained.Goals as goal

pub returns-in-Ok-clause-said : goal.returns-in-Ok-clause-said
returns-in-Ok-clause-said c =
    subst (λ s. IsExplanationAt (limit_of c.args.levels) s c.args.ty.now c.new.result.items) c.in_ok-text.ensures.text
    (inr (c.in-Ok.field-0.tree, (λ labels. (c.in-Ok.ensures.read.meant labels.1).0), c.new.ensures.items))
