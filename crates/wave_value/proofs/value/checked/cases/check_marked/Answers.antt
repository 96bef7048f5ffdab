use Rattle.std.proofs.Common.{Bool, false, Option, ap, ◌∙◌}
use Rattle.std.specs.Prelude.{unwrap_or}
use Rattle.wave_value.proofs.ConstructorAnswers.Flags.{marked_more, marked_all, name_refused}
use Rattle.wave_value.proofs.value.checked.cases.check_marked.Goals as goal

pub loop-name-preserved : goal.loop-name-preserved
loop-name-preserved c = λ marked marks.
    let reported = c.unwrap_or.ensures ∙ ap (λ (o : Option Bool). unwrap_or o false) (c.copied.ensures ∙ c.get.ensures.value) in
    marked_more c.args.marks.now marked c.args.names.now c.loop-name.name-index _ c.unwrap_or.result c.loop-name-test.true marks reported c.if-not-unwrap_or.false (c.loop-name.invariant marked marks)

pub returns-then-not-unwrap_or : goal.returns-then-not-unwrap_or
returns-then-not-unwrap_or c = λ marked marks.
    let reported = c.unwrap_or.ensures ∙ ap (λ (o : Option Bool). unwrap_or o false) (c.copied.ensures ∙ c.get.ensures.value) in
    name_refused c.args.marks.now marked c.args.names.now c.loop-name.name-index _ c.unwrap_or.result c.named.result c.loop-name-test.true marks reported c.if-not-unwrap_or.true c.named.ensures

pub returns : goal.returns
returns c = λ marked marks. marked_all marked c.args.names.now c.loop-name.name-index c.loop-name-test.false (c.loop-name.invariant marked marks)
