use Rattle.std.proofs.Common.{rules, true}
use Rattle.wave_value.proofs.ConstructorAnswers.Flags.{marks_there, marks_absent}
use Rattle.wave_value.proofs.value.checked.cases.mark.Goals as goal

pub returns-in-Some : goal.returns-in-Some
returns-in-Some c = marks_there c.args.marks.now (c.get_mut.follows.lender true) c.args.name.now c.in-Some.is_marked.now c.in-Some.ensures.value ((c.get_mut.follows.holds true).3 (search rules))

pub returns-in-None : goal.returns-in-None
returns-in-None c = marks_absent c.args.marks.now c.get_mut.follows.lender-at-none c.args.name.now c.in-None.ensures.value c.get_mut.follows.holds-at-none
