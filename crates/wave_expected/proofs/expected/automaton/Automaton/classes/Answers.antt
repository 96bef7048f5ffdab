use Rattle.std.proofs.Common.{ap, ◌∙◌, arith, Vec, Global}
use Rattle.wave_lex.specs.declared.lex.Token.{Token}
use Rattle.wave_lex.specs.declared.lex.Token.TheVariants.{BraceOpen}
use Rattle.wave_expected.proofs.ExpectedTokens.ClassList.{class_left, class_added, all_tried, every_contains, those_pass}
use Rattle.wave_expected.specs.Expected.{every_class}
use Rattle.wave_expected.proofs.ExpectedTokens.MayStand.{may_stand, may_follow, left_out, let_in}
use Rattle.wave_expected.proofs.expected.automaton.Automaton.classes.Goals as goal
use Rattle.wave_expected.proofs.expected.automaton.Automaton.classes.Goals.{in-Refused, in_default+in_ok-push-in_default}

pub loop-class-preserved : goal.loop-class-preserved
loop-class-preserved c =
    let s = c.args.self.now in
    let test = may_stand s.state s.forms.items s.levels in
    let old = c.loop-class.classes.items in
    let i = c.loop-class.class-index in
    elim c.match-step.branch [
      | in-Refused w ↦ ap (λ (v : Vec Token Global). v.items) w.classes-is
          ∙ class_left test every_class old i BraceOpen c.loop-class-test.true (left_out s.state s.forms.items s.levels _ c.step.result c.step.ensures w.in-Refused.is) c.loop-class.invariant
      | in_default+in_ok-push-in_default w ↦ class_added test every_class old c.match-step.classes.items i BraceOpen c.loop-class-test.true
          (let_in s.state s.forms.items s.levels _ c.step.result c.step.ensures w.in_default.not-Refused) c.loop-class.invariant
          (ap (λ (v : Vec Token Global). v.items) w.classes-is ∙ w.in_ok-push-in_default.ensures.items)
    ]

pub returns-clause-follow : goal.returns-clause-follow
returns-clause-follow c = λ tokens after k.
    let s = c.args.self.now in
    let test = may_stand s.state s.forms.items s.levels in
    let (passes, stands) = those_pass test every_class every_contains c.loop-class.classes.items (all_tried test every_class c.loop-class.classes.items c.loop-class.class-index (omega arith) c.loop-class.invariant) k in
    let (follows, back) = may_follow s.levels tokens s.state s.forms.items s.names k after in
    ((λ h. follows (passes h)), (λ h. stands (back h)))

pub returns-clause-order : goal.returns-clause-order
returns-clause-order c =
    let s = c.args.self.now in
    let test = may_stand s.state s.forms.items s.levels in
    record { test = test; those = all_tried test every_class c.loop-class.classes.items c.loop-class.class-index (omega arith) c.loop-class.invariant }
