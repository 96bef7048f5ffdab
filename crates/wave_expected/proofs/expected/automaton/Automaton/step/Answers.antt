use Rattle.std.proofs.Common.{true, false, sym, ◌∙◌, arith}
use Rattle.wave_expected.proofs.ExpectedTokens.AutomatonSteps.{innermost_is_last, length_stack, step_is}
use Rattle.wave_expected.proofs.expected.automaton.Automaton.step.Goals as goal

pub returns-then-goes_on : goal.returns-then-goes_on
returns-then-goes_on c = (
  c.value_start.result,
  c.value_start.ensures,
  step_is c.args.self.now.state c.args.self.now.forms.items c.args.self.now.levels c.args.class c.value_start.result c.copied-form.result c.saturating_sub-left.result c.next_move-moved.result true (grind (arith, innermost_is_last)) (grind (arith, length_stack))
      c.next_move-moved.ensures (sym c.if-goes_on.true ∙ c.goes_on.ensures),
)

pub returns-else-goes_on : goal.returns-else-goes_on
returns-else-goes_on c = (
  c.value_start.result,
  c.value_start.ensures,
  step_is c.args.self.now.state c.args.self.now.forms.items c.args.self.now.levels c.args.class c.value_start.result c.copied-form.result c.saturating_sub-left.result c.next_move-moved.result false (grind (arith, innermost_is_last)) (grind (arith, length_stack))
      c.next_move-moved.ensures (sym c.if-goes_on.false ∙ c.goes_on.ensures),
)
