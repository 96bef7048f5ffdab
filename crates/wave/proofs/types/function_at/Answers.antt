use Rattle.wave.proofs.Spelled.{function_named, function_untested}
use Rattle.wave.proofs.types.function_at.Goals as goal

pub returns-then-branch : goal.returns-then-branch
returns-then-branch c = function_named c.args.word.now c.in-Ok.function c.in_ok-params_have_values.field-0 c.in-Ok.ensures.spelled c.in_ok-params_have_values.ensures c.in-Ok.ensures.levels c.if-branch.true

pub returns-else-branch : goal.returns-else-branch
returns-else-branch c = function_untested c.args.word.now c.in-Ok.function c.in_ok-params_have_values.field-0 c.in-Ok.ensures.spelled c.in_ok-params_have_values.ensures c.if-branch.false
