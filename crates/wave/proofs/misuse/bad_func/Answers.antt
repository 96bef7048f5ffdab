use Rattle.wave.proofs.Misused.{valueless_param_said}
use Rattle.wave.proofs.misuse.bad_func.Goals as goal

pub returns-in-Ok : goal.returns-in-Ok
returns-in-Ok c = valueless_param_said c.from_str.result c.args.word.now c.in-Ok.field-0 c.in-Ok.ensures.spelled c.in-Ok.ensures.levels c.requires c.from_str.ensures.ok
