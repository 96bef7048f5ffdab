use Rattle.wave_lex.proofs.Machines.Rows.{ends_right}
use Rattle.wave_lex.proofs.machine.may_end.Goals as goal

pub returns : goal.returns
returns c = ends_right c.args.row c.requires
