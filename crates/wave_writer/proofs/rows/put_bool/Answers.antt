use Rattle.wave_writer.proofs.CanonicalText.Rows.{bool_utf8}
use Rattle.wave_writer.proofs.rows.put_bool.Goals as goal

pub returns-then-val-clause-utf8 : goal.returns-then-val-clause-utf8
returns-then-val-clause-utf8 c = bool_utf8 c.args.val

pub returns-else-val-clause-utf8 : goal.returns-else-val-clause-utf8
returns-else-val-clause-utf8 c = bool_utf8 c.args.val
