use Rattle.wave_expected.proofs.ExpectedTokens.Words.{starts_then, starts_else}
use Rattle.wave_expected.proofs.expected.Expected.starts_reported.Goals as goal

pub returns-then-contains : goal.returns-then-contains
returns-then-contains c = starts_then c.args.self.now.classes.items c.contains.result c.contains.ensures c.if-contains.true

pub returns : goal.returns
returns c = starts_else c.args.self.now.classes.items c.contains.result c.contains.ensures c.if-contains.false
