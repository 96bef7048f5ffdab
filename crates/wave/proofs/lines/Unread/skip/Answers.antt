use Rattle.wave.proofs.LineReading.{skipped}
use Rattle.wave.proofs.lines.Unread.skip.Goals as goal

pub returns : goal.returns
returns c = skipped c.args.self.now.chunk c.args.self.now.start c.args.self.now.end c.args.count c.requires
