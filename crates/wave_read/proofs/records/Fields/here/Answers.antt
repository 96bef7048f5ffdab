use Rattle.std.proofs.Common.{arith, sym, ◌∙◌}
use Rattle.std.proofs.lemmas.Slice.Eq.{bytes_eq-Decides}
use Rattle.wave_read.proofs.RecordReading.Fields.{got_here}
use Rattle.wave_read.proofs.records.Fields.here.Goals as goal

pub returns-then-eq : goal.returns-then-eq
returns-then-eq g c =
    (c.index.result.now, got_here c.args.self.now.fields.items c.args.i c.index.result.now (omega arith) c.index.ensures, (bytes_eq-Decides c.index.result.now.name.now c.args.name.now).0 (sym c.eq.ensures ∙ c.if-eq.true))
