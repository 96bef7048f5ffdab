use Rattle.std.proofs.Common.{arith, sym, ◌∙◌}
use Rattle.std.proofs.lemmas.Slice.Eq.{bytes_eq-Decides}
use Rattle.wave_read.proofs.RecordReading.Fields.{got_here, has_got, none_up_to, other_name}
use Rattle.wave_read.proofs.records.Fields.search.Goals as goal

pub returns-then-eq : goal.returns-then-eq
returns-then-eq g c =
    (c.index.result.now, got_here c.args.self.now.fields.items c.loop-i.i c.index.result.now (omega arith) c.index.ensures, (bytes_eq-Decides c.index.result.now.name.now c.args.name.now).0 (sym c.eq.ensures ∙ c.if-eq.true))

pub loop-i-preserved : goal.loop-i-preserved
loop-i-preserved g c =
    none_up_to c.args.self.now.fields.items c.loop-i.i c.index.result.now c.args.name.now (has_got c.args.self.now.fields.items c.loop-i.i c.index.result.now (got_here c.args.self.now.fields.items c.loop-i.i c.index.result.now (omega arith) c.index.ensures)) c.loop-i.invariant (other_name c.index.result.now.name.now c.args.name.now (sym c.eq.ensures ∙ c.if-eq.false))
