use Rattle.wave_writer.proofs.CanonicalText.Rows.{row_start, row_more}
use Rattle.wave_writer.proofs.rows.fill_row.Goals as goal

pub loop-i-init : goal.loop-i-init
loop-i-init g c = row_start _ _ c.args.items.now c.args.room.now c.told-room

pub loop-i-preserved : goal.loop-i-preserved
loop-i-preserved g c =
    row_more _ _ c.args.items.now c.loop-i.i c.loop-i.start c.loop-i.room c.index-items-items.result _ _ c.loop-i.invariant c.loop-i-test.true c.index-items-items.is c.in_ok-start.ensures.writable c.in_ok-start.ensures.utf8 c.in_ok-start.ensures.put c.in_ok-start.ensures.within
