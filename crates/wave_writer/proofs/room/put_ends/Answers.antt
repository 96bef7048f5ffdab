use Rattle.std.proofs.Common.{◌≡◌, ◌-◌, ◌∙◌, drop, length, arith}
use Rattle.std.proofs.lemmas.List.{length-drop, take_all}
use Rattle.wave_writer.proofs.CanonicalText.Gathering.{ends_put}
use Rattle.wave_writer.proofs.room.put_ends.Goals as goal

pub returns-clause-put : goal.returns-clause-put
returns-clause-put g c =
    let bytes = c.args.bytes.now in
    let rest = length bytes - g.row.K in
    let last : c.part_of-last.result ≡ drop rest bytes = c.part_of-last.ensures ∙ take_all g.row.K (drop rest bytes) (omega (arith, length-drop rest bytes)) in
    ends_put bytes c.args.room.now c.put_run.new.room c.put_run-2.new.room c.args.start g.row.K c.requires.all.0 c.requires.all.1 (rw c.part_of-first.ensures at c.put_run.ensures.put) c.put_run-2.ensures.before (rw last at c.put_run-2.ensures.put)
