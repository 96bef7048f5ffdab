use Rattle.std.proofs.Common.{◌≡◌, ◌+◌, ◌-◌, set, arith, length-set}
use Rattle.std.proofs.lemmas.List.{drop-set}
use Rattle.wave_writer.proofs.rows.put_comma.Goals as goal

pub returns : goal.returns
returns c =
    let end = c.args.end in
    let room = c.args.room.now in
    let e : end - 2 + 1 ≡ end - 1 = omega (arith, c.requires) in
    let f : end - 1 + 1 ≡ end = omega (arith, c.requires) in
    rw (drop-set (set room (end - 1) 32) (end - 2) 44 (omega (arith, c.requires, c.told-room, length-set room (end - 1) 32)), e, drop-set room (end - 1) 32 (omega (arith, c.requires, c.told-room)), f)
