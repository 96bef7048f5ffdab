use Rattle.std.proofs.Common.{◌≡◌, ◌-◌, arith}
use Rattle.std.proofs.lemmas.Str.{IsUtf8-had}
use Rattle.wave_writer.proofs.room.Gathered.as_str.Goals as goal

pub text_in-requires-clause-utf8 : goal.text_in-requires-clause-utf8
text_in-requires-clause-utf8 c =
    let all : c.self.inside.end - 0 ≡ c.self.inside.end = omega arith in
    rw all (IsUtf8-had _ c.self.invariant.1)
