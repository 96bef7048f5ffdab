use Rattle.std.proofs.Common.{◌-◌, drop, arith, sym, subst}
use Rattle.std.specs.Str.{IsUtf8}
use Rattle.std.proofs.lemmas.List.{length-drop, take_all}
use Rattle.wave_writer.proofs.writer.Writer.write_row.Goals as goal

pub text_in-requires-clause-utf8 : goal.text_in-requires-clause-utf8
text_in-requires-clause-utf8 g c =
    let row = drop c.in-Some.start c.fill_row.new.room in
    subst IsUtf8 (sym (take_all (368 - c.in-Some.start) row (omega (arith, c.fill_row.array_long, length-drop c.in-Some.start c.fill_row.new.room)))) c.in-Some.ensures.utf8
