use Rattle.std.proofs.Common.{◌≡◌, ◌+◌, ◌-◌, arith, rules}
use Rattle.std.proofs.lemmas.Fmt.{length-decimal-le}
use Rattle.std.proofs.lemmas.List.{drop-set}
use Rattle.wave_writer.proofs.CanonicalText.Rows.{number_utf8}
use Rattle.wave_writer.proofs.rows.put_number.Goals as goal

pub returns-then-end-lt-NUMBER-clause-utf8 : goal.returns-then-end-lt-NUMBER-clause-utf8
returns-then-end-lt-NUMBER-clause-utf8 c = number_utf8 c.args.is_negative c.args.distance (omega arith)

pub write_digits-start-requires : goal.write_digits-start-requires
write_digits-start-requires c = (omega (arith, length-decimal-le 20 c.args.distance (omega arith) (omega arith) (omega arith)), search rules)

pub returns-then-not-is_negative-clause-utf8 : goal.returns-then-not-is_negative-clause-utf8
returns-then-not-is_negative-clause-utf8 c = number_utf8 c.args.is_negative c.args.distance (omega arith)

pub overflow_sub-room : goal.overflow_sub-room
overflow_sub-room c = omega (arith, length-decimal-le 20 c.args.distance (omega arith) (omega arith) (omega arith))

pub overflow_sub-result : goal.overflow_sub-result
overflow_sub-result c = omega (arith, length-decimal-le 20 c.args.distance (omega arith) (omega arith) (omega arith))

pub returns-clause-put : goal.returns-clause-put
returns-clause-put c =
    let w = c.write_digits-start in
    let long = length-decimal-le 20 c.args.distance (omega arith) (omega arith) (omega arith) in
    let e : w.result - 1 + 1 ≡ w.result = omega (arith, w.ensures.start, long) in
    rw (drop-set w.new.buf (w.result - 1) 45 (omega arith), e, c.if-not-is_negative.false, w.ensures.written, c.put_comma.ensures)

pub returns-clause-utf8 : goal.returns-clause-utf8
returns-clause-utf8 c = number_utf8 c.args.is_negative c.args.distance (omega arith)
