use Rattle.std.proofs.Common.{arith}
use Rattle.wave_lex.proofs.StringDecoding.EscapesFound.{small_number, one_digit_more}
use Rattle.wave_lex.proofs.strings.hexadecimal.Goals as goal

pub overflow_mul-value : goal.overflow_mul-value
overflow_mul-value c = let small = small_number c.args.bytes.now c.loop-i.i c.loop-i.value (omega arith) c.requires c.loop-i.invariant in omega arith

pub overflow_add-value : goal.overflow_add-value
overflow_add-value c =
    let small = small_number c.args.bytes.now c.loop-i.i c.loop-i.value (omega arith) c.requires c.loop-i.invariant in
    let digit = c.in-Some.ensures.value in omega arith

pub loop-i-preserved : goal.loop-i-preserved
loop-i-preserved c = one_digit_more c.args.bytes.now c.loop-i.i c.loop-i.value _ c.in-Some.digit (omega arith) c.from.ensures c.in-Some.ensures.value c.loop-i.invariant
