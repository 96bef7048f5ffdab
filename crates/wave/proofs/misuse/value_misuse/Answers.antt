use Rattle.std.proofs.Common.{rules, arith, codes}
use Rattle.wave.proofs.Misused.{no_texts, length_texts, text_at, value_alone, value_limit_said, too_many_said}
use Rattle.wave.proofs.Requested.{one_word}
use Rattle.wave.proofs.misuse.value_misuse.Goals as goal

pub unreachable-requires : goal.unreachable-requires
unreachable-requires c = value_alone _ (no_texts c.args.rest.now (search rules)) c.requires

pub returns-in-len1 : goal.returns-in-len1
returns-in-len1 c =
    value_limit_said c.quoting.result _ c.as_str.result.now (one_word c.args.rest.now c.limit-item.result _ c.in-len1.len_at_least c.in-len1.len_below c.limit-item.is c.as_str.ensures.value) c.requires c.quoting.ensures

pub returns-in-len2-up : goal.returns-in-len2-up
returns-in-len2-up c =
    let count = length_texts c.args.rest.now in
    let many = c.in-len2-up.len_at_least in
    too_many_said c.quoting-in-len2-up.result (codes "value") _ 2 c.as_str-in-len2-up.result.now (search rules) (omega (arith, count, many)) (text_at c.args.rest.now 1 c.extra-item.result _ (omega (arith, many)) c.extra-item.is c.as_str-in-len2-up.ensures.value) c.quoting-in-len2-up.ensures
