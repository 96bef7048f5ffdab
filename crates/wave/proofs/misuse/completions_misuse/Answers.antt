use Rattle.std.proofs.Common.{rules, arith, codes}
use Rattle.wave.proofs.Misused.{no_texts, length_texts, text_at, too_many_said, no_shell_said, script_said, options_said, script_taken}
use Rattle.wave.proofs.Requested.{one_word}
use Rattle.wave.proofs.misuse.completions_misuse.Goals as goal

pub returns-in-empty : goal.returns-in-empty
returns-in-empty c = no_shell_said c.from_str.result _ (no_texts c.args.rest.now c.in-empty.len_below) c.from_str.ensures.ok

pub returns-in-Some : goal.returns-in-Some
returns-in-Some c =
    let is = one_word c.args.rest.now c.shell-item.result _ c.in-len1.len_at_least c.in-len1.len_below c.shell-item.is c.as_str-word.ensures.value in
    options_said c.from_str-in-Some.result _ (script_taken _ c.as_str-word.result.now c.in-Some.field-0.now is c.in-Some.ensures) c.from_str-in-Some.ensures.ok

pub returns-in-None : goal.returns-in-None
returns-in-None c =
    let is = one_word c.args.rest.now c.shell-item.result _ c.in-len1.len_at_least c.in-len1.len_below c.shell-item.is c.as_str-word.ensures.value in
    script_said c.quoting.result _ c.as_str-word.result.now is c.in-None.ensures c.quoting.ensures

pub returns-in-len2-up : goal.returns-in-len2-up
returns-in-len2-up c =
    let count = length_texts c.args.rest.now in
    let many = c.in-len2-up.len_at_least in
    too_many_said c.quoting-in-len2-up.result (codes "completions") _ 2 c.as_str.result.now (search rules) (omega (arith, count, many)) (text_at c.args.rest.now 1 c.extra-item.result _ (omega (arith, many)) c.extra-item.is c.as_str.ensures.value) c.quoting-in-len2-up.ensures
