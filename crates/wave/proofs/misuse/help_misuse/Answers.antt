use Rattle.std.proofs.Common.{rules, arith, sym, subst, codes}
use Rattle.wave.specs.Commands.{paged_names}
use Rattle.wave.specs.Misuse.{IsHint}
use Rattle.wave.proofs.Misused.{no_texts, length_texts, text_at, too_many_said, page_said, options_said, help_taken, page_taken}
use Rattle.wave.proofs.Nearest.{hint_is}
use Rattle.wave.proofs.Requested.{one_word}
use Rattle.wave.proofs.misuse.help_misuse.Goals as goal

pub returns-in-empty : goal.returns-in-empty
returns-in-empty c = options_said c.from_str.result _ (help_taken _ (no_texts c.args.rest.now c.in-empty.len_below)) c.from_str.ensures.ok

pub returns-in-Some : goal.returns-in-Some
returns-in-Some c =
    let is = one_word c.args.rest.now c.command-item.result _ c.in-len1.len_at_least c.in-len1.len_below c.command-item.is c.as_str-word.ensures.value in
    options_said c.from_str-in-Some.result _ (page_taken _ c.as_str-word.result.now c.in-Some.field-0.now is c.in-Some.ensures) c.from_str-in-Some.ensures.ok

pub returns-in_ok-hint-in-None : goal.returns-in_ok-hint-in-None
returns-in_ok-hint-in-None c =
    let is = one_word c.args.rest.now c.command-item.result _ c.in-len1.len_at_least c.in-len1.len_below c.command-item.is c.as_str-word.ensures.value in
    let near = c.in_ok-near-in-None.ensures in
    let hints = subst (IsHint c.as_str-word.result.now paged_names) (sym c.as_str.ensures.value) (hint_is _ _ _ _ _ near.0 near.1 c.in_ok-hint-in-None.ensures.near c.in_ok-hint-in-None.ensures.far) in
    page_said c.quoting.result _ c.as_str-word.result.now c.as_str.result.now is c.in-None.ensures hints c.quoting.ensures

pub returns-in-len2-up : goal.returns-in-len2-up
returns-in-len2-up c =
    let count = length_texts c.args.rest.now in
    let many = c.in-len2-up.len_at_least in
    too_many_said c.quoting-in-len2-up.result (codes "help") _ 2 c.as_str-in-len2-up.result.now (search rules) (omega (arith, count, many)) (text_at c.args.rest.now 1 c.extra-item.result _ (omega (arith, many)) c.extra-item.is c.as_str-in-len2-up.ensures.value) c.quoting-in-len2-up.ensures
