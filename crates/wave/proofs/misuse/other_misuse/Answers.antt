use Rattle.std.proofs.Common.{rules, arith, sym, subst}
use Rattle.wave.specs.Commands.{command_names}
use Rattle.wave.specs.Misuse.{IsHint}
use Rattle.wave.proofs.Misused.{no_texts, length_texts, text_at, too_many_said, no_command, unknown_said, options_said, alone_taken}
use Rattle.wave.proofs.misuse.other_misuse.Goals as goal

pub returns-in-empty : goal.returns-in-empty
returns-in-empty c = options_said c.from_str.result _ (alone_taken _ _ (no_texts c.args.rest.now c.in-empty.len_below) c.in-text.is) c.from_str.ensures.ok

pub returns-in-len1-up : goal.returns-in-len1-up
returns-in-len1-up c =
    let count = length_texts c.args.rest.now in
    let many = c.in-len1-up.len_at_least in
    too_many_said c.quoting.result c.args.command.now _ 1 c.as_str.result.now (search rules) (omega (arith, count, many)) (text_at c.args.rest.now 0 c.extra-item.result _ (omega (arith, many)) c.extra-item.is c.as_str.ensures.value) c.quoting.ensures

pub returns-in_ok-hint-in_default : goal.returns-in_ok-hint-in_default
returns-in_ok-hint-in_default c =
    let none = no_command c.args.command.now c.requires c.in_default.not-text c.in_default.not-text-2 c.in_default.not-version c.in_default.not-text-3 c.in_default.not-text-4 in
    let hints = subst (IsHint c.args.command.now command_names) (sym c.as_str-in_default.ensures.value) c.in_ok-hint-in_default.ensures in
    unknown_said c.quoting-in_default.result c.args.command.now _ c.as_str-in_default.result.now none hints c.quoting-in_default.ensures
