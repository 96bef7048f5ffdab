use Rattle.std.proofs.Common.{◌+◌, ◌++◌, codes, string_bytes, arith, ap, sym, ◌∙◌, append_assoc}
use Rattle.std.specs.Fmt.{decimal}
use Rattle.wave_place.proofs.Steps.{ok_so}
use Rattle.wave_explain.proofs.Reported.{parameter_name, parameter_number, added}
use Rattle.wave_explain.proofs.call.push_parameter.Goals as goal

pub returns-then-i-len : goal.returns-then-i-len
returns-then-i-len c =
    added c.push_str-then-i-len.result (string_bytes c.args.path.now) (codes "parameter ") _ _ _ _ c.in_ok-push_str.ensures.bytes
    (sym (parameter_name c.args.names.now.items c.args.i c.index.result.now (omega (arith, c.if-i-len.true, c.len.ensures)) c.index.ensures)) c.push_str-then-i-len.ensures.bytes

pub returns-else-i-len : goal.returns-else-i-len
returns-else-i-len c =
    let old = string_bytes c.args.path.now in
    let word = codes "parameter " in
    let number = decimal (c.args.i + 1) in
    ok_so c.push_number.result (λ u e. e ∙ (ap (λ x. x ++ number) c.in_ok-push_str.ensures.bytes ∙ (append_assoc old word number
    ∙ ap (λ x. old ++ (word ++ x)) (sym (parameter_number c.args.names.now.items c.args.i (omega (arith, c.if-i-len.false, c.len.ensures))))))) c.push_number.ensures
