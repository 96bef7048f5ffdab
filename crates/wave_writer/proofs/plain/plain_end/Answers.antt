use Rattle.std.proofs.Common.{◌≡◌, ◌+◌, ◌-◌, true, ap, subst, ◌∙◌, arith, drop, length, get_or, get_or-take, get_or-drop}
use Rattle.wave_wasm.specs.TextParts.{is_plain_byte}
use Rattle.wave_writer.proofs.plain.plain_end.Goals as goal

pub returns-clause-plain : goal.returns-clause-plain
returns-clause-plain c i after before =
    let from = c.args.from in
    let back : from + (i - from) ≡ i = omega arith in
    let rest = drop from c.args.bytes.now in
    let there = get_or-take (length c.args.bytes.now - from) rest (i - from) 0 (omega (arith, c.run_of.ensures.within)) ∙ get_or-drop from c.args.bytes.now (i - from) 0 in
    subst (λ b. is_plain_byte b ≡ true) (there ∙ ap (λ k. get_or c.args.bytes.now k 0) back) (c.run_of.ensures.all (i - from) (omega arith))
