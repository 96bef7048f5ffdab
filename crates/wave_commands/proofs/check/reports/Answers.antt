use Rattle.std.proofs.Common.{◌++◌, ◌<◌, ◌≤◌, ◌∙◌, length, string_bytes, ap, arith}
use Rattle.wave_commands.proofs.Checking.{next_told, all_told}
use Rattle.wave_commands.proofs.check.reports.Goals as goal

pub loop-place-preserved : goal.loop-place-preserved
loop-place-preserved c =
    let less : c.loop-place.place < length c.args.found.now.errors.items = omega (arith, c.loop-place-test.true) in
    let parts = c.in_ok-parts.parts in
    next_told c.args.style c.args.name.now c.args.text.now c.args.ty.now c.args.found.now.errors.items c.loop-place.place c.index-error.result.now (string_bytes c.loop-place.told) (string_bytes c.in_ok-one.one) _ less c.index-error.ensures
    c.loop-place.invariant (parts.mark, string_bytes parts.path, string_bytes parts.lines, c.in_ok-parts.ensures, c.in_ok-one.ensures)
    (c.in_ok-push_str.ensures.bytes ∙ ap (λ x. string_bytes c.loop-place.told ++ x) c.as_str.ensures.value)

pub returns : goal.returns
returns c =
    let all : length c.args.found.now.errors.items ≤ c.loop-place.place = omega (arith, c.loop-place-test.false) in
    all_told c.args.style c.args.name.now c.args.text.now c.args.ty.now c.args.found.now.errors.items c.loop-place.place (string_bytes c.loop-place.told) all c.loop-place.invariant
