use Rattle.std.proofs.Common.{get_or, sym, ◌∙◌}
use Rattle.wave_wasm.proofs.CanonicalText.Sequences.{item_again}
use Rattle.wave_json.proofs.Objects.{member_here}
use Rattle.wave_json.proofs.parts.member_place.Goals as goal

pub returns-then-eq : goal.returns-then-eq
returns-then-eq c =
    let ms = c.args.members.now in
    let i = c.loop-i.i in
    let m = get_or ms i c.index-members-i.result in
    member_here c.args.name.now ms i m c.loop-i-test.true (item_again ms i c.index-members-i.result c.loop-i-test.true) (sym c.eq.ensures ∙ c.if-eq.true) c.loop-i.invariant
