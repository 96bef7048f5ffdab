use Rattle.std.proofs.Common.{◌≤◌, ◌++◌, [], ◌∷◌, length, take, drop, string_bytes, arith, sym, ap, ◌∙◌}
use Rattle.std.proofs.lemmas.Iterator.{YieldsList-from_chars}
use Rattle.std.proofs.lemmas.Iterator.Consumers.{YieldsList-end}
use Rattle.std.proofs.lemmas.List.{map-id, length-append, flat_map_more}
use Rattle.wave_place.specs.Shown.{shown_scalar, shown_text}
use Rattle.wave_place.proofs.Shown.{taken}
use Rattle.wave_place.proofs.explain.push_shown.Goals as goal

pub scalars-preserved-in-Continue-1 : goal.scalars-preserved-in-Continue-1
scalars-preserved-in-Continue-1 c =
    let inv = c.scalars.invariant in
    let to = string_bytes c.args.to.now in
    let xs = c.scalars.yielded in
    let le : c.args.skipped ≤ length xs = omega (arith, inv.3, c.if-left_out-gt0.false) in
    let grown =
    c.in_ok-push_scalar.ensures
    ∙ (ap (λ x. x ++ shown_scalar c.in-Some.scalar) inv.2
    ∙ (flat_map_more shown_scalar to (take c.args.most (drop c.args.skipped xs)) c.in-Some.scalar
    ∙ ap (λ x. to ++ shown_text x) (sym (taken xs c.in-Some.scalar c.args.skipped c.args.most le (omega (arith, inv.4, c.if-room-gt0.true)))))) in (
      tt,
      tt,
      grown,
      omega (arith, length-append xs (c.in-Some.scalar ∷ []), inv.3, c.if-left_out-gt0.false),
      omega (arith, length-append xs (c.in-Some.scalar ∷ []), inv.4, le),
    )

pub returns : goal.returns
returns c =
    let t = YieldsList-end (YieldsList-from_chars c.args.text.now c.utf8.text (cc)) c.scalars.yielded _ c.scalars.yielded_by _ _ c.in-None.is c.next.ensures.steps in
    c.scalars.invariant.2
    ∙ ap (λ x. string_bytes c.args.to.now ++ shown_text (take c.args.most (drop c.args.skipped x))) (sym (map-id c.scalars.yielded) ∙ t.0)
