use Rattle.std.proofs.Common.{◌≡◌, ◌-◌, ◌++◌, length, take, drop, chars, ap, ◌∙◌}
use Rattle.wave_place.specs.Shown.{shown_text, ellipsis}
use Rattle.wave_place.proofs.Shown.{last_ones}
use Rattle.wave_place.proofs.explain.shown_before.Goals as goal

pub returns : goal.returns
returns c =
    let left_is : c.saturating_sub-left_out.result ≡ length (chars c.args.prefix.now) - 48 =
    c.saturating_sub-left_out.ensures ∙ ap (λ n. n - 48) c.scalars.ensures.count in
    c.in_ok-push_shown.ensures
    ∙ (ap (λ x. x ++ shown_text (take 48 (drop c.saturating_sub-left_out.result (chars c.args.prefix.now))))
    (c.in_ok-push_ellipsis.ensures ∙ ap (λ x. x ++ ellipsis c.saturating_sub-left_out.result) c.new-text.ensures.bytes)
    ∙ (ap (λ n. ellipsis n ++ shown_text (take 48 (drop n (chars c.args.prefix.now)))) left_is
    ∙ ap (λ x. ellipsis (length (chars c.args.prefix.now) - 48) ++ shown_text x) (last_ones (chars c.args.prefix.now))))
