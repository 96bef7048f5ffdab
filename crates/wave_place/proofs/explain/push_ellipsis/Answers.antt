use Rattle.std.proofs.Common.{◌++◌, string_bytes, ap, ◌∙◌}
use Rattle.wave_place.proofs.Shown.{some_left}
use Rattle.wave_place.proofs.explain.push_ellipsis.Goals as goal

pub returns-in_ok-push : goal.returns-in_ok-push
returns-in_ok-push c = c.in_ok-push.ensures.bytes ∙ ap (λ x. string_bytes c.args.to.now ++ x) (some_left c.args.left_out c.if-left_out-gt0.true)
