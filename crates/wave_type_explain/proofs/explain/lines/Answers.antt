use Rattle.std.proofs.Common.{◌++◌, ap, ◌∙◌}
use Rattle.wave_type_explain.proofs.explain.lines.Goals as goal

pub returns : goal.returns
returns c = λ misplaced. (
  c.in_ok-expected.expected,
  c.as_str.result.now,
  c.in_ok-expected.ensures,
  c.in_ok-push_str.ensures.bytes ∙ ap (λ s. s ++ c.as_str.result.now) c.in_ok-lines.ensures,
)
