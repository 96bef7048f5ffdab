use Rattle.std.proofs.Common.{ℕ, ◌-◌, ap, ◌∙◌, take}
use Rattle.wave_expected.proofs.ExpectedTokens.PlacedTokens.{closed_after}
use Rattle.wave_expected.proofs.expected.note_bracket.Goals as goal

pub returns-in-BraceClose : goal.returns-in-BraceClose
returns-in-BraceClose c = closed_after c.args.class c.args.span c.args.spans.now.items c.pop.new.self.items c.in-BraceClose.is (c.pop.ensures.rest ∙ ap (λ (n : ℕ). take (n - 1) c.args.spans.now.items) c.args.spans.now.ok.0)
