use Rattle.std.proofs.Common.{ap, ◌∙◌}
use Rattle.wave_lex.specs.Errors.{refusal_of}
use Rattle.wave_leaf.proofs.ReadErrors.ByParts.{no_form}
use Rattle.wave_leaf.proofs.error.ReadError.is_wrong_form.Goals as goal

pub returns-in_default : goal.returns-in_default
returns-in_default c = (λ none. absurd (cc), λ same. absurd (no_form c.self.inside.reason c.self.inside.span c.in_default.not-Plain (ap refusal_of c.self.view_is ∙ same)))
