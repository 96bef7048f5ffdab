use Rattle.wave_expected.proofs.ExpectedTokens.OpenBrackets.{brackets_are_forms}
use Rattle.wave_expected.proofs.laws.open_brackets_are_forms.Goals as goal

pub returns : goal.returns
returns c = brackets_are_forms
