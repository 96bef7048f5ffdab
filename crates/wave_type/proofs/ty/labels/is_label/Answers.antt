use Rattle.std.proofs.Common.{◌∙◌}
use Rattle.wave_type.proofs.DistinctNames.LabelTest.{prefix_tells}
use Rattle.wave_type.proofs.ty.labels.is_label.Goals as goal

pub returns : goal.returns
returns c = c.eq.ensures ∙ prefix_tells _ _ c.longest_prefix.ensures
