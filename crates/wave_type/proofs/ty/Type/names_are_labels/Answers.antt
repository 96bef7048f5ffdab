use Rattle.wave_type.proofs.DistinctNames.LabelTest.{pass_is_labelled}
use Rattle.wave_type.proofs.ty.Type.names_are_labels.Goals as goal

pub returns-clause-labels : goal.returns-clause-labels
returns-clause-labels c = pass_is_labelled c.args.self.now _ c.names_pass.ensures
