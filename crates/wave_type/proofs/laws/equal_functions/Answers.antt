use Rattle.wave_type.specs.FunctionEqualityLaws.{one_function, same_by_path}
use Rattle.wave_type.proofs.laws.equal_functions.Goals as goal

pub returns : goal.returns
returns c = λ f g. (one_function f g, same_by_path f g)
