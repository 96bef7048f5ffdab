use Rattle.std.proofs.Common.{ap, Some, None}
use Rattle.std.specs.Prelude.{if◌then◌else◌}
use Rattle.wave_type.proofs.laws.types_convert_to_themselves.Goals as goal

pub returns : goal.returns
returns c = λ T representable. ap (λ b. if b then Some T else None) representable
