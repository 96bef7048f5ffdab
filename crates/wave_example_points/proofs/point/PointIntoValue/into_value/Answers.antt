use Rattle.std.proofs.Common.{rules}
use Rattle.wave_example_points.proofs.Built.{built_point}
use Rattle.wave_example_points.proofs.point.PointIntoValue.into_value.Goals as goal

pub returns-in-Ok : goal.returns-in-Ok
returns-in-Ok c =
    built_point c.args.self c.from.result c.from-2.result c.from-3.result _ _ _
    (search rules) (search rules) (search rules) (search rules) (search rules) c.in-Ok.ensures.built
