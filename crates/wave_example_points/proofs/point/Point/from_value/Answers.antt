use Rattle.std.proofs.Common.{rules}
use Rattle.wave_example_points.proofs.Fields.{is_point}
use Rattle.wave_example_points.proofs.point.Point.from_value.Goals as goal

pub returns-clause-is : goal.returns-clause-is
returns-clause-is c =
    is_point (record { x = _; y = _; label = c.in_ok-from_str.field-0 }) c.args.value.now.tree c.as_slice.result.now
    c.index-0.result c.index-1.result c.index-2.result c.index-x-0.result c.index-y-1.result c.index-label-2.result
    (search rules) (search rules) (search rules) (search rules) (search rules) (search rules) (search rules) (search rules)
