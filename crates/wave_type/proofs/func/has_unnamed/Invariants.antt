use Rattle.std.proofs.Common.{◌≡◌, map, drop}
use Rattle.std.specs.List.{list_any}
use Rattle.wave_type.specs.NamingRule.{is_unnamed}
use Rattle.wave_type.specs.TypeModel.{by_bytes}
use Rattle.wave_type.proofs.func.has_unnamed.Given as goal

abbrev pub invariant-loop-part : goal.invariant-loop-part
invariant-loop-part l = list_any is_unnamed (map by_bytes (drop l.part-index l.parts.items)) ≡ list_any is_unnamed (map by_bytes l.parts.items)
