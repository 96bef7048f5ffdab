use Rattle.std.proofs.Common.{map, take}
use Rattle.wave_wasm.specs.Names.{IsNoneOf}
use Rattle.wave_read.specs.RecordParts.{field_name}
use Rattle.wave_read.proofs.records.Fields.search.Given as goal

abbrev pub invariant-loop-i : goal.invariant-loop-i
invariant-loop-i g l = IsNoneOf (map field_name (take l.i l.self.fields.items)) l.name
