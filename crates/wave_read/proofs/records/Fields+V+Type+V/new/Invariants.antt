use Rattle.std.proofs.Common.{◌≡◌, map}
use Rattle.wave_read.proofs.RecordReading.Fields.{empty_field}
use Rattle.wave_read.proofs.records.Fields+V+Type+V.new.Given as goal

abbrev pub invariant-loop-name : goal.invariant-loop-name
invariant-loop-name g l = l.fields.items ≡ map empty_field l.yielded
