use Rattle.std.proofs.Common.{◌≡◌, take, false}
use Rattle.std.specs.List.{list_any}
use Rattle.wave_type_explain.specs.Expected.{is_general}
use Rattle.wave_type_explain.proofs.expected.has_general.Given as goal

abbrev pub invariant-loop-class : goal.invariant-loop-class
invariant-loop-class l = list_any is_general (take l.class-index l.classes) ≡ false
