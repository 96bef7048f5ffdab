use Rattle.std.proofs.Common.{◌≡◌, take, map}
use Rattle.std.specs.List.{filter}
use Rattle.wave_wasm.specs.Borrowed.{texts}
use Rattle.wave_type_explain.specs.Expected.{class_word, is_reported}
use Rattle.wave_type_explain.proofs.expected.reported_words.Given as goal

abbrev pub invariant-loop-class : goal.invariant-loop-class
invariant-loop-class l = texts l.words.items ≡ map class_word (filter (is_reported l.general) (take l.class-index l.classes))
