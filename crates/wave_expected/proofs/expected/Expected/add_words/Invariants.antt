use Rattle.std.proofs.Common.{◌≡◌, ◌++◌, take}
use Rattle.wave_wasm.specs.Borrowed.{texts}
use Rattle.wave_expected.specs.Expected.{words_among}
use Rattle.wave_expected.proofs.expected.Expected.add_words.Given as goal

abbrev pub invariant-loop-class : goal.invariant-loop-class
invariant-loop-class l = texts l.words.items ≡ texts l.initial.words.items ++ words_among l.self.classes.items (take l.class-index l.reported)
