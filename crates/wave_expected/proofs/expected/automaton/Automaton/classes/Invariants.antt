use Rattle.std.proofs.Common.{◌≡◌, take}
use Rattle.std.specs.List.{filter}
use Rattle.wave_expected.specs.Expected.{every_class}
use Rattle.wave_expected.proofs.ExpectedTokens.MayStand.{may_stand}
use Rattle.wave_expected.proofs.expected.automaton.Automaton.classes.Given as goal

abbrev pub invariant-loop-class : goal.invariant-loop-class
invariant-loop-class l = l.classes.items ≡ filter (may_stand l.self.state l.self.forms.items l.self.levels) (take l.class-index every_class)
