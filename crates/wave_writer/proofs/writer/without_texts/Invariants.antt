use Rattle.std.proofs.Common.{◌≡◌, map}
use Rattle.wave_writer.proofs.writer.without_texts.Given as goal

abbrev pub invariant-loop-key : goal.invariant-loop-key
invariant-loop-key g l = l.pairs.items ≡ map {B = g.row.K.Denot × g.row.V.Denot} (λ e. (e.1, e.2)) l.yielded
