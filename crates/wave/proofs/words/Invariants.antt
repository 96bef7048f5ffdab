-- What is left and what was taken are the arguments after the first.
use Rattle.std.proofs.Common.{◌≡◌, ◌++◌, drop, IfOk}
use Rattle.std.specs.Vec.Iter.{into_iter_items, into_iter_len}
use Rattle.wave.proofs.words.Given as goal

abbrev pub invariant-loop-word : goal.invariant-loop-word
invariant-loop-word l = IfOk l.fn.arguments (λ all. l.words.items ++ into_iter_items l.rest ≡ drop 1 (into_iter_items all))

abbrev pub decreases-loop-word : goal.decreases-loop-word
decreases-loop-word l = into_iter_len l.rest
