use Rattle.std.proofs.Common.{◌≡◌, ◌++◌, replicate, string_bytes}
use Rattle.wave_format.proofs.page.push_blanks.Given as goal

abbrev pub invariant-times : goal.invariant-times
invariant-times l = string_bytes l.to ≡ string_bytes l.initial.to ++ replicate l.counter 32
