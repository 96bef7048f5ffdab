use Rattle.std.proofs.Common.{◌≡◌, ◌<◌, ◌^◌, drop}
use Rattle.wave_grammar.specs.NumberText.{digits}
use Rattle.wave_grammar.proofs.number.few_digits.Given as goal

abbrev pub invariant-loop-digit : goal.invariant-loop-digit
invariant-loop-digit l = record { so_far : digits 0 l.digits ≡ digits l.number (drop l.digit-index l.digits); fits : l.number < 10 ^ l.digit-index }
