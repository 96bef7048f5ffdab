use Rattle.wave_type.proofs.TypeReading.TextTokens.{KeepsItems}
use Rattle.wave_type.proofs.tokens.tokens_of.Given as goal

abbrev pub invariant-loop-item : goal.invariant-loop-item
invariant-loop-item l = KeepsItems l.text l.tokens.items l.lexer
