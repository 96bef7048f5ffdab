-- Numbers in a list, each after a comma.
use Rattle.std.specs.Prelude.{Some, Ok}
use Rattle.wave_lex.specs.declared.lex.Token.TheVariants.{Comma, Number}
use Rattle.wave_lex.specs.Tokenization.{Lexed, NextIs}

-- the next two tokens, a comma and a number, were taken
abbrev pub TakesNumberInTurn : Lexed → Lexed → Type 0
TakesNumberInTurn old new = (comma : Lexed) × NextIs old comma (Some (Ok Comma)) × NextIs comma new (Some (Ok Number))
