-- What the lexer's classes are to the untyped grammar.
use Rattle.std.specs.Prelude.{◌≡◌, ◌⊎◌}
use Rattle.wave_lex.specs.declared.lex.Token as lex
use Rattle.wave_lex.specs.declared.lex.Token.TheVariants.{ParenClose, BracketClose, Number, LabelOrKeyword, Char, String, MultilineString}
use Rattle.wave_grammar.specs.PrefixAutomaton.{StackSymbol, tuple, list}

-- the form that a closing mark closes
abbrev pub form_of : lex.Token → StackSymbol
form_of ParenClose = tuple
form_of _ = list

-- the class is that of a mark that closes a tuple or a list
abbrev pub IsClose : lex.Token → Type 0
IsClose c = (c ≡ ParenClose) ⊎ (c ≡ BracketClose)

-- the class is one of those of a key
abbrev pub IsKeyClass : lex.Token → Type 0
IsKeyClass LabelOrKeyword = Unit {0}
IsKeyClass Number = Unit {0}
IsKeyClass Char = Unit {0}
IsKeyClass String = Unit {0}
IsKeyClass MultilineString = Unit {0}
IsKeyClass _ = ⊥
