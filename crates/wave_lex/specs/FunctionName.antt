-- Function names, and what their lexer answers.
use Rattle.std.specs.Prelude.{◌≡◌, ℕ, ◌+◌, List, [], Option, Some, None, Result, Ok, Err}
use Rattle.std.specs.declared.ops.Range.{Range}
use Rattle.wave_lex.specs.declared.lex.FuncNameToken.{FuncNameToken}
use Rattle.wave_lex.specs.LongestMatch.{Greatest, IsPrefixOf}
use Rattle.wave_lex.specs.Tokens.{function_name, any}
use Rattle.wave_lex.specs.Tokenization.{Lexed, remainder_of, span}

-- the first k bytes of s are the longest function name
abbrev pub IsName : List ℕ → ℕ → Type 0
IsName s k = Greatest (IsPrefixOf function_name s) (Some k)

-- no function name stands at the start of s
abbrev pub NoName : List ℕ → Type 0
NoName s = Greatest (IsPrefixOf function_name s) None

-- an item of k bytes stands where the lexer stood, and the span is its
pub record Advances (old new : Lexed) (k : ℕ) : Type 0 where
  pub source : new.source ≡ old.source
  pub start : new.start ≡ old.end
  pub end : new.end ≡ old.end + k

-- what `FuncNameLexer::next` answers: the longest name; None at the end; else the span of one scalar
abbrev pub NameIs : Lexed → Lexed → Option (Result FuncNameToken (Range ℕ)) → Type 0
NameIs old new None = (remainder_of old ≡ []) × Advances old new 0
NameIs old new (Some (Ok name)) = (k : ℕ) × Advances old new k × IsName (remainder_of old) k
NameIs old new (Some (Err bad)) = (k : ℕ) × Advances old new k × NoName (remainder_of old) × IsPrefixOf any (remainder_of old) k × (bad ≡ span new.start new.end)
