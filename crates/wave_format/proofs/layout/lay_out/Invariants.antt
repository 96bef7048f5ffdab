use Rattle.std.proofs.Common.{◌≡◌, ℕ, take, length}
use Rattle.wave_lex.specs.Tokenization.{remainder_of}
use Rattle.wave_grammar.specs.Token.{TokenizesTo}
use Rattle.wave_grammar.specs.Tree.{Tree}
use Rattle.wave_grammar.specs.Denotes.{SpellsText}
use Rattle.wave_format.specs.Private.Laying.{no_params, IsLaidSoFar, IsCopiedSoFar}
use Rattle.wave_format.proofs.layout.lay_out.Given as goal

abbrev pub invariant-tokens : goal.invariant-tokens
invariant-tokens l =
    (l.source ≡ l.lexer.source)
    × ((n : ℕ) (t : Tree) → SpellsText n (remainder_of l.fn.lexer) t → IsLaidSoFar n t (take l.fn.lexer.end l.fn.lexer.source) (remainder_of l.fn.lexer) l.lexer l.page)
    × (TokenizesTo (remainder_of l.fn.lexer) no_params → IsCopiedSoFar (take l.fn.lexer.end l.fn.lexer.source) (remainder_of l.fn.lexer) l.lexer l.page)

abbrev pub decreases-tokens : goal.decreases-tokens
decreases-tokens l = length (remainder_of l.lexer)
