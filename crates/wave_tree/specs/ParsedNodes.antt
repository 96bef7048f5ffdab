-- The nodes that a parser makes of the tokens that it takes.
use Rattle.std.specs.Prelude.{ℕ, ◌≡◌, List, [], ◌∷◌, ◌++◌, Some, Ok}
use Rattle.std.specs.Str.{IsUtf8}
use Rattle.wave_lex.specs.declared.lex.Token as lex
use Rattle.wave_lex.specs.Tokenization.{remainder_of, span}
use Rattle.wave_grammar.specs.Token.{Token}
use Rattle.wave_grammar.specs.Tree as tree
use Rattle.wave_grammar.specs.SpannedTree.{SpannedTree, tree_of, span_of}
use Rattle.wave_grammar.specs.NodeTree.{NodeTree}
use Rattle.wave_grammar.specs.Nodes.{IsNodeOf}
use Rattle.wave_grammar.specs.ParserPosition.{Place, TakesItem, TakesToken, TakesTokens}
use Rattle.wave_grammar.specs.Tree.{NoParen}

-- what is left at the place is UTF-8
abbrev pub IsSound : Place → Type 0
IsSound p = IsUtf8 (remainder_of p.lexer)

-- from the place old to the place new stand the tokens of a tree within n levels, and the node means that tree
pub record IsParsed (n : ℕ) (old new : Place) (parsed : NodeTree) : Type 0 where
  pub first : Place
  pub token : Token
  pub others : List Token
  pub begins : TakesToken old token first
  pub taken : TakesTokens first others new
  pub placed : SpannedTree
  pub spans : span_of placed ≡ span first.lexer.start new.lexer.end
  pub is_node : IsSound old → IsNodeOf old.lexer.source parsed placed
  pub takes : (rest : List Token) → NoParen rest → tree.Takes n (token ∷ (others ++ rest)) (tree_of placed) rest

-- the next token is of this class
abbrev pub TakesClass : lex.Token → Place → Place → Type 0
TakesClass c p q = TakesItem p (Some (Ok c)) q

-- ---- whole values

-- the parser took the tokens of this tree, within n levels
pub record IsTaken (n : ℕ) (old new : Place) (t : tree.Tree) : Type 0 where
  pub tokens : List Token
  pub taken : TakesTokens old tokens new
  pub takes : tree.Takes n tokens t []

-- the tree stands between the places, from its first token to its last
abbrev pub StandsBetween : Place → Place → SpannedTree → Type 0
StandsBetween old new t = (first : Place) × (token : Token) × TakesToken old token first × (span_of t ≡ span first.lexer.start new.lexer.end)

-- the parser took the tokens of the tree that the node means, within n levels, and there it stands
pub record IsNodeTaken (n : ℕ) (old new : Place) (parsed : NodeTree) : Type 0 where
  pub placed : SpannedTree
  pub is_node : IsNodeOf old.lexer.source parsed placed
  pub taken : IsTaken n old new (tree_of placed)
  pub stands : StandsBetween old new placed
