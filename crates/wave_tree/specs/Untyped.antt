-- What untyped values are in a contract, and what reading one from a text answers.
use Rattle.std.specs.Prelude.{ℕ, ◌≡◌, ◌≢◌, ◌⊎◌, List, [], None}
use Rattle.wave_lex.specs.Errors.{Diagnostic, Says}
use Rattle.wave_lex.specs.Tokenization.{span}
use Rattle.wave_lex.specs.declared.error.ParserErrorKind.TheVariants.{OutOfMemory}
use Rattle.wave_grammar.specs.Tree.{Tree}
use Rattle.wave_grammar.specs.ParserPosition.{Place, TakesItem}
use Rattle.wave_grammar.specs.PrefixAutomaton.{value}
use Rattle.wave_grammar.specs.SyntaxErrors.{LeadsBehindValue, IsSyntaxError}
use Rattle.wave_grammar.specs.SpannedTree.{SpannedTree, tree_of}
use Rattle.wave_grammar.specs.NodeTree.{NodeTree}
use Rattle.wave_grammar.specs.Nodes.{IsNodeOf}
use Rattle.wave_tree.specs.ParsedNodes.{IsTaken, IsNodeTaken, StandsBetween}
use Rattle.wave_tree.specs.ParserState.{IsTrailing, start_of}
use Rattle.wave_grammar.specs.Denotes.{SpellsNoTree, SpellsText}

-- an untyped value: its source, and the node of its tree
pub record Untyped : Type 0 where
  pub source : List ℕ
  pub node : NodeTree

-- the value keeps the parser's source, and the parser took the tokens of the tree that its node means, within n levels
abbrev pub IsUntypedTaken : ℕ → Place → Place → Untyped → Type 0
IsUntypedTaken n old new u = (u.source ≡ old.lexer.source) × IsNodeTaken n old new u.node

-- the whole text spells a tree within n levels
abbrev pub SpellsTree : ℕ → List ℕ → Type 0
SpellsTree n s = (t : Tree) × SpellsText n s t

-- the value keeps the text, and its node means the tree that the whole text spells within n levels, from its first token to its last
pub record IsUntypedOf (n : ℕ) (s : List ℕ) (u : Untyped) : Type 0 where
  pub source : u.source ≡ s
  pub placed : SpannedTree
  pub is_node : IsNodeOf s u.node placed
  pub spelled : SpellsText n s (tree_of placed)
  pub last : Place
  pub taken : IsTaken n (start_of s) last (tree_of placed)
  pub stands : StandsBetween (start_of s) last placed
  pub ends : (behind : Place) × TakesItem last None behind

-- what is wrong with the text: no tree within n levels begins it, or something follows the tree
abbrev pub SyntaxFault : ℕ → List ℕ → Diagnostic → Type 0
SyntaxFault n s e =
    ((p : Place) × IsSyntaxError e n value [] (start_of s) p)
    ⊎ ((p : Place) × (t : Tree) × LeadsBehindValue n value [] (start_of s) p [] × IsTaken n (start_of s) p t × IsTrailing e p)

-- out of memory; or a fault of the text, which spells no tree within n levels
abbrev pub RefusesTree : ℕ → List ℕ → Diagnostic → Type 0
RefusesTree n s e = (e.kind ≢ OutOfMemory) → SyntaxFault n s e × SpellsNoTree n s

-- out of memory stands at 0..0
abbrev pub MemoryAtStart : Diagnostic → Type 0
MemoryAtStart e = e.kind ≡ OutOfMemory → Says e OutOfMemory (span 0 0) None
