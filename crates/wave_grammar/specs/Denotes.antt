-- The value that a text means at a type.
use Rattle.std.specs.Prelude.{ℕ, List, []}
use Rattle.wave_wasm.specs.Types.{TypeTree}
use Rattle.wave_wasm.specs.Values.{Value}
use Rattle.wave_grammar.specs.Token.{Token, TokenizesTo}
use Rattle.wave_grammar.specs.TypedGrammar.{Reads}
use Rattle.wave_grammar.specs.Tree as tree
use Rattle.wave_grammar.specs.Tree.{Tree}

-- the text has tokens that spell the value within n levels
abbrev pub Means : TypeTree → ℕ → List ℕ → Value → Type 0
Means T n s v = (tokens : List Token) × TokenizesTo s tokens × Reads T n tokens v []

-- within n levels the text means no value of the type
abbrev pub MeansNone : TypeTree → ℕ → List ℕ → Type 0
MeansNone T n s = (v : Value) → Means T n s v → ⊥

-- the whole text spells the tree within n levels
abbrev pub SpellsText : ℕ → List ℕ → Tree → Type 0
SpellsText n s t = (tokens : List Token) × TokenizesTo s tokens × tree.Takes n tokens t []

-- the whole text spells no tree within n levels
abbrev pub SpellsNoTree : ℕ → List ℕ → Type 0
SpellsNoTree n s = (t : Tree) → SpellsText n s t → ⊥
