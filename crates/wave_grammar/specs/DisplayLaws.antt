-- What holds of displayed trees.
use Rattle.std.specs.Prelude.{ℕ, ◌≡◌, ◌↔◌, List}
use Rattle.wave_wasm.specs.Types.{TypeTree}
use Rattle.wave_wasm.specs.Values.{Value}
use Rattle.wave_grammar.specs.Token.{Token, TokenizesTo}
use Rattle.wave_grammar.specs.Tree.{Tree, MaybeTree, SpellsTree, levels, display}
use Rattle.wave_grammar.specs.Calls.{IsCall, display_call}
use Rattle.wave_grammar.specs.Params.{Params}
use Rattle.wave_grammar.specs.Denotes.{Means}

-- the text has tokens that spell the tree
abbrev pub IsTextOf : List ℕ → Tree → Type 0
IsTextOf s t = (tokens : List Token) × TokenizesTo s tokens × SpellsTree tokens t

-- the display of the tree has tokens that spell a tree of as many levels and of the same display
pub record ShowsAgain (t : Tree) : Type 0 where
  pub tree : Tree
  pub text : IsTextOf (display t) tree
  pub levels : levels tree ≡ levels t
  pub display : display tree ≡ display t

-- the texts mean the same values, at every type and within any levels
abbrev pub MeanTheSame : List ℕ → List ℕ → Type 0
MeanTheSame s d = (T : TypeTree) (n : ℕ) (v : Value) → Means T n s v ↔ Means T n d v

-- the display of a parsed tree spells such a tree, and means what the text means that was parsed
abbrev pub DisplayKeepsMeaning : Type 0
DisplayKeepsMeaning = (s : List ℕ) (t : Tree) → IsTextOf s t → ShowsAgain t × MeanTheSame s (display t)

-- the display of the call is a call of the same name, whose display is the same
pub record ShowsCallAgain (name : List ℕ) (params : MaybeTree) : Type 0 where
  pub others : MaybeTree
  pub call : IsCall (display_call name params) name others
  pub display : display_call name others ≡ display_call name params

-- the display of a parsed call is such a call, and its tokens are the same parameters at all types
abbrev pub DisplayCallKeepsMeaning : Type 0
DisplayCallKeepsMeaning =
    (s name : List ℕ) (params : MaybeTree) (call : IsCall s name params)
    → (again : ShowsCallAgain name params) × ((Ts : List TypeTree) (vs : List Value) → Params Ts call.tokens vs ↔ Params Ts again.call.tokens vs)
