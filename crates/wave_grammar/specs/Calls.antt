-- The text of a call, and its display.
use Rattle.std.specs.Prelude.{ℕ, ◌<◌, ◌≡◌, ◌⊎◌, ◌++◌, List, [], ◌∷◌, length, take, drop, codes}
use Rattle.wave_lex.specs.FunctionName.{IsName}
use Rattle.wave_grammar.specs.Token.{Token, TokenizesTo, paren_open, paren_close}
use Rattle.wave_grammar.specs.CommaSeparated.{Items}
use Rattle.wave_grammar.specs.Tree.{Tree, MaybeTree, no_tree, a_tree, tuple, trees, Takes, display}

-- `()`; or `(` values `)`, each within n levels
abbrev pub SpellsParams : ℕ → List Token → MaybeTree → Type 0
SpellsParams n tokens params =
    (tokens ≡ paren_open ∷ paren_close ∷ []) × (params ≡ no_tree)
    ⊎ ((prefix : List Token) × (items : List Tree) × (tokens ≡ paren_open ∷ prefix) × (0 < length items)
    × Items paren_close (Takes n) prefix items [] × (params ≡ a_tree (tuple (trees items))))

-- the text is a name, whitespace, the parameters and whitespace
pub record IsCall (s name : List ℕ) (params : MaybeTree) : Type 0 where
  pub bytes : ℕ
  pub tokens : List Token
  pub named : IsName s bytes
  pub is : name ≡ take bytes s
  pub cut : TokenizesTo (drop bytes s) tokens
  pub spelled : SpellsParams 100 tokens params

-- the name and the tuple, or the name and `()`
abbrev pub display_call : List ℕ → MaybeTree → List ℕ
display_call name no_tree = name ++ codes "()"
display_call name (a_tree t) = name ++ display t
