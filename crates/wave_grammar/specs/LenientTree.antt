-- Trees as they would be if a tuple might be empty and a flag repeated. They keep a token after which no
-- tree can follow apart from one that is refused only for such a fault, or for the depth of its value.
use Rattle.std.specs.Prelude.{ℕ, zero, suc, ◌<◌, ◌≡◌, ◌⊎◌, List, ◌∷◌, length}
use Rattle.wave_grammar.specs.Token.{Token, brace_open, brace_close, paren_open, paren_close}
use Rattle.wave_grammar.specs.CommaSeparated.{Spelling, Items}
use Rattle.wave_grammar.specs.TypedGrammar.{Never}
use Rattle.wave_grammar.specs.Tree.{Tree, tuple, no_trees, flags, ATree, Label}

-- braces of flags, which may be repeated
abbrev pub AnyFlags : Spelling Tree
AnyFlags tokens t rest =
    (prefix : List Token) × (texts : List (List ℕ)) × (0 < length texts)
    × (tokens ≡ brace_open ∷ prefix) × Items brace_close Label prefix texts rest × (t ≡ flags texts)

-- a tree over the trees within it, or `()`, or any flags
abbrev pub ALooseTree : Spelling Tree → Spelling Tree
ALooseTree Inner tokens t rest =
    ATree Inner tokens t rest ⊎ (tokens ≡ paren_open ∷ paren_close ∷ rest) × (t ≡ tuple no_trees) ⊎ AnyFlags tokens t rest

-- at the start of the tokens stands such a tree within n levels, and the rest is left
abbrev pub TakesLoosely : ℕ → Spelling Tree
TakesLoosely zero = Never
TakesLoosely (suc n) = ALooseTree (TakesLoosely n)
