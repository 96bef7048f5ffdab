-- What holds of trees.
use Rattle.std.specs.Prelude.{ℕ, ◌≡◌, ◌≢◌, ◌≤◌, ◌↔◌, List, [], ◌∷◌}
use Rattle.wave_wasm.specs.Types.{TypeTree}
use Rattle.wave_wasm.specs.Values.{Value}
use Rattle.wave_grammar.specs.Token.{Token, paren_open, paren_close}
use Rattle.wave_grammar.specs.CommaSeparated.{Items}
use Rattle.wave_grammar.specs.Params.{Params}
use Rattle.wave_grammar.specs.ParamElaboration.{TreeParams}
use Rattle.wave_grammar.specs.TypedGrammar.{Reads}
use Rattle.wave_grammar.specs.Tree.{Tree, Takes, levels}
use Rattle.wave_grammar.specs.Elaborates.{TreeReads}

-- no two trees stand at the start of the same tokens, nor does one end at two places
abbrev pub OneTree : Type 0
OneTree = (n m : ℕ) (tokens rest others : List Token) (t u : Tree) → Takes n tokens t rest → Takes m tokens u others → (t ≡ u) × (rest ≡ others)

-- a tree that stands there within n levels has at most n, and stands there within any m that are not fewer than its own
abbrev pub HasItsLevels : Type 0
HasItsLevels = (n : ℕ) (tokens rest : List Token) (t : Tree) → Takes n tokens t rest → (levels t ≤ n) × ((m : ℕ) → levels t ≤ m → Takes m tokens t rest)

-- tokens spell a value of the type, where no `(` follows, only as a tree to which the type gives the value
abbrev pub ReadsByTree : TypeTree → Type 0
ReadsByTree T =
    (n : ℕ) (tokens rest : List Token) (v : Value) → ((more : List Token) → rest ≢ paren_open ∷ more) → Reads T n tokens v rest →
    (t : Tree) × Takes n tokens t rest × TreeReads T t v

-- a tree to which the type gives a value spells that value
abbrev pub TreeIsRead : TypeTree → Type 0
TreeIsRead T = (n : ℕ) (tokens rest : List Token) (t : Tree) (v : Value) → Takes n tokens t rest → TreeReads T t v → Reads T n tokens v rest

-- the parameters that the tokens of some items in parentheses are, are the values that the types in their places give the items' trees
abbrev pub ParamsAreByTree : Type 0
ParamsAreByTree =
    (Ts : List TypeTree) (n : ℕ) (prefix : List Token) (ts : List Tree) (vs : List Value) → Items paren_close (Takes n) prefix ts [] →
    Params Ts (paren_open ∷ prefix) vs ↔ TreeParams Ts ts vs
