-- Texts that mean the same.
use Rattle.std.specs.Prelude.{ℕ, ◌≡◌, ◌↔◌, List, [], ◌∷◌}
use Rattle.wave_wasm.specs.Types.{TypeTree}
use Rattle.wave_wasm.specs.Values.{Value}
use Rattle.wave_grammar.specs.Token.{Token, TokenizesTo, comma, brace_close, paren_close, bracket_close}
use Rattle.wave_grammar.specs.Tree.{Tree, Takes, SpellsTree}
use Rattle.wave_grammar.specs.Elaborates.{TreeReads}
use Rattle.wave_grammar.specs.Denotes.{Means, SpellsText}
use Rattle.wave_grammar.specs.DisplayLaws.{IsTextOf, MeanTheSame}

-- a text means at a type, within n levels, what the type gives the tree that the text spells within n levels
abbrev pub MeansByTree : Type 0
MeansByTree = (T : TypeTree) (n : ℕ) (s : List ℕ) (v : Value) → Means T n s v ↔ ((t : Tree) × SpellsText n s t × TreeReads T t v)

-- texts of the same tokens mean the same
abbrev pub SameTokensMeanTheSame : Type 0
SameTokensMeanTheSame = (s d : List ℕ) (tokens : List Token) → TokenizesTo s tokens → TokenizesTo d tokens → MeanTheSame s d

-- texts of one tree mean the same
abbrev pub SameTreeMeansTheSame : Type 0
SameTreeMeansTheSame = (s d : List ℕ) (t : Tree) → IsTextOf s t → IsTextOf d t → MeanTheSame s d

-- the token before the others, but for a comma before a close
abbrev pub put_token : Token → List Token → List Token
put_token comma (brace_close ∷ more) = brace_close ∷ more
put_token comma (paren_close ∷ more) = paren_close ∷ more
put_token comma (bracket_close ∷ more) = bracket_close ∷ more
put_token token more = token ∷ more

-- the tokens without the commas that stand before a close
abbrev pub without_last_commas : List Token → List Token
without_last_commas [] = []
without_last_commas (token ∷ more) = put_token token (without_last_commas more)

-- without them the tokens spell the same tree
abbrev pub LastCommasMayGo : Type 0
LastCommasMayGo = (n : ℕ) (tokens : List Token) (t : Tree) → Takes n tokens t [] → Takes n (without_last_commas tokens) t []

-- texts that differ only in these commas, and spell trees, spell one tree and mean the same
abbrev pub LastCommasMeanNothing : Type 0
LastCommasMeanNothing =
    (s d : List ℕ) (tokens others : List Token) (t u : Tree) → TokenizesTo s tokens → TokenizesTo d others → SpellsTree tokens t → SpellsTree others u →
    without_last_commas tokens ≡ without_last_commas others → (t ≡ u) × MeanTheSame s d
