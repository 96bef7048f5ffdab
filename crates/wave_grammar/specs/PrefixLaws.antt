-- What holds of the tokens that begin a tree.
use Rattle.std.specs.Prelude.{ℕ, ◌≡◌, ◌≢◌, ◌≤◌, ◌+◌, ◌⊎◌, List, [], ◌∷◌, ◌++◌, length, map}
use Rattle.wave_wasm.specs.Names.{IsOneOf}
use Rattle.wave_grammar.specs.Token.{Token, brace_open, paren_open, paren_close, comma, label}
use Rattle.wave_grammar.specs.LeafTokens.{name_of}
use Rattle.wave_grammar.specs.Tree.{Tree, Takes}
use Rattle.wave_grammar.specs.LenientTree.{TakesLoosely}
use Rattle.wave_grammar.specs.PrefixAutomaton.{Expectation, StackSymbol, value, behind_value, behind_label}
use Rattle.wave_grammar.specs.PrefixAutomaton.{reads, unexpected, empty_tuple, repeated_flag, too_deep, step, Shifts, IsValueExpected}

-- no more is expected of a value before these tokens: where a payload may follow, no `(` does
abbrev pub EndsBefore : Expectation → List Token → Type 0
EndsBefore behind_value rest = Unit {0}
EndsBefore behind_label rest = (more : List Token) → rest ≢ paren_open ∷ more
EndsBefore _ rest = ⊥

-- the tokens of a tree within n levels lead from where a value is expected to its end
abbrev pub TreesAreAccepted : Type 0
TreesAreAccepted =
    (n : ℕ) (tokens rest : List Token) (t : Tree) → Takes n tokens t rest →
    (prefix : List Token) × (d : Expectation) × (tokens ≡ prefix ++ rest) × EndsBefore d rest × Shifts n value [] prefix d []

-- tokens that lead from where a value is expected to its end are those of a tree within n levels
abbrev pub AcceptedTokensHaveATree : Type 0
AcceptedTokensHaveATree =
    (n : ℕ) (prefix rest : List Token) (d : Expectation) → EndsBefore d rest → Shifts n value [] prefix d [] → (t : Tree) × Takes n (prefix ++ rest) t rest

-- a prefix of the tokens of a tree within n levels is led
abbrev pub PrefixesAreViable : Type 0
PrefixesAreViable =
    (n : ℕ) (prefix more : List Token) (t : Tree) → Takes n (prefix ++ more) t [] → (d : Expectation) × (s : List StackSymbol) × Shifts n value [] prefix d s

-- tokens that are led within n levels go on as those of a tree, with one level more at most
abbrev pub ViableTokensBeginATree : Type 0
ViableTokensBeginATree =
    (n : ℕ) (prefix : List Token) (d : Expectation) (s : List StackSymbol) → Shifts n value [] prefix d s → (more : List Token) × (t : Tree) × Takes (n + 1) (prefix ++ more) t []

-- with a token that is not read the tokens begin no tree within n levels; where it is not too deep, none within any levels
abbrev pub RefusedTokensBeginNone : Type 0
RefusedTokensBeginNone =
    (n : ℕ) (prefix : List Token) (d : Expectation) (s : List StackSymbol) (t : Token) → Shifts n value [] prefix d s → ((e : Expectation) (r : List StackSymbol) → step n d s t ≢ reads e r) →
    (m : ℕ) (more : List Token) (u : Tree) → (m ≤ n) ⊎ (step n d s t ≢ too_deep) → Takes m (prefix ++ t ∷ more) u [] → ⊥

-- with a token that is unexpected the tokens begin no tree, even if tuples might be empty, flags be repeated and values be as deep as they like
abbrev pub UnexpectedTokensBeginNone : Type 0
UnexpectedTokensBeginNone =
    (n : ℕ) (prefix : List Token) (d : Expectation) (s : List StackSymbol) (t : Token) → Shifts n value [] prefix d s → step n d s t ≡ unexpected →
    (m : ℕ) (more : List Token) (u : Tree) → TakesLoosely m (prefix ++ t ∷ more) u [] → ⊥

-- labels, a comma after each
abbrev pub flags_before : List (List ℕ) → List Token
flags_before [] = []
flags_before (text ∷ more) = label text ∷ comma ∷ flags_before more

-- an empty tuple is refused at a `)` after its `(`
abbrev pub EmptyTuplesAreEmpty : Type 0
EmptyTuplesAreEmpty =
    (n : ℕ) (prefix : List Token) (d : Expectation) (s : List StackSymbol) (t : Token) → Shifts n value [] prefix d s → step n d s t ≡ empty_tuple →
    (before : List Token) × (prefix ≡ before ++ paren_open ∷ []) × (t ≡ paren_close)

-- a repeated flag is refused at a label whose name is that of an earlier flag of the same braces
abbrev pub RepeatedFlagsAreRepeated : Type 0
RepeatedFlagsAreRepeated =
    (n : ℕ) (prefix : List Token) (d : Expectation) (s : List StackSymbol) (t : Token) → Shifts n value [] prefix d s → step n d s t ≡ repeated_flag →
    (before : List Token) × (texts : List (List ℕ)) × (text : List ℕ)
    × (prefix ≡ before ++ brace_open ∷ flags_before texts) × (t ≡ label text) × IsOneOf (map name_of texts) (name_of text)

-- a value is too deep where it is expected and n forms are open
abbrev pub DeepValuesAreDeep : Type 0
DeepValuesAreDeep =
    (n : ℕ) (prefix : List Token) (d : Expectation) (s : List StackSymbol) (t : Token) → Shifts n value [] prefix d s → step n d s t ≡ too_deep → IsValueExpected d × (length s ≡ n)
