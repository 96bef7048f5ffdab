-- What a node answers about its flags.
use Rattle.std.specs.Prelude.{ℕ, ◌≡◌, ◌≢◌, ◌⊎◌, true, List, [], ◌∷◌, map, Result, Ok, Err}
use Rattle.wave_lex.specs.Errors.{Diagnostic, refusal_of}
use Rattle.wave_lex.specs.declared.error.ParserErrorKind.TheVariants.{InvalidType, OutOfMemory}
use Rattle.wave_grammar.specs.LeafTokens.{name_of}
use Rattle.wave_grammar.specs.Tree.{is_before}
use Rattle.wave_grammar.specs.NodeTree.{NodeTree, type_of, children_of, place_of}
use Rattle.wave_grammar.specs.NodeAccessors.{node_text, RefusedAs}
use Rattle.wave_grammar.specs.declared.form.NodeType.TheVariants as kind
use Rattle.std.specs.Borrow.{Bor}
use Rattle.wave_wasm.specs.Lists.{AllOf}
use Rattle.wave_wasm.specs.Names.{IsOneOf, IsNoneOf}
use Rattle.wave_wasm.specs.ValueErrors.{unknown_case}
use Rattle.wave_grammar.specs.Nodes.{IsParsedFrom}
use Rattle.wave_grammar.specs.TypeErrors.{RefusesFor}

-- the names of the labels at the nodes
abbrev pub names_at : List ℕ → List NodeTree → List (List ℕ)
names_at source ns = map (λ n. name_of (node_text source n)) ns

-- the node is of flags, or `{}`
abbrev pub AreFlags : NodeTree → Type 0
AreFlags n = (type_of n ≡ kind.Flags) ⊎ (type_of n ≡ kind.EmptySet)

-- a refusal of a node that is neither
abbrev pub IsNoFlags : NodeTree → Diagnostic → Type 0
IsNoFlags n e = (type_of n ≢ kind.Flags) × (type_of n ≢ kind.EmptySet) × RefusedAs InvalidType n e

-- the names of the flags, in the order of the nodes; or `InvalidType` at another node
abbrev pub GivesFlags : List ℕ → NodeTree → Result (List (List ℕ)) Diagnostic → Type 0
GivesFlags source n (Ok names) = AreFlags n × (names ≡ names_at source (children_of n))
GivesFlags source n (Err e) = IsNoFlags n e

-- each name is before the next in byte order
abbrev pub AreInOrder : List (List ℕ) → Type 0
AreInOrder [] = Unit {0}
AreInOrder (name ∷ []) = Unit {0}
AreInOrder (name ∷ next ∷ more) = (is_before name next ≡ true) × AreInOrder (next ∷ more)

-- the nodes were parsed from the source
abbrev pub AreAllParsed : List ℕ → List NodeTree → Type 0
AreAllParsed source ns = AllOf (IsParsedFrom source) ns

-- the nodes of the flags; or `InvalidType` at another node
abbrev pub GivesFlagNodes : NodeTree → Result (Bor (List NodeTree)) Diagnostic → Type 0
GivesFlagNodes n (Ok nodes) = AreFlags n × (nodes.now ≡ children_of n)
GivesFlagNodes n (Err e) = IsNoFlags n e

-- the first of these flags of the node that is none of the names is refused
abbrev pub IsFirstUnknown : List (List ℕ) → List (List ℕ) → NodeTree → Diagnostic → Type 0
IsFirstUnknown names [] n e = ⊥
IsFirstUnknown names (name ∷ more) n e =
    IsNoneOf names name × RefusesFor (unknown_case name) (place_of n) (refusal_of e) e.span
    ⊎ IsOneOf names name × IsFirstUnknown names more n e

-- so, or out of memory
abbrev pub RefusesUnknown : List (List ℕ) → List (List ℕ) → NodeTree → Diagnostic → Type 0
RefusesUnknown names flags n e = (e.kind ≡ OutOfMemory) ⊎ IsFirstUnknown names flags n e

-- out of memory; or the node is neither flags nor `{}`; or its first flag that is none of the names is refused
abbrev pub RefusesFlags : List (List ℕ) → List ℕ → NodeTree → Diagnostic → Type 0
RefusesFlags names source n e =
    (e.kind ≡ OutOfMemory) ⊎ IsNoFlags n e ⊎ AreFlags n × IsFirstUnknown names (names_at source (children_of n)) n e
