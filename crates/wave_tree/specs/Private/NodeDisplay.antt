-- The text that shows a node beside its source.
use Rattle.std.specs.Prelude.{ℕ, List, [], ◌∷◌, codes}
use Rattle.wave_wasm.specs.Commas.{behind_name, joined, in_parens, in_braces}
use Rattle.wave_grammar.specs.LeafTokens.{name_of}
use Rattle.wave_grammar.specs.NodeTree.{NodeTree}
use Rattle.wave_grammar.specs.Nodes.{IsParsedFrom}
use Rattle.wave_grammar.specs.NodeAccessors.{node_text}
use Rattle.wave_grammar.specs.TypedReading.{IsValueOf}
use Rattle.wave_tree.specs.NodeDisplay.{display_at}

-- the name of the label at a node
abbrev pub name_at : List ℕ → NodeTree → List ℕ
name_at source n = name_of (node_text source n)

-- each pair of a key's node and a value's node, displayed
abbrev pub entries_at : List ℕ → List NodeTree → List (List ℕ)
entries_at source (k ∷ v ∷ more) = behind_name (node_text source k) (display_at source v) ∷ entries_at source more
entries_at source _ = []

-- a key's node, a value's node, and so on
abbrev pub AreEntriesOf : List ℕ → List NodeTree → Type 0
AreEntriesOf source [] = Unit {0}
AreEntriesOf source (k ∷ []) = ⊥
AreEntriesOf source (k ∷ v ∷ more) = IsParsedFrom source k × IsValueOf source v × AreEntriesOf source more

-- the entries in braces, or `{:}`
abbrev pub braces_at : List ℕ → List NodeTree → List ℕ
braces_at source [] = codes "{:}"
braces_at source (n ∷ ns) = in_braces (joined (entries_at source (n ∷ ns)))

-- `(a)` for the first of the nodes, or nothing
abbrev pub payload_at : List ℕ → List NodeTree → List ℕ
payload_at source [] = []
payload_at source (n ∷ ns) = in_parens (display_at source n)
