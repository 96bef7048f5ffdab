-- Worked examples of nodes: what a node of each type is, by its text and its children.
use Rattle.std.proofs.Common.{◌≡◌, [], ◌∷◌, refl, Some, None}
use Rattle.std.specs.Prelude.{codes, map}
use Rattle.wave_lex.specs.Tokenization.{span}
use Rattle.wave_grammar.specs.Token.{number}
use Rattle.wave_grammar.specs.Token as token
use Rattle.wave_grammar.specs.SpannedTree as placed
use Rattle.wave_grammar.specs.SpannedTree.{SpannedTree, at, no_placed, a_placed}
use Rattle.wave_grammar.specs.Nodes.{shape_from, placed_of}
use Rattle.wave_grammar.specs.NodeTree.{node, no_nodes, node_and}
use Rattle.wave_grammar.specs.declared.form.NodeType.TheVariants as kind

-- `1` and `a`, as children
abbrev one : SpannedTree
one = at (span 2 3) (placed.one (number (codes "1")))

abbrev a : SpannedTree
a = at (span 0 1) (placed.label (span 0 1) (codes "a") no_placed)

-- leaves: the tokens of `inf` and `nan` are labels
leaves : map (λ ty. shape_from ty (span 0 3) (codes "inf") []) (kind.BoolTrue ∷ kind.BoolFalse ∷ kind.Number ∷ kind.Char ∷ kind.String ∷ kind.MultilineString ∷ kind.Label ∷ [])
    ≡ map Some (placed.one (token.label (codes "true")) ∷ placed.one (token.label (codes "false")) ∷ placed.one (token.label (codes "inf")) ∷ placed.one (token.char (codes "inf")) ∷ placed.one (token.string (codes "inf"))
    ∷ placed.one (token.multiline (codes "inf")) ∷ placed.label (span 0 3) (codes "inf") no_placed ∷ [])
leaves = refl

-- of no child
childless : map (λ ty. shape_from ty (span 0 2) (codes "") []) (kind.List ∷ kind.TupleSet ∷ kind.EmptySet ∷ kind.OptionNone ∷ kind.ResultOk ∷ kind.ResultErr ∷ [])
    ≡ map Some (placed.list placed.no_more ∷ placed.no_fields ∷ placed.empty_braces ∷ placed.none ∷ placed.ok no_placed ∷ placed.err no_placed ∷ [])
childless = refl

-- of one child
parents : map (λ ty. shape_from ty (span 0 4) (codes "") (one ∷ [])) (kind.Tuple ∷ kind.OptionSome ∷ kind.ResultOk ∷ kind.ResultErr ∷ kind.TupleSet ∷ kind.Number ∷ [])
    ≡ Some (placed.tuple (placed.and_then one placed.no_more)) ∷ Some (placed.some one) ∷ Some (placed.ok (a_placed one)) ∷ Some (placed.err (a_placed one)) ∷ None ∷ None ∷ []
parents = refl

-- of a label and a value: `a(1)`, `{a: 1}`, and no flags; `{a}`
pairs : (shape_from kind.VariantWithPayload (span 0 4) (codes "a(1)") (a ∷ one ∷ []) ≡ Some (placed.label (span 0 1) (codes "a") (a_placed one)))
    × (shape_from kind.TupleSet (span 0 4) (codes "") (a ∷ one ∷ []) ≡ Some (placed.entries (placed.entry (span 0 1) (token.label (codes "a")) one placed.no_entries)))
    × (shape_from kind.Flags (span 0 4) (codes "") (a ∷ one ∷ []) ≡ None) × (shape_from kind.Flags (span 0 3) (codes "") (a ∷ []) ≡ Some (placed.flags ((span 0 1, codes "a") ∷ [])))
pairs = (refl, refl, refl, refl)

-- the node of `[1]` beside it
a_node : placed_of (codes "[1]") (node kind.List (span 0 3) (node_and (node kind.Number (span 1 2) no_nodes) no_nodes))
    ≡ Some (at (span 0 3) (placed.list (placed.and_then (at (span 1 2) (placed.one (number (codes "1")))) placed.no_more)))
a_node = refl
