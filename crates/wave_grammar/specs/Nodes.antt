-- The tree that a node means beside its source.
use Rattle.std.specs.Prelude.{ℕ, ◌≡◌, ◌⊎◌, if◌then◌else◌, List, [], ◌∷◌, Option, Some, None, option_map, codes}
use Rattle.std.specs.declared.ops.Range.{Range}
use Rattle.wave_wasm.specs.Names.{is_one_of}
use Rattle.wave_grammar.specs.Token.{Token}
use Rattle.wave_grammar.specs.Token as token
use Rattle.wave_grammar.specs.SpannedTree.{SpannedTree, at, SpannedShape, one, tuple, list, empty_braces, no_fields, entries, flags, label, none, some, ok, err}
use Rattle.wave_grammar.specs.SpannedTree.{no_placed, a_placed, PlacedEntries, no_entries, entry, placed_trees, slice, HoldsTokens, SpellsEach}
use Rattle.wave_grammar.specs.NodeTree.{NodeTree, NodeTrees, node, no_nodes, node_and}
use Rattle.wave_grammar.specs.declared.form.NodeType.{NodeType}
use Rattle.wave_grammar.specs.declared.form.NodeType.TheVariants as kind

-- f of both, where both are there
abbrev pub with_both : {A B C : Type 0} → (A → B → C) → Option A → Option B → Option C
with_both f (Some a) (Some b) = Some (f a b)
with_both f _ _ = None

-- what f gives, where there is something
abbrev pub and_then : {A B : Type 0} → Option A → (A → Option B) → Option B
and_then None f = None
and_then (Some a) f = f a

-- a number's token: `inf` and `nan` are labels
abbrev pub number_token : List ℕ → Token
number_token text = if is_one_of (codes "inf" ∷ codes "nan" ∷ []) text then token.label text else token.number text

-- a label's place and text, where the node is a label alone
abbrev pub flag_of : SpannedTree → Option (Range ℕ × List ℕ)
flag_of (at p (label q text no_placed)) = Some (q, text)
flag_of _ = None

-- the labels' places and texts, where each node is a label alone
abbrev pub flags_of : List SpannedTree → Option (List (Range ℕ × List ℕ))
flags_of [] = Some []
flags_of (p ∷ ps) = with_both (λ f fs. f ∷ fs) (flag_of p) (flags_of ps)

-- a key's place and token, where the node is a label, number, char, string or multiline string
abbrev pub key_of : SpannedTree → Option (Range ℕ × Token)
key_of (at p (label q text no_placed)) = Some (q, token.label text)
key_of (at p (one (token.number text))) = Some (p, token.number text)
key_of (at p (one (token.char text))) = Some (p, token.char text)
key_of (at p (one (token.string text))) = Some (p, token.string text)
key_of (at p (one (token.multiline text))) = Some (p, token.multiline text)
key_of _ = None

-- key, value, key, value
abbrev pub pairs_of : List SpannedTree → Option PlacedEntries
pairs_of [] = Some no_entries
pairs_of (k ∷ []) = None
pairs_of (k ∷ v ∷ more) = with_both (λ key rest. entry key.0 key.1 v rest) (key_of k) (pairs_of more)

-- what a node of this type is that stands here, with this text and these children; nothing where it can't have these children
abbrev pub shape_from : NodeType → Range ℕ → List ℕ → List SpannedTree → Option SpannedShape
shape_from kind.BoolTrue p text [] = Some (one (token.label (codes "true")))
shape_from kind.BoolFalse p text [] = Some (one (token.label (codes "false")))
shape_from kind.Number p text [] = Some (one (number_token text))
shape_from kind.Char p text [] = Some (one (token.char text))
shape_from kind.String p text [] = Some (one (token.string text))
shape_from kind.MultilineString p text [] = Some (one (token.multiline text))
shape_from kind.Tuple p text children = Some (tuple (placed_trees children))
shape_from kind.List p text children = Some (list (placed_trees children))
shape_from kind.TupleSet p text [] = Some no_fields
shape_from kind.TupleSet p text (k ∷ more) = option_map entries (pairs_of (k ∷ more))
shape_from kind.EmptySet p text [] = Some empty_braces
shape_from kind.Label p text [] = Some (label p text no_placed)
shape_from kind.VariantWithPayload p text (c ∷ payload ∷ []) = option_map (λ l. label l.0 l.1 (a_placed payload)) (flag_of c)
shape_from kind.OptionSome p text (payload ∷ []) = Some (some payload)
shape_from kind.OptionNone p text [] = Some none
shape_from kind.ResultOk p text [] = Some (ok no_placed)
shape_from kind.ResultOk p text (payload ∷ []) = Some (ok (a_placed payload))
shape_from kind.ResultErr p text [] = Some (err no_placed)
shape_from kind.ResultErr p text (payload ∷ []) = Some (err (a_placed payload))
shape_from kind.Flags p text children = option_map flags (flags_of children)
shape_from _ p text children = None

-- the tree that a node means beside its source, with its places
abbrev mutual
  pub placed_of : List ℕ → NodeTree → Option SpannedTree
  placed_of source (node ty p children) = option_map (at p) (and_then (all_placed source children) (shape_from ty p (slice source p)))

  -- the trees of the children, where each means one
  pub all_placed : List ℕ → NodeTrees → Option (List SpannedTree)
  all_placed source no_nodes = Some []
  all_placed source (node_and n more) = with_both (λ t ts. t ∷ ts) (placed_of source n) (all_placed source more)

-- the node means the tree, and each part of it spells its slice of the source and stands at tokens of the whole
abbrev pub IsNodeOf : List ℕ → NodeTree → SpannedTree → Type 0
IsNodeOf source n t = (placed_of source n ≡ Some t) × SpellsEach source t

-- the node is a key, a flag or the label of a case: this one token of the source
abbrev pub IsTokenOf : List ℕ → NodeTree → Range ℕ → Token → Type 0
IsTokenOf source n p key = ((t : SpannedTree) × (placed_of source n ≡ Some t) × (key_of t ≡ Some (p, key))) × HoldsTokens source p (key ∷ [])

-- the node was parsed from the source, as a value or as a key, a flag or the label of a case
abbrev pub IsParsedFrom : List ℕ → NodeTree → Type 0
IsParsedFrom source n = ((t : SpannedTree) × IsNodeOf source n t) ⊎ ((p : Range ℕ) × (key : Token) × IsTokenOf source n p key)
