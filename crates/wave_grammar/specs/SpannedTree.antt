-- A tree whose parts know where they stand in the source.
use Rattle.std.specs.Prelude.{ℕ, ◌≡◌, ◌≤◌, ◌+◌, ◌-◌, List, [], ◌∷◌, map, drop, slice_range}
use Rattle.std.specs.declared.ops.Range.{Range}
use Rattle.wave_wasm.specs.Lists.{AllOf}
use Rattle.wave_lex.specs.Tokenization.{Stands, IsWhitespace, Prefix}
use Rattle.wave_grammar.specs.Token.{Token, lexeme_of}
use Rattle.wave_grammar.specs.Token as token
use Rattle.wave_grammar.specs.Tree as tree
use Rattle.wave_grammar.specs.Tree.{Tree, MaybeTree, Trees, TreeEntries}

mutual
  -- a tree, from its first byte to the one after its last
  pub data SpannedTree : Type 0 where
    at : Range ℕ → SpannedShape → SpannedTree

  -- what it is
  pub data SpannedShape : Type 0 where
    one : Token → SpannedShape
    tuple list : PlacedTrees → SpannedShape
    empty_braces no_fields : SpannedShape
    entries : PlacedEntries → SpannedShape
    flags : List (Range ℕ × List ℕ) → SpannedShape
    -- the place of the label, its text and its payload
    label : Range ℕ → List ℕ → MaybePlaced → SpannedShape
    none : SpannedShape
    some : SpannedTree → SpannedShape
    ok err : MaybePlaced → SpannedShape

  -- a payload, or nothing
  pub data MaybePlaced : Type 0 where
    no_placed : MaybePlaced
    a_placed : SpannedTree → MaybePlaced

  -- items
  pub data PlacedTrees : Type 0 where
    no_more : PlacedTrees
    and_then : SpannedTree → PlacedTrees → PlacedTrees

  -- entries: the span of the key, the key, the value
  pub data PlacedEntries : Type 0 where
    no_entries : PlacedEntries
    entry : Range ℕ → Token → SpannedTree → PlacedEntries → PlacedEntries

-- where it stands
abbrev pub span_of : SpannedTree → Range ℕ
span_of (at p s) = p

-- what it is
abbrev pub shape_of : SpannedTree → SpannedShape
shape_of (at p s) = s

-- the items, as a list
abbrev pub placed_list : PlacedTrees → List SpannedTree
placed_list no_more = []
placed_list (and_then t more) = t ∷ placed_list more

-- the items in this list
abbrev pub placed_trees : List SpannedTree → PlacedTrees
placed_trees [] = no_more
placed_trees (t ∷ ts) = and_then t (placed_trees ts)

-- an entry
pub record PlacedEntry : Type 0 where
  pub place : Range ℕ
  pub key : Token
  pub value : SpannedTree

-- the entries, as a list
abbrev pub entry_list : PlacedEntries → List PlacedEntry
entry_list no_entries = []
entry_list (entry p key t more) = record { place = p; key = key; value = t } ∷ entry_list more

-- the tree without its places
abbrev mutual
  pub tree_of : SpannedTree → Tree
  tree_of (at p s) = tree_of_shape s

  -- the tree of a shape
  pub tree_of_shape : SpannedShape → Tree
  tree_of_shape (one token) = tree.one token
  tree_of_shape (tuple ts) = tree.tuple (trees_of ts)
  tree_of_shape (list ts) = tree.list (trees_of ts)
  tree_of_shape empty_braces = tree.empty_braces
  tree_of_shape no_fields = tree.no_fields
  tree_of_shape (entries es) = tree.entries (entries_of es)
  tree_of_shape (flags fs) = tree.flags (map (λ f. f.1) fs)
  tree_of_shape (label p text payload) = tree.label text (maybe_of payload)
  tree_of_shape none = tree.none
  tree_of_shape (some t) = tree.some (tree_of t)
  tree_of_shape (ok payload) = tree.ok (maybe_of payload)
  tree_of_shape (err payload) = tree.err (maybe_of payload)

  -- the tree of a payload
  pub maybe_of : MaybePlaced → MaybeTree
  maybe_of no_placed = tree.no_tree
  maybe_of (a_placed t) = tree.a_tree (tree_of t)

  -- the trees of the items
  pub trees_of : PlacedTrees → Trees
  trees_of no_more = tree.no_trees
  trees_of (and_then t more) = tree.tree_and (tree_of t) (trees_of more)

  -- the trees of the entries
  pub entries_of : PlacedEntries → TreeEntries
  entries_of no_entries = tree.no_entries
  entries_of (entry p key t more) = tree.entry key (tree_of t) (entries_of more)

-- ---- what stands at the places

-- the source at the place
abbrev pub slice : List ℕ → Range ℕ → List ℕ
slice source p = slice_range source p.start p.end

-- the place lies in the source, and runs from the first of these tokens to the last
abbrev pub HoldsTokens : List ℕ → Range ℕ → List Token → Type 0
HoldsTokens source p tokens = Stands source p.start p.end × IsWhitespace (slice source p) 0 × Prefix (slice source p) (map lexeme_of tokens) []

-- the place lies in the source, and runs from the first token to the last of a spelling of the tree
abbrev pub SpellsAt : List ℕ → Range ℕ → Tree → Type 0
SpellsAt source p t = (tokens : List Token) × HoldsTokens source p tokens × tree.SpellsTree tokens t

-- the first place lies between these two
abbrev pub LiesIn : Range ℕ → ℕ → ℕ → Type 0
LiesIn p from to = (from ≤ p.start) × (p.end ≤ to)

-- the first k bytes of s are tokens of s and the whitespace before them
abbrev pub EndsToken : List ℕ → ℕ → Type 0
EndsToken s k = (tokens : List Token) × Prefix s (map lexeme_of tokens) (drop k s)

-- so they are, and after them the whitespace before the next token
abbrev pub BeginsToken : List ℕ → ℕ → Type 0
BeginsToken s k = (j : ℕ) × (g : ℕ) × EndsToken s j × IsWhitespace (drop j s) g × (k ≡ j + g)

-- the part begins where a token of the whole's slice does, and ends where one does
abbrev pub StandsAtTokens : List ℕ → Range ℕ → Range ℕ → Type 0
StandsAtTokens source whole part = BeginsToken (slice source whole) (part.start - whole.start) × EndsToken (slice source whole) (part.end - whole.start)

-- the places of a payload, where there is one
abbrev pub payload_places : MaybePlaced → List (Range ℕ)
payload_places no_placed = []
payload_places (a_placed t) = span_of t ∷ []

-- the places of the keys and values
abbrev pub entry_places : PlacedEntries → List (Range ℕ)
entry_places no_entries = []
entry_places (entry p key t more) = p ∷ span_of t ∷ entry_places more

-- the places of the parts of a shape
abbrev pub part_places : SpannedShape → List (Range ℕ)
part_places (one token) = []
part_places (tuple ts) = map span_of (placed_list ts)
part_places (list ts) = map span_of (placed_list ts)
part_places empty_braces = []
part_places no_fields = []
part_places (entries es) = entry_places es
part_places (flags fs) = map (λ f. f.0) fs
part_places (label q text payload) = q ∷ payload_places payload
part_places none = []
part_places (some t) = span_of t ∷ []
part_places (ok payload) = payload_places payload
part_places (err payload) = payload_places payload

-- each flag is one label, within the braces
abbrev pub SpellsFlags : List ℕ → Range ℕ → List (Range ℕ × List ℕ) → Type 0
SpellsFlags source p [] = Unit {0}
SpellsFlags source p (f ∷ more) = LiesIn f.0 p.start p.end × HoldsTokens source f.0 (token.label f.1 ∷ []) × SpellsFlags source p more

-- each value within spells its tree where it stands, each key, flag and case label is its one token;
-- each stands at tokens of the whole; but for flags, which are sorted, they stand one after another
abbrev mutual
  pub SpellsEach : List ℕ → SpannedTree → Type 0
  SpellsEach source (at p s) = SpellsAt source p (tree_of_shape s) × SpellsParts source p s × AllOf (StandsAtTokens source p) (part_places s)

  -- so it is of the parts of a shape; the payload of `some`, `ok` or `err` begins after the word, so after its first byte
  pub SpellsParts : List ℕ → Range ℕ → SpannedShape → Type 0
  SpellsParts source p (one token) = Unit {0}
  SpellsParts source p (tuple ts) = SpellsAll source p.start p.end ts
  SpellsParts source p (list ts) = SpellsAll source p.start p.end ts
  SpellsParts source p empty_braces = Unit {0}
  SpellsParts source p no_fields = Unit {0}
  SpellsParts source p (entries es) = SpellsEntries source p.start p.end es
  SpellsParts source p (flags fs) = SpellsFlags source p fs
  SpellsParts source p (label q text payload) = LiesIn q p.start p.end × HoldsTokens source q (token.label text ∷ []) × SpellsMaybe source q.end p.end payload
  SpellsParts source p none = Unit {0}
  SpellsParts source p (some t) = LiesIn (span_of t) (p.start + 1) p.end × SpellsEach source t
  SpellsParts source p (ok payload) = SpellsMaybe source (p.start + 1) p.end payload
  SpellsParts source p (err payload) = SpellsMaybe source (p.start + 1) p.end payload

  -- so it is of a payload, between two places
  pub SpellsMaybe : List ℕ → ℕ → ℕ → MaybePlaced → Type 0
  SpellsMaybe source from to no_placed = Unit {0}
  SpellsMaybe source from to (a_placed t) = LiesIn (span_of t) from to × SpellsEach source t

  -- so it is of each item, between two places
  pub SpellsAll : List ℕ → ℕ → ℕ → PlacedTrees → Type 0
  SpellsAll source from to no_more = Unit {0}
  SpellsAll source from to (and_then t more) = LiesIn (span_of t) from to × SpellsEach source t × SpellsAll source (span_of t).end to more

  -- so it is of each key and value, between two places
  pub SpellsEntries : List ℕ → ℕ → ℕ → PlacedEntries → Type 0
  SpellsEntries source from to no_entries = Unit {0}
  SpellsEntries source from to (entry p key t more) =
      LiesIn p from to × HoldsTokens source p (key ∷ []) × LiesIn (span_of t) p.end to × SpellsEach source t × SpellsEntries source (span_of t).end to more
