-- The value that a type gives a tree.
use Rattle.std.specs.Prelude.{ℕ, ◌<◌, ◌≡◌, ◌⊎◌, List, [], ◌∷◌, map, length}
use Rattle.wave_wasm.specs.Names.{IsOneOf, AreAllOf, AreDistinct, found_in}
use Rattle.wave_wasm.specs.Types as type
use Rattle.wave_wasm.specs.Types.{TypeTree, MaybeType, Types, Fields, Cases, Simple, no_type, a_type, no_types, type_and, no_fields, field, no_cases, case_of}
use Rattle.wave_wasm.specs.Values as value
use Rattle.wave_wasm.specs.Values.{Value, MaybeValue, FieldValues, Leaf, no_value, a_value, values, entries}
use Rattle.wave_wasm.specs.Merge.{merge, leaf_eq}
use Rattle.wave_grammar.specs.Token.{Token}
use Rattle.wave_grammar.specs.Token as token
use Rattle.wave_grammar.specs.LeafTokens.{Spells, name_of}
use Rattle.wave_grammar.specs.TypedGrammar.{IsFlat, Fills}
use Rattle.wave_grammar.specs.Tree as tree
use Rattle.wave_grammar.specs.Tree.{Tree, MaybeTree, trees, tree_entries, no_tree, a_tree}

-- what may be the meaning of a tree
abbrev pub Meaning : Type 0 → Type 0 → Type 1
Meaning T A = T → A → Type 0

-- each tree has its meaning
abbrev pub Each : {T A : Type 0} → Meaning T A → List T → List A → Type 0
Each Mean [] as' = as' ≡ []
Each {A = A} Mean (t ∷ ts) as' = (a : A) × (more : List A) × Mean t a × Each Mean ts more × (as' ≡ a ∷ more)

-- a label and the meaning of its value
abbrev pub NamedTree : {A : Type 0} → (List ℕ → Meaning Tree A) → Meaning (Token × Tree) (List ℕ × A)
NamedTree Inner e f = (text : List ℕ) × (e.0 ≡ token.label text) × (name_of text ≡ f.0) × Inner f.0 e.1 f.1

-- a key and the meaning of its value
abbrev pub KeyedTree : {A : Type 0} → Simple → Meaning Tree A → Meaning (Token × Tree) (Leaf × A)
KeyedTree key Inner e f = Spells key e.0 f.0 × Inner e.1 f.1

-- a leaf
abbrev pub SimpleTree : Simple → Meaning Tree Value
SimpleTree S t v = (token : Token) × (one : Leaf) × (t ≡ tree.one token) × Spells S token one × (v ≡ value.leaf one)

-- a list
abbrev pub ListTree : Meaning Tree Value → Meaning Tree Value
ListTree Inner t v = (ts : List Tree) × (vs : List Value) × (t ≡ tree.list (trees ts)) × Each Inner ts vs × (v ≡ value.list (values vs))

-- a list of exactly `count` items
abbrev pub FixedListTree : ℕ → Meaning Tree Value → Meaning Tree Value
FixedListTree count Inner t v =
    (ts : List Tree) × (vs : List Value) × (t ≡ tree.list (trees ts)) × (length ts ≡ count) × Each Inner ts vs × (v ≡ value.fixed (values vs))

-- a tuple that is not empty
abbrev pub TupleTree : Meaning (List Tree) (List Value) → Meaning Tree Value
TupleTree Inner t v = (ts : List Tree) × (vs : List Value) × (t ≡ tree.tuple (trees ts)) × (0 < length ts) × Inner ts vs × (v ≡ value.tuple (values vs))

-- entries with distinct labels, or `{:}`; they fill the fields
abbrev pub RecordTree : Fields → (List ℕ → Meaning Tree Value) → Meaning Tree Value
RecordTree fs Inner t v =
    (es : List (Token × Tree)) × (found : List (List ℕ × Value)) × (all : FieldValues)
    × ((t ≡ tree.no_fields) × (es ≡ []) ⊎ (t ≡ tree.entries (tree_entries es)) × (0 < length es))
    × Each (NamedTree Inner) es found × AreDistinct (map (λ e. e.0) found) × Fills fs found all × (v ≡ value.record_value all)

-- flags of the type's names, or `{}`; the value is those names in the type's order
abbrev pub FlagsTree : List (List ℕ) → Meaning Tree Value
FlagsTree names t v =
    (texts : List (List ℕ)) × ((t ≡ tree.empty_braces) × (texts ≡ []) ⊎ (t ≡ tree.flags texts))
    × AreAllOf names (map name_of texts) × (v ≡ value.flags (found_in (map name_of texts) names))

-- entries, `{:}` or `{}`; the value is their merge
abbrev pub MapTree : Simple → Meaning Tree Value → Meaning Tree Value
MapTree key Inner t v =
    (es : List (Token × Tree)) × (pairs : List (Leaf × Value))
    × (((t ≡ tree.empty_braces) ⊎ (t ≡ tree.no_fields)) × (es ≡ []) ⊎ (t ≡ tree.entries (tree_entries es)) × (0 < length es))
    × Each (KeyedTree key Inner) es pairs × (v ≡ value.map (entries (merge leaf_eq pairs)))

-- a label and its payload
abbrev pub VariantTree : (List ℕ → Meaning MaybeTree MaybeValue) → Meaning Tree Value
VariantTree Inner t v =
    (text : List ℕ) × (inner : MaybeTree) × (payload : MaybeValue)
    × (t ≡ tree.label text inner) × Inner (name_of text) inner payload × (v ≡ value.variant (name_of text) payload)

-- a label without payload
abbrev pub EnumTree : List (List ℕ) → Meaning Tree Value
EnumTree names t v = (text : List ℕ) × (t ≡ tree.label text no_tree) × IsOneOf names (name_of text) × (v ≡ value.enum (name_of text))

-- `none`, or `some` and its payload
abbrev pub OptionTree : Meaning Tree Value → Meaning Tree Value
OptionTree Inner t v =
    (t ≡ tree.none) × (v ≡ value.option no_value)
    ⊎ ((inner : Tree) × (w : Value) × (t ≡ tree.some inner) × Inner inner w × (v ≡ value.option (a_value w)))

-- `ok` or `err`, each with its payload
abbrev pub ResultTree : Meaning MaybeTree MaybeValue → Meaning MaybeTree MaybeValue → Meaning Tree Value
ResultTree Ok Err t v =
    ((inner : MaybeTree) × (payload : MaybeValue) × (t ≡ tree.ok inner) × Ok inner payload × (v ≡ value.ok payload))
    ⊎ ((inner : MaybeTree) × (payload : MaybeValue) × (t ≡ tree.err inner) × Err inner payload × (v ≡ value.err payload))

-- a tree that stands for an option or a result that wraps its meaning
abbrev pub StandsTree : (Value → Value) → Meaning Tree Value → Meaning Tree Value
StandsTree wrap Inner t v = (w : Value) × Inner t w × (v ≡ wrap w)

-- the meaning, where this holds
abbrev pub If : {T A : Type 0} → Type 0 → Meaning T A → Meaning T A
If Holds Mean t a = Holds × Mean t a

-- one meaning or the other
abbrev pub Or : {T A : Type 0} → Meaning T A → Meaning T A → Meaning T A
Or P Q t a = P t a ⊎ Q t a

-- nothing
abbrev pub NeverTree : {T A : Type 0} → Meaning T A
NeverTree t a = ⊥

-- no payload
abbrev pub BareTree : Meaning MaybeTree MaybeValue
BareTree t payload = (t ≡ no_tree) × (payload ≡ no_value)

-- a payload
abbrev pub PayloadTree : Meaning Tree Value → Meaning MaybeTree MaybeValue
PayloadTree Inner t payload = (inner : Tree) × (w : Value) × (t ≡ a_tree inner) × Inner inner w × (payload ≡ a_value w)

-- no tree
abbrev pub NoMore : Meaning (List Tree) (List Value)
NoMore ts vs = (ts ≡ []) × (vs ≡ [])

-- a tree, and those after it
abbrev pub OneMore : Meaning Tree Value → Meaning (List Tree) (List Value) → Meaning (List Tree) (List Value)
OneMore Inner More ts vs = (t : Tree) × (others : List Tree) × (w : Value) × (ws : List Value) × (ts ≡ t ∷ others) × Inner t w × More others ws × (vs ≡ w ∷ ws)

-- The type gives the tree the value.
abbrev mutual
  pub TreeReads : TypeTree → Meaning Tree Value
  TreeReads (type.simple S) = SimpleTree S
  TreeReads (type.unreadable kind) = NeverTree
  TreeReads (type.list E) = ListTree (TreeReads E)
  TreeReads (type.fixed E count) = FixedListTree count (TreeReads E)
  TreeReads (type.record_type fs) = RecordTree fs (TreeReadsField fs)
  TreeReads (type.tuple types) = TupleTree (TreeReadsAll types)
  TreeReads (type.variant cases) = VariantTree (TreeReadsCase cases)
  TreeReads (type.enum names) = EnumTree names
  TreeReads (type.option P) = Or (OptionTree (TreeReads P)) (StandsTree (λ w. value.option (a_value w)) (If (IsFlat P) (TreeReads P)))
  TreeReads (type.result A B) = Or (ResultTree (TreeReadsPayload A) (TreeReadsPayload B)) (StandsTree (λ w. value.ok (a_value w)) (TreeReadsFlat A))
  TreeReads (type.flags names) = FlagsTree names
  TreeReads (type.map K V) = MapTree K (TreeReads V)

  -- the payload of a case, where it has one
  pub TreeReadsPayload : MaybeType → Meaning MaybeTree MaybeValue
  TreeReadsPayload no_type = BareTree
  TreeReadsPayload (a_type T) = PayloadTree (TreeReads T)

  -- a tree that stands for `ok` of itself
  pub TreeReadsFlat : MaybeType → Meaning Tree Value
  TreeReadsFlat no_type = NeverTree
  TreeReadsFlat (a_type T) = If (IsFlat T) (TreeReads T)

  -- as many trees as types, each at its type
  pub TreeReadsAll : Types → Meaning (List Tree) (List Value)
  TreeReadsAll no_types = NoMore
  TreeReadsAll (type_and T more) = OneMore (TreeReads T) (TreeReadsAll more)

  -- a tree at the field of this name
  pub TreeReadsField : Fields → List ℕ → Meaning Tree Value
  TreeReadsField no_fields name = NeverTree
  TreeReadsField (field other T more) name = Or (If (name ≡ other) (TreeReads T)) (TreeReadsField more name)

  -- the payload of the case of this name
  pub TreeReadsCase : Cases → List ℕ → Meaning MaybeTree MaybeValue
  TreeReadsCase no_cases name = NeverTree
  TreeReadsCase (case_of other T more) name = Or (If (name ≡ other) (TreeReadsPayload T)) (TreeReadsCase more name)
