-- The parts of values of all kinds of types.
use Rattle.std.specs.Prelude.{ℕ, ◌≡◌, ◌⊎◌, List, [], Option, None}
use Rattle.std.specs.Borrow.{Bor}
use Rattle.wave_wasm.specs.Types as type
use Rattle.wave_wasm.specs.Types.{TypeTree}
use Rattle.wave_wasm.specs.Values.{Value}
use Rattle.wave_grammar.specs.FaultOrder.{Order, in_text}
use Rattle.wave_grammar.specs.NodeTree.{NodeTree}
use Rattle.wave_grammar.specs.declared.form.NodeType.{NodeType}
use Rattle.wave_grammar.specs.declared.form.NodeType.TheVariants as kind
use Rattle.wave_leaf.specs.Leaves.{IsSimpleOrUnreadable}
use Rattle.wave_grammar.specs.NodeParts.{IsOfParts}
use Rattle.wave_read.specs.CaseParts.{AreCaseParts, payload_expected}
use Rattle.wave_leaf.specs.Faults.{IsRefusedWhateverFollows, IsOfKind}
use Rattle.wave_leaf.specs.declared.fault.Fault.{Fault}
use Rattle.wave_read.specs.MapParts.{AreEntries, value_type_expected}
use Rattle.wave_read.specs.Payloads.{AreOfSome, AreOfResult, result_node, some_expected, result_expected}
use Rattle.wave_read.specs.ListParts.{AreItems, element_expected}
use Rattle.wave_read.specs.RecordParts.{AreFields, type_expected}
use Rattle.wave_read.specs.TupleParts.{IsRow, item_expected}
use Rattle.wave_read.specs.declared.parts.Partial.{Partial}
use Rattle.wave_read.specs.declared.parts.Partial.TheVariants as parts

-- at the type `{}` spells a value
abbrev pub TakesEmptySet : TypeTree → Type 0
TakesEmptySet (type.flags names) = Unit {0}
TakesEmptySet (type.map K W) = Unit {0}
TakesEmptySet _ = ⊥

-- of these parts nothing is kept
abbrev pub IsBare : {S V : Type 0} → Partial S V → Type 0
IsBare (parts.Faulty f) = Unit {0}
IsBare (parts.Simple x) = Unit {0}
IsBare _ = ⊥

-- parts of a value of this type, of which nothing is kept and that have no fault
abbrev pub IsSimpleAt : {S V : Type 0} → (S → TypeTree) → TypeTree → Partial S V → Type 0
IsSimpleAt type_tree T (parts.Simple x) = type_tree x.now ≡ T
IsSimpleAt type_tree T _ = ⊥

-- the type of the value that comes next
abbrev pub next_expected : {S V : Type 0} → Partial S V → Option (Bor S)
next_expected (parts.Items x) = element_expected x
next_expected (parts.TupleItems x) = item_expected x
next_expected (parts.OfSome x) = some_expected x
next_expected (parts.OfResult x) = result_expected x
next_expected (parts.OfCase x) = payload_expected x
next_expected (parts.Fields x) = type_expected x
next_expected (parts.Entries x) = value_type_expected x
next_expected _ = None

module _ {S V : Type 0} (type_tree : S → TypeTree) (tree : V → Value) (of : V → TypeTree → Type 0) (Full : TypeTree → Type 0) (w : Order) where
  -- these parts were read of the first children of a node of this type
  abbrev pub AreParts : TypeTree → List ℕ → NodeType → List NodeTree → Partial S V → Type 0
  AreParts T source ty children (parts.Faulty f) = IsRefusedWhateverFollows tree of Full in_text w T source ty children f
  AreParts T source ty children (parts.Simple x) = (type_tree x.now ≡ T) × IsSimpleOrUnreadable T × IsOfParts ty
  AreParts T source ty children (parts.Empty x) = (ty ≡ kind.EmptySet) × (children ≡ []) × (type_tree x.now ≡ T) × TakesEmptySet T
  AreParts T source ty children (parts.Items x) = (ty ≡ kind.List) × AreItems type_tree tree of Full w T source children x
  AreParts T source ty children (parts.TupleItems x) = (ty ≡ kind.Tuple) × IsRow type_tree tree of Full w T source children x
  AreParts T source ty children (parts.OfSome x) = (ty ≡ kind.OptionSome) × AreOfSome type_tree tree of Full w T source children x
  AreParts T source ty children (parts.OfResult x) = (ty ≡ result_node x.is_ok) × AreOfResult type_tree tree of Full w T source children x
  AreParts T source ty children (parts.OfCase x) = (ty ≡ kind.VariantWithPayload) × AreCaseParts type_tree tree of Full w T source children x
  AreParts T source ty children (parts.Fields x) = (ty ≡ kind.TupleSet) × AreFields type_tree tree of Full w T source children x
  AreParts T source ty children (parts.Entries x) = (ty ≡ kind.TupleSet) × AreEntries type_tree tree of Full w T source children x

module _ {S V : Type 0} (type_tree : S → TypeTree) (tree : V → Value) (of : V → TypeTree → Type 0) (Full : TypeTree → Type 0) where
  -- nothing is kept of these parts, or they were read of some children of a node
  abbrev pub AreBareOrRead : Partial S V → Type 0
  AreBareOrRead x =
      IsBare x
      ⊎ ((w : Order) × (T : TypeTree) × (source : List ℕ) × (ty : NodeType) × (children : List NodeTree) × AreParts type_tree tree of Full w T source ty children x)

  -- where they have a fault already, it is a refusal of this kind of the whole value, in whatever order
  abbrev pub AreRefusedAtOnce : TypeTree → NodeType → Partial S V → Type 0
  AreRefusedAtOnce T ty x =
      (f : Fault) → x ≡ parts.Faulty f → IsOfKind f × ((o w : Order) (source : List ℕ) → IsOfParts ty → IsRefusedWhateverFollows tree of Full o w T source ty [] f)

  -- the parts of a value at a node of this type with parts, before the first of them
  pub record AreNoPartsYet (T : TypeTree) (ty : NodeType) (x : Partial S V) : Type 0 where
    pub begun : (w : Order) (source : List ℕ) → IsOfParts ty → AreParts type_tree tree of Full w T source ty [] x
    pub rejected : AreRefusedAtOnce T ty x
