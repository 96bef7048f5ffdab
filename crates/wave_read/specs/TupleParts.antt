-- What has been read of a tuple.
use Rattle.std.specs.Prelude.{ℕ, ◌≡◌, List, [], ◌∷◌, length, Option, Ok}
use Rattle.std.specs.List.{slice_get}
use Rattle.std.specs.Borrow.{Bor}
use Rattle.wave_wasm.specs.Types.{TypeTree, tuple_parts, kind_of}
use Rattle.wave_wasm.specs.declared.wasm.WasmTypeKind.TheVariants as kinds
use Rattle.wave_wasm.specs.Values.{Value}
use Rattle.wave_wasm.specs.Borrowed.{denoted_all}
use Rattle.wave_grammar.specs.FaultOrder.{Order}
use Rattle.wave_grammar.specs.NodeTree.{NodeTree}
use Rattle.wave_leaf.specs.Reading.{IsReadAs}
use Rattle.wave_read.specs.declared.tuples.TupleItems.{TupleItems}

-- the type of the item that comes next
abbrev pub item_expected : {S V : Type 0} → TupleItems S V → Option (Bor S)
item_expected x = slice_get x.types.items (length x.items.items)

module _ {V : Type 0} (tree : V → Value) (of : V → TypeTree → Type 0) (Full : TypeTree → Type 0) (w : Order) where
  -- each of the nodes was read at its own type, and those beyond the types at none
  abbrev pub AreReadEach : List TypeTree → List ℕ → List NodeTree → List V → Type 0
  AreReadEach Ts source [] [] = Unit {0}
  AreReadEach [] source (n ∷ ns) [] = Unit {0}
  AreReadEach (T ∷ Ts) source (n ∷ ns) (v ∷ vs) = IsReadAs tree of Full w w T source n (Ok v) × AreReadEach Ts source ns vs
  AreReadEach _ source _ _ = ⊥

module _ {S V : Type 0} (type_tree : S → TypeTree) (tree : V → Value) (of : V → TypeTree → Type 0) (Full : TypeTree → Type 0) (w : Order) where
  -- what was read of these nodes, at a type of tuples
  pub record IsRow (T : TypeTree) (source : List ℕ) (children : List NodeTree) (x : TupleItems S V) : Type 0 where
    pub is : type_tree x.ty.now ≡ T
    pub kind : kind_of T ≡ kinds.Tuple
    pub parts : denoted_all type_tree x.types.items ≡ tuple_parts T
    pub count : x.count ≡ length children
    pub read : AreReadEach tree of Full w (denoted_all type_tree x.types.items) source children x.items.items
