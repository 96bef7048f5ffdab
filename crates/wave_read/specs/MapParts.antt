-- The entries of a map, whose keys and values are read in turn.
use Rattle.std.specs.Prelude.{ℕ, ◌≡◌, List, [], ◌∷◌, Option, Some, None, option_map, Ok, IfSome}
use Rattle.std.specs.Borrow.{Bor}
use Rattle.wave_wasm.specs.Lists.{AllOf}
use Rattle.wave_wasm.specs.Types.{TypeTree, HasDistinctNames, map_parts}
use Rattle.wave_wasm.specs.Values.{Value}
use Rattle.wave_grammar.specs.FaultOrder.{Order}
use Rattle.wave_grammar.specs.NodeTree.{NodeTree}
use Rattle.wave_grammar.specs.PartReading.{AnswersMapKey}
use Rattle.wave_leaf.specs.Reading.{IsReadAs}
use Rattle.wave_read.specs.declared.maps.Entries.{Entries}

-- the type of the value that comes next, after a key
abbrev pub value_type_expected : {S V : Type 0} → Entries S V → Option (Bor S)
value_type_expected x = option_map (λ key. x.value_type) x.key

-- the keys of the entries, and the one that waits, are of the type, where its names are distinct
abbrev pub AreKeysOf : {V : Type 0} → (V → TypeTree → Type 0) → TypeTree → List (V × V) → Option V → Type 0
AreKeysOf of S entries waits = AllOf (λ e. HasDistinctNames S → of e.0 S) entries × IfSome waits (λ key. HasDistinctNames S → of key S)

module _ {V : Type 0} (tree : V → Value) (of : V → TypeTree → Type 0) (Full : TypeTree → Type 0) (w : Order) where
  -- these nodes were read as keys and values in turn: as the entries, and after them the key that waits
  abbrev pub AreReadInTurn : TypeTree → TypeTree → List ℕ → List NodeTree → List (V × V) → Option V → Type 0
  AreReadInTurn S U source [] [] None = Unit {0}
  AreReadInTurn S U source (k ∷ []) [] (Some key) = AnswersMapKey tree of Full S source k (Ok key)
  AreReadInTurn S U source (k ∷ n ∷ more) (e ∷ es) key =
      AnswersMapKey tree of Full S source k (Ok e.0) × IsReadAs tree of Full w w U source n (Ok e.1) × AreReadInTurn S U source more es key
  AreReadInTurn S U source _ _ _ = ⊥

module _ {S V : Type 0} (type_tree : S → TypeTree) (tree : V → Value) (of : V → TypeTree → Type 0) (Full : TypeTree → Type 0) (w : Order) where
  -- these are the entries of a map of the type
  pub record AreEntries (T : TypeTree) (source : List ℕ) (children : List NodeTree) (x : Entries S V) : Type 0 where
    pub type_is : type_tree x.ty.now ≡ T
    pub parts_are : map_parts T ≡ Some (type_tree x.key_type.now, type_tree x.value_type.now)
    pub read : AreReadInTurn tree of Full w (type_tree x.key_type.now) (type_tree x.value_type.now) source children x.entries.items x.key
    pub keys : AreKeysOf of (type_tree x.key_type.now) x.entries.items x.key
