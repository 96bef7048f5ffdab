-- The parts of a value, or of the flat payload that stands for it.
use Rattle.std.specs.Prelude.{ℕ, ◌≡◌, List, Option, Some, None}
use Rattle.std.specs.Borrow.{Bor}
use Rattle.wave_wasm.specs.Types.{TypeTree}
use Rattle.wave_wasm.specs.Values.{Value}
use Rattle.wave_wasm.specs.Borrowed.{denoted}
use Rattle.wave_grammar.specs.FaultOrder.{Order}
use Rattle.wave_grammar.specs.NodeTree.{NodeTree}
use Rattle.wave_grammar.specs.declared.form.NodeType.{NodeType}
use Rattle.wave_leaf.specs.PlainReading.{IsPlain, TakesMemory}
use Rattle.wave_read.specs.Flat.{IsFlatAt}
use Rattle.wave_read.specs.PartsOfKinds.{AreParts, IsBare, IsSimpleAt, next_expected}
use Rattle.wave_read.specs.declared.parts.Partial.{Partial}
use Rattle.wave_read.specs.declared.parts.Partial.TheVariants as parts
use Rattle.wave_read.specs.declared.values.Frame.{Frame}

module _ {S V : Type 0} (type_tree : S → TypeTree) (tree : V → Value) (of : V → TypeTree → Type 0) (Full : TypeTree → Type 0) (w : Order) where
  -- the parts of a value of the type; or, where this option or result wraps it, those of its flat payload
  abbrev pub AreOfType : TypeTree → List ℕ → NodeType → List NodeTree → Option (Bor S) → Frame S V → Type 0
  AreOfType T source ty children None kept = AreParts type_tree tree of Full w T source ty children kept.parts
  AreOfType T source ty children (Some x) kept =
      (type_tree x.now ≡ T) × ((U : TypeTree) × IsFlatAt T ty U × AreParts type_tree tree of Full w U source ty children kept.parts)

  abbrev pub AreKept : TypeTree → List ℕ → NodeType → List NodeTree → Frame S V → Type 0
  AreKept T source ty children kept = AreOfType T source ty children kept.wrapper kept

  -- so of the type that is expected; where it is a plain one or none is expected, nothing is kept, and where none is expected nothing wraps them
  abbrev pub AreKeptWhereExpected : Option TypeTree → List ℕ → NodeType → List NodeTree → Frame S V → Type 0
  AreKeptWhereExpected None source ty children kept = IsBare kept.parts × (kept.wrapper ≡ None)
  AreKeptWhereExpected (Some T) source ty children kept = AreKept T source ty children kept × (IsPlain T → IsSimpleAt type_tree T kept.parts)

  -- where nothing is kept, nothing is expected
  none_next : (x : Partial S V) → IsBare x → TakesMemory (denoted type_tree (next_expected x)) → ⊥
  none_next (parts.Faulty f) bare takes = takes
  none_next (parts.Simple y) bare takes = takes
  none_next _ bare takes = absurd bare

  simple_next : (T : TypeTree) (x : Partial S V) → IsSimpleAt type_tree T x → TakesMemory (denoted type_tree (next_expected x)) → ⊥
  simple_next T (parts.Simple y) simple takes = takes
  simple_next T _ simple takes = absurd simple

  -- where memory is taken for the parts of the next part, it is taken for parts
  pub next_takes : (expected : Option TypeTree) (source : List ℕ) (ty : NodeType) (children : List NodeTree) (kept : Frame S V)
      → AreKeptWhereExpected expected source ty children kept → TakesMemory (denoted type_tree (next_expected kept.parts)) → TakesMemory expected
  next_takes None source ty children kept are takes = none_next kept.parts are.0 takes
  next_takes (Some T) source ty children kept are takes = λ plain. simple_next T kept.parts (are.1 plain) takes

module _ {S V : Type 0} (type_tree : S → TypeTree) (tree : V → Value) (of : V → TypeTree → Type 0) (Full : TypeTree → Type 0) where
  -- they are those of some children of a node, at whatever is expected
  abbrev pub AreKeptOfSome : Frame S V → Type 0
  AreKeptOfSome kept =
      (w : Order) × (expected : Option TypeTree) × (source : List ℕ) × (ty : NodeType) × (children : List NodeTree) × AreKeptWhereExpected type_tree tree of Full w expected source ty children kept
