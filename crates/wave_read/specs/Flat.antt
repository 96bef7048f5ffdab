-- Values that stand for an option or a result of themselves.
use Rattle.std.specs.Prelude.{ℕ, ◌≡◌, ◌≢◌, ◌⊎◌, Option, Some, None, Result}
use Rattle.std.specs.Borrow.{Bor}
use Rattle.wave_wasm.specs.Types as type
use Rattle.wave_wasm.specs.Types.{TypeTree, kind_of, count_of}
use Rattle.wave_wasm.specs.declared.wasm.WasmTypeKind.TheVariants as kinds
use Rattle.wave_lex.specs.Errors.{Diagnostic}
use Rattle.wave_grammar.specs.TypedGrammar.{IsFlat}
use Rattle.wave_grammar.specs.declared.form.NodeType.{NodeType}
use Rattle.wave_grammar.specs.declared.form.NodeType.TheVariants as node_type
use Rattle.wave_leaf.specs.Reading.{IsOfType}

-- at a node of this type, a value of the option or the result is written as its flat payload alone
abbrev pub IsFlatAt : TypeTree → NodeType → TypeTree → Type 0
IsFlatAt (type.option P) ty U = (U ≡ P) × IsFlat P × (ty ≢ node_type.OptionSome) × (ty ≢ node_type.OptionNone)
IsFlatAt (type.result (type.a_type A) B) ty U = (U ≡ A) × IsFlat A × (ty ≢ node_type.ResultOk) × (ty ≢ node_type.ResultErr)
IsFlatAt _ ty U = ⊥

-- nothing wraps the type, which is no option or result of a flat payload there; or this option or result
-- does, and it is its payload's
abbrev pub IsWrapper : {S : Type 0} → (S → TypeTree) → TypeTree → NodeType → Option (Bor S) → Bor S → Type 0
IsWrapper type_tree T ty None x = (type_tree x.now ≡ T) × ((U : TypeTree) → IsFlatAt T ty U → ⊥)
IsWrapper type_tree T ty (Some whole) x = (type_tree whole.now ≡ T) × IsFlatAt T ty (type_tree x.now)

-- so for the type that is expected, where one is
abbrev pub IsWrapperWhereExpected : {S : Type 0} → (S → TypeTree) → Option TypeTree → NodeType → Option (Bor S) → Bor S → Type 0
IsWrapperWhereExpected type_tree None ty wrapper x = ⊥
IsWrapperWhereExpected type_tree (Some T) ty wrapper x = IsWrapper type_tree T ty wrapper x

-- a value that was read is of the type of a flat payload of the option or result
abbrev pub IsOfFlatPart : {V : Type 0} → (V → TypeTree → Type 0) → TypeTree → Result V Diagnostic → Type 0
IsOfFlatPart of T r = (ty : NodeType) × (U : TypeTree) × IsFlatAt T ty U × IsOfType of U r

-- so where this option or result wraps it
abbrev pub IsOfPartWithin : {S V : Type 0} → (S → TypeTree) → (V → TypeTree → Type 0) → Option (Bor S) → Result V Diagnostic → Type 0
IsOfPartWithin type_tree of None r = Unit {0}
IsOfPartWithin type_tree of (Some whole) r = IsOfFlatPart of (type_tree whole.now) r

-- a node of this type is read at the type U: at T itself, or at that of the flat payload that it stands for
abbrev pub IsReadAt : TypeTree → NodeType → TypeTree → Type 0
IsReadAt T ty U = (U ≡ T) ⊎ IsFlatAt T ty U

-- no record is read at the node
abbrev pub ReadsNoRecord : TypeTree → NodeType → Type 0
ReadsNoRecord T ty = (U : TypeTree) → IsReadAt T ty U → ty ≡ node_type.TupleSet → kind_of U ≢ kinds.Record

-- where a tuple is read at the node, it has as many items as its type
abbrev pub IsCounted : TypeTree → NodeType → ℕ → Type 0
IsCounted T ty count = (Ts : type.Types) → IsReadAt T ty (type.tuple Ts) → ty ≡ node_type.Tuple → count ≡ count_of Ts

-- flags are read at a node of flags
abbrev pub ReadsFlags : TypeTree → Type 0
ReadsFlags T = (U : TypeTree) × IsReadAt T node_type.Flags U × (kind_of U ≡ kinds.Flags)
