-- Values of the kinds that have one token: of none of the other kinds.
use Rattle.std.proofs.Common.{◌≡◌, ◌≢◌, refl}
use Rattle.wave_wasm.specs.Values as value
use Rattle.wave_wasm.specs.Values.{Value, Leaf, kind_of}
use Rattle.wave_wasm.specs.Types as type
use Rattle.wave_wasm.specs.declared.wasm.WasmTypeKind.{WasmTypeKind}
use Rattle.wave_wasm.specs.declared.wasm.WasmTypeKind.TheVariants as kinds

-- none of the kinds of several tokens, and none that can't be written
pub record IsOther (k : WasmTypeKind) : Type 0 where
  pub list : k ≢ kinds.List
  pub fixed : k ≢ kinds.FixedLengthList
  pub record_kind : k ≢ kinds.Record
  pub tuple : k ≢ kinds.Tuple
  pub variant : k ≢ kinds.Variant
  pub enum : k ≢ kinds.Enum
  pub option : k ≢ kinds.Option
  pub result : k ≢ kinds.Result
  pub flags : k ≢ kinds.Flags
  pub map : k ≢ kinds.Map
  pub f32 : k ≢ kinds.F32
  pub f64 : k ≢ kinds.F64
  pub unsupported : k ≢ kinds.Unsupported

-- a value of such a kind is a leaf
pub leaf_of : (v : Value) (k : WasmTypeKind) → k ≡ kind_of v → IsOther k → (one : Leaf) × (v ≡ value.leaf one)
leaf_of (value.leaf one) k e is = (one, refl)
leaf_of (value.unreadable type.f32) k e is = absurd (is.f32 e)
leaf_of (value.unreadable type.f64) k e is = absurd (is.f64 e)
leaf_of (value.unreadable type.unsupported) k e is = absurd (is.unsupported e)
leaf_of (value.list vs) k e is = absurd (is.list e)
leaf_of (value.fixed vs) k e is = absurd (is.fixed e)
leaf_of (value.record_value fs) k e is = absurd (is.record_kind e)
leaf_of (value.tuple vs) k e is = absurd (is.tuple e)
leaf_of (value.variant name payload) k e is = absurd (is.variant e)
leaf_of (value.enum name) k e is = absurd (is.enum e)
leaf_of (value.option payload) k e is = absurd (is.option e)
leaf_of (value.ok payload) k e is = absurd (is.result e)
leaf_of (value.err payload) k e is = absurd (is.result e)
leaf_of (value.flags names) k e is = absurd (is.flags e)
leaf_of (value.map es) k e is = absurd (is.map e)
