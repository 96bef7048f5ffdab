-- Types of kinds without a form: of none of the kinds that have one.
use Rattle.std.proofs.Common.{◌≡◌, ◌≢◌}
use Rattle.wave_wasm.specs.Types as type
use Rattle.wave_wasm.specs.Types.{TypeTree, kind_of}
use Rattle.wave_wasm.specs.declared.wasm.WasmTypeKind.{WasmTypeKind}
use Rattle.wave_wasm.specs.declared.wasm.WasmTypeKind.TheVariants as kinds
use Rattle.wave_grammar.specs.declared.form.NodeType.{NodeType}
use Rattle.wave_read.specs.Flat.{IsFlatAt}
use Rattle.wave_read.specs.PartsOfKinds.{TakesEmptySet}

-- a type that is no option and no result is written as no flat payload
pub none_flat : (T : TypeTree) (k : WasmTypeKind) → k ≡ kind_of T → k ≢ kinds.Option → k ≢ kinds.Result → (of : NodeType) (U : TypeTree) → IsFlatAt T of U → ⊥
none_flat (type.option P) k is option result of U h = absurd (option is)
none_flat (type.result (type.a_type A) B) k is option result of U h = absurd (result is)
none_flat _ k is option result of U h = absurd h

-- at a type that is neither flags nor a map `{}` spells no value
pub none_empty : (T : TypeTree) (k : WasmTypeKind) → k ≡ kind_of T → k ≢ kinds.Flags → k ≢ kinds.Map → TakesEmptySet T → ⊥
none_empty (type.flags names) k is flags map h = absurd (flags is)
none_empty (type.map K W) k is flags map h = absurd (map is)
none_empty _ k is flags map h = absurd h
