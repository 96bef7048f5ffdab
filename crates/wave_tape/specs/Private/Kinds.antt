-- Kinds of one token that a function is asked for.
use Rattle.std.specs.Prelude.{◌≢◌}
use Rattle.wave_wasm.specs.declared.wasm.WasmTypeKind.{WasmTypeKind}
use Rattle.wave_wasm.specs.declared.wasm.WasmTypeKind.TheVariants as kinds

-- neither bool, char nor string
abbrev pub IsNoText : WasmTypeKind → Type 0
IsNoText kind = (kind ≢ kinds.Bool) × (kind ≢ kinds.Char) × (kind ≢ kinds.String)

-- no unsigned whole number
abbrev pub IsNotUnsigned : WasmTypeKind → Type 0
IsNotUnsigned kind = (kind ≢ kinds.U8) × (kind ≢ kinds.U16) × (kind ≢ kinds.U32) × (kind ≢ kinds.U64)
