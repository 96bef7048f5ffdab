-- The fault that a constructor's refusal is.
use Rattle.std.specs.Prelude.{ℕ, ◌≡◌}
use Rattle.std.specs.declared.ops.Range.{Range}
use Rattle.wave_wasm.specs.declared.wasm.WasmValueError.{WasmValueError}
use Rattle.wave_lex.specs.Errors.{Diagnostic}
use Rattle.wave_leaf.specs.Errors.{IsRefusedBy}
use Rattle.wave_leaf.specs.declared.fault.Fault.{Fault}
use Rattle.wave_leaf.specs.Faults.{Reports}

-- the fault is that the whole value could not be made, for this cause; or, where that has a text, that there is no memory
abbrev pub IsFaultOf : WasmValueError → Fault → Type 0
IsFaultOf cause f = (p : Range ℕ) (e : Diagnostic) → Reports f p e → IsRefusedBy cause e × (e.span ≡ p)
