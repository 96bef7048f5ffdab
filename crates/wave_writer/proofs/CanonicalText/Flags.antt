-- The text of flags, by their names.
use Rattle.std.proofs.Common.{◌≡◌, ℕ, List, true, refl, sym, ap, codes}
use Rattle.wave_wasm.specs.declared.wasm.WasmTypeKind.TheVariants as kinds
use Rattle.wave_wasm.specs.Types as type
use Rattle.wave_wasm.specs.Values as value
use Rattle.wave_wasm.specs.Values.{Value, kind_of, flags_names}
use Rattle.wave_wasm.specs.Commas.{enclosed}
use Rattle.wave_wasm.specs.Text.{text, has_text}
use Rattle.wave_wasm.proofs.CanonicalText.ValueParts.{not_leaf}

-- flags are their names with commas between
pub flags_text : (v : Value) (names : List (List ℕ)) → kind_of v ≡ kinds.Flags → names ≡ flags_names v → text v ≡ enclosed (codes "{") names (codes "}")
flags_text (value.flags all) names k e = ap (λ z. enclosed (codes "{") z (codes "}")) (sym e)
flags_text (value.leaf one) names k e = absurd (not_leaf one kinds.Flags refl k)
flags_text (value.unreadable type.f32) names k e = absurd (cc)
flags_text (value.unreadable type.f64) names k e = absurd (cc)
flags_text (value.unreadable type.unsupported) names k e = absurd (cc)
flags_text _ names k e = absurd (cc)

-- flags have a text
pub flags_writable : (v : Value) → kind_of v ≡ kinds.Flags → has_text v ≡ true
flags_writable (value.flags all) k = refl
flags_writable (value.leaf one) k = absurd (not_leaf one kinds.Flags refl k)
flags_writable (value.unreadable type.f32) k = absurd (cc)
flags_writable (value.unreadable type.f64) k = absurd (cc)
flags_writable (value.unreadable type.unsupported) k = absurd (cc)
flags_writable _ k = absurd (cc)
