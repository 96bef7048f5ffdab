-- A value as something that can be stored, by which two values are told apart.
use Rattle.std.specs.Prelude.{◌≡◌, ℕ, List, refl}
use Rattle.std.proofs.Common.{sym, ap, ◌∙◌}
use Rattle.std.specs.Coded.{Coded, code_by, coded×}
use Rattle.wave_wasm.specs.Types.{TypeTree}
use Rattle.wave_wasm.specs.TypeTreeEncoding.{stored_name, tree_code}
use Rattle.wave_wasm.specs.Values.{Value}
use Rattle.wave_value.specs.TypedValue.{TypedValue}
use Rattle.wave_value.specs.ValueEncoding.{name_back, name_in, stored_value, value_apart}

-- two names that are stored alike are one
pub name_apart : (m n : List ℕ) → stored_name m ≡ stored_name n → m ≡ n
name_apart m n e = sym (name_back m) ∙ (ap name_in e ∙ name_back n)

-- how values are stored
abbrev pub value_code : Coded Value
value_code = record { code = stored_value; inj = value_apart }

-- how a value beside its own type is stored
abbrev pub typed_code : Coded TypedValue
typed_code =
    code_by (TypeTree × Value) (coded× tree_code value_code) (λ v. (v.own, v.tree)) (λ p. record { own = p.0; tree = p.1 }) (λ _. refl)
