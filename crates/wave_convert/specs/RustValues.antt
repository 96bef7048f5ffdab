-- Which values the values of Rust stand for.
use Rattle.std.specs.Prelude.{List, map, Option, option_map, Result, Ok, Err}
use Rattle.wave_wasm.specs.Values as value
use Rattle.wave_wasm.specs.Values.{Value, values, maybe_value, a_value}

-- the list of what the items stand for
abbrev pub list_value : {A : Type 0} → (A → Value) → List A → Value
list_value tree items = value.list (values (map tree items))

-- the tuple of these values
abbrev pub tuple_value : List Value → Value
tuple_value items = value.tuple (values items)

-- `some` of what the payload stands for, or `none`
abbrev pub option_value : {A : Type 0} → (A → Value) → Option A → Value
option_value tree payload = value.option (maybe_value (option_map tree payload))

-- `ok` or `err` of what the payload stands for
abbrev pub outcome_value : {A B : Type 0} → (A → Value) → (B → Value) → Result A B → Value
outcome_value ok_tree err_tree (Ok payload) = value.ok (a_value (ok_tree payload))
outcome_value ok_tree err_tree (Err payload) = value.err (a_value (err_tree payload))
