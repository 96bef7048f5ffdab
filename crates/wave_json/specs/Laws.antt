-- Laws of JSON.
use Rattle.std.specs.Prelude.{◌≡◌, ◌≤◌, ◌↔◌, Ok}
use Rattle.json.specs.Json.{max_depth}
use Rattle.json.specs.Tree.{depth}
use Rattle.wave_wasm.specs.Types.{TypeTree, HasDistinctNames}
use Rattle.wave_wasm.specs.Values.{Value}
use Rattle.wave_wasm.specs.HasType.{HasType}
use Rattle.wave_wasm.specs.Merge.{merged}
use Rattle.wave_json.specs.Mapping.{json_of, json_text}
use Rattle.wave_json.specs.Reading.{value_at, json_at}

-- the JSON of a value of a type is read there as the merged value
abbrev pub ReadsBack : Type 0
ReadsBack = (T : TypeTree) (v : Value) → HasDistinctNames T → HasType T v → value_at T (json_of v) ≡ Ok (merged v)

-- so is its text, where its JSON nests no deeper than 128 arrays and objects
abbrev pub TextReadsBack : Type 0
TextReadsBack = (T : TypeTree) (v : Value) → HasDistinctNames T → HasType T v → depth (json_of v) ≤ max_depth → json_at T (json_text v) ≡ Ok (merged v)

-- two values of one type have one text exactly where they are equal after merging
abbrev pub OneTextEach : Type 0
OneTextEach = (T : TypeTree) (v w : Value) → HasDistinctNames T → HasType T v → HasType T w → (json_text v ≡ json_text w) ↔ (merged v ≡ merged w)
