-- What a refusal of a text says.
use Rattle.std.specs.Prelude.{◌≡◌, ◌⊎◌, [], Err}
use Rattle.wave_json.specs.declared.error.JsonErrorKind.TheVariants as kinds
use Rattle.wave_json.specs.Errors.{Refusal}
use Rattle.wave_json.specs.Reading.{Reading}

-- memory was refused, which has neither path nor place, or a constructor refused, and that not at a full type, or it is the fault that reading gives
abbrev pub IsFirstFault : {A : Type 0} → Type 0 → Refusal → Reading A → Type 0
IsFirstFault Full e read = ((e.kind ≡ kinds.OutOfMemory) × (e.path ≡ []) × (e.place ≡ 0)) ⊎ (((e.kind ≡ kinds.Value) × (Full → ⊥)) ⊎ (read ≡ Err (record { kind = e.kind; path = e.path })))
