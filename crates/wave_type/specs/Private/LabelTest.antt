-- The test of names, as it computes. Only private contracts cite it.
use Rattle.std.specs.Prelude.{ℕ, ◌&&◌, Bool, true, not, List, [], ◌∷◌}
use Rattle.wave_wasm.specs.Names.{is_one_of}
use Rattle.wave_wasm.specs.Types as type
use Rattle.wave_wasm.specs.Types.{TypeTree, MaybeType, Types, Fields, Cases}
use Rattle.wave_wasm.specs.Types.{no_type, a_type, no_types, type_and, no_fields, field, no_cases, case_of, field_names, case_names}
use Rattle.wave_type.specs.TypeWords.{is_label}

-- the names are labels, and none stands twice
abbrev pub are_label_names : List (List ℕ) → Bool
are_label_names [] = true
are_label_names (name ∷ more) = is_label name && (not (is_one_of more name) && are_label_names more)

-- so it is within each record, variant, enum and flags
abbrev mutual
  pub names_pass : TypeTree → Bool
  names_pass (type.simple S) = true
  names_pass (type.unreadable kind) = true
  names_pass (type.list E) = names_pass E
  names_pass (type.fixed E n) = names_pass E
  names_pass (type.record_type fs) = are_label_names (field_names fs) && fields_pass fs
  names_pass (type.tuple Ts) = types_pass Ts
  names_pass (type.variant cs) = are_label_names (case_names cs) && cases_pass cs
  names_pass (type.enum names) = are_label_names names
  names_pass (type.option P) = names_pass P
  names_pass (type.result A B) = payload_passes A && payload_passes B
  names_pass (type.flags names) = are_label_names names
  names_pass (type.map K V) = names_pass V

  -- within a payload's type
  pub payload_passes : MaybeType → Bool
  payload_passes no_type = true
  payload_passes (a_type T) = names_pass T

  -- within each type of a tuple
  pub types_pass : Types → Bool
  types_pass no_types = true
  types_pass (type_and T more) = names_pass T && types_pass more

  -- within each field's type
  pub fields_pass : Fields → Bool
  fields_pass no_fields = true
  fields_pass (field name T more) = names_pass T && fields_pass more

  -- within each case's payload
  pub cases_pass : Cases → Bool
  cases_pass no_cases = true
  cases_pass (case_of name payload more) = payload_passes payload && cases_pass more
