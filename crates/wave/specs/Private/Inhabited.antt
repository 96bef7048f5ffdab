-- Which types have a value, as a test.
use Rattle.std.specs.Prelude.{zero, suc, Bool, true, false, ◌&&◌, ◌||◌}
use Rattle.wave_wasm.specs.Types as type
use Rattle.wave_wasm.specs.Types.{TypeTree, MaybeType, Types, Fields, Cases, no_type, a_type, no_types, type_and, no_fields, field, no_cases, case_of}
use Rattle.wave_wasm.specs.Types.{has_names}

abbrev mutual
  -- the type has a value
  pub inhabited : TypeTree → Bool
  inhabited (type.simple S) = true
  inhabited (type.unreadable kind) = false
  inhabited (type.list E) = true
  inhabited (type.fixed E zero) = true
  inhabited (type.fixed E (suc n)) = inhabited E
  inhabited (type.record_type fs) = fields_inhabited fs
  inhabited (type.tuple Ts) = types_inhabited Ts
  inhabited (type.variant cs) = cases_inhabited cs
  inhabited (type.enum names) = has_names names
  inhabited (type.option P) = true
  inhabited (type.result A B) = payload_inhabited A || payload_inhabited B
  inhabited (type.flags names) = true
  inhabited (type.map K V) = true

  -- there is no payload, or its type has a value
  pub payload_inhabited : MaybeType → Bool
  payload_inhabited no_type = true
  payload_inhabited (a_type T) = inhabited T

  -- each type of a tuple has a value
  pub types_inhabited : Types → Bool
  types_inhabited no_types = true
  types_inhabited (type_and T more) = inhabited T && types_inhabited more

  -- each field's type has a value
  pub fields_inhabited : Fields → Bool
  fields_inhabited no_fields = true
  fields_inhabited (field name T more) = inhabited T && fields_inhabited more

  -- a case has no payload, or one whose type has a value
  pub cases_inhabited : Cases → Bool
  cases_inhabited no_cases = false
  cases_inhabited (case_of name payload more) = payload_inhabited payload || cases_inhabited more
