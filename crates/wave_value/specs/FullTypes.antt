-- The types at which the constructors of values refuse for lack of memory alone.
use Rattle.std.specs.Prelude.{List, [], map}
use Rattle.wave_wasm.specs.Lists.{AllOf}
use Rattle.wave_wasm.specs.Names.{AreDistinct}
use Rattle.wave_wasm.specs.Types as type
use Rattle.wave_wasm.specs.Types.{TypeTree, MaybeType, Types, Fields, Cases, no_type, a_type, no_types, type_and, no_fields, field, no_cases, case_of}
use Rattle.wave_wasm.specs.Types.{type_list, field_list, HasDistinctNames, EachNamesOfMaybe, EachNamesOfTypes, EachNamesOfFields, EachNamesOfCases}
use Rattle.wave_wasm.specs.ConstructorContracts.{HasFullParts, payload_and, payload_types}

-- within each record, variant, enum and flags no name stands twice
abbrev pub IsFull : TypeTree → Type 0
IsFull T = HasDistinctNames T

-- a full payload type before full types, where there is one
payload_full : (P : MaybeType) (more : List TypeTree) → EachNamesOfMaybe AreDistinct P → AllOf IsFull more → AllOf IsFull (payload_and P more)
payload_full no_type more names h = h
payload_full (a_type T) more names h = (names, h)

-- the types of a full tuple are full
types_full : (Ts : Types) → EachNamesOfTypes AreDistinct Ts → AllOf IsFull (type_list Ts)
types_full no_types names = tt
types_full (type_and T more) names = (names.0, types_full more names.1)

-- the types of full fields are full
fields_full : (fs : Fields) → EachNamesOfFields AreDistinct fs → AllOf IsFull (map (λ f. f.1) (field_list fs))
fields_full no_fields names = tt
fields_full (field name T more) names = (names.0, fields_full more names.1)

-- the payload types of full cases are full
cases_full : (cs : Cases) → EachNamesOfCases AreDistinct cs → AllOf IsFull (payload_types cs)
cases_full no_cases names = tt
cases_full (case_of name P more) names = payload_full P (payload_types more) names.0 (cases_full more names.1)

-- the parts of a full type are full
pub full_parts : HasFullParts IsFull
full_parts (type.simple S) full = tt
full_parts (type.unreadable kind) full = tt
full_parts (type.list E) full = (full, tt)
full_parts (type.fixed E n) full = (full, tt)
full_parts (type.record_type fs) full = fields_full fs full.1
full_parts (type.tuple Ts) full = types_full Ts full
full_parts (type.variant cs) full = cases_full cs full.1
full_parts (type.enum names) full = tt
full_parts (type.option P) full = (full, tt)
full_parts (type.result A B) full = payload_full A _ full.0 (payload_full B [] full.1 tt)
full_parts (type.flags names) full = tt
full_parts (type.map K V) full = (tt, (full, tt))
