-- Worked rows: values with their JSON, and JSON with what is read of it.
use Rattle.std.proofs.Common.{◌≡◌, pos, negsuc, codes, true, [], ◌∷◌, Err, refl}
use Rattle.std.specs.Fmt.{digits}
use Rattle.json.specs.Json as json
use Rattle.json.specs.Json.{no_items, item, no_members, member}
use Rattle.wave_wasm.specs.Types as type
use Rattle.wave_wasm.specs.Values as value
use Rattle.wave_wasm.specs.Values.{no_value, a_value, values, entries}
use Rattle.wave_json.specs.declared.error.JsonErrorKind.TheVariants as kinds
use Rattle.wave_json.specs.Mapping.{json_of}
use Rattle.wave_json.specs.Reading.{value_at}

-- `{a: some(1), b: [x]}` at `record { a: option<u8>, b: list<enum { x, y }> }`
settings_json : json_of (value.record_value (value.field (codes "a") (value.option (a_value (value.leaf (value.whole type.u8 (pos 1))))) (value.field (codes "b") (value.list (values (value.enum (codes "x") ∷ []))) value.no_fields)))
    ≡ json.object (member (codes "a") (json.number (codes "1")) (member (codes "b") (json.array (item (json.string (codes "x")) no_items)) no_members))
unfolding digits
settings_json = refl

-- `some(none)` and `none` at `option<option<u8>>`
some_none : json_of (value.option (a_value (value.option no_value))) ≡ json.object (member (codes "some") json.null no_members)
some_none = refl

only_none : json_of (value.option no_value) ≡ json.null
only_none = refl

-- `err` at `result<u8>`
bare_err : json_of (value.err no_value) ≡ json.string (codes "err")
bare_err = refl

-- `{-1: true}` at `map<s8, bool>`
pairs : json_of (value.map (entries ((value.whole type.s8 (negsuc 0), value.leaf (value.bool true)) ∷ []))) ≡ json.array (item (json.array (item (json.number (codes "-1")) (item (json.boolean true) no_items))) no_items)
unfolding digits
pairs = refl

-- `{"b":1,"b":2}` and `{"c":1}` at `record { b: bool }`
repeated : value_at (type.record_type (type.field (codes "b") (type.simple type.bool) type.no_fields)) (json.object (member (codes "b") json.null (member (codes "b") json.null no_members))) ≡ Err (record { kind = kinds.Repeated; path = codes ".b" })
repeated = refl

unknown : value_at (type.record_type (type.field (codes "b") (type.simple type.bool) type.no_fields)) (json.object (member (codes "c") json.null no_members)) ≡ Err (record { kind = kinds.Unknown; path = codes ".c" })
unknown = refl

-- `[true,null]` at `list<bool>`
second : value_at (type.list (type.simple type.bool)) (json.array (item (json.boolean true) (item json.null no_items))) ≡ Err (record { kind = kinds.Mismatch; path = codes "[1]" })
unfolding digits
second = refl
