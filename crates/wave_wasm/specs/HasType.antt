-- Which values a type has, v : T. At f32, f64 and unsupported it has none.
use Rattle.std.specs.Prelude.{ℕ, ◌≡◌, ◌⊎◌, length, List, [], ◌∷◌}
use Rattle.wave_wasm.specs.Lists.{AllOf}
use Rattle.wave_wasm.specs.Names.{IsOneOf, ArePicked}
use Rattle.wave_wasm.specs.Types as type
use Rattle.wave_wasm.specs.Types.{TypeTree, MaybeType, Types, Fields, Cases, Simple, no_type, a_type, no_types, type_and, no_fields, field, no_cases, case_of}
use Rattle.wave_wasm.specs.Values as value
use Rattle.wave_wasm.specs.Values.{Value, MaybeValue, FieldValues, Leaf, no_value, a_value, values, entries, leaf_type, IsSound}

-- a value of one token is of the simple type
abbrev pub IsLeafOf : Simple → Leaf → Type 0
IsLeafOf S one = (leaf_type one ≡ S) × IsSound one

-- v : T, by cases
abbrev mutual
  pub HasType : TypeTree → Value → Type 0
  HasType (type.simple S) v = (one : Leaf) × IsLeafOf S one × (v ≡ value.leaf one)
  HasType (type.unreadable kind) v = ⊥
  HasType (type.list E) v = (vs : List Value) × AllOf (HasType E) vs × (v ≡ value.list (values vs))
  HasType (type.fixed E n) v = (vs : List Value) × AllOf (HasType E) vs × (length vs ≡ n) × (v ≡ value.fixed (values vs))
  HasType (type.record_type fs) v = (all : FieldValues) × HasFields fs all × (v ≡ value.record_value all)
  HasType (type.tuple Ts) v = (vs : List Value) × HasTypes Ts vs × (v ≡ value.tuple (values vs))
  HasType (type.variant cs) v = (name : List ℕ) × (payload : MaybeValue) × HasCase cs name payload × (v ≡ value.variant name payload)
  HasType (type.enum names) v = (name : List ℕ) × IsOneOf names name × (v ≡ value.enum name)
  HasType (type.option P) v = (v ≡ value.option no_value) ⊎ ((w : Value) × HasType P w × (v ≡ value.option (a_value w)))
  HasType (type.result A B) v =
      ((payload : MaybeValue) × HasPayload A payload × (v ≡ value.ok payload)) ⊎ ((payload : MaybeValue) × HasPayload B payload × (v ≡ value.err payload))
  HasType (type.flags names) v = (picked : List (List ℕ)) × ArePicked names picked × (v ≡ value.flags picked)
  HasType (type.map K V) v = (es : List (Leaf × Value)) × AllOf (λ e. IsLeafOf K e.0 × HasType V e.1) es × (v ≡ value.map (entries es))

  -- the payload is there exactly where it has a type, and is of it
  pub HasPayload : MaybeType → MaybeValue → Type 0
  HasPayload no_type payload = payload ≡ no_value
  HasPayload (a_type T) payload = (w : Value) × HasType T w × (payload ≡ a_value w)

  -- as many items as types, each of its type
  pub HasTypes : Types → List Value → Type 0
  HasTypes no_types vs = vs ≡ []
  HasTypes (type_and T more) vs = (w : Value) × (others : List Value) × HasType T w × HasTypes more others × (vs ≡ w ∷ others)

  -- the fields of the type in its order, each of its type
  pub HasFields : Fields → FieldValues → Type 0
  HasFields no_fields all = all ≡ value.no_fields
  HasFields (field name T more) all = (w : Value) × (others : FieldValues) × HasType T w × HasFields more others × (all ≡ value.field name w others)

  -- a case of this name, and its payload
  pub HasCase : Cases → List ℕ → MaybeValue → Type 0
  HasCase no_cases name payload = ⊥
  HasCase (case_of other T more) name payload = (name ≡ other) × HasPayload T payload ⊎ HasCase more name payload
