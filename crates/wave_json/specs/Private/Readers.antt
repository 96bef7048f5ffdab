-- What a reader of JSON answers. S is the Rust type of the values, `tree` says what one means, `of` when it is of a type, `Full` at which types constructors refuse for memory alone.
use Rattle.std.specs.Prelude.{ℕ, suc, ◌≡◌, ◌≢◌, List, [], ◌∷◌, map, Option, Some, None, option_map, Result, Ok, Err, slice_get, string_bytes}
use Rattle.std.specs.Borrow.{Bor}
use Rattle.std.specs.Global.{Vec}
use Rattle.std.specs.declared.alloc.Global.{Global}
use Rattle.json.specs.Json.{Json, Items, Members}
use Rattle.json.specs.Value.{value_view, members_view}
use Rattle.json.specs.declared.value.Value as declared
use Rattle.wave_wasm.specs.Lists.{AllOf}
use Rattle.wave_wasm.specs.Names.{AreDistinct}
use Rattle.wave_wasm.specs.Types as type
use Rattle.wave_wasm.specs.Types.{TypeTree, HasDistinctNames, EachNamesOfMaybe, maybe_type, simple_kind}
use Rattle.wave_wasm.specs.Values as value
use Rattle.wave_wasm.specs.Values.{Leaf, Value, maybe_value}
use Rattle.wave_wasm.specs.ConstructorContracts.{AreOf, FieldsAreOf, PayloadIsOf, entry_trees, field_trees, leaf_entries}
use Rattle.wave_wasm.specs.declared.wasm.WasmTypeKind.{WasmTypeKind}
use Rattle.wave_wasm.specs.declared.wasm.WasmTypeKind.TheVariants as type_kinds
use Rattle.wave_wasm.specs.declared.wasm.WasmValueError.{WasmValueError}
use Rattle.wave_json.specs.Errors.{Refusal}
use Rattle.wave_json.specs.declared.error.JsonErrorKind.TheVariants as kinds
use Rattle.wave_json.specs.Reading.{Reading, ◌>>=◌, under, item_step, unless_found, first_repeated, field_at, left_out, member_of, leaf_at, value_at, pair_at, entries_at, payload_at, each_at}
use Rattle.wave_json.specs.declared.error.Stop.{Stop}
use Rattle.wave_json.specs.declared.error.Stop.TheVariants as stops
use Rattle.wave_json.specs.Private.Stops.{IsRefusal}

-- reading stopped for want of memory, or at the fault that reading gives, or a constructor refused, and that not at a full type
abbrev pub Fails : {A : Type 0} → Type 0 → Stop → Reading A → Type 0
Fails Full stops.Memory read = Unit {0}
Fails Full (stops.Refused trail) read = Full → ⊥
Fails Full (stops.Fault kind trail) read = read ≡ Err (record { kind = kind; path = string_bytes trail.path })

-- what was answered, seen by view, is what reading gives
abbrev pub Gives : {X Y : Type 0} → (X → Y) → Reading Y → Result X Stop → Type 0
Gives view read (Ok x) = read ≡ Ok (view x)
Gives view read (Err s) = Fails (Unit {0}) s read

-- so at distinct names, and of what was answered more is known
abbrev pub Reads : {X Y : Type 0} → Type 0 → Type 0 → (X → Y) → (X → Type 0) → Reading Y → Result X Stop → Type 0
Reads Distinct Full view Known read (Ok x) = Distinct → (read ≡ Ok (view x)) × Known x
Reads Distinct Full view Known read (Err s) = Distinct → Fails Full s read

-- what a constructor answered, handed on
abbrev pub IsBuilt : {S : Type 0} → Result S WasmValueError → Result S Stop → Type 0
IsBuilt (Ok v) (Ok x) = x ≡ v
IsBuilt (Err e) (Err s) = IsRefusal e s
IsBuilt made answer = ⊥

-- as many as a length says, where there is one
abbrev pub HasLength : Option ℕ → ℕ → Type 0
HasLength None n = Unit {0}
HasLength (Some length) n = n ≡ length

-- a value of each type, from place n on
abbrev pub each_type_at : List TypeTree → ℕ → List Json → Reading (List Value)
each_type_at [] n js = Ok []
each_type_at (T ∷ Ts) n [] = Ok []
each_type_at (T ∷ Ts) n (j ∷ js) = under (item_step n) (value_at T j) >>= λ v. each_type_at Ts (suc n) js >>= λ vs. Ok (v ∷ vs)

-- a value of each field, under its name
abbrev pub each_field_at : List (List ℕ × TypeTree) → Members → Reading (List (List ℕ × Value))
each_field_at [] ms = Ok []
each_field_at (f ∷ fs) ms =
    field_at (value_at f.1) (left_out f.1 f.0) f.0 (member_of f.0 ms) >>= λ v. each_field_at fs ms >>= λ others. Ok ((f.0, v) ∷ others)

-- the type is full, where there is one
abbrev pub IsFullOption : (TypeTree → Type 0) → Option TypeTree → Type 0
IsFullOption Full None = Unit {0}
IsFullOption Full (Some T) = Full T

module _ {S : Type 0} (tree : S → Value) (of : S → TypeTree → Type 0) (Full : TypeTree → Type 0) where
  -- this was read as a value of the type
  abbrev pub IsReadAs : TypeTree → Reading Value → Result S Stop → Type 0
  IsReadAs T read r = Reads (HasDistinctNames T) (Full T) tree (λ v. of v T) read r

  -- a value was read at the type
  abbrev pub IsRead : TypeTree → Json → Result S Stop → Type 0
  IsRead T j r = IsReadAs T (value_at T j) r

  -- a value of one token was read at the type of this kind
  abbrev pub IsLeafRead : WasmTypeKind → Json → Result S Stop → Type 0
  IsLeafRead kind j r = (R : type.Simple) → kind ≡ simple_kind R → IsRead (type.simple R) j r

  -- each was read at the type
  abbrev pub AreRead : TypeTree → Items → Result (Vec S) Stop → Type 0
  AreRead T js r = Reads (HasDistinctNames T) (Full T) (λ v. map tree v.items) (λ v. AllOf (λ x. of x T) v.items) (each_at (value_at T) 0 js) r

  -- a value was read at each type
  abbrev pub AreReadEach : List TypeTree → List Json → Result (Vec S) Stop → Type 0
  AreReadEach Ts js r = Reads (AllOf HasDistinctNames Ts) (AllOf Full Ts) (λ v. map tree v.items) (λ v. AreOf of Ts v.items) (each_type_at Ts 0 js) r

  -- a value was read of each field
  abbrev pub FieldsAreRead : List (List ℕ × TypeTree) → Members → Result (Vec (Bor (List ℕ) × S)) Stop → Type 0
  FieldsAreRead fs ms r =
      Reads (AllOf (λ f. HasDistinctNames f.1) fs) (AllOf (λ f. Full f.1) fs) (λ v. field_trees tree v.items) (λ v. FieldsAreOf of fs v.items) (each_field_at fs ms) r

  -- a payload was read, where it has a type
  abbrev pub IsPayloadRead : Option TypeTree → List ℕ → Option Json → Result (Option S) Stop → Type 0
  IsPayloadRead P name payload r =
      Reads (EachNamesOfMaybe AreDistinct (maybe_type P)) (IsFullOption Full P) (λ x. maybe_value (option_map tree x)) (PayloadIsOf of P) (payload_at (maybe_type P) name payload) r

-- a case and its payload
abbrev pub case_view : Bor (List ℕ) × Option (Bor (declared.Value Global)) → List ℕ × Option Json
case_view c = (c.0.now, option_map (λ v. value_view v.now) c.1)

-- the place of the first member of this name, where there is one
abbrev pub IsMemberAt : List ℕ → List (Bor (List ℕ) × declared.Value Global) → Option ℕ → Type 0
IsMemberAt name ms None = member_of name (members_view ms) ≡ None
IsMemberAt name ms (Some place) = (m : Bor (List ℕ) × declared.Value Global) × (slice_get ms place ≡ Some m) × (member_of name (members_view ms) ≡ Some (value_view m.1))

-- the texts of keys are distinct, or the first is reported that stood before
abbrev pub AreKeysDistinct : List (List ℕ) → Result (Unit {0}) Stop → Type 0
AreKeysDistinct keys r = Gives (λ u. u) (unless_found kinds.Repeated (λ p. item_step p.0) (first_repeated keys) tt) r

-- neither bool, char nor string
abbrev pub IsNoText : WasmTypeKind → Type 0
IsNoText kind = (kind ≢ type_kinds.Bool) × (kind ≢ type_kinds.Char) × (kind ≢ type_kinds.String)

-- the error says why reading stopped
abbrev pub Tells : Stop → Refusal → Type 0
Tells stops.Memory e = (e.kind ≡ kinds.OutOfMemory) × (e.path ≡ []) × (e.place ≡ 0)
Tells (stops.Refused trail) e = e.kind ≡ kinds.Value
Tells (stops.Fault kind trail) e = (e.kind ≡ kind) × (e.path ≡ string_bytes trail.path)

-- each key with its entry
abbrev pub with_leaf : Leaf × Value → Value × Value
with_leaf e = (value.leaf e.0, e.1)

-- the entries, their keys as values
abbrev pub keyed : Reading (List (Leaf × Value)) → Reading (List (Value × Value))
keyed read = read >>= λ es. Ok (leaf_entries es)

module _ {S : Type 0} (tree : S → Value) (of : S → TypeTree → Type 0) (Full : TypeTree → Type 0) where
  -- the members of an object were read as entries
  abbrev pub AreMembersRead : TypeTree → Json → Result (Vec (S × S)) Stop → Type 0
  AreMembersRead V j r =
      Reads (HasDistinctNames V) (Full V × Full (type.simple type.string)) (λ v. entry_trees tree v.items) (λ v. AllOf (λ e. of e.0 (type.simple type.string) × of e.1 V) v.items) (keyed (entries_at type.string (value_at V) j)) r

  -- the entries of a map were read
  abbrev pub AreEntriesRead : TypeTree → TypeTree → Json → Result (Vec (S × S)) Stop → Type 0
  AreEntriesRead K V j r =
      (R : type.Simple) → K ≡ type.simple R
      → Reads (HasDistinctNames V) (Full K × Full V) (λ v. entry_trees tree v.items) (λ v. AllOf (λ e. of e.0 K × of e.1 V) v.items) (keyed (entries_at R (value_at V) j)) r

  -- the pairs of an array were read as entries, at a key type that is no string
  abbrev pub ArePairsRead : TypeTree → TypeTree → Json → Result (Vec (S × S)) Stop → Type 0
  ArePairsRead K V j r =
      (R : type.Simple) → K ≡ type.simple R → (R ≢ type.string)
      → Reads (HasDistinctNames V) (Full K × Full V) (λ v. entry_trees tree v.items) (λ v. AllOf (λ e. of e.0 K × of e.1 V) v.items) (keyed (entries_at R (value_at V) j)) r

  -- a pair was read as an entry
  abbrev pub IsPairRead : TypeTree → TypeTree → Json → Result (S × S) Stop → Type 0
  IsPairRead K V j r =
      (R : type.Simple) → K ≡ type.simple R
      → Reads (HasDistinctNames V) (Full K × Full V) (λ e. (tree e.0, tree e.1)) (λ e. of e.0 K × of e.1 V) (pair_at (leaf_at R) (value_at V) j >>= λ e. Ok (with_leaf e)) r
