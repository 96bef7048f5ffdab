-- What each constructor of values accepts, what it makes, and what its refusals say.
use Rattle.std.specs.Prelude.{ℕ, ◌≡◌, ◌≢◌, List, [], ◌∷◌, map, length, Option, Some, None, Result, Ok, Err, string_bytes, codes}
use Rattle.wave_wasm.specs.Lists.{AllOf}
use Rattle.wave_wasm.specs.Lists.{SomeOf}
use Rattle.wave_wasm.specs.Names.{IsOneOf}
use Rattle.wave_wasm.specs.Text.{text}
use Rattle.wave_wasm.specs.TypeText.{type_text}
use Rattle.wave_wasm.specs.Types as type
use Rattle.wave_wasm.specs.Types.{TypeTree, kind_of, list_length, type_option, type_list, tuple_parts}
use Rattle.wave_wasm.specs.Values.{Value}
use Rattle.wave_wasm.specs.HasType.{HasType}
use Rattle.wave_wasm.specs.ConstructorContracts.{IsOfListKind}
use Rattle.wave_wasm.specs.declared.wasm.WasmTypeKind.{WasmTypeKind}
use Rattle.wave_wasm.specs.declared.wasm.WasmTypeKind.TheVariants as kinds
use Rattle.wave_wasm.specs.declared.wasm.WasmValueError.{WasmValueError}
use Rattle.wave_wasm.specs.declared.wasm.WasmValueError.TheVariants as error
use Rattle.wave_value.specs.TypedValue.{TypedValue}

-- the value means what was asked for, which is a value of the type, its own
pub record Built (asked : Value) (T : TypeTree) (v : TypedValue) : Type 0 where
  pub own : v.own ≡ T
  pub tree : v.tree ≡ asked
  pub fits : HasType T asked

-- each value's own type is this one
abbrev pub AllOwn : TypeTree → List TypedValue → Type 0
AllOwn T vs = AllOf (λ v. v.own ≡ T) vs

-- as many values as types, each of its type
abbrev pub EachOwn : List TypeTree → List TypedValue → Type 0
EachOwn [] [] = Unit {0}
EachOwn (T ∷ Ts) (v ∷ vs) = (v.own ≡ T) × EachOwn Ts vs
EachOwn _ _ = ⊥

-- the payload is there exactly where it has a type, which is its own
abbrev pub PayloadOwn : Option TypeTree → Option TypedValue → Type 0
PayloadOwn None None = Unit {0}
PayloadOwn (Some T) (Some v) = v.own ≡ T
PayloadOwn _ _ = ⊥

-- as many values as a fixed-length list has, any number at a type without a length
abbrev pub HasLength : TypeTree → List TypedValue → Type 0
HasLength (type.fixed E n) vs = length vs ≡ n
HasLength _ vs = Unit {0}

-- a list of values of the element type, or a fixed-length list of as many as its length
abbrev pub TakesList : TypeTree → List TypedValue → Type 0
TakesList (type.list E) vs = AllOwn E vs
TakesList (type.fixed E n) vs = (length vs ≡ n) × AllOwn E vs
TakesList _ vs = ⊥

-- a tuple of as many values as types, each of its type
abbrev pub TakesTuple : TypeTree → List TypedValue → Type 0
TakesTuple (type.tuple Ts) vs = EachOwn (type_list Ts) vs
TakesTuple _ vs = ⊥

-- no payload, or one of the payload type
abbrev pub TakesOption : TypeTree → Option TypedValue → Type 0
TakesOption (type.option P) None = Unit {0}
TakesOption (type.option P) (Some v) = v.own ≡ P
TakesOption _ v = ⊥

-- `ok` or `err` with its payload
abbrev pub TakesResult : TypeTree → Result (Option TypedValue) (Option TypedValue) → Type 0
TakesResult (type.result A B) (Ok p) = PayloadOwn (type_option A) p
TakesResult (type.result A B) (Err p) = PayloadOwn (type_option B) p
TakesResult _ r = ⊥

-- a case of the type
abbrev pub TakesEnum : TypeTree → List ℕ → Type 0
TakesEnum (type.enum names) name = IsOneOf names name
TakesEnum _ name = ⊥

-- what shows a value in a refusal: its canonical text
abbrev pub value_text : TypedValue → List ℕ
value_text v = text v.tree

-- or the text of its own type
abbrev pub own_text : TypedValue → List ℕ
own_text v = type_text v.own

-- the type is of another kind than this one, which is named beside the type's text
abbrev pub TellsKind : WasmTypeKind → TypeTree → WasmTypeKind → List ℕ → Type 0
TellsKind kind T k t = (kind_of T ≢ kind) × (k ≡ kind) × (t ≡ type_text T)

-- the value's own type is another one than this, whose text is given beside what shows the value
abbrev pub TellsOther : (TypedValue → List ℕ) → List ℕ → List ℕ → TypeTree → TypedValue → Type 0
TellsOther words t s T v = (v.own ≢ T) × (t ≡ type_text T) × (s ≡ words v)

-- this is said of one of the values, each beside the type that is stated for it
abbrev pub TellsOne : (TypedValue → List ℕ) → List ℕ → List ℕ → List (TypeTree × TypedValue) → Type 0
TellsOne words t s stated = SomeOf (λ p. TellsOther words t s p.0 p.1) stated

-- each item beside the element type
abbrev pub list_stated : TypeTree → List TypedValue → List (TypeTree × TypedValue)
list_stated (type.list E) vs = map (λ v. (E, v)) vs
list_stated (type.fixed E n) vs = map (λ v. (E, v)) vs
list_stated _ vs = []

-- each item beside the type at its place
abbrev pub each_stated : List TypeTree → List TypedValue → List (TypeTree × TypedValue)
each_stated (T ∷ Ts) (v ∷ vs) = (T, v) ∷ each_stated Ts vs
each_stated _ _ = []

-- the payload beside its type
abbrev pub option_stated : TypeTree → Option TypedValue → List (TypeTree × TypedValue)
option_stated (type.option P) (Some v) = (P, v) ∷ []
option_stated _ _ = []

-- a type of another kind, a component of another type than the one stated for it, or out of memory
abbrev pub RefusesParts : (TypedValue → List ℕ) → WasmTypeKind → TypeTree → List (TypeTree × TypedValue) → WasmValueError → Type 0
RefusesParts words kind T stated (error.WrongTypeKind k t) = TellsKind kind T k (string_bytes t)
RefusesParts words kind T stated (error.WrongValueType t s) = (kind_of T ≡ kind) × TellsOne words (string_bytes t) (string_bytes s) stated
RefusesParts words kind T stated (error.Memory e) = Unit {0}
RefusesParts words kind T stated _ = ⊥

-- a type that is no list of either kind, another count than a fixed-length list's, which goes first,
-- an item of another type than the element type, or out of memory
abbrev pub RefusesList : (TypedValue → List ℕ) → TypeTree → List TypedValue → WasmValueError → Type 0
RefusesList words T vs (error.WrongTypeKind k t) = (kind_of T ≢ kinds.FixedLengthList) × TellsKind kinds.List T k (string_bytes t)
RefusesList words T vs (error.WrongNumberOfElements want got) = (list_length T ≡ Some want) × (got ≡ length vs) × (want ≢ got)
RefusesList words T vs (error.WrongValueType t s) =
    IsOfListKind (kind_of T) × HasLength T vs × TellsOne words (string_bytes t) (string_bytes s) (list_stated T vs)
RefusesList words T vs (error.Memory e) = Unit {0}
RefusesList words T vs _ = ⊥

-- a type of another kind, another count than the tuple's, which goes first, an item of another type than the one at its place, or out of memory
abbrev pub RefusesTuple : (TypedValue → List ℕ) → TypeTree → List TypedValue → WasmValueError → Type 0
RefusesTuple words T vs (error.WrongTypeKind k t) = TellsKind kinds.Tuple T k (string_bytes t)
RefusesTuple words T vs (error.WrongNumberOfTupleValues want got) =
    (kind_of T ≡ kinds.Tuple) × (want ≡ length (tuple_parts T)) × (got ≡ length vs) × (want ≢ got)
RefusesTuple words T vs (error.WrongValueType t s) =
    (kind_of T ≡ kinds.Tuple) × (length vs ≡ length (tuple_parts T)) × TellsOne words (string_bytes t) (string_bytes s) (each_stated (tuple_parts T) vs)
RefusesTuple words T vs (error.Memory e) = Unit {0}
RefusesTuple words T vs _ = ⊥

-- a payload type without a payload
abbrev pub IsMissing : Option TypeTree → Option TypedValue → Type 0
IsMissing (Some P) None = Unit {0}
IsMissing _ p = ⊥

-- a payload without a payload type
abbrev pub IsUnexpected : Option TypeTree → Option TypedValue → Type 0
IsUnexpected None (Some v) = Unit {0}
IsUnexpected _ p = ⊥

-- a payload of another type, and this is said of it
abbrev pub IsOther : (TypedValue → List ℕ) → List ℕ → List ℕ → Option TypeTree → Option TypedValue → Type 0
IsOther words t s (Some P) (Some v) = TellsOther words t s P v
IsOther words t s _ p = ⊥

-- a payload that is missing, unexpected or of another type at the case of this name, or out of memory
abbrev pub RefusesPayload : (TypedValue → List ℕ) → List ℕ → Option TypeTree → Option TypedValue → WasmValueError → Type 0
RefusesPayload words name P p (error.MissingPayload n) = (string_bytes n ≡ name) × IsMissing P p
RefusesPayload words name P p (error.UnexpectedPayload n) = (string_bytes n ≡ name) × IsUnexpected P p
RefusesPayload words name P p (error.WrongValueType t s) = IsOther words (string_bytes t) (string_bytes s) P p
RefusesPayload words name P p (error.Memory e) = Unit {0}
RefusesPayload words name P p _ = ⊥

-- the side that is asked for: its name, its payload type, its payload
abbrev pub side_name : Result (Option TypedValue) (Option TypedValue) → List ℕ
side_name (Ok p) = codes "ok"
side_name (Err p) = codes "err"

abbrev pub side_type : TypeTree → Result (Option TypedValue) (Option TypedValue) → Option TypeTree
side_type (type.result A B) (Ok p) = type_option A
side_type (type.result A B) (Err p) = type_option B
side_type _ r = None

abbrev pub side_payload : Result (Option TypedValue) (Option TypedValue) → Option TypedValue
side_payload (Ok p) = p
side_payload (Err p) = p

-- a type of another kind, or a refusal of the payload at `ok` or `err`
abbrev pub RefusesResult : (TypedValue → List ℕ) → TypeTree → Result (Option TypedValue) (Option TypedValue) → WasmValueError → Type 0
RefusesResult words T r (error.WrongTypeKind k t) = TellsKind kinds.Result T k (string_bytes t)
RefusesResult words T r (error.Memory e) = Unit {0}
RefusesResult words T r e = (kind_of T ≡ kinds.Result) × RefusesPayload words (side_name r) (side_type T r) (side_payload r) e

-- a type of another kind, or an unknown case
abbrev pub RefusesEnum : TypeTree → List ℕ → WasmValueError → Type 0
RefusesEnum T name (error.WrongTypeKind k t) = TellsKind kinds.Enum T k (string_bytes t)
RefusesEnum T name (error.UnknownCase n) = (kind_of T ≡ kinds.Enum) × (string_bytes n ≡ name) × (TakesEnum T name → ⊥)
RefusesEnum T name (error.Memory e) = Unit {0}
RefusesEnum T name _ = ⊥
