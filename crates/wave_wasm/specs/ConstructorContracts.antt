-- What the constructors of foreign values owe. S is the Rust type of these values, `tree` says what one means, `of` when it is of a type.
use Rattle.std.specs.Prelude.{ℕ, ◌≡◌, ◌⊎◌, length, List, [], ◌∷◌, map, filter, Option, Some, None, option_map, Result, Ok, Err, IsPermutation}
use Rattle.std.specs.Borrow.{Bor}
use Rattle.wave_wasm.specs.Lists.{AllOf, SomeOf}
use Rattle.wave_wasm.specs.Names.{IsOneOf, AreDistinct, ArePicked, is_one_of}
use Rattle.wave_wasm.specs.Types as type
use Rattle.wave_wasm.specs.Types.{TypeTree, MaybeType, Cases, no_type, a_type, no_cases, case_of, type_option, type_list, case_list, HasDistinctNames}
use Rattle.wave_wasm.specs.Values as value
use Rattle.wave_wasm.specs.Values.{Leaf, Value, FieldValues, values, entries, maybe_value, leaf_type}
use Rattle.wave_wasm.specs.HasType.{HasType}
use Rattle.wave_wasm.specs.Borrowed.{texts}
use Rattle.wave_wasm.specs.declared.wasm.WasmTypeKind.{WasmTypeKind}
use Rattle.wave_wasm.specs.declared.wasm.WasmTypeKind.TheVariants as kind
use Rattle.wave_wasm.specs.declared.wasm.WasmValueError.{WasmValueError}
use Rattle.wave_wasm.specs.declared.wasm.WasmValueError.TheVariants as error

-- the refusal is out of memory
abbrev pub IsMemory : WasmValueError → Type 0
IsMemory (error.Memory e) = Unit {0}
IsMemory _ = ⊥

-- a kind of lists
abbrev pub IsOfListKind : WasmTypeKind → Type 0
IsOfListKind kind.List = Unit {0}
IsOfListKind kind.FixedLengthList = Unit {0}
IsOfListKind _ = ⊥

-- ---- the parts of a type, and full types

-- the payload's type, where there is one, before the others
abbrev pub payload_and : MaybeType → List TypeTree → List TypeTree
payload_and no_type more = more
payload_and (a_type T) more = T ∷ more

-- the types of the payloads
abbrev pub payload_types : Cases → List TypeTree
payload_types no_cases = []
payload_types (case_of name payload more) = payload_and payload (payload_types more)

-- the types that a type is made of
abbrev pub type_parts : TypeTree → List TypeTree
type_parts (type.simple S) = []
type_parts (type.unreadable kind) = []
type_parts (type.list E) = E ∷ []
type_parts (type.fixed E n) = E ∷ []
type_parts (type.record_type fs) = map (λ f. f.1) (type.field_list fs)
type_parts (type.tuple Ts) = type_list Ts
type_parts (type.variant cs) = payload_types cs
type_parts (type.enum names) = []
type_parts (type.option P) = P ∷ []
type_parts (type.result A B) = payload_and A (payload_and B [])
type_parts (type.flags names) = []
type_parts (type.map K V) = type.simple K ∷ V ∷ []

-- the parts of a full type are full
abbrev pub HasFullParts : (TypeTree → Type 0) → Type 0
HasFullParts Full = (T : TypeTree) → Full T → AllOf Full (type_parts T)

-- a list of these elements, or the fixed-length list of `count` of them
abbrev pub IsListOf : TypeTree → ℕ → TypeTree → Type 0
IsListOf E count T = (T ≡ type.list E) ⊎ (T ≡ type.fixed E count)

-- ---- what is asked for

-- the list of these items that a type asks for: of fixed length at such a type
abbrev pub list_value : TypeTree → List Value → Value
list_value (type.fixed E n) vs = value.fixed (values vs)
list_value _ vs = value.list (values vs)

-- `ok` or `err` with this payload
abbrev pub result_value : Result (Option Value) (Option Value) → Value
result_value (Ok payload) = value.ok (maybe_value payload)
result_value (Err payload) = value.err (maybe_value payload)

module _ {S : Type 0} (tree : S → Value) where
  -- the payloads' trees
  abbrev pub either_tree : Result (Option S) (Option S) → Result (Option Value) (Option Value)
  either_tree (Ok payload) = Ok (option_map tree payload)
  either_tree (Err payload) = Err (option_map tree payload)

  -- the names and trees of fields that are handed over
  abbrev pub field_trees : List (Bor (List ℕ) × S) → List (List ℕ × Value)
  field_trees fs = map (λ f. (f.0.now, tree f.1)) fs

  -- the trees of entries that are handed over
  abbrev pub entry_trees : List (S × S) → List (Value × Value)
  entry_trees es = map (λ e. (tree e.0, tree e.1)) es

-- entries with their keys as values
abbrev pub leaf_entries : List (Leaf × Value) → List (Value × Value)
leaf_entries es = map (λ e. (value.leaf e.0, e.1)) es

-- ---- what an answer gives

module _ {S : Type 0} (tree : S → Value) (of : S → TypeTree → Type 0) where
  -- what was asked for is a value at the type; what was made means it, and is of the type
  pub record Makes (asked : Value) (T : TypeTree) (built : S) : Type 0 where
    pub means : tree built ≡ asked
    pub fits : HasType T asked
    pub is_of : of built T

  -- a bool, a whole number, a char or a string
  abbrev pub MakesLeaf : Leaf → S → Type 0
  MakesLeaf one built = Makes (value.leaf one) (type.simple (leaf_type one)) built

  abbrev pub MakesList : TypeTree → List S → S → Type 0
  MakesList T items built = HasDistinctNames T → Makes (list_value T (map tree items)) T built

  abbrev pub MakesTuple : TypeTree → List S → S → Type 0
  MakesTuple T items built = HasDistinctNames T → Makes (value.tuple (values (map tree items))) T built

  -- a record of the fields that are handed over, each under another name, in whatever order
  abbrev pub MakesRecord : TypeTree → List (Bor (List ℕ) × S) → S → Type 0
  MakesRecord T fields built =
      HasDistinctNames T → AreDistinct (map (λ f. f.0.now) fields)
      → (all : FieldValues) × IsPermutation (field_trees tree fields) (value.field_list all) × Makes (value.record_value all) T built

  abbrev pub MakesVariant : TypeTree → List ℕ → Option S → S → Type 0
  MakesVariant T name payload built =
      HasDistinctNames T → Makes (value.variant name (maybe_value (option_map tree payload))) T built

  abbrev pub MakesEnum : TypeTree → List ℕ → S → Type 0
  MakesEnum T name built = HasDistinctNames T → Makes (value.enum name) T built

  abbrev pub MakesOption : TypeTree → Option S → S → Type 0
  MakesOption T payload built = HasDistinctNames T → Makes (value.option (maybe_value (option_map tree payload))) T built

  abbrev pub MakesResult : TypeTree → Result (Option S) (Option S) → S → Type 0
  MakesResult T payload built = HasDistinctNames T → Makes (result_value (either_tree tree payload)) T built

  -- flags whose names are handed over without a repetition, those of the type in the type's order
  abbrev pub MakesFlags : TypeTree → List (Bor (List ℕ)) → S → Type 0
  MakesFlags T names built =
      HasDistinctNames T → AreDistinct (texts names)
      → ArePicked (type.flags_names T) (filter (is_one_of (type.flags_names T)) (texts names))
      → Makes (value.flags (texts names)) T built

  -- a map of the entries as they are handed over
  abbrev pub MakesMap : TypeTree → List (S × S) → S → Type 0
  MakesMap T handed built =
      HasDistinctNames T
      → (all : List (Leaf × Value)) × (entry_trees tree handed ≡ leaf_entries all) × Makes (value.map (entries all)) T built

-- ---- what a refusal says at a full type

module _ {S : Type 0} (of : S → TypeTree → Type 0) where
  -- as many values as types, each of its type
  abbrev pub AreOf : List TypeTree → List S → Type 0
  AreOf [] [] = Unit {0}
  AreOf (T ∷ Ts) (v ∷ vs) = of v T × AreOf Ts vs
  AreOf _ _ = ⊥

  -- the fields of these names in their order, each of its type
  abbrev pub FieldsAreOf : List (List ℕ × TypeTree) → List (Bor (List ℕ) × S) → Type 0
  FieldsAreOf [] [] = Unit {0}
  FieldsAreOf (field ∷ more) (f ∷ fs) = (f.0.now ≡ field.0) × of f.1 field.1 × FieldsAreOf more fs
  FieldsAreOf _ _ = ⊥

  -- the payload is there exactly where it has a type, and is of it
  abbrev pub PayloadIsOf : Option TypeTree → Option S → Type 0
  PayloadIsOf None None = Unit {0}
  PayloadIsOf (Some T) (Some v) = of v T
  PayloadIsOf _ _ = ⊥

  -- the payload of an option, where there is one, is of its type
  abbrev pub OptionIsOf : TypeTree → Option S → Type 0
  OptionIsOf P None = Unit {0}
  OptionIsOf P (Some v) = of v P

  -- the payload of `ok` or of `err` is of its type
  abbrev pub EitherIsOf : Option TypeTree → Option TypeTree → Result (Option S) (Option S) → Type 0
  EitherIsOf A B (Ok payload) = PayloadIsOf A payload
  EitherIsOf A B (Err payload) = PayloadIsOf B payload

-- a bool, a whole number, a char or a string
abbrev pub FullLeaf : (TypeTree → Type 0) → Leaf → WasmValueError → Type 0
FullLeaf Full one e = Full (type.simple (leaf_type one)) → IsMemory e

module _ {S : Type 0} (of : S → TypeTree → Type 0) (Full : TypeTree → Type 0) where
  abbrev pub FullList : TypeTree → List S → WasmValueError → Type 0
  FullList T items e = Full T → (E : TypeTree) → IsListOf E (length items) T → AllOf (λ v. of v E) items → IsMemory e

  abbrev pub FullTuple : TypeTree → List S → WasmValueError → Type 0
  FullTuple T items e = Full T → (Ts : type.Types) → T ≡ type.tuple Ts → AreOf of (type_list Ts) items → IsMemory e

  abbrev pub FullRecord : TypeTree → List (Bor (List ℕ) × S) → WasmValueError → Type 0
  FullRecord T fields e =
      Full T → (fs : type.Fields) → T ≡ type.record_type fs → AreDistinct (map (λ f. f.0.now) fields)
      → (ordered : List (Bor (List ℕ) × S)) → IsPermutation fields ordered → FieldsAreOf of (type.field_list fs) ordered → IsMemory e

  abbrev pub FullVariant : TypeTree → List ℕ → Option S → WasmValueError → Type 0
  FullVariant T name payload e =
      Full T → (cs : Cases) → T ≡ type.variant cs
      → (P : Option TypeTree) → SomeOf (λ c. c ≡ (name, P)) (case_list cs) → PayloadIsOf of P payload → IsMemory e

  abbrev pub FullEnum : TypeTree → List ℕ → WasmValueError → Type 0
  FullEnum T name e = Full T → (names : List (List ℕ)) → T ≡ type.enum names → IsOneOf names name → IsMemory e

  abbrev pub FullOption : TypeTree → Option S → WasmValueError → Type 0
  FullOption T payload e = Full T → (P : TypeTree) → T ≡ type.option P → OptionIsOf of P payload → IsMemory e

  abbrev pub FullResult : TypeTree → Result (Option S) (Option S) → WasmValueError → Type 0
  FullResult T payload e =
      Full T → (A B : MaybeType) → T ≡ type.result A B → EitherIsOf of (type_option A) (type_option B) payload → IsMemory e

  abbrev pub FullFlags : TypeTree → List (Bor (List ℕ)) → WasmValueError → Type 0
  FullFlags T names e =
      Full T → (all : List (List ℕ)) → T ≡ type.flags all → AreDistinct (texts names) → ArePicked all (texts names) → IsMemory e

  abbrev pub FullMap : TypeTree → List (S × S) → WasmValueError → Type 0
  FullMap T handed e =
      Full T → (K : type.Simple) → (V : TypeTree) → T ≡ type.map K V → AllOf (λ en. of en.0 (type.simple K) × of en.1 V) handed → IsMemory e

-- ---- parts that a value of the type has, as whoever read them knows: anything where the type is of another kind

module _ {S : Type 0} (of : S → TypeTree → Type 0) where
  -- a list of the type has these items: as many as a fixed length says, each of the element type
  abbrev pub TypedList : TypeTree → List S → Type 0
  TypedList (type.list E) items = AllOf (λ v. of v E) items
  TypedList (type.fixed E n) items = (length items ≡ n) × AllOf (λ v. of v E) items
  TypedList _ items = Unit {0}

  -- a tuple of the type has these items
  abbrev pub TypedTuple : TypeTree → List S → Type 0
  TypedTuple (type.tuple Ts) items = AreOf of (type_list Ts) items
  TypedTuple _ items = Unit {0}

  -- a record of the type has these fields, each under another name, in whatever order
  abbrev pub TypedRecord : TypeTree → List (Bor (List ℕ) × S) → Type 0
  TypedRecord (type.record_type fs) fields =
      AreDistinct (map (λ f. f.0.now) fields)
      × (ordered : List (Bor (List ℕ) × S)) × IsPermutation fields ordered × FieldsAreOf of (type.field_list fs) ordered
  TypedRecord _ fields = Unit {0}

  -- a variant of the type has this case with this payload
  abbrev pub TypedVariant : TypeTree → List ℕ → Option S → Type 0
  TypedVariant (type.variant cs) name payload =
      (P : Option TypeTree) × SomeOf (λ c. c ≡ (name, P)) (case_list cs) × PayloadIsOf of P payload
  TypedVariant _ name payload = Unit {0}

  -- an option of the type has this payload
  abbrev pub TypedOption : TypeTree → Option S → Type 0
  TypedOption (type.option P) payload = OptionIsOf of P payload
  TypedOption _ payload = Unit {0}

  -- a result of the type has this payload
  abbrev pub TypedResult : TypeTree → Result (Option S) (Option S) → Type 0
  TypedResult (type.result A B) payload = EitherIsOf of (type_option A) (type_option B) payload
  TypedResult _ payload = Unit {0}

  -- a map of the type has these entries, as they are handed over
  abbrev pub TypedMap : TypeTree → List (S × S) → Type 0
  TypedMap (type.map K V) handed = AllOf (λ en. of en.0 (type.simple K) × of en.1 V) handed
  TypedMap _ handed = Unit {0}
