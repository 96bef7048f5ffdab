-- The text of a type and of a function.
use Rattle.std.specs.Fmt.{decimal}
use Rattle.std.specs.Prelude.{ℕ, ◌≡◌, ◌⊎◌, length, List, [], ◌∷◌, ◌++◌, Option, Some, None, codes}
use Rattle.wave_wasm.specs.Types.{TypeTree, simple, unreadable, list, fixed, record_type, tuple, variant, enum, option, result, flags, map}
use Rattle.wave_wasm.specs.Types.{MaybeType, no_type, a_type, Types, no_types, type_and, Fields, no_fields, field, Cases, no_cases, case_of}
use Rattle.wave_wasm.specs.Types.{simple_kind, unreadable_kind}
use Rattle.wave_wasm.specs.Commas.{joined, behind_name, in_parens}
use Rattle.wave_wasm.specs.declared.wasm.WasmTypeKind.{WasmTypeKind}
use Rattle.wave_wasm.specs.declared.wasm.WasmTypeKind.TheVariants as kinds

-- the word of a kind
abbrev pub kind_word : WasmTypeKind → List ℕ
kind_word kinds.Bool = codes "bool"
kind_word kinds.S8 = codes "s8"
kind_word kinds.S16 = codes "s16"
kind_word kinds.S32 = codes "s32"
kind_word kinds.S64 = codes "s64"
kind_word kinds.U8 = codes "u8"
kind_word kinds.U16 = codes "u16"
kind_word kinds.U32 = codes "u32"
kind_word kinds.U64 = codes "u64"
kind_word kinds.F32 = codes "f32"
kind_word kinds.F64 = codes "f64"
kind_word kinds.Char = codes "char"
kind_word kinds.String = codes "string"
kind_word kinds.List = codes "list"
kind_word kinds.FixedLengthList = codes "list<_,N>"
kind_word kinds.Record = codes "record"
kind_word kinds.Tuple = codes "tuple"
kind_word kinds.Variant = codes "variant"
kind_word kinds.Enum = codes "enum"
kind_word kinds.Option = codes "option"
kind_word kinds.Result = codes "result"
kind_word kinds.Flags = codes "flags"
kind_word kinds.Map = codes "map"
kind_word kinds.Unsupported = codes "<<UNSUPPORTED>>"

-- `word<text>`
abbrev pub angled : List ℕ → List ℕ → List ℕ
angled word inner = word ++ (codes "<" ++ (inner ++ codes ">"))

-- `word { a, b }`
abbrev pub braced : List ℕ → List (List ℕ) → List ℕ
braced word parts = word ++ (codes " { " ++ (joined parts ++ codes " }"))

-- `result`, `result<T>`, `result<_, E>` or `result<T, E>`
abbrev pub result_text : Option (List ℕ) → Option (List ℕ) → List ℕ
result_text None None = codes "result"
result_text (Some t) None = angled (codes "result") t
result_text None (Some e) = angled (codes "result") (codes "_, " ++ e)
result_text (Some t) (Some e) = angled (codes "result") (t ++ (codes ", " ++ e))

-- the text of a type
abbrev mutual
  pub type_text : TypeTree → List ℕ
  type_text (simple S) = kind_word (simple_kind S)
  type_text (unreadable kind) = kind_word (unreadable_kind kind)
  type_text (list E) = angled (codes "list") (type_text E)
  type_text (fixed E n) = angled (codes "list") (type_text E ++ (codes ", " ++ decimal n))
  type_text (record_type fs) = braced (codes "record") (field_texts fs)
  type_text (tuple Ts) = angled (codes "tuple") (joined (type_texts Ts))
  type_text (variant cs) = braced (codes "variant") (case_texts cs)
  type_text (enum names) = braced (codes "enum") names
  type_text (option P) = angled (codes "option") (type_text P)
  type_text (result A B) = result_text (maybe_text A) (maybe_text B)
  type_text (flags names) = braced (codes "flags") names
  type_text (map K V) = angled (codes "map") (kind_word (simple_kind K) ++ (codes ", " ++ type_text V))

  -- the text of a payload's type, where there is one
  pub maybe_text : MaybeType → Option (List ℕ)
  maybe_text no_type = None
  maybe_text (a_type T) = Some (type_text T)

  -- the texts of the types
  pub type_texts : Types → List (List ℕ)
  type_texts no_types = []
  type_texts (type_and T more) = type_text T ∷ type_texts more

  -- `a: T` for each field
  pub field_texts : Fields → List (List ℕ)
  field_texts no_fields = []
  field_texts (field name T more) = behind_name name (type_text T) ∷ field_texts more

  -- `a` or `a(T)` for each case
  pub case_texts : Cases → List (List ℕ)
  case_texts no_cases = []
  case_texts (case_of name payload more) = (name ++ payload_text payload) ∷ case_texts more

  -- `(T)`, or nothing
  pub payload_text : MaybeType → List ℕ
  payload_text no_type = []
  payload_text (a_type T) = in_parens (type_text T)

-- ---- functions

-- as many names as types, or none
abbrev pub AreNamesOf : List TypeTree → List (List ℕ) → Type 0
AreNamesOf types names = (names ≡ []) ⊎ (length names ≡ length types)

-- a function: its types, and as many names or none
pub record Func : Type 0 where
  pub params : List TypeTree
  pub param_names : List (List ℕ)
  pub results : List TypeTree
  pub result_names : List (List ℕ)

-- `a: T` for each type that has a name, `T` for each other
abbrev pub typed_names : List (List ℕ) → List TypeTree → List (List ℕ)
typed_names names [] = []
typed_names [] (T ∷ Ts) = type_text T ∷ typed_names [] Ts
typed_names (name ∷ names) (T ∷ Ts) = behind_name name (type_text T) ∷ typed_names names Ts

-- nothing for no result, ` -> T` for an unnamed one, else ` -> (..)`
abbrev pub function_results_text : List (List ℕ) → List TypeTree → List ℕ
function_results_text names [] = []
function_results_text [] (T ∷ []) = codes " -> " ++ type_text T
function_results_text names (T ∷ Ts) = codes " -> " ++ in_parens (joined (typed_names names (T ∷ Ts)))

-- the text of a function
abbrev pub function_text : Func → List ℕ
function_text f = codes "func" ++ (in_parens (joined (typed_names f.param_names f.params)) ++ function_results_text f.result_names f.results)
