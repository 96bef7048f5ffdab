-- How the types of a text are read from its tokens, step by step.
use Rattle.std.specs.Prelude.{ℕ, ◌≡◌, zero, suc, if◌then◌else◌}
use Rattle.std.specs.Prelude.{List, [], ◌∷◌, ◌++◌, map, length, drop, codes, Option, Some, None}
use Rattle.std.specs.Borrow.{Bor}
use Rattle.std.specs.BTreeSet.{BTreeSet, contains_by}
use Rattle.std.specs.Cmp.Lexicographic.{slice_cmp}
use Rattle.std.specs.Ordering.{nat_cmp}
use Rattle.std.specs.Str.{bytes_eq}
use Rattle.wave_wasm.specs.declared.wasm.WasmTypeKind.{WasmTypeKind}
use Rattle.wave_wasm.specs.declared.wasm.WasmTypeKind.TheVariants as kinds
use Rattle.wave_wasm.specs.Names.{is_one_of}
use Rattle.wave_wasm.specs.Types as type
use Rattle.wave_wasm.specs.Types.{TypeTree, maybe_type}
use Rattle.wave_type.specs.TypeConstructors.{simple_type, record_type, tuple_type, variant_type, enum_type, flags_type, map_type}
use Rattle.wave_type.specs.TypeSpelling.{Tokens}
use Rattle.wave_type.specs.TypeWords.{onward, kind_of_word, key_of_word, name_of_token, count_of_token}

-- ---- one step and then another

module _ {A : Type 0} where
  -- the first, or else the second
  abbrev pub or_else : Option A → Option A → Option A
  or_else None other = other
  or_else (Some a) other = Some a

  -- this was read, and what follows
  abbrev pub with : A → Option Tokens → Option (A × Tokens)
  with a None = None
  with a (Some rest) = Some (a, rest)

  -- what was made is read, where it was made
  abbrev pub built : Option A → Tokens → Option (A × Tokens)
  built None rest = None
  built (Some a) rest = Some (a, rest)

-- ---- one token

-- what follows the mark, where it stands next
abbrev pub after : List ℕ → Tokens → Option Tokens
after mark [] = None
after mark (t ∷ ts) = if bytes_eq t mark then Some ts else None

-- what follows the mark, where it stands next, perhaps after a comma
abbrev pub closed : List ℕ → Tokens → Option Tokens
closed mark ts = or_else (after mark ts) (onward (after (codes ",") ts) (after mark))

-- the token that stands next
abbrev pub first_of : Tokens → Option (List ℕ)
first_of [] = None
first_of (t ∷ ts) = Some t

-- the kind whose word stands next, and what follows
abbrev pub kind_at : Tokens → Option (WasmTypeKind × Tokens)
kind_at [] = None
kind_at (t ∷ ts) = built (kind_of_word t) ts

-- the name that stands next
abbrev pub name_at : Tokens → Option (List ℕ)
name_at [] = None
name_at (t ∷ ts) = name_of_token t

-- the set has these names and no others
abbrev pub HasNames : BTreeSet (Bor (List ℕ)) → List (List ℕ) → Type 0
HasNames set names = (name : List ℕ) → contains_by (λ k. slice_cmp nat_cmp name k.now) set ≡ is_one_of names name

-- the name that stands next and is none of these, and what follows
abbrev pub new_name : List (List ℕ) → Tokens → Option (List ℕ × Tokens)
new_name seen ts = onward (name_at ts) (λ name. if is_one_of seen name then None else Some (name, drop 1 ts))

-- the count that stands next, and what follows
abbrev pub count_at : Tokens → Option (ℕ × Tokens)
count_at [] = None
count_at (t ∷ ts) = built (count_of_token t) ts

-- ---- parts with commas between

module _ {A : Type 0} (part : List A → Tokens → Option (A × Tokens)) (mark : List ℕ) where
  -- parts through the mark, no more of them than the number, after those that were read
  abbrev pub parts : ℕ → List A → Tokens → Option (List A × Tokens)
  parts zero seen ts = None
  parts (suc k) seen ts =
      onward (part seen ts) (λ a. or_else (with (seen ++ (a.0 ∷ [])) (closed mark a.1)) (onward (after (codes ",") a.1) (parts k (seen ++ (a.0 ∷ [])))))

-- names through the mark
abbrev pub names_read : List ℕ → Tokens → Option (List (List ℕ) × Tokens)
names_read mark ts = parts new_name mark (length ts) [] ts

-- what stands after `enum`
abbrev pub enum_read : Tokens → Option (TypeTree × Tokens)
enum_read ts = onward (after (codes "{") ts) (λ m. onward (names_read (codes "}") m) (λ names. built (enum_type names.0) names.1))

-- what stands after `flags`
abbrev pub flags_read : Tokens → Option (TypeTree × Tokens)
flags_read ts = onward (after (codes "{") ts) (λ m. onward (names_read (codes "}") m) (λ names. built (flags_type names.0) names.1))

-- ---- types

-- how the types inside are read
abbrev pub Reads : Type 0
Reads = Tokens → Option (TypeTree × Tokens)

-- a count and `>`, after the element type of a list and a comma
abbrev pub fixed_behind : TypeTree → Reads
fixed_behind E ts = onward (count_at ts) (λ n. with (type.fixed E n.0) (closed (codes ">") n.1))

-- the same with the comma
abbrev pub fixed_read : TypeTree → Reads
fixed_read E ts = onward (after (codes ",") ts) (fixed_behind E)

-- the key type that stands next
abbrev pub key_at : Tokens → Option (TypeTree × Tokens)
key_at [] = None
key_at (t ∷ ts) = built (key_of_word t) ts

module _ {A : Type 0} where
  -- the names of fields or of cases
  abbrev pub part_names : List (List ℕ × A) → List (List ℕ)
  part_names seen = map (λ p. p.0) seen

module _ (read : Reads) where
  -- types through `>`
  abbrev pub types_read : Tokens → Option (List TypeTree × Tokens)
  types_read ts = parts (λ seen. read) (codes ">") (length ts) [] ts

  -- a name and its type
  abbrev pub field_part : List (List ℕ × TypeTree) → Tokens → Option ((List ℕ × TypeTree) × Tokens)
  field_part seen ts =
      onward (new_name (part_names seen) ts) (λ a. onward (after (codes ":") a.1) (λ m. onward (read m) (λ b. Some ((a.0, b.0), b.1))))

  -- fields through the mark
  abbrev pub fields_read : List ℕ → Tokens → Option (List (List ℕ × TypeTree) × Tokens)
  fields_read mark ts = parts field_part mark (length ts) [] ts

  -- what stands after the name of a case, by what follows a `(`
  abbrev pub payload_read : Tokens → Option Tokens → Option (Option TypeTree × Tokens)
  payload_read ts None = Some (None, ts)
  payload_read ts (Some m) = onward (read m) (λ b. with (Some b.0) (after (codes ")") b.1))

  -- a case
  abbrev pub case_part : List (List ℕ × Option TypeTree) → Tokens → Option ((List ℕ × Option TypeTree) × Tokens)
  case_part seen ts =
      onward (new_name (part_names seen) ts) (λ a. onward (payload_read a.1 (after (codes "(") a.1)) (λ b. Some ((a.0, b.0), b.1)))

  -- cases through `}`
  abbrev pub cases_read : Tokens → Option (List (List ℕ × Option TypeTree) × Tokens)
  cases_read ts = parts case_part (codes "}") (length ts) [] ts

  -- what stands after `list`
  abbrev pub list_read : Reads
  list_read ts =
      onward (after (codes "<") ts) (λ m. onward (read m) (λ a. or_else (with (type.list a.0) (closed (codes ">") a.1)) (fixed_read a.0 a.1)))

  -- what stands after `option`
  abbrev pub option_read : Reads
  option_read ts = onward (after (codes "<") ts) (λ m. onward (read m) (λ a. with (type.option a.0) (closed (codes ">") a.1)))

  -- the type of a map's values through `>`, after the key type
  abbrev pub map_behind : TypeTree → Reads
  map_behind K ts = onward (read ts) (λ V. onward (closed (codes ">") V.1) (built (map_type K V.0)))

  -- what stands after `map`
  abbrev pub map_read : Reads
  map_read ts =
      onward (after (codes "<") ts) (λ m. onward (key_at m) (λ K. onward (after (codes ",") K.1) (map_behind K.0)))

  -- the type of `err` through `>`, after a comma
  abbrev pub err_behind : Option TypeTree → Reads
  err_behind A ts = onward (read ts) (λ b. with (type.result (maybe_type A) (type.a_type b.0)) (closed (codes ">") b.1))

  -- the same with the comma
  abbrev pub err_read : Option TypeTree → Reads
  err_read A ts = onward (after (codes ",") ts) (err_behind A)

  -- the types of a result, by what follows a `_`
  abbrev pub payloads_read : Tokens → Option Tokens → Option (TypeTree × Tokens)
  payloads_read ts (Some m) = err_read None m
  payloads_read ts None =
      onward (read ts) (λ a. or_else (with (type.result (type.a_type a.0) type.no_type) (closed (codes ">") a.1)) (err_read (Some a.0) a.1))

  -- what stands after `result`, by what follows a `<`
  abbrev pub result_read : Tokens → Option Tokens → Option (TypeTree × Tokens)
  result_read ts None = Some (type.result type.no_type type.no_type, ts)
  result_read ts (Some m) = payloads_read m (after (codes "_") m)

  -- what stands after the word of a kind
  abbrev pub kind_read : WasmTypeKind → Reads
  kind_read kinds.List ts = list_read ts
  kind_read kinds.Option ts = option_read ts
  kind_read kinds.Map ts = map_read ts
  kind_read kinds.Result ts = result_read ts (after (codes "<") ts)
  kind_read kinds.Tuple ts = onward (after (codes "<") ts) (λ m. onward (types_read m) (λ Ts. built (tuple_type Ts.0) Ts.1))
  kind_read kinds.Record ts = onward (after (codes "{") ts) (λ m. onward (fields_read (codes "}") m) (λ fs. built (record_type fs.0) fs.1))
  kind_read kinds.Variant ts = onward (after (codes "{") ts) (λ m. onward (cases_read m) (λ cs. built (variant_type cs.0) cs.1))
  kind_read kinds.Enum ts = enum_read ts
  kind_read kinds.Flags ts = flags_read ts
  kind_read kinds.Bool ts = built (simple_type kinds.Bool) ts
  kind_read kinds.S8 ts = built (simple_type kinds.S8) ts
  kind_read kinds.S16 ts = built (simple_type kinds.S16) ts
  kind_read kinds.S32 ts = built (simple_type kinds.S32) ts
  kind_read kinds.S64 ts = built (simple_type kinds.S64) ts
  kind_read kinds.U8 ts = built (simple_type kinds.U8) ts
  kind_read kinds.U16 ts = built (simple_type kinds.U16) ts
  kind_read kinds.U32 ts = built (simple_type kinds.U32) ts
  kind_read kinds.U64 ts = built (simple_type kinds.U64) ts
  kind_read kinds.F32 ts = built (simple_type kinds.F32) ts
  kind_read kinds.F64 ts = built (simple_type kinds.F64) ts
  kind_read kinds.Char ts = built (simple_type kinds.Char) ts
  kind_read kinds.String ts = built (simple_type kinds.String) ts
  kind_read kinds.FixedLengthList ts = built (simple_type kinds.FixedLengthList) ts
  kind_read kinds.Unsupported ts = built (simple_type kinds.Unsupported) ts

-- a type, within this number of levels
abbrev pub type_read : ℕ → Reads
type_read zero ts = None
type_read (suc n) ts = onward (kind_at ts) (λ kind. kind_read (type_read n) kind.0 kind.1)
