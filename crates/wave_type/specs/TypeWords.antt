-- What a token can be in the text of a type: the word of a kind, a name, the length of a list, a mark.
use Rattle.std.specs.Prelude.{ℕ, ◌^◌, ◌&&◌, nat_lt, Bool, ◌==◌, if◌then◌else◌, List, [], ◌∷◌, codes, Option, Some, None}
use Rattle.std.specs.Fmt.{decimal}
use Rattle.std.specs.List.{find}
use Rattle.std.specs.Str.{bytes_eq}
use Rattle.std.specs.Str.Parse.{digits_value}
use Rattle.wave_wasm.specs.declared.wasm.WasmTypeKind.{WasmTypeKind}
use Rattle.wave_wasm.specs.declared.wasm.WasmTypeKind.TheVariants as kinds
use Rattle.wave_wasm.specs.Names.{is_one_of}
use Rattle.wave_wasm.specs.TypeText.{kind_word}
use Rattle.wave_wasm.specs.Types as type
use Rattle.wave_wasm.specs.Types.{TypeTree}
use Rattle.wave_lex.specs.Derive.{derivative_by, nullable}
use Rattle.wave_lex.specs.Tokens.{label}
use Rattle.wave_type.specs.TypeConstructors.{simple_type}

module _ {A B : Type 0} where
  -- what comes after the first, where there is one
  abbrev pub onward : Option A → (A → Option B) → Option B
  onward None next = None
  onward (Some a) next = next a

-- ---- words

-- the kinds of the types that can be read
abbrev pub readable_kinds : List WasmTypeKind
readable_kinds =
    kinds.Bool ∷ kinds.S8 ∷ kinds.S16 ∷ kinds.S32 ∷ kinds.S64 ∷ kinds.U8 ∷ kinds.U16 ∷ kinds.U32 ∷ kinds.U64
    ∷ kinds.F32 ∷ kinds.F64 ∷ kinds.Char ∷ kinds.String ∷ kinds.List ∷ kinds.Record ∷ kinds.Tuple
    ∷ kinds.Variant ∷ kinds.Enum ∷ kinds.Option ∷ kinds.Result ∷ kinds.Flags ∷ kinds.Map ∷ []

-- the kind whose types begin with this word
abbrev pub kind_of_word : List ℕ → Option WasmTypeKind
kind_of_word word = find (λ kind. bytes_eq word (kind_word kind)) readable_kinds

-- the type, where it is simple
abbrev pub only_simple : Option TypeTree → Option TypeTree
only_simple (Some (type.simple S)) = Some (type.simple S)
only_simple _ = None

-- the simple type of this word
abbrev pub key_of_word : List ℕ → Option TypeTree
key_of_word word = onward (kind_of_word word) (λ kind. only_simple (simple_type kind))

-- ---- names

-- the name is a label
abbrev pub is_label : List ℕ → Bool
is_label name = nullable (derivative_by name label)

-- the token without a `%` before it
abbrev pub without_percent : List ℕ → List ℕ
without_percent [] = []
without_percent (c ∷ cs) = if c == 37 then cs else c ∷ cs

-- the name that the token is
abbrev pub name_of_token : List ℕ → Option (List ℕ)
name_of_token t = if is_label (without_percent t) then Some (without_percent t) else None

-- ---- lengths and marks

-- the count that the token is
abbrev pub count_of_token : List ℕ → Option ℕ
count_of_token t = let n = digits_value 10 t in if bytes_eq t (decimal n) && nat_lt n (2 ^ 32) then Some n else None

-- the marks that types have beside the tokens of the encoding; `->` is two
abbrev pub marks_of_types : List (List ℕ)
marks_of_types = codes "<" ∷ codes ">" ∷ codes "_" ∷ codes "-" ∷ []

-- all marks
abbrev pub marks : List (List ℕ)
marks = codes "{" ∷ codes "}" ∷ codes "(" ∷ codes ")" ∷ codes "[" ∷ codes "]" ∷ codes ":" ∷ codes "," ∷ marks_of_types

-- the token is a mark, and no word, number, char or string
abbrev pub is_mark : List ℕ → Bool
is_mark t = is_one_of marks t
