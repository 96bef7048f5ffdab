-- Which texts spell a type, and which spell the type of a function. A token is its text.
use Rattle.std.specs.Prelude.{ℕ, suc, max, ◌≡◌, ◌≢◌, ◌<◌, ◌+◌, ◌^◌, ◌⊎◌, List, [], ◌∷◌, ◌++◌, length, take, drop, codes}
use Rattle.std.specs.Fmt.{decimal}
use Rattle.wave_wasm.specs.Names.{AreDistinct}
use Rattle.wave_wasm.specs.Types.{TypeTree, simple, unreadable, list, fixed, record_type, tuple, variant, enum, option, result, flags, map}
use Rattle.wave_wasm.specs.Types.{f32, f64, unsupported}
use Rattle.wave_wasm.specs.Types.{MaybeType, no_type, a_type, Types, no_types, type_and, Fields, no_fields, field, Cases, no_cases, case_of}
use Rattle.wave_wasm.specs.Types.{simple_kind, field_names, case_names}
use Rattle.wave_wasm.specs.TypeText.{kind_word}
use Rattle.wave_lex.specs.declared.lex.Token.{Token}
use Rattle.wave_type.specs.declared.error.TypeErrorKind.{TypeErrorKind}
use Rattle.wave_type.specs.declared.error.TypeErrorKind.TheVariants.{OutOfMemory}
use Rattle.wave_lex.specs.Labels.{IsLabel}
use Rattle.wave_lex.specs.Tokenization.{IsWhitespace, IsLongestToken, IsInvalid}

-- the texts of tokens, in their order
abbrev pub Tokens : Type 0
Tokens = List (List ℕ)

-- ---- the tokens of a text

-- k bytes at the start of s are the longest token of the encoding, or what stands where it has none, as `<`
abbrev pub IsItem : List ℕ → ℕ → Type 0
IsItem s k = ((class : Token) × IsLongestToken s k class) ⊎ IsInvalid s k

-- the text is whitespace, item, whitespace, item, and so on, and whitespace after the last
abbrev pub IsTokenizedTo : List ℕ → Tokens → Type 0
IsTokenizedTo s [] = IsWhitespace s (length s)
IsTokenizedTo s (t ∷ ts) = (g : ℕ) × (k : ℕ) × IsWhitespace s g × IsItem (drop g s) k × (t ≡ take k (drop g s)) × IsTokenizedTo (drop (g + k) s) ts

-- ---- the tokens of a type: those of ts, up to the rest

-- the token is the name, which is a label, or `%` and the name
abbrev pub Names : List ℕ → List ℕ → Type 0
Names t name = IsLabel name × ((t ≡ name) ⊎ (t ≡ codes "%" ++ name))

-- the mark stands next, perhaps after a comma
abbrev pub Closes : List ℕ → Tokens → Tokens → Type 0
Closes mark ts rest = (ts ≡ mark ∷ rest) ⊎ (ts ≡ codes "," ∷ mark ∷ rest)

-- names with commas between, through the mark
abbrev pub SpellsNames : List ℕ → List (List ℕ) → Tokens → Tokens → Type 0
SpellsNames mark [] ts rest = ⊥
SpellsNames mark (name ∷ []) ts rest = (t : List ℕ) × (m : Tokens) × (ts ≡ t ∷ m) × Names t name × Closes mark m rest
SpellsNames mark (name ∷ other ∷ more) ts rest =
    (t : List ℕ) × (m : Tokens) × (ts ≡ t ∷ codes "," ∷ m) × Names t name × SpellsNames mark (other ∷ more) m rest

-- no `<` stands next
abbrev pub StandsAlone : Tokens → Type 0
StandsAlone [] = Unit {0}
StandsAlone (t ∷ ts) = t ≢ codes "<"

abbrev mutual
  -- the tokens spell the type
  pub Spells : TypeTree → Tokens → Tokens → Type 0
  Spells (simple S) ts rest = ts ≡ kind_word (simple_kind S) ∷ rest
  Spells (unreadable f32) ts rest = ts ≡ codes "f32" ∷ rest
  Spells (unreadable f64) ts rest = ts ≡ codes "f64" ∷ rest
  Spells (unreadable unsupported) ts rest = ⊥
  Spells (list E) ts rest = (m l : Tokens) × (ts ≡ codes "list" ∷ codes "<" ∷ m) × Spells E m l × Closes (codes ">") l rest
  Spells (fixed E n) ts rest =
      (m l : Tokens) × (ts ≡ codes "list" ∷ codes "<" ∷ m) × Spells E m (codes "," ∷ decimal n ∷ l) × (n < 2 ^ 32) × Closes (codes ">") l rest
  Spells (option P) ts rest = (m l : Tokens) × (ts ≡ codes "option" ∷ codes "<" ∷ m) × Spells P m l × Closes (codes ">") l rest
  Spells (map K V) ts rest =
      (m l : Tokens) × (ts ≡ codes "map" ∷ codes "<" ∷ kind_word (simple_kind K) ∷ codes "," ∷ m) × Spells V m l × Closes (codes ">") l rest
  Spells (result no_type no_type) ts rest = (ts ≡ codes "result" ∷ rest) × StandsAlone rest
  Spells (result (a_type T) no_type) ts rest = (m l : Tokens) × (ts ≡ codes "result" ∷ codes "<" ∷ m) × Spells T m l × Closes (codes ">") l rest
  Spells (result no_type (a_type E)) ts rest =
      (m l : Tokens) × (ts ≡ codes "result" ∷ codes "<" ∷ codes "_" ∷ codes "," ∷ m) × Spells E m l × Closes (codes ">") l rest
  Spells (result (a_type T) (a_type E)) ts rest =
      (m k l : Tokens) × (ts ≡ codes "result" ∷ codes "<" ∷ m) × Spells T m (codes "," ∷ k) × Spells E k l × Closes (codes ">") l rest
  Spells (tuple Ts) ts rest = (m : Tokens) × (ts ≡ codes "tuple" ∷ codes "<" ∷ m) × SpellsTypes Ts m rest
  Spells (record_type fs) ts rest =
      (m : Tokens) × (ts ≡ codes "record" ∷ codes "{" ∷ m) × SpellsFields (codes "}") fs m rest × AreDistinct (field_names fs)
  Spells (variant cs) ts rest = (m : Tokens) × (ts ≡ codes "variant" ∷ codes "{" ∷ m) × SpellsCases cs m rest × AreDistinct (case_names cs)
  Spells (enum names) ts rest = (m : Tokens) × (ts ≡ codes "enum" ∷ codes "{" ∷ m) × SpellsNames (codes "}") names m rest × AreDistinct names
  Spells (flags names) ts rest = (m : Tokens) × (ts ≡ codes "flags" ∷ codes "{" ∷ m) × SpellsNames (codes "}") names m rest × AreDistinct names

  -- types with commas between, through `>`
  pub SpellsTypes : Types → Tokens → Tokens → Type 0
  SpellsTypes no_types ts rest = ⊥
  SpellsTypes (type_and T no_types) ts rest = (m : Tokens) × Spells T ts m × Closes (codes ">") m rest
  SpellsTypes (type_and T (type_and U more)) ts rest = (m : Tokens) × Spells T ts (codes "," ∷ m) × SpellsTypes (type_and U more) m rest

  -- fields with commas between, through the mark
  pub SpellsFields : List ℕ → Fields → Tokens → Tokens → Type 0
  SpellsFields mark no_fields ts rest = ⊥
  SpellsFields mark (field name T no_fields) ts rest =
      (t : List ℕ) × (m l : Tokens) × (ts ≡ t ∷ codes ":" ∷ m) × Names t name × Spells T m l × Closes mark l rest
  SpellsFields mark (field name T (field n U more)) ts rest =
      (t : List ℕ) × (m l : Tokens) × (ts ≡ t ∷ codes ":" ∷ m) × Names t name × Spells T m (codes "," ∷ l) × SpellsFields mark (field n U more) l rest

  -- cases with commas between, through `}`
  pub SpellsCases : Cases → Tokens → Tokens → Type 0
  SpellsCases no_cases ts rest = ⊥
  SpellsCases (case_of name payload no_cases) ts rest =
      (t : List ℕ) × (m l : Tokens) × (ts ≡ t ∷ m) × Names t name × SpellsPayload payload m l × Closes (codes "}") l rest
  SpellsCases (case_of name payload (case_of n p more)) ts rest =
      (t : List ℕ) × (m l : Tokens) × (ts ≡ t ∷ m) × Names t name × SpellsPayload payload m (codes "," ∷ l) × SpellsCases (case_of n p more) l rest

  -- the payload in parentheses, or nothing
  pub SpellsPayload : MaybeType → Tokens → Tokens → Type 0
  SpellsPayload no_type ts rest = ts ≡ rest
  SpellsPayload (a_type T) ts rest = (m : Tokens) × (ts ≡ codes "(" ∷ m) × Spells T m (codes ")" ∷ rest)

-- the text spells the type
abbrev pub IsTypeOf : List ℕ → TypeTree → Type 0
IsTypeOf text T = (ts : Tokens) × IsTokenizedTo text ts × Spells T ts []

-- ---- levels

abbrev mutual
  -- how many types stand one inside another
  pub levels_of : TypeTree → ℕ
  levels_of (simple S) = 1
  levels_of (unreadable kind) = 1
  levels_of (list E) = suc (levels_of E)
  levels_of (fixed E n) = suc (levels_of E)
  levels_of (record_type fs) = suc (levels_of_fields fs)
  levels_of (tuple Ts) = suc (levels_of_types Ts)
  levels_of (variant cs) = suc (levels_of_cases cs)
  levels_of (enum names) = 1
  levels_of (option P) = suc (levels_of P)
  levels_of (result A B) = suc (max (levels_of_payload A) (levels_of_payload B))
  levels_of (flags names) = 1
  levels_of (map K V) = suc (levels_of V)

  -- so in a payload
  pub levels_of_payload : MaybeType → ℕ
  levels_of_payload no_type = 0
  levels_of_payload (a_type T) = levels_of T

  -- so in the types of a tuple
  pub levels_of_types : Types → ℕ
  levels_of_types no_types = 0
  levels_of_types (type_and T more) = max (levels_of T) (levels_of_types more)

  -- so in fields
  pub levels_of_fields : Fields → ℕ
  levels_of_fields no_fields = 0
  levels_of_fields (field name T more) = max (levels_of T) (levels_of_fields more)

  -- so in cases
  pub levels_of_cases : Cases → ℕ
  levels_of_cases no_cases = 0
  levels_of_cases (case_of name payload more) = max (levels_of_payload payload) (levels_of_cases more)

-- the text spells no type within n levels, or there was no memory
abbrev pub IsNoTypeWithin : ℕ → List ℕ → TypeErrorKind → Type 0
IsNoTypeWithin n text kind = (kind ≡ OutOfMemory) ⊎ ((T : TypeTree) → IsTypeOf text T → n < levels_of T)

-- so within a hundred levels
abbrev pub IsNoType : List ℕ → TypeErrorKind → Type 0
IsNoType text kind = IsNoTypeWithin 100 text kind
