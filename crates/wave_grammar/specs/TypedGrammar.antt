-- The typed grammar, that is, which tokens spell which value of a type.
use Rattle.std.specs.Prelude.{ℕ, ◌-◌, ◌<◌, ◌≡◌, ◌⊎◌, if◌then◌else◌, List, [], ◌∷◌, map, length, Option, Some, None, codes}
use Rattle.std.specs.Str.{bytes_eq}
use Rattle.wave_wasm.specs.Names.{IsOneOf, IsNoneOf, AreAllOf, AreDistinct, found_in}
use Rattle.wave_wasm.specs.Types as type
use Rattle.wave_wasm.specs.Types.{TypeTree, MaybeType, Types, Fields, Cases, Simple, no_type, a_type, no_types, type_and, no_fields, field, no_cases, case_of}
use Rattle.wave_wasm.specs.Values as value
use Rattle.wave_wasm.specs.Values.{Value, MaybeValue, FieldValues, Leaf, no_value, a_value, values, entries}
use Rattle.wave_wasm.specs.Merge.{merge, leaf_eq}
use Rattle.wave_wasm.specs.Keywords.{keywords}
use Rattle.wave_grammar.specs.Token.{Token, brace_open, brace_close, paren_open, paren_close, bracket_open, bracket_close, colon, comma, label}
use Rattle.wave_grammar.specs.LeafTokens.{Spells, name_of}
use Rattle.wave_grammar.specs.CommaSeparated.{Spelling, Closes, Listed}

-- what stands after this word
abbrev pub Behind : {A : Type 0} → List ℕ → Spelling A → Spelling A
Behind word Inner tokens a rest = (behind : List Token) × (tokens ≡ label word ∷ behind) × Inner behind a rest

-- what stands in parentheses
abbrev pub InParens : {A : Type 0} → Spelling A → Spelling A
InParens Inner tokens a rest = (prefix : List Token) × (tokens ≡ paren_open ∷ prefix) × Inner prefix a (paren_close ∷ rest)

-- a name and a colon, then what the name is for
abbrev pub Named : {A : Type 0} → (List ℕ → Spelling A) → Spelling (List ℕ × A)
Named Inner tokens e rest =
    (text : List ℕ) × (prefix : List Token) × (tokens ≡ label text ∷ colon ∷ prefix) × (name_of text ≡ e.0) × Inner e.0 prefix e.1 rest

-- a key and a colon, then its value
abbrev pub Keyed : {A : Type 0} → Simple → Spelling A → Spelling (Leaf × A)
Keyed key Inner tokens e rest = (token : Token) × (prefix : List Token) × (tokens ≡ token ∷ colon ∷ prefix) × Spells key token e.0 × Inner prefix e.1 rest

-- a label, and the name it stands for
abbrev pub Name : Spelling (List ℕ)
Name tokens name rest = (text : List ℕ) × (tokens ≡ label text ∷ rest) × (name_of text ≡ name)

-- a name that is no keyword
abbrev pub CaseName : Spelling (List ℕ)
CaseName tokens name rest = (text : List ℕ) × (tokens ≡ label text ∷ rest) × (name_of text ≡ name) × IsNoneOf keywords text

-- `{:}`, for no item
abbrev pub EmptyBraces : {A : Type 0} → Spelling (List A)
EmptyBraces tokens items rest = (tokens ≡ brace_open ∷ colon ∷ brace_close ∷ rest) × (items ≡ [])

-- the entry of this name, where there is one
abbrev pub look_up : {A : Type 0} → List (List ℕ × A) → List ℕ → Option A
look_up [] name = None
look_up (e ∷ more) name = if bytes_eq name e.0 then Some e.1 else look_up more name

-- an option type
abbrev pub IsOption : TypeTree → Type 0
IsOption (type.option P) = Unit {0}
IsOption _ = ⊥

-- neither an option nor a result
abbrev pub IsFlat : TypeTree → Type 0
IsFlat (type.simple S) = Unit {0}
IsFlat (type.unreadable kind) = Unit {0}
IsFlat (type.list E) = Unit {0}
IsFlat (type.fixed E count) = Unit {0}
IsFlat (type.record_type fs) = Unit {0}
IsFlat (type.tuple Ts) = Unit {0}
IsFlat (type.variant cs) = Unit {0}
IsFlat (type.enum names) = Unit {0}
IsFlat (type.option P) = ⊥
IsFlat (type.result A B) = ⊥
IsFlat (type.flags names) = Unit {0}
IsFlat (type.map K V) = Unit {0}

-- the value of a field, where the text has this for its name
abbrev pub FieldIs : TypeTree → Option Value → Value → Type 0
FieldIs T (Some w) v = v ≡ w
FieldIs T None v = IsOption T × (v ≡ value.option no_value)

-- the values of all fields, in the type's order
abbrev pub Fills : Fields → List (List ℕ × Value) → FieldValues → Type 0
Fills no_fields found all = all ≡ value.no_fields
Fills (field name T more) found all =
    (v : Value) × (others : FieldValues) × FieldIs T (look_up found name) v × Fills more found others × (all ≡ value.field name v others)

-- ---- the rows of the grammar, over the spellings of the parts

-- one token
abbrev pub ASimple : Simple → Spelling Value
ASimple S tokens v rest = (token : Token) × (one : Leaf) × (tokens ≡ token ∷ rest) × Spells S token one × (v ≡ value.leaf one)

-- `[` items `]`
abbrev pub AList : Spelling Value → Spelling Value
AList Inner tokens v rest = (items : List Value) × Listed bracket_open bracket_close Inner tokens items rest × (v ≡ value.list (values items))

-- `[` items `]`, exactly `count` of them
abbrev pub AFixedList : ℕ → Spelling Value → Spelling Value
AFixedList count Inner tokens v rest =
    (items : List Value) × Listed bracket_open bracket_close Inner tokens items rest × (length items ≡ count) × (v ≡ value.fixed (values items))

-- `(` and the values of a tuple, which come with their close
abbrev pub ATuple : Spelling (List Value) → Spelling Value
ATuple Inner tokens v rest =
    (items : List Value) × (prefix : List Token) × (tokens ≡ paren_open ∷ prefix) × Inner prefix items rest × (v ≡ value.tuple (values items))

-- `{` entries `}` with distinct names, or `{:}`; they fill the fields
abbrev pub ARecord : Fields → (List ℕ → Spelling Value) → Spelling Value
ARecord fields Inner tokens v rest =
    (found : List (List ℕ × Value)) × (all : FieldValues)
    × (EmptyBraces tokens found rest ⊎ Listed brace_open brace_close (Named Inner) tokens found rest × (0 < length found))
    × AreDistinct (map (λ e. e.0) found) × Fills fields found all × (v ≡ value.record_value all)

-- `{` labels `}` with distinct names of the type; the value is those names in the type's order
abbrev pub Flags : List (List ℕ) → Spelling Value
Flags names tokens v rest =
    (found : List (List ℕ)) × Listed brace_open brace_close Name tokens found rest
    × AreDistinct found × AreAllOf names found × (v ≡ value.flags (found_in found names))

-- `{}`, `{:}` or `{` entries `}`; the value is their merge
abbrev pub AMap : Simple → Spelling Value → Spelling Value
AMap key Inner tokens v rest =
    (pairs : List (Leaf × Value))
    × (EmptyBraces tokens pairs rest ⊎ Listed brace_open brace_close (Keyed key Inner) tokens pairs rest)
    × (v ≡ value.map (entries (merge leaf_eq pairs)))

-- a case's name and its payload
abbrev pub AVariant : (List ℕ → Spelling MaybeValue) → Spelling Value
AVariant Payload tokens v rest =
    (name : List ℕ) × (payload : MaybeValue) × (behind : List Token)
    × CaseName tokens name behind × Payload name behind payload rest × (v ≡ value.variant name payload)

-- a case's name
abbrev pub AnEnum : List (List ℕ) → Spelling Value
AnEnum names tokens v rest = (name : List ℕ) × CaseName tokens name rest × IsOneOf names name × (v ≡ value.enum name)

-- `none`; or `some` and a value in parentheses
abbrev pub AnOption : Spelling Value → Spelling Value
AnOption Inner tokens v rest =
    (tokens ≡ label (codes "none") ∷ rest) × (v ≡ value.option no_value)
    ⊎ ((w : Value) × Behind (codes "some") (InParens Inner) tokens w rest × (v ≡ value.option (a_value w)))

-- `ok` or `err`, each with its payload
abbrev pub AResult : Spelling MaybeValue → Spelling MaybeValue → Spelling Value
AResult Ok Err tokens v rest =
    ((payload : MaybeValue) × Behind (codes "ok") Ok tokens payload rest × (v ≡ value.ok payload))
    ⊎ ((payload : MaybeValue) × Behind (codes "err") Err tokens payload rest × (v ≡ value.err payload))

-- a value that stands for an option or a result that wraps it
abbrev pub Stands : (Value → Value) → Spelling Value → Spelling Value
Stands wrap Inner tokens v rest = (w : Value) × Inner tokens w rest × (v ≡ wrap w)

-- no payload
abbrev pub Bare : Spelling MaybeValue
Bare tokens payload rest = (tokens ≡ rest) × (payload ≡ no_value)

-- a payload in parentheses
abbrev pub Payload : Spelling Value → Spelling MaybeValue
Payload Inner tokens payload rest = (w : Value) × InParens Inner tokens w rest × (payload ≡ a_value w)

-- the first value of a tuple, then the further ones
abbrev pub First : Spelling Value → Spelling (List Value) → Spelling (List Value)
First Inner Further tokens items rest =
    (w : Value) × (others : List Value) × (behind : List Token) × Inner tokens w behind × Further behind others rest × (items ≡ w ∷ others)

-- a comma, a further value of a tuple, and those after it
abbrev pub Then : Spelling Value → Spelling (List Value) → Spelling (List Value)
Then Inner Further tokens items rest = (prefix : List Token) × (tokens ≡ comma ∷ prefix) × First Inner Further prefix items rest

-- the end of a tuple
abbrev pub End : Spelling (List Value)
End tokens items rest = Closes paren_close tokens rest × (items ≡ [])

-- the row, where this holds
abbrev pub Provided : {A : Type 0} → Type 0 → Spelling A → Spelling A
Provided Holds Row tokens a rest = Holds × Row tokens a rest

-- one row or the other
abbrev pub Either : {A : Type 0} → Spelling A → Spelling A → Spelling A
Either P Q tokens a rest = P tokens a rest ⊎ Q tokens a rest

-- nothing
abbrev pub Never : {A : Type 0} → Spelling A
Never tokens a rest = ⊥

-- at the start of the tokens stands a spelling of the value within n levels, and the rest is left; `Reads T n tokens v []` says that the tokens spell the value
abbrev mutual
  pub Reads : TypeTree → ℕ → Spelling Value
  Reads (type.simple S) n = Provided (0 < n) (ASimple S)
  Reads (type.unreadable kind) n = Never
  Reads (type.list E) n = Provided (0 < n) (AList (Reads E (n - 1)))
  Reads (type.fixed E count) n = Provided (0 < n) (AFixedList count (Reads E (n - 1)))
  Reads (type.record_type fields) n = Provided (0 < n) (ARecord fields (ReadsField fields (n - 1)))
  Reads (type.tuple types) n = Provided (0 < n) (ATuple (ReadsTuple types (n - 1)))
  Reads (type.variant cases) n = Provided (0 < n) (AVariant (ReadsCase cases (n - 1)))
  Reads (type.enum names) n = Provided (0 < n) (AnEnum names)
  Reads (type.option P) n = Either (Provided (0 < n) (AnOption (Reads P (n - 1)))) (Stands (λ w. value.option (a_value w)) (Provided (IsFlat P) (Reads P n)))
  Reads (type.result A B) n =
      Either (Provided (0 < n) (AResult (ReadsPayload A (n - 1)) (ReadsPayload B (n - 1)))) (Stands (λ w. value.ok (a_value w)) (ReadsFlat A n))
  Reads (type.flags names) n = Provided (0 < n) (Flags names)
  Reads (type.map K V) n = Provided (0 < n) (AMap K (Reads V (n - 1)))

  -- the payload of a case, in parentheses, where it has one
  pub ReadsPayload : MaybeType → ℕ → Spelling MaybeValue
  ReadsPayload no_type n = Bare
  ReadsPayload (a_type T) n = Payload (Reads T n)

  -- a value that stands for `ok` of itself
  pub ReadsFlat : MaybeType → ℕ → Spelling Value
  ReadsFlat no_type n = Never
  ReadsFlat (a_type T) n = Provided (IsFlat T) (Reads T n)

  -- the values of a tuple and its close: at least one
  pub ReadsTuple : Types → ℕ → Spelling (List Value)
  ReadsTuple no_types n = Never
  ReadsTuple (type_and T more) n = First (Reads T n) (ReadsFurther more n)

  -- what stands after a value of a tuple
  pub ReadsFurther : Types → ℕ → Spelling (List Value)
  ReadsFurther no_types n = End
  ReadsFurther (type_and T more) n = Then (Reads T n) (ReadsFurther more n)

  -- a value of the field of this name
  pub ReadsField : Fields → ℕ → List ℕ → Spelling Value
  ReadsField no_fields n name = Never
  ReadsField (field other T more) n name = Either (Provided (name ≡ other) (Reads T n)) (ReadsField more n name)

  -- the payload of the case of this name
  pub ReadsCase : Cases → ℕ → List ℕ → Spelling MaybeValue
  ReadsCase no_cases n name = Never
  ReadsCase (case_of other T more) n name = Either (Provided (name ≡ other) (ReadsPayload T n)) (ReadsCase more n name)

-- the names of fields
abbrev pub names_of : {A : Type 0} → List (List ℕ × A) → List (List ℕ)
names_of fields = map (λ f. f.0) fields
