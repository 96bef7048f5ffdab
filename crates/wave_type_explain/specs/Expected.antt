-- What may stand at a place of a text that is to spell a type, or the type of a function.
use Rattle.std.specs.Prelude.{ℕ, ◌≡◌, ◌≤◌, ◌+◌, List, [], ◌∷◌, ◌++◌, Bool, true, false, not, if◌then◌else◌, map, length, codes}
use Rattle.std.specs.List.{filter, list_any, repeat}
use Rattle.wave_wasm.specs.Types.{TypeTree}
use Rattle.wave_type.specs.FunctionSpelling.{IsFunctionOf, levels_of_function}
use Rattle.wave_type.specs.FunctionType as functions
use Rattle.wave_type.specs.TypeFaultLaws.{BeginsType, BeginsFunction}
use Rattle.wave_type.specs.TypeSpelling.{Tokens, IsTokenizedTo, IsTypeOf, levels_of}
use Rattle.wave_expected.specs.Expected.{or_joined}
use Rattle.wave_place.specs.Places.{IsMarked}
use Rattle.wave_type_explain.specs.declared.expected.Reading.{Reading}
use Rattle.wave_type_explain.specs.declared.expected.Reading.TheVariants.{ValueType, FunctionType}
use Rattle.wave_type_explain.specs.declared.expected.Class.{Class}
use Rattle.wave_type_explain.specs.declared.expected.Class.TheVariants.{AnyType, Name, KeyType, Count, Func, Blank}
use Rattle.wave_type_explain.specs.declared.expected.Class.TheVariants.{BraceOpen, ParenOpen, AngleOpen, Arrow, Colon, Comma, ParenClose, AngleClose, BraceClose}
use Rattle.wave_type_explain.specs.declared.expected.Expected.{Expected}

-- the text spells one of at most n levels
abbrev pub IsSpelled : Reading → ℕ → List ℕ → Type 0
IsSpelled ValueType n text = (T : TypeTree) × IsTypeOf text T × (levels_of T ≤ n)
IsSpelled FunctionType n text = (f : functions.FunctionType) × IsFunctionOf text f × (levels_of_function f ≤ n)

-- one of at most n levels begins with these tokens
abbrev pub Begins : Reading → ℕ → Tokens → Type 0
Begins ValueType n tokens = BeginsType n tokens
Begins FunctionType n tokens = BeginsFunction n tokens

-- so with the tokens of the text
abbrev pub TextBegins : Reading → ℕ → List ℕ → Type 0
TextBegins r n text = (tokens : Tokens) × IsTokenizedTo text tokens × Begins r n tokens

-- the text by which a class is tried, but for names
abbrev pub sample : Class → List ℕ
sample AnyType = codes "list<"
sample Name = []
sample KeyType = codes "bool"
sample Count = codes "0"
sample Func = codes "func"
sample Blank = codes "_"
sample BraceOpen = codes "{"
sample ParenOpen = codes "("
sample AngleOpen = codes "<"
sample Arrow = codes "->"
sample Colon = codes ":"
sample Comma = codes ","
sample ParenClose = codes ")"
sample AngleClose = codes ">"
sample BraceClose = codes "}"

-- the text, and one of the class on the next line; as a name one that is longer than the text
abbrev pub followed : List ℕ → Class → List ℕ
followed before Name = before ++ (10 ∷ repeat (length before + 1) (codes "a"))
followed before c = before ++ (10 ∷ sample c)

-- one of the class may stand after the text: with it some type of at most n levels begins
abbrev pub MayFollow : Reading → ℕ → List ℕ → Class → Type 0
MayFollow r n before c = TextBegins r n (followed before c)

-- the answer is yes only where that is so, of whatever levels, and wherever it is so of at most 1000
abbrev pub Tells : Bool → (ℕ → Type 0) → Type 0
Tells answer IsSo = (answer ≡ true → (n : ℕ) × IsSo n) × (IsSo 1000 → answer ≡ true)

-- those of the classes, in their order, that may stand after the text
abbrev pub AreThose : Reading → List ℕ → List Class → List Class → Type 0
AreThose r before [] found = found ≡ []
AreThose r before (c ∷ classes) found =
    (may : Bool) × (more : List Class) × Tells may (λ n. MayFollow r n before c) × AreThose r before classes more × (found ≡ (if may then c ∷ more else more))

-- all classes, in the order of the variants of `Class`
abbrev pub every_class : List Class
every_class =
    AnyType ∷ Name ∷ KeyType ∷ Count ∷ Func ∷ Blank ∷ BraceOpen ∷ ParenOpen ∷ AngleOpen ∷ Arrow ∷ Colon ∷ Comma ∷ ParenClose ∷ AngleClose ∷ BraceClose ∷ []

-- this is what may stand after the text
pub record IsExpected (r : Reading) (before : List ℕ) (e : Expected) : Type 0 where
  pub classes : AreThose r before every_class e.classes.items
  pub end : Tells e.may_end (λ n. IsSpelled r n before)

-- so it is at the place: after the scalars that end there or before
abbrev pub IsExpectedAt : Reading → List ℕ → ℕ → Expected → Type 0
IsExpectedAt r text at e = (before : List ℕ) × IsMarked text at before × IsExpected r before e

-- ---- in words

-- how a class is named to people
abbrev pub class_word : Class → List ℕ
class_word AnyType = codes "a type"
class_word Name = codes "a name"
class_word KeyType = codes "bool, char, string, s8 to s64 or u8 to u64"
class_word Count = codes "a count"
class_word Func = codes "'func'"
class_word Blank = codes "'_'"
class_word BraceOpen = codes "'{'"
class_word ParenOpen = codes "'('"
class_word AngleOpen = codes "'<'"
class_word Arrow = codes "'->'"
class_word Colon = codes "':'"
class_word Comma = codes "','"
class_word ParenClose = codes "')'"
class_word AngleClose = codes "'>'"
class_word BraceClose = codes "'}'"

-- the class is any type or any name
abbrev pub is_general : Class → Bool
is_general AnyType = true
is_general Name = true
is_general _ = false

-- the class is reported: beside any type or any name no words are, which begin types and are names
abbrev pub is_reported : Bool → Class → Bool
is_reported general KeyType = not general
is_reported general Func = not general
is_reported general _ = true

-- those of the classes that are reported
abbrev pub reported : List Class → List Class
reported classes = filter (is_reported (list_any is_general classes)) classes

-- what may stand there, for people: the classes, and whether the text may end
abbrev pub expected_words : List Class → Bool → List ℕ
expected_words classes may_end = or_joined (map class_word (reported classes) ++ (if may_end then codes "the end" ∷ [] else []))
