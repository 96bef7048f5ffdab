-- The items of a text with their places, and what a refusal says of the one that is refused.
use Rattle.std.specs.Prelude.{ℕ, ◌≡◌, ◌+◌, ◌⊎◌, Bool, true, false, List, [], ◌∷◌, ◌++◌, map, length, take, drop, Some}
use Rattle.wave_wasm.specs.Names.{is_one_of}
use Rattle.wave_lex.specs.declared.lex.Token.{Token}
use Rattle.wave_lex.specs.Tokenization.{IsWhitespace, IsLongestToken, IsInvalid, span}
use Rattle.wave_type.specs.declared.error.TypeErrorKind.{TypeErrorKind}
use Rattle.wave_type.specs.declared.error.TypeErrorKind.TheVariants.{OutOfMemory, InvalidToken}
use Rattle.wave_type.specs.TypeErrors.{TypeRefusal}
use Rattle.wave_type.specs.TypeFaults.{Expectation, expected_of_type, expected_of_function, refused}
use Rattle.wave_type.specs.TypeSpelling.{Tokens}
use Rattle.wave_type.specs.TypeWords.{marks_of_types}

-- an item: its text, the byte where it begins, and whether it is a token
pub record Item : Type 0 where
  pub text : List ℕ
  pub start : ℕ
  pub known : Bool

-- the texts of the items
abbrev pub texts_of_items : List Item → Tokens
texts_of_items items = map (λ i. i.text) items

-- k bytes at the start of s are an item: the longest token of the encoding, or else one of the marks that types have; or no token
abbrev pub StandsAs : List ℕ → ℕ → Bool → Type 0
StandsAs s k true = ((class : Token) × IsLongestToken s k class) ⊎ (IsInvalid s k × (is_one_of marks_of_types (take k s) ≡ true))
StandsAs s k false = IsInvalid s k × (is_one_of marks_of_types (take k s) ≡ false)

-- s is whitespace, item, whitespace, item, and so on, and whitespace after the last; it begins at the byte `at`
abbrev pub AreItems : List ℕ → ℕ → List Item → Type 0
AreItems s at [] = IsWhitespace s (length s)
AreItems s at (i ∷ items) =
    (g : ℕ) × (k : ℕ) × IsWhitespace s g × StandsAs (drop g s) k i.known × (i.text ≡ take k (drop g s)) × (i.start ≡ at + g)
    × AreItems (drop (g + k) s) (at + (g + k)) items

-- the kind of a refusal of an item: `InvalidToken` where it is no token
abbrev pub kind_at : Bool → TypeErrorKind → TypeErrorKind
kind_at true kind = kind
kind_at false kind = InvalidToken

-- the refusal stands at the first of these items, by this kind; where none is left, at the end
abbrev pub StandsAtFirst : List ℕ → List Item → TypeErrorKind → TypeRefusal → Type 0
StandsAtFirst text [] kind e = (e.kind ≡ kind) × (e.span ≡ span (length text) (length text))
StandsAtFirst text (i ∷ items) kind e = (e.kind ≡ kind_at i.known kind) × (e.span ≡ span i.start (i.start + length i.text))

-- where these are expected, the text is refused so
abbrev pub IsFaultOf : List Expectation → List ℕ → TypeRefusal → Type 0
IsFaultOf expectations text e =
    (before : List Item) × (left : List Item) × (kind : TypeErrorKind) × AreItems text 0 (before ++ left)
    × (refused (texts_of_items (before ++ left)) expectations ≡ Some (kind, texts_of_items left)) × StandsAtFirst text left kind e

-- the refusal where there was no memory
abbrev pub for_memory : TypeRefusal
for_memory = record { kind = OutOfMemory; span = span 0 0 }

-- the text is refused as no type within n levels, or there was no memory
abbrev pub IsTypeFaultWithin : ℕ → List ℕ → TypeRefusal → Type 0
IsTypeFaultWithin n text e = (e ≡ for_memory) ⊎ IsFaultOf (expected_of_type n) text e

-- so within a hundred levels
abbrev pub IsTypeFault : List ℕ → TypeRefusal → Type 0
IsTypeFault text e = IsTypeFaultWithin 100 text e

-- the text is refused as no type of a function within n levels, or there was no memory
abbrev pub IsFunctionFaultWithin : ℕ → List ℕ → TypeRefusal → Type 0
IsFunctionFaultWithin n text e = (e ≡ for_memory) ⊎ IsFaultOf (expected_of_function n) text e

-- so within a hundred levels
abbrev pub IsFunctionFault : List ℕ → TypeRefusal → Type 0
IsFunctionFault text e = IsFunctionFaultWithin 100 text e
