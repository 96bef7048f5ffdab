-- The tokens of a text as they are kept, and what reading them answers.
use Rattle.std.specs.Prelude.{ℕ, ◌≡◌, ◌⊎◌, Bool, true, if◌then◌else◌, List, [], ◌∷◌, map, codes, Option, Some, None, Result, Ok, Err}
use Rattle.std.specs.declared.ops.Range.{Range}
use Rattle.wave_wasm.specs.Names.{is_one_of}
use Rattle.wave_lex.specs.declared.lex.Token as lex
use Rattle.wave_type.specs.declared.tokens.Token.{Token}
use Rattle.wave_type.specs.declared.error.TypeErrorKind.{TypeErrorKind}
use Rattle.wave_type.specs.declared.error.TypeErrorKind.TheVariants.{OutOfMemory, UnexpectedToken, UnexpectedEnd, DuplicateName}
use Rattle.wave_type.specs.Private.TypeReading.{after, closed}
use Rattle.wave_type.specs.TypeFaults.{Expectation, refused}
use Rattle.wave_type.specs.TypeErrors.{TypeRefusal}
use Rattle.wave_type.specs.TypeItems.{Item, for_memory, StandsAtFirst}
use Rattle.wave_type.specs.TypeSpelling.{Tokens}
use Rattle.wave_type.specs.TypeWords.{name_of_token, marks_of_types}

-- the texts of the tokens
abbrev pub texts_of : List Token → Tokens
texts_of tokens = map (λ t. t.text.now) tokens

-- the item that is kept so
abbrev pub item_of : Token → Item
item_of t = record { text = t.text.now; start = t.start; known = t.known }

-- the items that are kept so
abbrev pub items_of : List Token → List Item
items_of tokens = map item_of tokens

-- the item of this text that a lexer answers is a token of the encoding, or one that types have beside them
abbrev pub IsKnownAs : Result lex.Token (Range ℕ) → List ℕ → Bool → Type 0
IsKnownAs (Ok class) text known = known ≡ true
IsKnownAs (Err bad) text known = known ≡ is_one_of marks_of_types text

-- why the next token, or the end, is refused where another is expected
abbrev pub misplaced : Tokens → TypeErrorKind
misplaced [] = UnexpectedEnd
misplaced (t ∷ ts) = UnexpectedToken

-- why a token that is this name is refused where a name is expected that is none of these
abbrev pub name_fault : List (List ℕ) → Option (List ℕ) → Option TypeErrorKind
name_fault names None = Some UnexpectedToken
name_fault names (Some name) = if is_one_of names name then Some DuplicateName else None

-- why the next token, or the end, is refused there
abbrev pub name_refused : List (List ℕ) → Tokens → Option TypeErrorKind
name_refused names [] = Some UnexpectedEnd
name_refused names (t ∷ ts) = name_fault names (name_of_token t)

-- there was no memory; or where these are expected, whatever is expected after them, the tokens are refused so
abbrev pub Fails : (List Expectation → List Expectation) → Tokens → TypeErrorKind → Tokens → Type 0
Fails expected ts kind rest = (kind ≡ OutOfMemory) ⊎ ((expectations : List Expectation) → refused ts (expected expectations) ≡ Some (kind, rest))

-- where this is expected, whatever is expected after it, the tokens are refused so
abbrev pub IsRefused : Expectation → Tokens → TypeErrorKind → Tokens → Type 0
IsRefused expected ts kind rest = (expectations : List Expectation) → refused ts (expected ∷ expectations) ≡ Some (kind, rest)

-- a comma stands next, and not the mark after it
pub record GoesOn (mark : List ℕ) (ts rest : Tokens) : Type 0 where
  pub unclosed : closed mark ts ≡ None
  pub comma : after (codes ",") ts ≡ Some rest
  pub more : after mark rest ≡ None

-- no name that is none of these stands next, or there was no memory
abbrev pub RefusesName : List (List ℕ) → Tokens → TypeErrorKind → Tokens → Type 0
RefusesName names ts kind rest = (kind ≡ OutOfMemory) ⊎ ((rest ≡ ts) × (name_refused names ts ≡ Some kind))

-- there was no memory, or where these are expected the tokens are refused so
abbrev pub IsRefusal : List Expectation → Tokens → TypeErrorKind → Tokens → Type 0
IsRefusal expectations ts kind rest = (kind ≡ OutOfMemory) ⊎ (refused ts expectations ≡ Some (kind, rest))

-- the refusal is one for memory where there was none, and else stands at the first of these items and is of this kind
pub record IsRefusalAt (text : List ℕ) (left : List Item) (kind : TypeErrorKind) (e : TypeRefusal) : Type 0 where
  pub memory : kind ≡ OutOfMemory → e ≡ for_memory
  pub stands : (kind ≡ OutOfMemory → ⊥) → StandsAtFirst text left kind e

module _ {A B : Type 0} (view : A → B) where
  -- what was read, and the tokens after it; or the tokens are refused where these are expected, or there was no memory
  abbrev pub Answers : Result A TypeErrorKind → Tokens → Tokens → Option (B × Tokens) → (List Expectation → List Expectation) → Type 0
  Answers (Ok a) old new read expectations = read ≡ Some (view a, new)
  Answers (Err kind) old new read expectations = Fails expectations old kind new
