-- What may stand at a place of a text: which tokens go on with those before it, and which brackets are open there.
use Rattle.std.specs.Prelude.{ℕ, ◌≡◌, ◌≤◌, ◌<◌, ◌↔◌, ◌++◌, List, [], ◌∷◌, Some, Ok, Bool, if◌then◌else◌, Contains, IsTrue, fold, map, length, slice_range, bytes_eq, codes}
use Rattle.std.specs.List.{filter, list_any}
use Rattle.std.specs.declared.ops.Range.{Range}
use Rattle.wave_lex.specs.declared.lex.Token as lex
use Rattle.wave_lex.specs.declared.lex.Token.TheVariants.{BraceOpen, BraceClose, ParenOpen, ParenClose, BracketOpen, BracketClose}
use Rattle.wave_lex.specs.declared.lex.Token.TheVariants.{Colon, Comma, Number, LabelOrKeyword, Char, String, MultilineString}
use Rattle.wave_lex.specs.Errors.{class_name}
use Rattle.wave_lex.specs.Tokenization.{Lexed, NextIs, IsToken, span}
use Rattle.wave_lex.specs.FunctionName.{IsName}
use Rattle.wave_grammar.specs.Token.{Token}
use Rattle.wave_grammar.specs.Tree.{Tree, MaybeTree, Takes}
use Rattle.wave_grammar.specs.Calls.{SpellsParams}
use Rattle.wave_grammar.specs.ParserPosition.{token_of}
use Rattle.wave_expected.specs.declared.expected.Expected.{Expected}
use Rattle.wave_tree.specs.ParserState.{start_of}
use Rattle.wave_tree.specs.UntypedCall.{behind_name}

-- the tokens begin those of a value within n levels: they are a viable prefix
abbrev pub IsViable : ℕ → List Token → Type 0
IsViable n tokens = (more : List Token) × (t : Tree) × Takes n (tokens ++ more) t []

-- after the tokens a token of this class may stand: with some text of the class they still begin a value
abbrev pub MayFollow : ℕ → List Token → lex.Token → Type 0
MayFollow n tokens c = (text : List ℕ) × IsToken text (length text) c × IsViable n (tokens ++ token_of c text ∷ [])

-- the tokens are those of a value within n levels
abbrev pub AreAValue : ℕ → List Token → Type 0
AreAValue n tokens = (t : Tree) × Takes n tokens t []

-- the tokens begin those of parameters, each within n levels
abbrev pub IsViableCall : ℕ → List Token → Type 0
IsViableCall n tokens = (more : List Token) × (params : MaybeTree) × SpellsParams n (tokens ++ more) params

-- after the tokens a token of this class may stand: with some text of the class they still begin parameters
abbrev pub MayFollowInCall : ℕ → List Token → lex.Token → Type 0
MayFollowInCall n tokens c = (text : List ℕ) × IsToken text (length text) c × IsViableCall n (tokens ++ token_of c text ∷ [])

-- the tokens are those of parameters, each within n levels
abbrev pub AreParams : ℕ → List Token → Type 0
AreParams n tokens = (params : MaybeTree) × SpellsParams n tokens params

-- a token of a source: its class and its span
abbrev pub Placed : Type 0
Placed = lex.Token × Range ℕ

-- the token that stands there in the source
abbrev pub token_at : List ℕ → Placed → Token
token_at source p = token_of p.0 (slice_range source p.1.start p.1.end)

-- these are the next tokens of a lexer, and the other one stands after them
abbrev pub TakesPlaced : Lexed → List Placed → Lexed → Type 0
TakesPlaced l [] m = l ≡ m
TakesPlaced l (p ∷ ps) m = (k : Lexed) × NextIs l k (Some (Ok p.0)) × (p.1 ≡ span k.start k.end) × TakesPlaced k ps m

-- the next tokens of a lexer that end at or before the place, as many as there are before any other text
pub record StandBefore (first : Lexed) (at : ℕ) (tokens : List Placed) : Type 0 where
  pub last : Lexed
  pub taken : TakesPlaced first tokens last
  pub before : last.end ≤ at
  pub all : (c : lex.Token) (next : Lexed) → NextIs last next (Some (Ok c)) → at < next.end

-- all but the last
abbrev pub but_last : List (Range ℕ) → List (Range ℕ)
but_last [] = []
but_last (a ∷ []) = []
but_last (a ∷ b ∷ more) = a ∷ but_last (b ∷ more)

-- the spans of the brackets that are open after one more token: one that opens is, and one that closes ends the last
abbrev pub open_after : List (Range ℕ) → Placed → List (Range ℕ)
open_after spans (BraceOpen, at) = spans ++ at ∷ []
open_after spans (ParenOpen, at) = spans ++ at ∷ []
open_after spans (BracketOpen, at) = spans ++ at ∷ []
open_after spans (BraceClose, at) = but_last spans
open_after spans (ParenClose, at) = but_last spans
open_after spans (BracketClose, at) = but_last spans
open_after spans _ = spans

-- the spans of the brackets that are open after the tokens, the outermost first
abbrev pub open_brackets : List Placed → List (Range ℕ)
open_brackets tokens = fold open_after [] tokens

-- this is what may stand at the place, where the next tokens of a lexer are followed so, and are whole so
pub record IsExpectedFrom (first : Lexed) (at : ℕ) (Follows : List Token → lex.Token → Type 0) (AreWhole : List Token → Type 0) (e : Expected) : Type 0 where
  pub before : List Placed
  pub stand : StandBefore first at before
  pub classes : (c : lex.Token) → Contains e.classes.items c ↔ Follows (map (token_at first.source) before) c
  pub end : IsTrue e.may_end ↔ AreWhole (map (token_at first.source) before)
  pub open_there : e.open_brackets.items ≡ open_brackets before

-- all classes of tokens, in the order of the variants of `Token`
abbrev pub every_class : List lex.Token
every_class = BraceOpen ∷ BraceClose ∷ ParenOpen ∷ ParenClose ∷ BracketOpen ∷ BracketClose ∷ Colon ∷ Comma ∷ Number ∷ LabelOrKeyword ∷ Char ∷ String ∷ MultilineString ∷ []

-- some of the classes, each once, in that order
pub record AreInOrder (classes : List lex.Token) : Type 0 where
  pub test : lex.Token → Bool
  pub those : classes ≡ filter test every_class

-- at this place of the source this is what may stand, as the tokens before begin a value within n levels
abbrev pub IsExpected : List ℕ → ℕ → ℕ → Expected → Type 0
IsExpected source at n e = IsExpectedFrom (start_of source).lexer at (MayFollow n) (AreAValue n) e

-- a function name begins the source and ends at or before the place, and this is what may stand there, as the tokens after the name begin
-- parameters, each within n levels
abbrev pub IsExpectedInCallWithin : ℕ → List ℕ → ℕ → Expected → Type 0
IsExpectedInCallWithin n source at e = (k : ℕ) × IsName source k × (k ≤ at) × IsExpectedFrom (behind_name source k).lexer at (MayFollowInCall n) (AreParams n) e

-- so within 100 levels
abbrev pub IsExpectedInCall : List ℕ → ℕ → Expected → Type 0
IsExpectedInCall source at e = IsExpectedInCallWithin 100 source at e

-- no function name begins the source and ends at or before the place
abbrev pub IsWithoutName : List ℕ → ℕ → Type 0
IsWithoutName source at = (k : ℕ) → IsName source k → at < k

-- ---- in words

-- both are one class
abbrev pub same_class : lex.Token → lex.Token → Bool
same_class a b = bytes_eq (class_name a) (class_name b)

-- how a class is named to people; a value by its `[`
abbrev pub class_word : lex.Token → List ℕ
class_word BracketOpen = codes "a value"
class_word LabelOrKeyword = codes "a label"
class_word Number = codes "another key"
class_word ParenOpen = codes "'('"
class_word Colon = codes "':'"
class_word Comma = codes "','"
class_word ParenClose = codes "')'"
class_word BracketClose = codes "']'"
class_word BraceClose = codes "'}'"
class_word _ = []

-- the words of those that are among the classes
abbrev pub words_among : List lex.Token → List lex.Token → List (List ℕ)
words_among classes reported = map class_word (filter (λ c. list_any (same_class c) classes) reported)

-- what is reported of the tokens that begin a value: where one may stand, that alone; else a label, the other keys by a number, and the `(` of a payload
abbrev pub starts_reported : List lex.Token → List lex.Token
starts_reported classes = if list_any (same_class BracketOpen) classes then BracketOpen ∷ [] else LabelOrKeyword ∷ Number ∷ ParenOpen ∷ []

-- the marks that begin no value
abbrev pub marks_reported : List lex.Token
marks_reported = Colon ∷ Comma ∷ ParenClose ∷ BracketClose ∷ BraceClose ∷ []

-- the words of the classes, then that the text may end
abbrev pub reported_words : List lex.Token → Bool → List (List ℕ)
reported_words classes may_end = words_among classes (starts_reported classes ++ marks_reported) ++ (if may_end then codes "the end" ∷ [] else [])

-- the words, with `or` before the last and a comma before each other one; `nothing` for none
abbrev pub or_joined : List (List ℕ) → List ℕ
or_joined [] = codes "nothing"
or_joined (word ∷ []) = word
or_joined (word ∷ last ∷ []) = word ++ (codes " or " ++ last)
or_joined (word ∷ more) = word ++ (codes ", " ++ or_joined more)

-- what may stand there, for people
abbrev pub expected_words : List lex.Token → Bool → List ℕ
expected_words classes may_end = or_joined (reported_words classes may_end)
