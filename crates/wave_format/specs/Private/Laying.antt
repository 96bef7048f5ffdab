-- A text that is laid out as far as a lexer went. No public contract needs it.
use Rattle.std.specs.Prelude.{◌≡◌, ℕ, Bool, true, false, List, [], ◌∷◌, ◌++◌, map, Option, Some}
use Rattle.wave_lex.specs.declared.lex.Token as lex
use Rattle.wave_lex.specs.declared.lex.Token.TheVariants as class
use Rattle.wave_lex.specs.Tokenization.{Tokenizes, Lexed, remainder_of}
use Rattle.wave_grammar.specs.Token.{Token, TokenizesTo, lexeme_of, comma, paren_open, paren_close}
use Rattle.wave_grammar.specs.Tree.{Tree, Takes}
use Rattle.wave_grammar.specs.Denotes.{SpellsText}
use Rattle.wave_grammar.specs.EquivalenceLaws.{without_last_commas}
use Rattle.wave_grammar.specs.PrefixLaws.{EndsBefore}
use Rattle.wave_grammar.specs.PrefixAutomaton.{Expectation, StackSymbol, value, reads, step, Shifts}
use Rattle.wave_format.specs.Words.{Word, WordsTo, kept}
use Rattle.wave_format.specs.Layout.{IsLaidOut}
use Rattle.wave_format.specs.Private.Writing.{Written}
use Rattle.wave_format.specs.Private.Brackets.{Follows, payloads, ends_item}
use Rattle.wave_format.specs.Private.Sheets.{Sheet}

-- whatever comes after them, the tokens differ only in commas before a close
abbrev pub SameBefore : List Token → List Token → Type 0
SameBefore ts us = (more : List Token) → without_last_commas (ts ++ more) ≡ without_last_commas (us ++ more)

-- the tokens lead from a value to where d is expected within the forms
abbrev pub LeadTo : ℕ → List Token → Expectation → List StackSymbol → Type 0
LeadTo n ts d forms = Shifts n value [] ts d forms

-- the tokens us are written for the tokens ts, which lead to d within the forms; where a comma is held back, for those before it
abbrev pub AreWritten : ℕ → Bool → List Token → List Token → Option lex.Token → Option lex.Token → Expectation → List StackSymbol → Type 0
AreWritten n false ts us written last d forms = (written ≡ last) × LeadTo n us d forms × SameBefore ts us
AreWritten n true ts us written last d forms =
    (before : List Token) × (behind : Expectation) × (open_forms : List StackSymbol)
    × (ts ≡ before ++ comma ∷ []) × (last ≡ Some class.Comma) × LeadTo n us behind open_forms × (step n behind open_forms comma ≡ reads d forms) × SameBefore before us

-- of the text, which spells the tree within n levels, the lexer has given these tokens; they are written on the sheet, behind the name
pub record IsLaidSoFar (n : ℕ) (tree : Tree) (name text : List ℕ) (lexer : Lexed) (sheet : Sheet) : Type 0 where
  pub tokens : List Token
  pub words : List Word
  pub more : List Token
  pub laid : List Token
  pub laid_words : List Word
  pub written : Option lex.Token
  pub expected : Expectation
  pub forms : List StackSymbol
  pub last_expected : Expectation
  pub of_text : WordsTo text tokens words (remainder_of lexer)
  pub rest : Tokenizes (remainder_of lexer) (map lexeme_of more)
  pub takes : Takes n (tokens ++ more) tree []
  pub leads : Shifts n expected forms more last_expected []
  pub ends : EndsBefore last_expected []
  pub of_sheet : Written name sheet.text laid laid_words written sheet.in_comment
  pub tokens_written : AreWritten n sheet.held tokens laid written sheet.last expected forms
  pub same_words : kept words ≡ kept laid_words
  pub follows : Follows expected sheet.last
  pub brackets : payloads expected forms ≡ sheet.payloads

-- behind the name, the text is laid out, and spells the tree within n levels
pub record IsLaid (n : ℕ) (tree : Tree) (name text written : List ℕ) : Type 0 where
  pub laid : List ℕ
  pub parts : written ≡ name ++ laid
  pub is : IsLaidOut text laid
  pub spells : SpellsText n laid tree

-- `()`
abbrev pub no_params : List Token
no_params = paren_open ∷ paren_close ∷ []

-- of a text of no parameters the lexer has given these tokens; they are written on the sheet, behind the name
pub record IsCopiedSoFar (name text : List ℕ) (lexer : Lexed) (sheet : Sheet) : Type 0 where
  pub tokens : List Token
  pub words : List Word
  pub more : List Token
  pub laid_words : List Word
  pub whole : tokens ++ more ≡ no_params
  pub of_text : WordsTo text tokens words (remainder_of lexer)
  pub rest : Tokenizes (remainder_of lexer) (map lexeme_of more)
  pub of_sheet : Written name sheet.text tokens laid_words sheet.last sheet.in_comment
  pub free : sheet.held ≡ false
  pub same_words : kept words ≡ kept laid_words
  pub no_item : ends_item sheet.last ≡ true → more ≡ []

-- behind the name, the text is laid out, and its tokens are no parameters
pub record IsEmptyLaid (name text written : List ℕ) : Type 0 where
  pub laid : List ℕ
  pub parts : written ≡ name ++ laid
  pub is : IsLaidOut text laid
  pub cut : TokenizesTo laid no_params
