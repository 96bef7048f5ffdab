-- What a text that is laid out has of its source.
use Rattle.std.specs.Prelude.{ℕ, ◌≡◌, List, ◌++◌, take, drop}
use Rattle.wave_lex.specs.FunctionName.{IsName}
use Rattle.wave_grammar.specs.Token.{Token}
use Rattle.wave_grammar.specs.Tree.{Tree, MaybeTree}
use Rattle.wave_grammar.specs.Calls.{IsCall}
use Rattle.wave_grammar.specs.Denotes.{SpellsText}
use Rattle.wave_grammar.specs.EquivalenceLaws.{without_last_commas}
use Rattle.wave_format.specs.Words.{Word, HasWords, kept}

-- the texts have the same tokens, but for commas before a close, and the same comments; each comment stands between the same tokens, but for commas, colons and opening parentheses
pub record IsLaidOut (source text : List ℕ) : Type 0 where
  pub tokens : List Token
  pub words : List Word
  pub of_source : HasWords source tokens words
  pub laid_tokens : List Token
  pub laid_words : List Word
  pub of_text : HasWords text laid_tokens laid_words
  pub same_tokens : without_last_commas tokens ≡ without_last_commas laid_tokens
  pub same_words : kept words ≡ kept laid_words

-- what tree the source spells within n levels, the text spells within n levels
abbrev pub KeepsTrees : List ℕ → List ℕ → Type 0
KeepsTrees source text = (n : ℕ) (t : Tree) → SpellsText n source t → SpellsText n text t

-- the text begins with the same name as the source, and what is behind it is laid out
pub record IsCallLaidOut (source text : List ℕ) : Type 0 where
  pub bytes : ℕ
  pub named : IsName source bytes
  pub laid : List ℕ
  pub parts : text ≡ take bytes source ++ laid
  pub is : IsLaidOut (drop bytes source) laid

-- what call the source is, the text is
abbrev pub KeepsCalls : List ℕ → List ℕ → Type 0
KeepsCalls source text = (name : List ℕ) (params : MaybeTree) → IsCall source name params → IsCall text name params
