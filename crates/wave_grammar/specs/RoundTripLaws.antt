-- What holds of canonical texts.
use Rattle.std.specs.Prelude.{ℕ, ◌≡◌, ◌≤◌, ◌*◌, ◌↔◌, List, []}
use Rattle.std.specs.Str.{IsUtf8}
use Rattle.wave_wasm.specs.Types.{TypeTree}
use Rattle.wave_wasm.specs.Values.{Value}
use Rattle.wave_wasm.specs.HasType.{HasType}
use Rattle.wave_wasm.specs.Merge.{merged}
use Rattle.wave_wasm.specs.Text.{text}
use Rattle.wave_grammar.specs.Token.{Token, TokenizesTo}
use Rattle.wave_grammar.specs.Tree.{Tree, Takes, levels}
use Rattle.wave_grammar.specs.TypedGrammar.{Reads}

-- the value's canonical text is tokenized; the tokens spell a tree, and within its levels they spell the value, merged
pub record ReadBack (T : TypeTree) (v : Value) : Type 0 where
  pub tokens : List Token
  pub tree : Tree
  pub cut : TokenizesTo (text v) tokens
  pub spelled : Takes (levels tree) tokens tree []
  pub read : Reads T (levels tree) tokens (merged v) []

-- the canonical text of each value of the type reads back as the value, merged
abbrev pub ReadsBack : TypeTree → Type 0
ReadsBack T = (v : Value) → HasType T v → ReadBack T v

-- two values of the type have one canonical text exactly where they are one value, merged
abbrev pub EqualTexts : TypeTree → Type 0
EqualTexts T = (a b : Value) → HasType T a → HasType T b → (text a ≡ text b) ↔ (merged a ≡ merged b)

-- the tokens are those of a text
abbrev pub AreOfText : List Token → Type 0
AreOfText tokens = (s : List ℕ) × IsUtf8 s × TokenizesTo s tokens

-- what is read at the type is merged
abbrev pub ReadsMerged : TypeTree → Type 0
ReadsMerged T = (n : ℕ) (tokens rest : List Token) (v : Value) → Reads T n tokens v rest → merged v ≡ v

-- what the tokens of a text spell within n levels reads back, from a canonical text of at most twice as many
abbrev pub ReadsBackWithinTwice : TypeTree → Type 0
ReadsBackWithinTwice T =
    (n : ℕ) (tokens : List Token) (v : Value) → AreOfText tokens → Reads T n tokens v [] → (back : ReadBack T v) × (levels back.tree ≤ 2 * n)
