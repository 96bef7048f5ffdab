-- What is marked where no token begins at a quote: the first `\` behind it that begins no escape.
use Rattle.std.specs.Prelude.{ℕ, ◌≡◌, ◌≢◌, ◌⊎◌, ◌+◌, List, [], ◌∷◌, ◌++◌, None, length, drop, encode_utf8}
use Rattle.std.specs.List.{flat_map}
use Rattle.std.specs.declared.ops.Range.{Range}
use Rattle.wave_wasm.specs.Lists.{AllOf}
use Rattle.wave_lex.specs.Tokens.{backslash, single_quote, double_quote, line_feed}
use Rattle.wave_lex.specs.Strings.{IsEscape, UnescapesTo}
use Rattle.wave_lex.specs.Errors.{Diagnostic}
use Rattle.wave_lex.specs.declared.error.ParserErrorKind.TheVariants.{InvalidToken}
use Rattle.wave_hints.specs.WordMarks.{IsWordMark}

-- what may stand behind an opening quote: an escape, or a byte that is neither the quote, nor `\`, nor LF
abbrev pub IsInside : ℕ → List ℕ → Type 0
IsInside quote p = ((b : ℕ) × (p ≡ b ∷ []) × (b ≢ quote) × (b ≢ backslash) × (b ≢ line_feed)) ⊎ ((c : ℕ) × IsEscape p c)

-- a run of such pieces
abbrev pub IsRun : ℕ → List ℕ → Type 0
IsRun quote run = (pieces : List (List ℕ)) × AllOf (IsInside quote) pieces × (run ≡ flat_map (λ p. p) pieces)

-- at the place begins a string or a char by its quote, and after a run of it the mark stands: a `\` where no escape is, and the scalar
-- behind it
pub record IsEscapeMark (source : List ℕ) (place : ℕ) (mark : Range ℕ) : Type 0 where
  pub quote : ℕ
  pub is_quote : (quote ≡ double_quote) ⊎ (quote ≡ single_quote)
  pub run : List ℕ
  pub is_run : IsRun quote run
  pub scalar : ℕ
  pub rest : List ℕ
  pub stands : drop place source ≡ quote ∷ (run ++ backslash ∷ (encode_utf8 scalar ++ rest))
  pub no_escape : UnescapesTo (backslash ∷ (encode_utf8 scalar ++ rest)) None
  pub start : mark.start ≡ place + 1 + length run
  pub end : mark.end ≡ mark.start + 1 + length (encode_utf8 scalar)

-- what is marked of a refusal of syntax: its span; or, where no token begins at a quote, an escape that there isn't; or the whole word
-- that holds the span
abbrev pub IsSyntaxMark : List ℕ → Diagnostic → Range ℕ → Type 0
IsSyntaxMark source e mark = (mark ≡ e.span) ⊎ (e.kind ≡ InvalidToken) × IsEscapeMark source e.span.start mark ⊎ IsWordMark source e.span mark
