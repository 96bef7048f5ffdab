-- How the code reads an escape, and keeps the lines of a multiline string. No public contract needs it.
use Rattle.std.specs.Prelude.{◌≡◌, ◌≢◌, ◌⊎◌, ℕ, ◌+◌, ◌-◌, ◌<◌, ◌≤◌, List, [], ◌∷◌, ◌++◌, take, drop, length, Option, Some, None, Result, Ok, Err, slice_index}
use Rattle.std.specs.Char.{digit_value}
use Rattle.std.specs.Str.Parse.{digits_value}
use Rattle.wave_lex.specs.Errors.{Diagnostic}
use Rattle.wave_lex.specs.declared.strings.StringPart.{StringPart}
use Rattle.wave_lex.specs.Tokens.{line_feed}
use Rattle.wave_lex.specs.Multiline.{pieces, Opens, OpensWell}
use Rattle.wave_lex.specs.Remaining.{Undecoded, LinesLeft, ended_lines}
use Rattle.wave_lex.specs.Parts.{PartIs, BeginsNoEscape, ReportsBadEscape, ReportsBadLine, HasBadLine}

-- n hexadecimal digits stand at the start of s, and no more, and value is their number
pub record IsNumberAt (s : List ℕ) (n value : ℕ) : Type 0 where
  pub within : n ≤ length s
  pub digits : (i : ℕ) → i < n → digit_value (slice_index s i) < 16
  pub stops : n < length s → 16 ≤ digit_value (slice_index s n)
  pub number : value ≡ digits_value 16 (take n s)

-- a run or an escape is taken; or there is none, and nothing is taken
abbrev pub PartTaken : Undecoded → Option StringPart → Undecoded → Type 0
PartTaken old None new = ((old.rest ≡ []) ⊎ BeginsNoEscape old.rest) × (new ≡ old)
PartTaken old (Some part) new = PartIs old (Some (Ok part)) new

-- no line is read: there is none, or it has too few spaces
abbrev pub NoLineEntered : LinesLeft → LinesLeft → Type 0
NoLineEntered old new = ((old.later ≡ []) ⊎ HasBadLine old) × (new ≡ old)

-- nothing is left; or what is left is refused as a bad escape
abbrev pub EndIs : Undecoded → Result (Unit {0}) Diagnostic → Type 0
EndIs s (Ok done) = s.rest ≡ []
EndIs s (Err e) = (s.rest ≢ []) × ReportsBadEscape e s.pos

-- nothing is left; or what is left of the line is refused as a bad escape, or the next line as one with too few spaces
abbrev pub LinesEndIs : LinesLeft → Result (Unit {0}) Diagnostic → Type 0
LinesEndIs l (Ok done) = (l.line.rest ≡ []) × (l.later ≡ [])
LinesEndIs l (Err e) = ((l.line.rest ≢ []) × ReportsBadEscape e l.line.pos) ⊎ ((l.line.rest ≡ []) × (l.later ≢ []) × ReportsBadLine e l.next)

-- the text is the line, a line feed and what stands after it
pub record SplitsLine (text line behind : List ℕ) : Type 0 where
  pub parts : text ≡ line ++ line_feed ∷ behind
  pub lines : ended_lines text ≡ line ∷ ended_lines behind

-- the first piece is n bytes long and right, or it is not right
abbrev pub OpeningIs : List ℕ → Option ℕ → Type 0
OpeningIs s None = OpensWell (pieces s) → ⊥
OpeningIs s (Some n) = (n < length s) × (slice_index s n ≡ line_feed) × (pieces s ≡ take n s ∷ pieces (drop (n + 1) s)) × Opens (take n s)

-- after the last line feed, or at the beginning where there is none
pub record BehindLastFeed (s : List ℕ) (n : ℕ) : Type 0 where
  pub fits : n ≤ length s
  pub behind : 0 < n → slice_index s (n - 1) ≡ line_feed
  pub last : (i : ℕ) → n ≤ i → i < length s → slice_index s i ≢ line_feed
