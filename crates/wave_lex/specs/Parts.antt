-- The parts of a string and of a multiline string, as they come one by one.
use Rattle.std.specs.Prelude.{◌≡◌, ℕ, ◌+◌, ◌≢◌, ◌⊎◌, List, [], ◌∷◌, ◌++◌, length, Option, Some, None, Result, Ok, Err, encode_utf8}
use Rattle.wave_wasm.specs.Lists.{AllOf}
use Rattle.wave_lex.specs.declared.strings.StringPart.{StringPart}
use Rattle.wave_lex.specs.declared.strings.StringPart.TheVariants.{Run, Char}
use Rattle.wave_lex.specs.declared.error.ParserErrorKind.TheVariants.{InvalidEscape, InvalidMultilineString}
use Rattle.wave_lex.specs.declared.strings.StringPartsIter.{StringPartsIter}
use Rattle.wave_lex.specs.declared.strings.StringPartsIter.TheVariants.{Normal, Multiline}
use Rattle.std.specs.declared.ops.Range.{Range}
use Rattle.wave_lex.specs.Tokens.{backslash, line_feed}
use Rattle.wave_lex.specs.Remaining.{Undecoded, LinesLeft, one_line}
use Rattle.wave_lex.specs.Tokenization.{span}
use Rattle.wave_lex.specs.Strings.{IsEscape, UnescapesTo, Decodes, IsBadEscapeAt}
use Rattle.wave_lex.specs.Multiline.{pieces, spaces, IsIndented, Opens, DecodesLines, LineFault}
use Rattle.wave_lex.specs.Multiline.{closing, opening, IsSpaces, closing_piece, OpensWell, MultilineFault, fault_kind, fault_span}
use Rattle.wave_lex.specs.Errors.{Diagnostic, refusal_of, plainly, with_detail, fault_detail, badly_indented}

-- the text of a part
abbrev pub part_text : StringPart → List ℕ
part_text (Run s) = s.now
part_text (Char c) = encode_utf8 c

-- the texts of the parts, one after the other
abbrev pub part_texts : List StringPart → List ℕ
part_texts [] = []
part_texts (p ∷ ps) = part_text p ++ part_texts ps

-- ---- a string

-- a run is taken: some bytes other than `\`, through the next `\` or the end
pub record TakesRun (old new : Undecoded) (text : List ℕ) : Type 0 where
  pub some : text ≢ []
  pub plain : AllOf (λ b. b ≢ backslash) text
  pub taken : old.rest ≡ text ++ new.rest
  pub stops : (new.rest ≡ []) ⊎ ((t : List ℕ) × (new.rest ≡ backslash ∷ t))
  pub moved : new.pos ≡ old.pos + length text

-- an escape of c is taken
pub record TakesEscape (old new : Undecoded) (c : ℕ) : Type 0 where
  pub escape : List ℕ
  pub is : IsEscape escape c
  pub taken : old.rest ≡ escape ++ new.rest
  pub moved : new.pos ≡ old.pos + length escape

-- the refusal of an escape at this place
pub record ReportsBadEscape (e : Diagnostic) (pos : ℕ) : Type 0 where
  pub refusal : refusal_of e ≡ plainly InvalidEscape
  pub at : e.span ≡ span pos (pos + 1)

-- a `\` stands there that begins no escape; it is refused, and nothing is left
pub record MeetsBadEscape (old new : Undecoded) (e : Diagnostic) : Type 0 where
  pub begins : (t : List ℕ) × (old.rest ≡ backslash ∷ t)
  pub none : UnescapesTo old.rest None
  pub ended : new.rest ≡ []
  pub reported : ReportsBadEscape e old.pos

-- what `StringParts::next` answers
abbrev pub PartIs : Undecoded → Option (Result StringPart Diagnostic) → Undecoded → Type 0
PartIs old None new = (old.rest ≡ []) × (new ≡ old)
PartIs old (Some (Ok (Run s))) new = TakesRun old new s.now
PartIs old (Some (Ok (Char c))) new = TakesEscape old new c
PartIs old (Some (Err e)) new = MeetsBadEscape old new e

-- the parts that came, up to None or up to an error
abbrev pub RunsTo : Undecoded → List StringPart → Option Diagnostic → Type 0
RunsTo s [] None = (t : Undecoded) × PartIs s None t
RunsTo s [] (Some e) = (t : Undecoded) × PartIs s (Some (Err e)) t
RunsTo s (p ∷ ps) end = (t : Undecoded) × PartIs s (Some (Ok p)) t × RunsTo t ps end

-- the parts join to what the source decodes to; an error reports the first bad escape
abbrev pub PartsJoin : Type 0
PartsJoin = (s : Undecoded) (ps : List StringPart)
    → (RunsTo s ps None → Decodes s.rest (part_texts ps))
    × ((e : Diagnostic) → RunsTo s ps (Some e) → (i : ℕ) × IsBadEscapeAt s.rest i × ReportsBadEscape e (s.pos + i))

-- ---- a multiline string

-- the refusal of a fault at these bytes
pub record ReportsFault (e : Diagnostic) (f : LineFault) (place : Range ℕ) : Type 0 where
  pub refusal : refusal_of e ≡ with_detail (fault_kind f) (fault_detail f)
  pub at : e.span ≡ place

-- the refusal of a line with too few spaces at this place
pub record ReportsBadLine (e : Diagnostic) (pos : ℕ) : Type 0 where
  pub refusal : refusal_of e ≡ with_detail InvalidMultilineString (Some badly_indented)
  pub at : e.span ≡ span pos (pos + 1)

-- the next line is read: its spaces and its final carriage return are dropped
pub record EntersLine (old new : LinesLeft) : Type 0 where
  pub line : List ℕ
  pub more : List (List ℕ)
  pub there : old.later ≡ line ∷ more
  pub indented : IsIndented old.indent line new.line.rest
  pub place : new.line.pos ≡ old.next + old.indent
  pub later : new.later ≡ more
  pub moved : new.next ≡ old.next + length line + 1
  pub stays : new.indent ≡ old.indent

-- the next line has too few spaces
pub record HasBadLine (l : LinesLeft) : Type 0 where
  pub line : List ℕ
  pub more : List (List ℕ)
  pub there : l.later ≡ line ∷ more
  pub bad : (x : List ℕ) → line ≢ spaces l.indent ++ x

-- the next line has too few spaces; it is refused at its first byte, and no line is left
pub record MeetsBadLine (old new : LinesLeft) (e : Diagnostic) : Type 0 where
  pub met : HasBadLine old
  pub stays : new.line ≡ old.line
  pub ended : new.later ≡ []
  pub reported : ReportsBadLine e old.next

-- a part of the line that is read; the lines after it stay
pub record StaysInLine (old new : LinesLeft) (part : StringPart) : Type 0 where
  pub item : PartIs old.line (Some (Ok part)) new.line
  pub later : new.later ≡ old.later
  pub next : new.next ≡ old.next
  pub indent : new.indent ≡ old.indent

-- what `MultilineStringParts::next` answers: a part of the line; a line feed where the next one is read; a refusal; None at the end of the last
abbrev pub LinePartIs : LinesLeft → Option (Result StringPart Diagnostic) → LinesLeft → Type 0
LinePartIs old None new = (old.line.rest ≡ []) × (old.later ≡ []) × (new ≡ old)
LinePartIs old (Some (Ok part)) new = StaysInLine old new part ⊎ (old.line.rest ≡ []) × (part ≡ Char line_feed) × EntersLine old new
LinePartIs old (Some (Err e)) new = MeetsBadEscape old.line new.line e × (new.later ≡ []) ⊎ (old.line.rest ≡ []) × MeetsBadLine old new e

-- a `\` stands there that begins no escape
pub record BeginsNoEscape (s : List ℕ) : Type 0 where
  pub begins : (t : List ℕ) × (s ≡ backslash ∷ t)
  pub none : UnescapesTo s None

-- no part is next: a `\` that is refused; or the end of a line, and no line after it or one that is refused
abbrev pub NoPartNext : LinesLeft → Type 0
NoPartNext l = BeginsNoEscape l.line.rest ⊎ (l.line.rest ≡ []) × ((l.later ≡ []) ⊎ HasBadLine l)

-- what `StringPartsIter::part` answers: the next part, or None where none is next, and nothing is taken
abbrev pub TakesPart : LinesLeft → Option StringPart → LinesLeft → Type 0
TakesPart old None new = NoPartNext old × (new ≡ old)
TakesPart old (Some part) new = LinePartIs old (Some (Ok part)) new

-- before the first line of the inside s, which stands at pos
pub record Begins (s : List ℕ) (pos : ℕ) (l : LinesLeft) : Type 0 where
  pub first : List ℕ
  pub cut : pieces s ≡ first ∷ (l.later ++ spaces l.indent ∷ [])
  pub opens : Opens first
  pub next : l.next ≡ pos + (length first + 1)
  pub read : l.line.rest ≡ []

-- what a multiline iterator begins with: there is no line; or the first has too few spaces, and the first part is its refusal; or it is read
abbrev pub OpensTo : List ℕ → ℕ → LinesLeft → Type 0
OpensTo s pos new = (l : LinesLeft) × Begins s pos l × ((l.later ≡ []) × (new ≡ l) ⊎ HasBadLine l × (new ≡ l) ⊎ EntersLine l new)

-- why there is no iterator: the last piece, or the first
abbrev pub OpeningRefused : List ℕ → ℕ → Diagnostic → Type 0
OpeningRefused s pos e =
    ((IsSpaces (closing_piece (pieces s)) → ⊥) × ReportsFault e closing (fault_span pos (length s) closing))
    ⊎ (IsSpaces (closing_piece (pieces s)) × (OpensWell (pieces s) → ⊥) × ReportsFault e opening (fault_span pos (length s) opening))

-- the parts that came, up to None or up to an error
abbrev pub LinesRunTo : LinesLeft → List StringPart → Option Diagnostic → Type 0
LinesRunTo s [] None = (t : LinesLeft) × LinePartIs s None t
LinesRunTo s [] (Some e) = (t : LinesLeft) × LinePartIs s (Some (Err e)) t
LinesRunTo s (p ∷ ps) end = (t : LinesLeft) × LinePartIs s (Some (Ok p)) t × LinesRunTo t ps end

-- the parts join to what the inside decodes to; an error reports what is wrong with it
abbrev pub LinesJoin : Type 0
LinesJoin = (s : List ℕ) (pos : ℕ)
    → ((l : LinesLeft) (ps : List StringPart) → OpensTo s pos l
    → (LinesRunTo l ps None → DecodesLines s (part_texts ps))
    × ((e : Diagnostic) → LinesRunTo l ps (Some e) → (f : LineFault) × MultilineFault s f × ReportsFault e f (fault_span pos (length s) f)))
    × ((e : Diagnostic) → OpeningRefused s pos e → (f : LineFault) × MultilineFault s f × ReportsFault e f (fault_span pos (length s) f))

-- ---- both kinds of strings

-- what an iterator has left
abbrev pub left_of : StringPartsIter → LinesLeft
left_of (Normal parts) = one_line parts
left_of (Multiline parts) = parts

-- the parts of one line that an iterator of either kind gives join to what it decodes to; an error reports its first bad escape
abbrev pub OneLineJoins : Type 0
OneLineJoins = (s : Undecoded) (ps : List StringPart)
    → (LinesRunTo (one_line s) ps None → Decodes s.rest (part_texts ps))
    × ((e : Diagnostic) → LinesRunTo (one_line s) ps (Some e) → (i : ℕ) × IsBadEscapeAt s.rest i × ReportsBadEscape e (s.pos + i))

-- the parts that came so far, and what is left
abbrev pub LinesRun : LinesLeft → List StringPart → LinesLeft → Type 0
LinesRun l [] m = l ≡ m
LinesRun l (p ∷ ps) m = (t : LinesLeft) × LinePartIs l (Some (Ok p)) t × LinesRun t ps m
