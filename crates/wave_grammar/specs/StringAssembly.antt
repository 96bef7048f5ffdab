-- How the parts of a string are put together to its text, and what stands between the quotes of a char.
use Rattle.std.specs.Prelude.{ℕ, ◌≡◌, ◌≢◌, ◌⊎◌, ◌++◌, List, [], Option, Some, None, encode_utf8, Result, Ok, Err}
use Rattle.std.specs.Char.{IsScalar}
use Rattle.wave_lex.specs.Tokens.{backslash}
use Rattle.wave_lex.specs.Strings.{IsEscape}
use Rattle.std.specs.declared.ops.Range.{Range}
use Rattle.wave_wasm.specs.Lists.{AllOf}
use Rattle.wave_lex.specs.declared.error.ParserErrorKind.TheVariants.{OutOfMemory}
use Rattle.wave_lex.specs.declared.strings.StringPart.{StringPart}
use Rattle.wave_lex.specs.Remaining.{LinesLeft}
use Rattle.wave_lex.specs.Parts.{part_texts, HasBadLine, LinesRunTo}
use Rattle.wave_lex.specs.Errors.{Diagnostic, Says}
use Rattle.std.specs.Cow.{cow_str_bytes}
use Rattle.std.specs.declared.borrow.CowStr.{CowStr}
use Rattle.std.specs.declared.borrow.CowStr.TheVariants.{Borrowed, Owned}

-- what stands between the quotes of a char stands for the scalar: it is the scalar itself, or an escape of it
abbrev pub MeansChar : List ℕ → ℕ → Type 0
MeansChar inside c = IsScalar c × ((c ≢ backslash) × (inside ≡ encode_utf8 c) ⊎ IsEscape inside c)

-- the scalar that it stands for; None where it stands for none
abbrev pub CharIn : List ℕ → Option ℕ → Type 0
CharIn inside (Some c) = MeansChar inside c
CharIn inside None = (c : ℕ) → MeansChar inside c → ⊥

-- it is borrowed exactly where this holds
abbrev pub BorrowedWhere : {A : Type 0} → Type 0 → CowStr A → Type 0
BorrowedWhere P (Borrowed s) = P
BorrowedWhere P (Owned s) = P → ⊥

-- a refusal for lack of memory, at the place
abbrev pub IsOutOfMemoryAt : Range ℕ → Diagnostic → Type 0
IsOutOfMemoryAt place e = Says e OutOfMemory place None

-- one run is left, or nothing: no `\`, and no line after it
abbrev pub IsOneRun : LinesLeft → Type 0
IsOneRun l = AllOf (λ b. b ≢ backslash) l.line.rest × (l.later ≡ [])

-- no part is left before a refusal: the next line has too few spaces, and nothing is left of the line before it
abbrev pub IsRefusedFirst : LinesLeft → Type 0
IsRefusedFirst l = (l.line.rest ≡ []) × HasBadLine l

-- nothing of it is copied: one run is left, or nothing, or no part before a refusal
abbrev pub IsUncopied : LinesLeft → Type 0
IsUncopied l = IsOneRun l ⊎ IsRefusedFirst l

-- the text so far and the parts that are left, borrowed where P holds; or a refusal among the parts; or out of memory, where P doesn't hold
abbrev pub PutTogether : {A : Type 0} → Type 0 → List ℕ → LinesLeft → Range ℕ → Result (CowStr A) Diagnostic → Type 0
PutTogether P prefix l place (Ok c) =
    ((parts : List StringPart) × LinesRunTo l parts None × (cow_str_bytes c ≡ prefix ++ part_texts parts)) × BorrowedWhere P c
PutTogether P prefix l place (Err e) = ((parts : List StringPart) × LinesRunTo l parts (Some e)) ⊎ IsOutOfMemoryAt place e × (P → ⊥)
