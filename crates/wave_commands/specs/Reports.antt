-- What is told of a fault in a file.
use Rattle.std.specs.Prelude.{ℕ, List, ◌≡◌, ◌-◌, ◌++◌, codes, string_bytes}
use Rattle.std.specs.Fmt.{decimal}
use Rattle.std.specs.declared.ops.Range.{Range}
use Rattle.wave_lex.specs.Errors.{Diagnostic, error_text, kind_words}
use Rattle.wave_place.specs.Places.{IsPlaceNear, IsMarked}
use Rattle.wave_place.specs.Shown.{shown_lines}
use Rattle.wave_explain.specs.ValueExplained.{before_path}
use Rattle.wave_files.specs.Json.{json_string}
use Rattle.wave_files.specs.declared.answers.FileName.{FileName}
use Rattle.wave_commands.specs.declared.report.Style.{Style}
use Rattle.wave_commands.specs.declared.report.Style.TheVariants.{Blocks, Short, Json}

-- the first two lines of a block: the message, the place in the file, and the path
abbrev pub heading_in_file : List ℕ → List ℕ → ℕ → ℕ → List ℕ → List ℕ
heading_in_file name message line column path =
    message ++ (codes "\n --> " ++ (name ++ (codes ":" ++ (decimal line ++ (codes ":" ++ (decimal column ++ (before_path path ++ (path ++ codes "\n"))))))))

-- one line: the place in the file, and the message
abbrev pub line_in_file : List ℕ → List ℕ → ℕ → ℕ → List ℕ
line_in_file name message line column = name ++ (codes ":" ++ (decimal line ++ (codes ":" ++ (decimal column ++ (codes ": " ++ (message ++ codes "\n"))))))

-- the text has the message, the place in the file where the mark begins, the path, the line of the place, a mark below what stands there of the
-- line, up to the mark's end, and these lines
pub record IsBlockIn (name source message : List ℕ) (mark : Range ℕ) (path lines text : List ℕ) : Type 0 where
  pub there : ℕ
  pub line : ℕ
  pub column : ℕ
  pub prefix : List ℕ
  pub rest : List ℕ
  pub marked : List ℕ
  pub place : IsPlaceNear source mark.start there line column prefix rest
  pub is_marked : IsMarked rest (mark.end - there) marked
  pub text_is : text ≡ heading_in_file name message line column path ++ (shown_lines prefix rest marked ++ lines)

-- the text is one line: the place in the file where the mark begins, and the message
pub record IsShortLine (name source message : List ℕ) (mark : Range ℕ) (text : List ℕ) : Type 0 where
  pub there : ℕ
  pub line : ℕ
  pub column : ℕ
  pub prefix : List ℕ
  pub rest : List ℕ
  pub place : IsPlaceNear source mark.start there line column prefix rest
  pub text_is : text ≡ line_in_file name message line column

-- the members of an object of JSON that tell the place and the span
abbrev pub place_members : ℕ → ℕ → Range ℕ → List ℕ
place_members line column span =
    codes ",\"line\":" ++ (decimal line ++ (codes ",\"column\":" ++ (decimal column ++ (codes ",\"start\":" ++ (decimal span.start ++ (codes ",\"end\":" ++ decimal span.end))))))

-- those that tell the path, the kind, the message, and the lines of the explanation
abbrev pub text_members : List ℕ → List ℕ → List ℕ → List ℕ → List ℕ
text_members path kind message lines =
    codes ",\"path\":" ++ (json_string path ++ (codes ",\"kind\":" ++ (json_string kind ++ (codes ",\"message\":" ++ (json_string message ++ (codes ",\"notes\":" ++ json_string lines))))))

-- an object of JSON on a line: the file, and these members
abbrev pub json_line : List ℕ → List ℕ → List ℕ → ℕ → ℕ → Range ℕ → List ℕ → List ℕ → List ℕ
json_line name kind message line column span path lines =
    codes "{\"file\":" ++ (json_string name ++ (place_members line column span ++ (text_members path kind message lines ++ codes "}\n")))

-- the text is such a line, of the place where the mark begins
pub record IsJsonLine (name source : List ℕ) (e : Diagnostic) (mark : Range ℕ) (path lines text : List ℕ) : Type 0 where
  pub there : ℕ
  pub line : ℕ
  pub column : ℕ
  pub prefix : List ℕ
  pub rest : List ℕ
  pub place : IsPlaceNear source mark.start there line column prefix rest
  pub text_is : text ≡ json_line name (kind_words e.kind) (error_text e) line column e.span path lines

-- the text tells the fault in this style, of which these are the mark, the path and the lines of its explanation
abbrev pub IsReport : Style → FileName → List ℕ → Diagnostic → Range ℕ → List ℕ → List ℕ → List ℕ → Type 0
IsReport Blocks name source e mark path lines text = IsBlockIn (string_bytes name.shown) source (error_text e) mark path lines text
IsReport Short name source e mark path lines text = IsShortLine (string_bytes name.shown) source (error_text e) mark text
IsReport Json name source e mark path lines text = IsJsonLine (string_bytes name.path) source e mark path lines text
