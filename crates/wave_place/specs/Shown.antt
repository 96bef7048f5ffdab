-- How the line of a refusal is shown, and the marks below it.
use Rattle.std.specs.Prelude.{ℕ, zero, suc, ◌-◌, ◌==◌, max, Bool, true, false, not, ◌&&◌, if◌then◌else◌}
use Rattle.std.specs.Prelude.{List, [], ◌++◌, length, take, drop, replicate, chars, codes, encode_utf8}
use Rattle.std.specs.Char.{is_control}
use Rattle.std.specs.Fmt.{digits}
use Rattle.std.specs.List.{flat_map}
use Rattle.ucd_category.specs.GeneralCategory.{general_category}
use Rattle.ucd_category.specs.declared.GeneralCategory.{GeneralCategory}
use Rattle.ucd_category.specs.declared.GeneralCategory.TheVariants.{Format, LineSeparator, ParagraphSeparator, SpaceSeparator}
use Rattle.unicode_width.specs.Width.{str_width}

-- the general categories Cf, Zl, Zp and Zs
abbrev pub is_unseen : GeneralCategory → Bool
is_unseen Format = true
is_unseen LineSeparator = true
is_unseen ParagraphSeparator = true
is_unseen SpaceSeparator = true
is_unseen _ = false

-- a scalar that can't be seen: of those categories, as bidirectional controls and blanks, and not the space
abbrev pub is_invisible : ℕ → Bool
is_invisible c = is_unseen (general_category c) && not (c == 0x20)

-- a scalar as it is shown: a tab as a blank, another control character as U+FFFD, an invisible one by its number as `\u{h}`, or itself
unfoldable pub shown_scalar : ℕ → List ℕ
shown_scalar c =
    if c == 9 then codes " "
    else (if is_control c then encode_utf8 0xFFFD
    else (if is_invisible c then codes "\\u{" ++ (digits 16 false c ++ codes "}")
    else encode_utf8 c))

-- the text of these scalars as they are shown
abbrev pub shown_text : List ℕ → List ℕ
shown_text scalars = flat_map shown_scalar scalars

-- `…`, which is U+2026, where any scalar is left out
abbrev pub ellipsis : ℕ → List ℕ
ellipsis zero = []
ellipsis (suc n) = encode_utf8 0x2026

-- the line before the place: its last 48 scalars
abbrev pub shown_before : List ℕ → List ℕ
shown_before prefix = ellipsis (length (chars prefix) - 48) ++ shown_text (drop (length (chars prefix) - 48) (chars prefix))

-- the line from the place on: its first 48 scalars
abbrev pub shown_after : List ℕ → List ℕ
shown_after rest = shown_text (take 48 (chars rest)) ++ ellipsis (length (chars rest) - 48)

-- the columns that a text takes
abbrev pub columns : List ℕ → ℕ
columns text = str_width false (chars text)

-- the marks: below the place, as wide as what is shown of what is marked, at least one
abbrev pub marks : List ℕ → List ℕ → List ℕ
marks prefix marked = replicate (columns (shown_before prefix)) 32 ++ replicate (max 1 (columns (shown_text (take 48 (chars marked))))) 94

-- the line, and the marks below it
abbrev pub shown_lines : List ℕ → List ℕ → List ℕ → List ℕ
shown_lines prefix rest marked = codes "  | " ++ (shown_before prefix ++ (shown_after rest ++ (codes "\n  | " ++ (marks prefix marked ++ codes "\n"))))
