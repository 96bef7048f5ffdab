-- What may follow in the states of the machine: where it begins, and in each row of its table; tests of scalars. Users need not read it.
use Rattle.std.specs.Prelude.{ℕ, ◌||◌, Bool, List, [], ◌∷◌, ◌++◌, slice_index_or, codes}
use Rattle.wave_lex.specs.Regex.{Regex, nothing, empty, is_within}
use Rattle.wave_lex.specs.Derive.{derivative_by}
use Rattle.wave_lex.specs.Tokens.{number, function_name, label, label_or_keyword, character, string, invalid, whitespace}
use Rattle.wave_lex.specs.declared.machine.Start.{Start}
use Rattle.wave_lex.specs.declared.machine.Start.TheVariants as start

-- what may follow where the machine begins
abbrev pub rest : Start → Regex
rest start.Number = number
rest start.Zero = derivative_by (codes "0") number
rest start.WholePart = derivative_by (codes "1") number
rest start.Fraction = derivative_by (codes "0.0") number
rest start.FunctionName = function_name
rest start.Label = label
rest start.LowerWord = derivative_by (codes "a") label
rest start.LabelOrKeyword = label_or_keyword
rest start.Character = character
rest start.String = string
rest start.InString = derivative_by (codes "\"") string
rest start.Invalid = invalid
rest start.Whitespace = whitespace

-- the row at which the machine begins
abbrev pub first_row : Start → ℕ
first_row start.Number = 2
first_row start.Zero = 6
first_row start.WholePart = 7
first_row start.Fraction = 9
first_row start.FunctionName = 13
first_row start.Label = 41
first_row start.LowerWord = 42
first_row start.LabelOrKeyword = 46
first_row start.Character = 47
first_row start.String = 59
first_row start.InString = 60
first_row start.Invalid = 70
first_row start.Whitespace = 78

-- what may follow in the shape after each of the texts
abbrev pub after_each : Regex → List (List ℕ) → List Regex
after_each shape [] = []
after_each shape (s ∷ texts) = derivative_by s shape ∷ after_each shape texts

-- the texts that lead to the rows of the shape `number`
abbrev pub number_texts : List (List ℕ)
number_texts =
    [] ∷ codes "-" ∷ codes "-i" ∷ codes "-in" ∷ codes "0" ∷ codes "1" ∷ codes "0." ∷ codes "0.0" ∷
    codes "0e" ∷ codes "0e-" ∷ codes "0e0" ∷ []

-- the texts that lead to the rows of the shape `function_name`
abbrev pub function_name_texts : List (List ℕ)
function_name_texts =
    [] ∷ codes "a" ∷ codes "A" ∷ codes "a-" ∷ codes "a-0" ∷ codes "a:" ∷ codes "a:a" ∷ codes "a:A" ∷
    codes "a:a-" ∷ codes "a:a-0" ∷ codes "a:a/" ∷ codes "a:a/a" ∷ codes "a:a/A" ∷ codes "a:a/a-" ∷
    codes "a:a/a-0" ∷ codes "a." ∷ codes "a.a" ∷ codes "a.A" ∷ codes "a.a-" ∷ codes "a.a-0" ∷ codes "a@" ∷
    codes "a@0" ∷ codes "a@1" ∷ codes "a@0." ∷ codes "a@0.0" ∷ codes "a@0.1" ∷ codes "a@0.0." ∷
    codes "a@0.0.1" ∷ []

-- the texts that lead to the rows of the shape `label_or_keyword`
abbrev pub label_or_keyword_texts : List (List ℕ)
label_or_keyword_texts =
    codes "%" ∷ codes "a" ∷ codes "A" ∷ codes "a-" ∷ codes "a-0" ∷ [] ∷ []

-- the texts that lead to the rows of the shape `character`
abbrev pub character_texts : List (List ℕ)
character_texts =
    [] ∷ codes "'" ∷ codes "'a" ∷ codes "'\\" ∷ codes "'\\u" ∷ codes "'\\u{" ∷ codes "'\\u{0" ∷
    codes "'\\u{00" ∷ codes "'\\u{000" ∷ codes "'\\u{0000" ∷ codes "'\\u{00000" ∷ codes "'\\u{000000" ∷ []

-- the texts that lead to the rows of the shape `string`
abbrev pub string_texts : List (List ℕ)
string_texts =
    [] ∷ codes "\"" ∷ codes "\"\\" ∷ codes "\"\\u" ∷ codes "\"\\u{" ∷ codes "\"\\u{0" ∷ codes "\"\\u{00" ∷
    codes "\"\\u{000" ∷ codes "\"\\u{0000" ∷ codes "\"\\u{00000" ∷ codes "\"\\u{000000" ∷ []

-- the texts that lead to the rows of the shape `invalid`
abbrev pub invalid_texts : List (List ℕ)
invalid_texts =
    [] ∷ codes "'" ∷ codes "'a" ∷ codes "'aa" ∷ codes "'aaa" ∷ codes "'aaaa" ∷ codes "\"" ∷ codes "\"\"" ∷ []

-- the texts that lead to the rows of the shape `whitespace`
abbrev pub whitespace_texts : List (List ℕ)
whitespace_texts =
    [] ∷ codes "/" ∷ codes "//" ∷ []

-- the texts that lead to what may follow in a multiline string; the table has no rows for them
abbrev pub multiline_string_texts : List (List ℕ)
multiline_string_texts =
    [] ∷ codes "\"" ∷ codes "\"\"" ∷ codes "\"\"\"" ∷ codes "\"\"\"\"" ∷ codes "\"\"\"\"\"" ∷ codes "\"\"\"\"\"\"" ∷ []

-- what may follow in each row
abbrev pub rests : List Regex
rests = nothing ∷ empty ∷ after_each number number_texts ++ after_each function_name function_name_texts ++ after_each label_or_keyword label_or_keyword_texts ++ after_each character character_texts ++ after_each string string_texts ++ after_each invalid invalid_texts ++ after_each whitespace whitespace_texts

-- what may follow in this row
abbrev pub rest_at : ℕ → Regex
rest_at row = slice_index_or rests row nothing

-- 0 to 9
abbrev pub is_digit : ℕ → Bool
is_digit b = is_within 48 57 b

-- a lower-case letter or a digit
abbrev pub is_lower : ℕ → Bool
is_lower b = is_within 97 122 b || is_digit b

-- 0 to 9, a to f, or A to F
abbrev pub is_hexadecimal : ℕ → Bool
is_hexadecimal c = is_within 48 57 c || is_within 97 102 c || is_within 65 70 c
