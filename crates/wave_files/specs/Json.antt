-- Strings as JSON writes them.
use Rattle.std.specs.Prelude.{ℕ, List, ◌++◌, ◌==◌, nat_lt, false, if◌then◌else◌, chars, codes, encode_utf8}
use Rattle.std.specs.Fmt.{digits}
use Rattle.std.specs.List.{flat_map}

-- a scalar in a string: a quote and a backslash behind a backslash, one below 32 by its number, any other as itself
unfoldable pub json_scalar : ℕ → List ℕ
json_scalar c =
    if c == 34 then codes "\\\""
    else (if c == 92 then codes "\\\\"
    else (if nat_lt c 16 then codes "\\u000" ++ digits 16 false c
    else (if nat_lt c 32 then codes "\\u00" ++ digits 16 false c
    else encode_utf8 c)))

-- the text in quotes
abbrev pub json_string : List ℕ → List ℕ
json_string text = codes "\"" ++ (flat_map json_scalar (chars text) ++ codes "\"")
