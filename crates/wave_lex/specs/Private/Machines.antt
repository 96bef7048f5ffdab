-- What may follow a sign; the longest prefix of a count; tests of single bytes.
use Rattle.std.specs.Prelude.{ℕ, zero, suc, ◌||◌, Bool, true, false, not, nat_eq, codes, Option, Some, None}
use Rattle.wave_lex.specs.Regex.{Regex}
use Rattle.wave_lex.specs.Derive.{derivative_by}
use Rattle.wave_lex.specs.Machines.{is_digit}
use Rattle.wave_lex.specs.Tokens.{number}

-- what may follow in a number after a sign of so many bytes
abbrev pub after_sign : ℕ → Regex
after_sign zero = number
after_sign (suc k) = derivative_by (codes "-") number

-- `-` or a digit
abbrev pub begins_number : ℕ → Bool
begins_number b = nat_eq b 45 || is_digit b

-- not `.`, `e` or `E`
abbrev pub ends_whole : ℕ → Bool
ends_whole b = not (nat_eq b 46 || nat_eq b 101 || nat_eq b 69)

-- a space, a tab, a line feed or a carriage return
abbrev pub is_blank : ℕ → Bool
is_blank c = nat_eq c 32 || nat_eq c 9 || nat_eq c 10 || nat_eq c 13

-- not `"`, a backslash or a line feed
abbrev pub is_plain : ℕ → Bool
is_plain c = not (nat_eq c 34 || nat_eq c 92 || nat_eq c 10)

-- the longest prefix where this many bytes were counted: none is one, unless the empty text is
abbrev pub longest_of : Bool → ℕ → Option ℕ
longest_of true n = Some n
longest_of false zero = None
longest_of false (suc n) = Some (suc n)
