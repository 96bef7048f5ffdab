-- The class that the first scalar of a token shows. Users need not read it.
use Rattle.std.specs.Prelude.{◌≡◌, ℕ, ◌||◌, nat_eq, if◌then◌else◌, List, Option, Some, None}
use Rattle.wave_lex.specs.declared.lex.Token.{Token}
use Rattle.wave_lex.specs.declared.lex.Token.TheVariants.{BraceOpen, BraceClose, ParenOpen, ParenClose, BracketOpen, BracketClose}
use Rattle.wave_lex.specs.declared.lex.Token.TheVariants.{Colon, Comma, Number, LabelOrKeyword, Char, String}
use Rattle.wave_lex.specs.Regex.{is_within}
use Rattle.wave_lex.specs.Tokenization.{MayStandAt, IsToken, NoToken}

-- which class the first scalar of a token shows; the two kinds of strings begin alike
abbrev pub class_of : ℕ → Option Token
class_of c =
    if nat_eq c 123 then Some BraceOpen
    else (if nat_eq c 125 then Some BraceClose
    else (if nat_eq c 40 then Some ParenOpen
    else (if nat_eq c 41 then Some ParenClose
    else (if nat_eq c 91 then Some BracketOpen
    else (if nat_eq c 93 then Some BracketClose
    else (if nat_eq c 58 then Some Colon
    else (if nat_eq c 44 then Some Comma
    else (if nat_eq c 45 || is_within 48 57 c then Some Number
    else (if nat_eq c 37 || is_within 97 122 c || is_within 65 90 c then Some LabelOrKeyword
    else (if nat_eq c 39 then Some Char
    else (if nat_eq c 34 then Some String
    else None)))))))))))

-- each token at the start of r is in the class
abbrev pub ClassAt : List ℕ → Option Token → Type 0
ClassAt r None = NoToken r
ClassAt r (Some c) = ((k : ℕ) (d : Token) → IsToken r k d → d ≡ c) × ((k : ℕ) → MayStandAt r k c)
