-- Which brackets are open in tokens that are led. No public contract needs it.
use Rattle.std.specs.Prelude.{◌≡◌, Bool, true, false, if◌then◌else◌, List, [], ◌∷◌, map, Option, Some, None}
use Rattle.wave_lex.specs.declared.lex.Token as lex
use Rattle.wave_lex.specs.declared.lex.Token.TheVariants as class
use Rattle.wave_grammar.specs.PrefixAutomaton.{Expectation, StackSymbol, behind_value, behind_label, paren}
use Rattle.wave_grammar.specs.PrefixAutomaton.{in_braces, no_fields, behind_word, key, behind_key, flag, behind_flag, payload}

-- a payload stands in the open form
abbrev pub is_payload : StackSymbol → Bool
is_payload payload = true
is_payload _ = false

-- braces are open, and no value is expected or was just read in them
abbrev pub is_in_braces : Expectation → Bool
is_in_braces in_braces = true
is_in_braces no_fields = true
is_in_braces (behind_word text) = true
is_in_braces key = true
is_in_braces behind_key = true
is_in_braces (flag names) = true
is_in_braces (behind_flag names) = true
is_in_braces _ = false

-- of the brackets that are open, the innermost first, whether they have a payload
abbrev pub payloads : Expectation → List StackSymbol → List Bool
payloads d forms = if is_in_braces d then false ∷ map is_payload forms else map is_payload forms

-- something was read that may be the end of an item
abbrev pub is_behind : Expectation → Bool
is_behind behind_value = true
is_behind behind_label = true
is_behind paren = true
is_behind (behind_word text) = true
is_behind behind_key = true
is_behind (behind_flag names) = true
is_behind _ = false

-- a payload may begin
abbrev pub takes_payload : Expectation → Bool
takes_payload behind_label = true
takes_payload paren = true
takes_payload _ = false

-- an item may end with a token of this class
abbrev pub ends_item : Option lex.Token → Bool
ends_item None = false
ends_item (Some class.BraceOpen) = false
ends_item (Some class.ParenOpen) = false
ends_item (Some class.BracketOpen) = false
ends_item (Some class.Colon) = false
ends_item (Some class.Comma) = false
ends_item (Some _) = true

-- the last token is a label
abbrev pub is_label : Option lex.Token → Bool
is_label (Some class.LabelOrKeyword) = true
is_label _ = false

-- a token of the class closes a bracket
abbrev pub is_close : lex.Token → Bool
is_close class.BraceClose = true
is_close class.ParenClose = true
is_close class.BracketClose = true
is_close _ = false

-- the last token may be of this class where this is expected
pub record Follows (d : Expectation) (last : Option lex.Token) : Type 0 where
  pub ends : ends_item last ≡ true → is_behind d ≡ true
  pub label : takes_payload d ≡ true → is_label last ≡ true

-- the brackets but the innermost
abbrev pub outer_of : List Bool → List Bool
outer_of [] = []
outer_of (b ∷ more) = more

-- the brackets after a token of this class, which follows one of the class `last`
abbrev pub brackets_after : Option lex.Token → lex.Token → List Bool → List Bool
brackets_after last class.ParenOpen open_brackets = is_label last ∷ open_brackets
brackets_after last class.BraceOpen open_brackets = false ∷ open_brackets
brackets_after last class.BracketOpen open_brackets = false ∷ open_brackets
brackets_after last class.BraceClose open_brackets = outer_of open_brackets
brackets_after last class.ParenClose open_brackets = outer_of open_brackets
brackets_after last class.BracketClose open_brackets = outer_of open_brackets
brackets_after last _ open_brackets = open_brackets

-- items stand in the innermost bracket
abbrev pub HasItems : List Bool → Type 0
HasItems [] = ⊥
HasItems (b ∷ more) = b ≡ false
