-- What may follow in each shape of tokens leads to itself alone.
use Rattle.std.proofs.Common.{◌≡◌, ℕ, true, List, ◌∷◌, refl}
use Rattle.wave_lex.specs.Regex.{Regex, nothing, empty}
use Rattle.wave_lex.specs.Machines.{after_each, number_texts, function_name_texts, label_or_keyword_texts, character_texts, string_texts, multiline_string_texts}
use Rattle.wave_lex.specs.Tokens.{number, function_name, label_or_keyword, character, string, multiline_string}
use Rattle.wave_lex.proofs.Machines.Steps.{is_closed}

-- what may follow in the shape after each of the texts, where a scalar may follow or not
abbrev pub rests_of : Regex → List (List ℕ) → List Regex
rests_of shape texts = nothing ∷ empty ∷ after_each shape texts

abbrev pub number_rests : List Regex
number_rests = rests_of number number_texts

pub number_closed : is_closed number_rests ≡ true
number_closed = refl

abbrev pub function_name_rests : List Regex
function_name_rests = rests_of function_name function_name_texts

pub function_name_closed : is_closed function_name_rests ≡ true
function_name_closed = refl

abbrev pub label_or_keyword_rests : List Regex
label_or_keyword_rests = rests_of label_or_keyword label_or_keyword_texts

pub label_or_keyword_closed : is_closed label_or_keyword_rests ≡ true
label_or_keyword_closed = refl

abbrev pub character_rests : List Regex
character_rests = rests_of character character_texts

pub character_closed : is_closed character_rests ≡ true
character_closed = refl

abbrev pub string_rests : List Regex
string_rests = rests_of string string_texts

pub string_closed : is_closed string_rests ≡ true
string_closed = refl

abbrev pub multiline_string_rests : List Regex
multiline_string_rests = rests_of multiline_string multiline_string_texts

pub multiline_string_closed : is_closed multiline_string_rests ≡ true
multiline_string_closed = refl
