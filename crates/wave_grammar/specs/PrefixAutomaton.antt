-- Which tokens begin a tree, and which token does not go on with them.
--
-- A prefix of the tokens of a tree is described by what is expected after it, and by the open forms: the
-- tuples, lists, payloads and entries whose open mark (for an entry its colon) was read and whose
-- value is expected or was just read, the innermost first. Each token either is read, which leaves
-- something else expected, or is refused in one of four ways. `Shifts` follows this from token to token.
-- A value within k open forms is on level k + 1. Where at most n levels are allowed and n forms
-- are open, each token at which a value is expected is too deep, whichever it is, unless it closes the
-- form.
use Rattle.std.specs.Prelude.{ℕ, ◌≡◌, Bool, true, false, if◌then◌else◌, nat_lt, List, [], ◌∷◌, ◌++◌, length}
use Rattle.wave_wasm.specs.Names.{is_one_of}
use Rattle.wave_grammar.specs.Token.{Token, brace_open, brace_close, paren_open, paren_close, bracket_open, bracket_close}
use Rattle.wave_grammar.specs.Token.{colon, comma, number, label, char, string, multiline}
use Rattle.wave_grammar.specs.LeafTokens.{name_of}
use Rattle.wave_grammar.specs.Tree.{Word, word_of, leaf_word, none_word, some_word, ok_word, err_word, case_word}

-- an open form: a value is expected in it, or stands there and its comma or its close is expected
pub data StackSymbol : Type 0 where
  tuple list payload entries : StackSymbol

-- what is expected; lists of names are those of the flags that were read
pub data Expectation : Type 0 where
  -- a value
  value : Expectation
  -- the first item of a tuple or a list, or the close
  first_item : Expectation
  -- after a comma a further item of a tuple or a list, or the close
  next_item : Expectation
  -- after a value what the innermost open form takes
  behind_value : Expectation
  -- after a label, `ok` or `err` a payload, or what is expected after a value
  behind_label : Expectation
  -- after `some` a payload
  paren : Expectation
  -- what stands in braces
  in_braces : Expectation
  -- after `{:` the close
  no_fields : Expectation
  -- after the first label in braces a colon if it is a key, a comma or the close if it is a flag
  behind_word : List ℕ → Expectation
  -- after a comma a further key, or the close
  key : Expectation
  -- after a key its colon
  behind_key : Expectation
  -- after a comma a further flag, or the close
  flag : List (List ℕ) → Expectation
  -- after a flag a comma or the close
  behind_flag : List (List ℕ) → Expectation

-- what a token does: it is read, and then this is expected within these forms; or it is refused
pub data Step : Type 0 where
  reads : Expectation → List StackSymbol → Step
  -- no tree goes on with it
  unexpected : Step
  -- it closes a tuple that is empty
  empty_tuple : Step
  -- it names a flag that these braces have already
  repeated_flag : Step
  -- it stands where a value is expected on a level past the last
  too_deep : Step

-- what is expected after a label that stands where a value is expected
abbrev pub expected_behind : Word → Expectation
expected_behind leaf_word = behind_value
expected_behind none_word = behind_value
expected_behind some_word = paren
expected_behind ok_word = behind_label
expected_behind err_word = behind_label
expected_behind case_word = behind_label

-- a token where a value is expected
abbrev pub value_step : List StackSymbol → Token → Step
value_step open_forms (number text) = reads behind_value open_forms
value_step open_forms (char text) = reads behind_value open_forms
value_step open_forms (string text) = reads behind_value open_forms
value_step open_forms (multiline text) = reads behind_value open_forms
value_step open_forms (label text) = reads (expected_behind (word_of text)) open_forms
value_step open_forms paren_open = reads first_item (tuple ∷ open_forms)
value_step open_forms bracket_open = reads first_item (list ∷ open_forms)
value_step open_forms brace_open = reads in_braces open_forms
value_step open_forms _ = unexpected

-- the same, where there are at most n levels
abbrev pub level_step : ℕ → List StackSymbol → Token → Step
level_step n open_forms t = if nat_lt (length open_forms) n then value_step open_forms t else too_deep

-- a token after a value; entries are closed between one entry and the next, since a key is no level
abbrev pub behind_step : List StackSymbol → Token → Step
behind_step (tuple ∷ outer) comma = reads next_item (tuple ∷ outer)
behind_step (tuple ∷ outer) paren_close = reads behind_value outer
behind_step (list ∷ outer) comma = reads next_item (list ∷ outer)
behind_step (list ∷ outer) bracket_close = reads behind_value outer
behind_step (payload ∷ outer) paren_close = reads behind_value outer
behind_step (entries ∷ outer) comma = reads key outer
behind_step (entries ∷ outer) brace_close = reads behind_value outer
behind_step _ _ = unexpected

-- the token closes the innermost form, which is a tuple or a list
abbrev pub closes : List StackSymbol → Token → Bool
closes (tuple ∷ outer) paren_close = true
closes (list ∷ outer) bracket_close = true
closes _ _ = false

-- the close of the innermost form
abbrev pub closed : List StackSymbol → Step
closed (form ∷ outer) = reads behind_value outer
closed [] = unexpected

-- the same before the first item: no tuple is empty
abbrev pub closed_empty : List StackSymbol → Step
closed_empty (tuple ∷ outer) = empty_tuple
closed_empty open_forms = closed open_forms

-- a token where a key or the close of its braces is expected
abbrev pub key_step : List StackSymbol → Token → Step
key_step open_forms (label text) = reads behind_key open_forms
key_step open_forms (number text) = reads behind_key open_forms
key_step open_forms (char text) = reads behind_key open_forms
key_step open_forms (string text) = reads behind_key open_forms
key_step open_forms (multiline text) = reads behind_key open_forms
key_step open_forms brace_close = reads behind_value open_forms
key_step open_forms _ = unexpected

-- a token after an open brace: a label may be a key or a flag
abbrev pub brace_step : List StackSymbol → Token → Step
brace_step open_forms (label text) = reads (behind_word text) open_forms
brace_step open_forms colon = reads no_fields open_forms
brace_step open_forms t = key_step open_forms t

-- a token where a further flag or the close is expected
abbrev pub flag_step : List (List ℕ) → List StackSymbol → Token → Step
flag_step names open_forms (label text) =
    if is_one_of names (name_of text) then repeated_flag else reads (behind_flag (names ++ name_of text ∷ [])) open_forms
flag_step names open_forms brace_close = reads behind_value open_forms
flag_step names open_forms _ = unexpected

-- the token is an open parenthesis
abbrev pub is_paren : Token → Bool
is_paren paren_open = true
is_paren _ = false

-- the token is a colon
abbrev pub is_colon : Token → Bool
is_colon colon = true
is_colon _ = false

-- the token is a closing brace
abbrev pub is_brace_close : Token → Bool
is_brace_close brace_close = true
is_brace_close _ = false

-- a token after a flag
abbrev pub behind_flag_step : List (List ℕ) → List StackSymbol → Token → Step
behind_flag_step names open_forms comma = reads (flag names) open_forms
behind_flag_step names open_forms brace_close = reads behind_value open_forms
behind_flag_step names open_forms _ = unexpected

-- a token after the first label in braces
abbrev pub word_behind_step : List ℕ → List StackSymbol → Token → Step
word_behind_step text open_forms colon = reads value (entries ∷ open_forms)
word_behind_step text open_forms t = behind_flag_step (name_of text ∷ []) open_forms t

-- what the token t does where this is expected, where there are at most n levels
abbrev pub step : ℕ → Expectation → List StackSymbol → Token → Step
step n value open_forms t = level_step n open_forms t
step n first_item open_forms t = if closes open_forms t then closed_empty open_forms else level_step n open_forms t
step n next_item open_forms t = if closes open_forms t then closed open_forms else level_step n open_forms t
step n behind_value open_forms t = behind_step open_forms t
step n behind_label open_forms t = if is_paren t then reads value (payload ∷ open_forms) else behind_step open_forms t
step n paren open_forms t = if is_paren t then reads value (payload ∷ open_forms) else unexpected
step n in_braces open_forms t = brace_step open_forms t
step n no_fields open_forms t = if is_brace_close t then reads behind_value open_forms else unexpected
step n (behind_word text) open_forms t = word_behind_step text open_forms t
step n key open_forms t = key_step open_forms t
step n behind_key open_forms t = if is_colon t then reads value (entries ∷ open_forms) else unexpected
step n (flag names) open_forms t = flag_step names open_forms t
step n (behind_flag names) open_forms t = behind_flag_step names open_forms t

-- from where d is expected within the forms s, the tokens lead to where e is expected within r
abbrev pub Shifts : ℕ → Expectation → List StackSymbol → List Token → Expectation → List StackSymbol → Type 0
Shifts n d s [] e r = (d ≡ e) × (s ≡ r)
Shifts n d s (t ∷ ts) e r = (d' : Expectation) × (s' : List StackSymbol) × (step n d s t ≡ reads d' s') × Shifts n d' s' ts e r

-- a value is expected, alone or beside a close
abbrev pub IsValueExpected : Expectation → Type 0
IsValueExpected value = Unit {0}
IsValueExpected first_item = Unit {0}
IsValueExpected next_item = Unit {0}
IsValueExpected _ = ⊥
