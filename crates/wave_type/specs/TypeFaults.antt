-- Which token a type, or the type of a function, can't go on with, and why.
--
-- Tokens are taken from left to right. Of what was begun something is expected: a list of what has to stand
-- next and after that. A token that is the first of these is taken, and what is expected after it takes its place; else it is
-- refused. A number of levels is how many types may stand one inside another there.
use Rattle.std.specs.Prelude.{ℕ, zero, suc, if◌then◌else◌, List, [], ◌∷◌, ◌++◌, codes, Option, Some, None}
use Rattle.std.specs.Str.{bytes_eq}
use Rattle.wave_wasm.specs.declared.wasm.WasmTypeKind.{WasmTypeKind}
use Rattle.wave_wasm.specs.declared.wasm.WasmTypeKind.TheVariants as kinds
use Rattle.wave_wasm.specs.Names.{is_one_of}
use Rattle.wave_type.specs.declared.error.TypeErrorKind.{TypeErrorKind}
use Rattle.wave_type.specs.declared.error.TypeErrorKind.TheVariants.{UnexpectedToken, UnexpectedEnd, DuplicateName}
use Rattle.wave_type.specs.declared.error.TypeErrorKind.TheVariants.{InvalidKeyType, InvalidCount, NestingTooDeep}
use Rattle.wave_type.specs.TypeSpelling.{Tokens}
use Rattle.wave_type.specs.TypeWords.{kind_of_word, key_of_word, name_of_token, count_of_token, is_mark}

-- what may stand after a comma before the closing mark; the names are those that stood before
pub data Part : Type 0 where
  -- nothing more
  no_more : Part
  -- the length of a list
  a_length : Part
  -- the type of `err`
  err_type : ℕ → Part
  -- the next type of a tuple
  more_types : ℕ → Part
  -- the next field of a record, or parameter, or result
  more_fields : ℕ → List (List ℕ) → Part
  -- the next case of a variant
  more_cases : ℕ → List (List ℕ) → Part
  -- the next name of an enum or of flags
  more_names : List (List ℕ) → Part

-- what is expected
pub data Expectation : Type 0 where
  -- this token
  mark_expected : List ℕ → Expectation
  -- a type
  type_expected : ℕ → Expectation
  -- the key type of a map
  key_expected : Expectation
  -- the type of `ok`, or `_`
  ok_expected : ℕ → Expectation
  -- the first part, and then what closes its form
  part_expected : List ℕ → Part → Expectation
  -- the closing mark, or a comma
  close_expected : List ℕ → Part → Expectation
  -- after a comma the closing mark, or one part more
  last_expected : List ℕ → Part → Expectation
  -- after `result` its types, or nothing of them
  payloads_expected : ℕ → Expectation
  -- after the name of a case its payload, or nothing of it
  payload_expected : ℕ → Expectation
  -- after parameters the results, or nothing of them
  results_expected : ℕ → Expectation
  -- after `->` one type, or named ones in parentheses
  result_expected : ℕ → Expectation

-- what a token does
pub data Step : Type 0 where
  -- it is taken, and these are expected in its place
  takes : List Expectation → Step
  -- nothing of what is expected stands here; the token is for what is expected after that
  passes : Step
  -- it can't stand here
  refuses : TypeErrorKind → Step

-- what is expected after the word of a kind, whose parts have n levels; two kinds have no word, and nothing stands after it
abbrev pub expected_behind : ℕ → WasmTypeKind → List Expectation
expected_behind n kinds.List = mark_expected (codes "<") ∷ type_expected n ∷ close_expected (codes ">") a_length ∷ []
expected_behind n kinds.Option = mark_expected (codes "<") ∷ type_expected n ∷ close_expected (codes ">") no_more ∷ []
expected_behind n kinds.Map = mark_expected (codes "<") ∷ key_expected ∷ mark_expected (codes ",") ∷ type_expected n ∷ close_expected (codes ">") no_more ∷ []
expected_behind n kinds.Result = payloads_expected n ∷ []
expected_behind n kinds.Tuple = mark_expected (codes "<") ∷ part_expected (codes ">") (more_types n) ∷ []
expected_behind n kinds.Record = mark_expected (codes "{") ∷ part_expected (codes "}") (more_fields n []) ∷ []
expected_behind n kinds.Variant = mark_expected (codes "{") ∷ part_expected (codes "}") (more_cases n []) ∷ []
expected_behind n kinds.Enum = mark_expected (codes "{") ∷ part_expected (codes "}") (more_names []) ∷ []
expected_behind n kinds.Flags = mark_expected (codes "{") ∷ part_expected (codes "}") (more_names []) ∷ []
expected_behind n kinds.FixedLengthList = part_expected (codes ">") no_more ∷ []
expected_behind n kinds.Unsupported = part_expected (codes ">") no_more ∷ []
expected_behind n _ = []

-- and then these are expected
abbrev pub before : Step → List Expectation → Step
before (takes expectations) more = takes (expectations ++ more)
before passes more = passes
before (refuses kind) more = refuses kind

-- a token where a type is expected: the word of a kind, where a level is left
abbrev pub word_step : ℕ → Option WasmTypeKind → Step
word_step n None = refuses UnexpectedToken
word_step zero (Some kind) = refuses NestingTooDeep
word_step (suc n) (Some kind) = takes (expected_behind n kind)

-- a token where a type is expected
abbrev pub type_step : ℕ → List ℕ → Step
type_step n t = word_step n (kind_of_word t)

module _ {A : Type 0} where
  -- the token is what is expected there, or else is refused for not being so, marks as any token
  abbrev pub only_step : Option A → TypeErrorKind → List ℕ → List Expectation → Step
  only_step (Some a) kind t expectations = takes expectations
  only_step None kind t expectations = refuses (if is_mark t then UnexpectedToken else kind)

-- a token where a name is expected that is none of these, by the name that it is; what is expected after it has one name more
abbrev pub name_step : List (List ℕ) → Option (List ℕ) → (List (List ℕ) → List Expectation) → Step
name_step names None next = refuses UnexpectedToken
name_step names (Some name) next = if is_one_of names name then refuses DuplicateName else takes (next (names ++ name ∷ []))

-- a token where a part is expected, in a form that the mark closes
abbrev pub part_step : List ℕ → Part → List ℕ → Step
part_step mark no_more t = refuses UnexpectedToken
part_step mark a_length t = only_step (count_of_token t) InvalidCount t (close_expected mark no_more ∷ [])
part_step mark (err_type n) t = before (type_step n t) (close_expected mark no_more ∷ [])
part_step mark (more_types n) t = before (type_step n t) (close_expected mark (more_types n) ∷ [])
part_step mark (more_fields n names) t =
    name_step names (name_of_token t) (λ names. mark_expected (codes ":") ∷ type_expected n ∷ close_expected mark (more_fields n names) ∷ [])
part_step mark (more_cases n names) t = name_step names (name_of_token t) (λ names. payload_expected n ∷ close_expected mark (more_cases n names) ∷ [])
part_step mark (more_names names) t = name_step names (name_of_token t) (λ names. close_expected mark (more_names names) ∷ [])

-- what a token does where this is expected
abbrev pub step : Expectation → List ℕ → Step
step (mark_expected mark) t = if bytes_eq t mark then takes [] else refuses UnexpectedToken
step (type_expected n) t = type_step n t
step key_expected t = only_step (key_of_word t) InvalidKeyType t []
step (ok_expected n) t =
    if bytes_eq t (codes "_")
    then takes (mark_expected (codes ",") ∷ type_expected n ∷ close_expected (codes ">") no_more ∷ [])
    else before (type_step n t) (close_expected (codes ">") (err_type n) ∷ [])
step (part_expected mark part) t = part_step mark part t
step (close_expected mark part) t =
    if bytes_eq t mark then takes [] else if bytes_eq t (codes ",") then takes (last_expected mark part ∷ []) else refuses UnexpectedToken
step (last_expected mark part) t = if bytes_eq t mark then takes [] else part_step mark part t
step (payloads_expected n) t = if bytes_eq t (codes "<") then takes (ok_expected n ∷ []) else passes
step (payload_expected n) t = if bytes_eq t (codes "(") then takes (type_expected n ∷ mark_expected (codes ")") ∷ []) else passes
step (results_expected n) t = if bytes_eq t (codes "-") then takes (mark_expected (codes ">") ∷ result_expected n ∷ []) else passes
step (result_expected n) t = if bytes_eq t (codes "(") then takes (part_expected (codes ")") (more_fields n []) ∷ []) else type_step n t

-- a kind of refusal, and the tokens that are left, from the refused one on
abbrev pub Fault : Type 0
Fault = Option (TypeErrorKind × Tokens)

-- no tokens are left: refused where anything is expected that has to stand
abbrev pub ended : List Expectation → Fault
ended [] = None
ended (payloads_expected n ∷ expectations) = ended expectations
ended (payload_expected n ∷ expectations) = ended expectations
ended (results_expected n ∷ expectations) = ended expectations
ended (expected ∷ expectations) = Some (UnexpectedEnd, [])

-- the token t before ts, by what is refused of ts after it
abbrev pub at_token : List ℕ → Tokens → (List Expectation → Fault) → List Expectation → Fault
at_token t ts onward [] = Some (UnexpectedToken, t ∷ ts)
at_token t ts onward (expected ∷ expectations) =
    elim (step expected t) as (λ _. Fault) [
      | takes more ↦ onward (more ++ expectations)
      | passes ↦ at_token t ts onward expectations
      | refuses kind ↦ Some (kind, t ∷ ts)
    ]

-- which token is refused where just these are expected, one after the other; none where the tokens are all of these
abbrev pub refused : Tokens → List Expectation → Fault
refused [] expectations = ended expectations
refused (t ∷ ts) expectations = at_token t ts (refused ts) expectations

-- what is expected of a type, within n levels
abbrev pub expected_of_type : ℕ → List Expectation
expected_of_type n = type_expected n ∷ []

-- what is expected of the type of a function
abbrev pub expected_of_function : ℕ → List Expectation
expected_of_function n = mark_expected (codes "func") ∷ mark_expected (codes "(") ∷ last_expected (codes ")") (more_fields n []) ∷ results_expected n ∷ []
