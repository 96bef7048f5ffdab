-- What is answered where each line of the input is a text of its own.
use Rattle.std.specs.Prelude.{ℕ, ◌≡◌, ◌≢◌, ◌≤◌, ◌+◌, ◌⊎◌, Bool, List, [], ◌∷◌, ◌++◌, length, None, Ok, IfSome, IsUtf8, MatchResult, codes}
use Rattle.std.specs.Fmt.{decimal}
use Rattle.std.specs.Io.KnownBytes.{Consumes}
use Rattle.std.specs.Str.Lines.{lines}
use Rattle.std.specs.declared.alloc.AllocError.{AllocError}
use Rattle.std.specs.declared.option.Option.{Option}
use Rattle.std.specs.declared.result.Result.{Result}
use Rattle.wave_lex.specs.Errors.{Diagnostic}
use Rattle.wave_grammar.specs.ParserPosition.{Place, TakesItem, TakesAny}
use Rattle.wave_tree.specs.ParserState.{start_of}
use Rattle.wave.specs.declared.request.Request.{Request}
use Rattle.wave.specs.declared.input.Input.{Input}
use Rattle.wave.specs.declared.input.RunError.{RunError}
use Rattle.wave.specs.declared.input.RunError.TheVariants.{NotUtf8, InputFailed, OutOfMemory}
use Rattle.wave_files.specs.declared.output.Output.{Output}
use Rattle.wave.specs.declared.program.Ended.{Ended}
use Rattle.wave.specs.Answers.{Answers, IsRefused, IsTextUpTo, words_of_fault}
use Rattle.wave.specs.Explained.{Explains, place_shown}
use Rattle.wave.specs.Lines.{line, IsInOneLine}
use Rattle.wave.specs.Options.{is_quiet, unless_quiet}
use Rattle.wave.specs.ReadFaults.{IsReadToEnd, IsUnread}
use Rattle.wave.specs.Requests.{AskByLines}
use Rattle.wave_files.specs.Written.{WritesWhole, WritesLess}

-- nothing stands in the text but whitespace and comments
abbrev pub IsBlank : List ℕ → Type 0
IsBlank text = (behind : Place) × TakesItem (start_of text) None behind

-- something else stands in it, a token or what is none
abbrev pub HasItem : List ℕ → Type 0
HasItem text = (behind : Place) × TakesAny (start_of text) behind

-- what is shown of the refusal of the line of this number: the number, and what explains the refusal
abbrev pub IsLineExplained : Request → ℕ → List ℕ → Diagnostic → List ℕ → Type 0
IsLineExplained request number text refusal shown =
    (explained : List ℕ) × Explains request text refusal explained × (shown ≡ codes "input line " ++ (decimal number ++ (codes ":\n" ++ explained)))

-- what is printed of the line of this number, and what is shown of it: of a blank line nothing; the request's answer; or
-- of a line on which it has none, the refusal that says so is shown
abbrev pub IsLineAnswer : Request → ℕ → List ℕ → List ℕ → List ℕ → Type 0
IsLineAnswer request number text said shown = IsUtf8 text × (
    IsBlank text × (said ≡ []) × (shown ≡ [])
    ⊎ Answers request text said × (shown ≡ [])
    ⊎ ((refusal : Diagnostic) × HasItem text × IsRefused request text refusal × (said ≡ []) × IsLineExplained request number text refusal shown))

-- so of each of these lines, of which the first has this number: a line is printed for each, in their order
abbrev pub AreAnswered : Request → ℕ → List (List ℕ) → List ℕ → List ℕ → Type 0
AreAnswered request number [] said shown = (said ≡ []) × (shown ≡ [])
AreAnswered request number (text ∷ texts) said shown =
    (answer : List ℕ) × (explained : List ℕ) × (answers : List ℕ) × (others : List ℕ)
    × IsLineAnswer request number text answer explained × AreAnswered request (number + 1) texts answers others
    × (said ≡ line answer ++ answers) × (shown ≡ explained ++ others)

-- the status where all lines were answered: 1 where a refusal is shown
abbrev pub IsStatusOf : List ℕ → ℕ → Type 0
IsStatusOf shown status = (status ≡ 0) × (shown ≡ []) ⊎ (status ≡ 1) × (shown ≢ [])

-- nothing is shown behind the explanations of lines, and there was memory for all that is shown
abbrev pub IsNothingShown : List ℕ → Result (Unit {0}) AllocError → Type 0
IsNothingShown last reported = (last ≡ []) × (reported ≡ Ok tt)

-- what is shown of the line of this number that is no text: the number, and at which of its bytes what is none begins, which is after so many
abbrev pub numbered_place : ℕ → ℕ → List ℕ
numbered_place number place = codes "input line " ++ (decimal number ++ (codes ":\n" ++ place_shown place))

-- what is shown of a fault at the line of this number: the place in one that is no text, or nothing where out of memory is answered; of
-- another fault nothing
abbrev pub IsPlaceShown : ℕ → RunError → List ℕ → Result (Unit {0}) AllocError → Type 0
IsPlaceShown number (NotUtf8 place) last reported =
    MatchResult reported (λ _. last ≡ numbered_place number place) (λ _. last ≡ [])
IsPlaceShown number InputFailed last reported = IsNothingShown last reported
IsPlaceShown number OutOfMemory last reported = IsNothingShown last reported

-- how many bytes with line feeds may have been read behind the lines that are answered, where a fault ended it: none where the input failed,
-- and else as many as one call of the reader gives
abbrev pub most_unanswered : RunError → ℕ
most_unanswered InputFailed = 0
most_unanswered (NotUtf8 place) = 65536
most_unanswered OutOfMemory = 65536

-- of the bytes left, where they are known, some were read whose lines are these, then some without a line feed, and then at most n more
abbrev pub AreRead : Option (List ℕ) → Option (List ℕ) → List (List ℕ) → ℕ → Type 0
AreRead left now texts n = IfSome left (λ _.
    (read : List ℕ) × (begun : List ℕ) × (last : List ℕ) × Consumes left now (read ++ (begun ++ last))
    × (lines read ≡ texts) × IsInOneLine begun × (length last ≤ n))

module _ {R : Type 0} where
  -- why these lines aren't answered: the first is no text; the input was not read to its end; or there was no memory, and no read failed
  abbrev pub IsLineFault : List (List ℕ) → Input R → Input R → RunError → Type 0
  IsLineFault rest old new (NotUtf8 place) =
      (bad : List ℕ) × (more : List (List ℕ)) × (rest ≡ bad ∷ more) × IsTextUpTo bad place × (new.failures ≡ old.failures)
  IsLineFault rest old new InputFailed = IsUnread old new
  IsLineFault rest old new OutOfMemory = new.failures ≡ old.failures

module _ {W : Type 0} (contents : W → Option (List ℕ)) where
  -- at status 3 the fault's words were printed behind these answers, unless quiet, and the place is shown of the line of this number; or a write failed,
  -- and nothing is shown
  abbrev pub EndsAtFault : Bool → Output W → Output W → RunError → ℕ → List ℕ → List ℕ → Ended → Type 0
  EndsAtFault quiet before after fault number said last ended =
      (ended.status ≡ 3)
      × (WritesWhole contents before after (said ++ unless_quiet quiet (line (words_of_fault fault))) × IsPlaceShown number fault last ended.shown
      ⊎ WritesLess contents before after (said ++ unless_quiet quiet (line (words_of_fault fault))) × IsNothingShown last ended.shown)

module _ {R W E : Type 0} (contents : W → Option (List ℕ)) (held : E → Option (List ℕ)) where
  -- what was printed: the answers of all lines, and the status is theirs; or, behind those of these lines, the words of a fault that keeps
  -- the next from being answered; or a beginning of the answers, as a write failed
  abbrev pub EndsBefore : Bool → List (List ℕ) → List (List ℕ) → Option (List ℕ) → Option (List ℕ) → Input R → Input R → Output W → Output W → List ℕ → List ℕ → List ℕ → Ended → Type 0
  EndsBefore quiet texts rest left now old new before after said shown last ended =
      (rest ≡ []) × IsReadToEnd old new × IsStatusOf shown ended.status × WritesWhole contents before after said × IsNothingShown last ended.shown
      ⊎ ((fault : RunError) × IsLineFault rest old new fault × AreRead left now texts (most_unanswered fault)
      × EndsAtFault contents quiet before after fault (1 + length texts) said last ended)
      ⊎ (ended.status ≡ 3) × WritesLess contents before after said × IsNothingShown last ended.shown

  -- the first lines of what the reader had left were answered, all unless a fault or a failed write ended it, and what explains refusals,
  -- and the fault, was written too, or a beginning of it where a write there failed; this is what the reader has left now
  pub record AnswersLines (quiet : Bool) (request : Request) (left now : Option (List ℕ)) (old new : Input R) (before after : Output W) (errors_before errors_after : Output E) (ended : Ended) : Type 0 where
    pub texts : List (List ℕ)
    pub rest : List (List ℕ)
    pub said : List ℕ
    pub shown : List ℕ
    pub last : List ℕ
    pub are_lines : IfSome left (λ bytes. lines bytes ≡ texts ++ rest)
    pub answered : AreAnswered request 1 texts said shown
    pub ends : EndsBefore quiet texts rest left now old new before after said shown last ended
    pub reported : WritesWhole held errors_before errors_after (shown ++ last) ⊎ WritesLess held errors_before errors_after (shown ++ last)

  -- the arguments ask for a request on each line, which was answered so
  abbrev pub RunsByLines : List (List ℕ) → Option (List ℕ) → Option (List ℕ) → Input R → Input R → Output W → Output W → Output E → Output E → Ended → Type 0
  RunsByLines words left now old new before after errors_before errors_after ended =
      (request : Request) × AskByLines request words
      × AnswersLines (is_quiet words) request left now old new before after errors_before errors_after ended
