-- What a refusal and a fault of the input say of the line.
use Rattle.std.proofs.Common.{ℕ, ◌≡◌, ◌≢◌, ◌⊎◌, ◌∙◌, Bool, true, false, List, String, Global, Option, Some, None, MatchOption, Result, Ok, Err, IfOk, MatchResult, string_bytes, refl, inl, inr, sym, subst, rules, arith}
use Rattle.std.specs.declared.alloc.AllocError.{AllocError}
use Rattle.wave_lex.specs.Errors.{Diagnostic, error_text}
use Rattle.wave_lex.specs.declared.error.ParserErrorKind.TheVariants as kind
use Rattle.wave_tree.specs.ParserState.{IsLimit}
use Rattle.wave.specs.declared.request.Request.{Request}
use Rattle.wave.specs.declared.request.Request.TheVariants.{Value, Call, CallAt, Read}
use Rattle.wave.specs.declared.program.Ended.{Ended}
use Rattle.wave.specs.declared.input.Input.{Input}
use Rattle.wave.specs.declared.input.RunError.{RunError}
use Rattle.wave.specs.declared.input.RunError.TheVariants.{NotUtf8, InputFailed, OutOfMemory}
use Rattle.wave_files.specs.declared.output.Output.{Output}
use Rattle.wave.specs.Requests.{SayLimit, AreWordsOf}
use Rattle.wave.specs.Answers.{IsFaultOf, IsInput, words_of_fault}
use Rattle.wave.specs.ByLines.{AnswersLines, RunsByLines}
use Rattle.wave.specs.Explained.{ShowsPlace, ShowsRefusal, ShowsWhy, IsShown, IsFailure, place_shown}
use Rattle.wave.specs.Lines.{line}
use Rattle.wave.specs.Options.{is_by_lines, is_quiet, plain, unless_quiet}
use Rattle.wave.specs.ReadFaults.{IsReadToEnd}
use Rattle.wave.specs.Statuses.{IsLineOfRequest, IsLineOfRun}
use Rattle.wave_files.specs.Written.{Prints, WritesWhole, WritesLess}
use Rattle.wave.specs.Private.Requests.{IsFit, MakeNone}
use Rattle.wave.proofs.Spelled.{named_distinct, params_distinct}
use Rattle.wave.specs.Private.Answers.{ShowsText, ShowsFault, IsNoOutcome, Refuses, ReportsRefusal}

-- the limit that arguments name is one
is_limit : (words prefix : List (List ℕ)) (n : ℕ) → SayLimit words prefix n → IsLimit n
is_limit words prefix n (inl (is, hundred)) = subst IsLimit (sym hundred) (search rules)
is_limit words prefix n (inr (word, is, limit)) = limit.2

-- a request that arguments make is fit for a parser
pub is_fit : (words : List (List ℕ)) (request : Request) → AreWordsOf request words → IsFit request
is_fit words (Value n) asked = is_limit words _ n asked
is_fit words Call asked = tt
is_fit words (CallAt f) (word, is, names) = params_distinct word f names
is_fit words (Read T n) (word, tells, names) = (is_limit words _ n tells, named_distinct word T names)

-- a request that was found is one that the arguments make
pub found_so : (words others : List (List ℕ)) (found : Option Request) (request : Request) → MatchOption found (MakeNone words) (λ r. AreWordsOf r words) → found ≡ Some request → words ≡ others → AreWordsOf request others
found_so words others found request built is same = subst (AreWordsOf request) same (subst (λ f. MatchOption f (MakeNone words) (λ r. AreWordsOf r words)) is built)

pub none_so : (words others : List (List ℕ)) (found : Option Request) → MatchOption found (MakeNone words) (λ r. AreWordsOf r words) → found ≡ None → words ≡ others → MakeNone others
none_so words others found built is same = subst MakeNone same (subst (λ f. MatchOption f (MakeNone words) (λ r. AreWordsOf r words)) is built)

-- what a bool says of either value
pub written : {A B : Type 0} (b : Bool) → (b ≡ true → A) → (b ≡ false → B) → A ⊎ B
written true whole less = inl (whole refl)
written false whole less = inr (less refl)

module _ {E : Type 0} (contents : E → Option (List ℕ)) (old new : Output E) (r : Result (String Global) AllocError) (shown : Result (Unit {0}) AllocError) where
  -- a text of which something is so was shown, or there was no memory for it
  pub shown_text : (P : List ℕ → Type 0) → ShowsText contents old new r shown → IfOk r (λ text. P (string_bytes text))
      → MatchResult shown (λ _. (text : List ℕ) × P text × (WritesWhole contents old new text ⊎ WritesLess contents old new text)) (λ _. new ≡ old)
  shown_text P = by r where
    by : (r : Result (String Global) AllocError) → ShowsText contents old new r shown → IfOk r (λ text. P (string_bytes text))
        → MatchResult shown (λ _. (text : List ℕ) × P text × (WritesWhole contents old new text ⊎ WritesLess contents old new text)) (λ _. new ≡ old)
    by (Ok text) (wrote, is) so = rw is (string_bytes text, so, wrote)
    by (Err e) (same, is) so = rw is same

  -- so of a place in an input that is no text
  pub place_shown_of : (fault : RunError) (place : ℕ) → fault ≡ NotUtf8 place → ShowsText contents old new r shown → IfOk r (λ text. string_bytes text ≡ place_shown place) → ShowsPlace contents old new fault shown
  place_shown_of fault place fault_is = λ shows so. subst (λ f. ShowsPlace contents old new f shown) (sym fault_is) (by r shows so) where
    by : (r : Result (String Global) AllocError) → ShowsText contents old new r shown → IfOk r (λ text. string_bytes text ≡ place_shown place) → ShowsPlace contents old new (NotUtf8 place) shown
    by (Ok text) (wrote, is) so = rw is (subst (λ t. WritesWhole contents old new t ⊎ WritesLess contents old new t) so wrote)
    by (Err e) (same, is) so = rw is same

module _ {R : Type 0} where
  -- why there is no outcome is a fault of the input, or out of memory
  pub is_fault : (request : Request) (left : Option (List ℕ)) (old new : Input R) (fault : RunError) → IsNoOutcome request left old new fault → IsFaultOf left old new fault
  is_fault request left old new (NotUtf8 place) none = none
  is_fault request left old new InputFailed none = none
  is_fault request left old new OutOfMemory none = none.0

module _ {R : Type 0} {W : Type 0} (contents : W → Option (List ℕ)) where
  -- what is printed of a refusal is its line
  pub reported : (quiet : Bool) (request : Request) (left : Option (List ℕ)) (whole : List ℕ) (old new : Input R) (before after : Output W) (e : Diagnostic) (result : ℕ)
      → IsReadToEnd old new → IsInput left whole → Refuses request whole e → ReportsRefusal contents quiet before after e result
      → (status : ℕ) × (said : List ℕ) × IsLineOfRequest quiet request left old new status said × Prints contents before after said status result
  reported quiet request left whole old new before after e result ended input refuses (inl (other, prints)) =
      (1, unless_quiet quiet (line (error_text e)), inr (inl (refl, (whole, e, input, refuses other, refl), ended)), prints)
  reported quiet request left whole old new before after e result ended input refuses (inr prints) =
      (3, unless_quiet quiet (line (words_of_fault OutOfMemory)), inr (inr (refl, (OutOfMemory, ended.2, refl))), prints)

module _ {W : Type 0} (contents : W → Option (List ℕ)) where
  -- the status of the answer is that of what was printed
  pub printed_so : (before after : Output W) (said : List ℕ) (status result ended : ℕ) → ended ≡ result → Prints contents before after said status result → Prints contents before after said status ended
  printed_so before after said status result ended is prints = subst (Prints contents before after said status) (sym is) prints

  -- at status 1 the refusal's line was written
  reported_at_1 : (quiet : Bool) (before after : Output W) (e : Diagnostic) (result : ℕ) → ReportsRefusal contents quiet before after e result → result ≡ 1 → (e.kind ≢ kind.OutOfMemory) × WritesWhole contents before after (unless_quiet quiet (line (error_text e)))
  reported_at_1 quiet before after e result (inl (other, inl (is, writes))) one = (other, writes)
  reported_at_1 quiet before after e result (inl (other, inr (three, cut))) one = absurd (omega (arith, three, one))
  reported_at_1 quiet before after e result (inr (inl (three, writes))) one = absurd (omega (arith, three, one))
  reported_at_1 quiet before after e result (inr (inr (three, cut))) one = absurd (omega (arith, three, one))

  -- the refusal that was printed is shown
  pub shown : {E : Type 0} (held : E → Option (List ℕ)) (quiet : Bool) (request : Request) (left : Option (List ℕ)) (whole : List ℕ) (before after : Output W) (old new : Output E) (e : Diagnostic) (result : ℕ) (answered : Result (Unit {0}) AllocError)
      → IsInput left whole → Refuses request whole e → ReportsRefusal contents quiet before after e result → (result ≡ 1 → ShowsRefusal held request old new whole e answered)
      → result ≡ 1 → ShowsWhy quiet request left contents before after held old new answered
  shown held quiet request left whole before after old new e result answered input refuses tells shows one =
      let line_is = reported_at_1 quiet before after e result tells one in
      (whole, e, input, refuses line_is.0, line_is.1, shows one)

module _ {R W E : Type 0} (contents : W → Option (List ℕ)) (held : E → Option (List ℕ)) where
  module _ (words : List (List ℕ)) (quiet : Bool) (request : Request) (left now : Option (List ℕ)) (old new : Input R) (makes : AreWordsOf request (plain words)) (same : quiet ≡ is_quiet words) where
    -- so of a request that the arguments ask for
    pub line_of_run : (status : ℕ) (said : List ℕ) → is_by_lines words ≡ false → IsLineOfRequest quiet request left old new status said → IsLineOfRun words left old new status said
    line_of_run status said whole expected = inr (inr (inr (request, (makes, whole), subst (λ q. IsLineOfRequest q request left old new status said) same expected)))

    module _ (before after : Output W) (errors_before errors_after : Output E) where
      pub shown_of_run : (answered : Result (Unit {0}) AllocError) → is_by_lines words ≡ false → ShowsWhy quiet request left contents before after held errors_before errors_after answered → IsShown words left contents before after held errors_before errors_after answered
      shown_of_run answered whole shows = (request, (makes, whole), subst (λ q. ShowsWhy q request left contents before after held errors_before errors_after answered) same shows)

      -- so of one on each line
      pub run_by_lines : (ended : Ended) → is_by_lines words ≡ true → AnswersLines contents held quiet request left now old new before after errors_before errors_after ended → RunsByLines contents held words left now old new before after errors_before errors_after ended
      run_by_lines ended lines answers = (request, (makes, lines), subst (λ q. AnswersLines contents held q request left now old new before after errors_before errors_after ended) same answers)

  module _ (quiet : Bool) (left : Option (List ℕ)) (first last : Input R) (before after : Output W) (old new : Output E) (shown : Result (Unit {0}) AllocError) where
    -- a fault that was reported is a failure
    pub failed_so : (fault : RunError) → IsFaultOf left first last fault → ShowsFault quiet contents before after held old new fault shown → IsFailure quiet left first last contents before after held old new shown
    failed_so fault is (inl (wrote, shows)) = inl (fault, is, wrote, shows)
    failed_so fault is (inr (less, same, silent)) = inr (unless_quiet quiet (line (words_of_fault fault)), less, same, silent)

    pub failed_as : (other : Bool) → quiet ≡ other → IsFailure quiet left first last contents before after held old new shown → IsFailure other left first last contents before after held old new shown
    failed_as other is failure = subst (λ q. IsFailure q left first last contents before after held old new shown) is failure

    -- so is a line at another status that was not written whole
    pub failed_write : (said : List ℕ) (status result : ℕ) → Prints contents before after said status result → (status ≡ 3 → ⊥) → result ≡ 3 → new ≡ old → shown ≡ Ok tt → IsFailure quiet left first last contents before after held old new shown
    failed_write said status result (inl (is, wrote)) other three same silent = absurd (other (sym is ∙ three))
    failed_write said status result (inr (is, less)) other three same silent = inr (said, less, same, silent)

    -- so is a refusal that was not reported
    pub failed_refusal : (e : Diagnostic) (result : ℕ) → IsReadToEnd first last → ReportsRefusal contents quiet before after e result → result ≡ 3 → new ≡ old → shown ≡ Ok tt → IsFailure quiet left first last contents before after held old new shown
    failed_refusal e result ended (inl (other, prints)) three same silent = failed_write (unless_quiet quiet (line (error_text e))) 1 result prints (λ is. absurd (omega (arith, is))) three same silent
    failed_refusal e result ended (inr (inl (is, wrote))) three same silent = inl (OutOfMemory, ended.2, wrote, (same, silent))
    failed_refusal e result ended (inr (inr (is, less))) three same silent = inr (unless_quiet quiet (line (words_of_fault OutOfMemory)), less, same, silent)
