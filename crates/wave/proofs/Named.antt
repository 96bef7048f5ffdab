-- What reading at a type says of a request.
use Rattle.std.proofs.Common.{ℕ, ◌≡◌, ◌≢◌, List, inl, inr, subst, sym, Result, Ok, Err, MatchResult}
use Rattle.std.specs.Prelude.{IsErrAnd}
use Rattle.wave_lex.specs.Errors.{Diagnostic}
use Rattle.wave_lex.specs.declared.error.ParserErrorKind.TheVariants as kind
use Rattle.wave_tree.specs.FromStr.{IsValueTaken, RefusesValue, IsRead, BlamesText}
use Rattle.wave_tree.specs.ParserState.{Parsing, Finishes, first_at, limited, start_of}
use Rattle.wave_tree.proofs.TextReading.TypedTexts.{whole_text}
use Rattle.wave_grammar.specs.ParserPosition.{Place}
use Rattle.wave_wasm.specs.Types.{TypeTree, HasDistinctNames}
use Rattle.wave_value.specs.FullTypes.{IsFull}
use Rattle.wave_value.specs.TypedValue.{TypedValue, IsAt}
use Rattle.wave_wasm.specs.Text.{text}
use Rattle.wave_writer.specs.WriterState.{IsForMemory, IsOutOfMemory}
use Rattle.wave_writer.specs.declared.writer.WriterError.{WriterError}
use Rattle.wave.specs.declared.request.Request.{Request}
use Rattle.wave.specs.declared.request.Request.TheVariants.{Read}
use Rattle.wave.specs.declared.answer.Unanswered.{Unanswered}
use Rattle.wave.specs.declared.answer.Unanswered.TheVariants as why
use Rattle.wave.specs.Answers.{Answers, IsRefused}
use Rattle.wave.specs.Private.Answers.{IsUnanswered}

-- what was read at a type
abbrev pub IsReadAt : TypeTree → ℕ → List ℕ → TypedValue → Type 0
IsReadAt T n s v = IsRead (λ (v : TypedValue). v.tree) (λ v T. IsAt T v) T n s v

-- the value that was read is the answer
pub answered : (T : TypeTree) (n : ℕ) (s : List ℕ) (v : TypedValue) (answer : List ℕ) → HasDistinctNames T → IsReadAt T n s v → answer ≡ text v.tree → Answers (Read T n) s answer
answered T n s v answer distinct read same = (v.tree, (read.meant distinct).0, same)

-- it is refused for lack of memory alone
pub wants_memory : (T : TypeTree) (n : ℕ) (s : List ℕ) (v : TypedValue) (e : WriterError) → HasDistinctNames T → IsReadAt T n s v → IsForMemory v.tree e → IsOutOfMemory e
wants_memory T n s v e distinct read memory = memory T (read.meant distinct).1.fits

-- a refusal that is handed on says what it said
pub handed_on : {X : Type 0} (Answer : X → Type 0) (request : Request) (s : List ℕ) (r : Result X Unanswered) (e : Diagnostic) → IsErrAnd r (λ unanswered. unanswered ≡ why.Refused e) → (e.kind ≢ kind.OutOfMemory → IsRefused request s e) → MatchResult r Answer (IsUnanswered request s)
handed_on Answer request s (Ok x) e same reported = absurd same
handed_on Answer request s (Err u) e same reported = subst (IsUnanswered request s) (sym same) reported

-- there was no memory for an answer
pub unshown : {X : Type 0} (Answer : X → Type 0) (request : Request) (s : List ℕ) (r : Result X Unanswered) (answer : List ℕ) → IsErrAnd r (λ unanswered. unanswered ≡ why.OutOfMemory) → Answers request s answer → MatchResult r Answer (IsUnanswered request s)
unshown Answer request s (Ok x) answer same answers = absurd same
unshown Answer request s (Err u) answer same answers = subst (IsUnanswered request s) (sym same) (answer, answers)

-- the refusal states a fault of the text, which has no answer; or it is out of memory
pub reported : (T : TypeTree) (n : ℕ) (s : List ℕ) (e : Diagnostic) → HasDistinctNames T → (HasDistinctNames T → BlamesText IsFull T n s e) → e.kind ≢ kind.OutOfMemory → IsRefused (Read T n) s e
reported T n s e distinct blames other = by (blames distinct) where
  by : BlamesText IsFull T n s e → IsRefused (Read T n) s e
  by (inl memory) = absurd (other memory)
  by (inr (inl (wrong, none))) = (wrong, λ answer found. none found.0 found.1)
  by (inr (inr (is, partly))) = absurd (partly distinct)

-- ---- a parser before the text

module _ (T : TypeTree) (n : ℕ) (s : List ℕ) (old : Parsing) (p : Place) (first : old ≡ limited (first_at (start_of s).lexer) n) where
  -- a value that was read there, with nothing after it
  pub read_whole : (v : TypedValue) → IsValueTaken (λ (v : TypedValue). v.tree) (λ v T. IsAt T v) T old.limit old.place p v → Finishes (Ok tt) p → IsReadAt T n s v
  read_whole v taken ends =
      (whole_text (λ (v : TypedValue). v.tree) (λ v T. IsAt T v) IsFull T n s).ends p v
      (subst (λ (z : Parsing). IsValueTaken (λ (v : TypedValue). v.tree) (λ v T. IsAt T v) T z.limit z.place p v) first taken) ends

  -- a value with something after it
  pub trails : (v : TypedValue) (e : Diagnostic) → HasDistinctNames T → IsValueTaken (λ (v : TypedValue). v.tree) (λ v T. IsAt T v) T old.limit old.place p v → Finishes (Err e) p → e.kind ≢ kind.OutOfMemory → IsRefused (Read T n) s e
  trails v e distinct taken ends =
      reported T n s e distinct ((whole_text (λ (v : TypedValue). v.tree) (λ v T. IsAt T v) IsFull T n s).trails p v e
      (subst (λ (z : Parsing). IsValueTaken (λ (v : TypedValue). v.tree) (λ v T. IsAt T v) T z.limit z.place p v) first taken) ends).blames

  -- a value that was refused
  pub refused_there : (e : Diagnostic) → HasDistinctNames T → RefusesValue IsFull T old.limit e old.place p → e.kind ≢ kind.OutOfMemory → IsRefused (Read T n) s e
  refused_there e distinct refused =
      reported T n s e distinct ((whole_text (λ (v : TypedValue). v.tree) (λ v T. IsAt T v) IsFull T n s).refused p e
      (subst (λ (z : Parsing). RefusesValue IsFull T z.limit e z.place p) first refused)).1
