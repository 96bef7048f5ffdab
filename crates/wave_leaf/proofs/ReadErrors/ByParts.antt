-- An error is what its parts say, since its cause isn't out of memory.
use Rattle.std.proofs.Common.{◌≡◌, ◌≢◌, ℕ, List, Option, Some, None, String, inl, inr, ◌∙◌, refl, ap, subst}
use Rattle.std.specs.Borrow.{Bor}
use Rattle.std.specs.declared.alloc.Global.{Global}
use Rattle.std.specs.Prelude.{MatchOption}
use Rattle.std.specs.String.{string_bytes}
use Rattle.std.specs.declared.ops.Range.{Range}
use Rattle.wave_wasm.specs.declared.wasm.WasmValueError.{WasmValueError}
use Rattle.wave_wasm.specs.declared.wasm.WasmValueError.TheVariants as error
use Rattle.wave_wasm.specs.ValueErrors.{cause_of}
use Rattle.wave_lex.specs.Errors.{Diagnostic, Refusal, IsNoMemory, class_name, plainly, refusal_of}
use Rattle.wave_lex.specs.ErrorDetails.{detail_cause, detail_text, error_with}
use Rattle.wave_lex.specs.declared.error.Detail.{Detail}
use Rattle.wave_lex.specs.declared.error.Detail.TheVariants as detail
use Rattle.wave_lex.specs.declared.error.ParserErrorKind.{ParserErrorKind}
use Rattle.wave_lex.specs.declared.error.ParserErrorKind.TheVariants as why
use Rattle.wave_leaf.specs.Errors.{AreNoStaticWords, CauseHasText, HasText, IsSameOrMemory, NeedsMemory, detailed, error_at, static_words}
use Rattle.wave_leaf.specs.Private.Errors.{IsErrorOf}
use Rattle.wave_leaf.specs.declared.error.Reason.{Reason}
use Rattle.wave_leaf.specs.declared.error.Reason.TheVariants as reason

-- a detail that isn't out of memory is kept
kept_whole : (k : ParserErrorKind) (p : Range ℕ) (d : Detail) → IsNoMemory (detail_cause d) → error_with k p d ≡ record { kind = k; span = p; detail = detail_text d; cause = detail_cause d }
kept_whole k p detail.None h = refl
kept_whole k p (detail.Static s) h = refl
kept_whole k p (detail.Owned s) h = refl
kept_whole k p (detail.Cause (error.MissingField s)) h = refl
kept_whole k p (detail.Cause (error.MissingPayload s)) h = refl
kept_whole k p (detail.Cause (error.UnexpectedPayload s)) h = refl
kept_whole k p (detail.Cause (error.UnknownCase s)) h = refl
kept_whole k p (detail.Cause (error.UnknownField s)) h = refl
kept_whole k p (detail.Cause (error.UnsupportedType s)) h = refl
kept_whole k p (detail.Cause (error.Other s)) h = refl
kept_whole k p (detail.Cause (error.WrongNumberOfElements w g)) h = refl
kept_whole k p (detail.Cause (error.WrongNumberOfTupleValues w g)) h = refl
kept_whole k p (detail.Cause (error.WrongTypeKind w g)) h = refl
kept_whole k p (detail.Cause (error.WrongValueType w g)) h = refl
kept_whole k p (detail.Cause (error.Memory e)) h = absurd h

-- an error of these parts
same_parts : (e : Diagnostic) (k : ParserErrorKind) (p : Range ℕ) (t : Option (List ℕ)) (c : Option WasmValueError) → k ≡ e.kind → p ≡ e.span → t ≡ e.detail → c ≡ e.cause → record { kind = k; span = p; detail = t; cause = c } ≡ e
same_parts e k p t c a b f g = rw (a, b, f, g) refl

-- an error is made again of its parts
built_again : (e : Diagnostic) (k : ParserErrorKind) (p : Range ℕ) (d : Detail) → k ≡ e.kind → p ≡ e.span → detail_text d ≡ e.detail → detail_cause d ≡ e.cause → IsNoMemory (detail_cause d) → error_with k p d ≡ e
built_again e k p d a b t c h = kept_whole k p d h ∙ same_parts e k p (detail_text d) (detail_cause d) a b t c

-- an error of words that were copied is one of the words
pub copied : (k : ParserErrorKind) (p : Range ℕ) (words : Bor (List ℕ)) (copy : String Global) (e : Diagnostic) → string_bytes copy ≡ words.now → IsErrorOf k p (detail.Owned copy) e → IsErrorOf k p (detail.Static words) e
copied k p words copy e same (inl is) = inl (is ∙ ap (λ (t : List ℕ). detailed k p (Some t)) same)
copied k p words copy e same (inr own) = inr (subst AreNoStaticWords same own.0, own.1)

-- where a detail has a text of its own, so has the error
text_said : (e : Diagnostic) (d : Detail) → HasText d → detail_text d ≡ e.detail → detail_cause d ≡ e.cause → NeedsMemory e
text_said e detail.None held t c = absurd held
text_said e (detail.Static s) held t c = inl (subst (λ o. MatchOption o ⊥ AreNoStaticWords) t held)
text_said e (detail.Owned s) held t c = inl (subst (λ o. MatchOption o ⊥ AreNoStaticWords) t held)
text_said e (detail.Cause w) held t c = inr (subst (λ o. MatchOption o ⊥ CauseHasText) c held)

-- an error in few bytes is the same, or out of memory
pub kept_or_memory : (e f : Diagnostic) (k : ParserErrorKind) (p : Range ℕ) (d : Detail) → k ≡ e.kind → p ≡ e.span → detail_text d ≡ e.detail → detail_cause d ≡ e.cause → IsNoMemory (detail_cause d) → IsErrorOf k p d f → IsSameOrMemory e f
kept_or_memory e f k p d a b t c h (inl same) = inl (same ∙ built_again e k p d a b t c h)
kept_or_memory e f k p d a b t c h (inr held) = inr (text_said e d held.0 t c, held.1 ∙ ap (λ (q : Range ℕ). detailed why.OutOfMemory q None) b)

-- an error with a cause isn't one of a form alone
cause_no_form : (k : ParserErrorKind) (p : Range ℕ) (e : WasmValueError) → refusal_of (error_with k p (detail.Cause e)) ≢ plainly why.InvalidType
cause_no_form k p (error.Memory a) = λ same. let is : why.OutOfMemory ≡ why.InvalidType = ap (λ (r : Refusal). r.kind) same in absurd (cc)
cause_no_form k p e = λ same. let some : Some (cause_of e) ≡ None = ap (λ (r : Refusal). r.cause) same in cc

-- nor is one for another reason than a kind
pub no_form : (r : Reason) (p : Range ℕ) → ((k : ParserErrorKind) → r ≢ reason.Plain k) → refusal_of (error_at p r) ≢ plainly why.InvalidType
no_form (reason.Plain k) p other = λ same. other k refl
no_form (reason.Class k class) p other = λ same. let some : Some (class_name class) ≡ None = ap (λ (r : Refusal). r.detail) same in cc
no_form (reason.Static k d) p other = λ same. let some : Some (static_words d) ≡ None = ap (λ (r : Refusal). r.detail) same in cc
no_form (reason.Words k words) p other = λ same. let some : Some (string_bytes words.value) ≡ None = ap (λ (r : Refusal). r.detail) same in cc
no_form (reason.Elements k want got) p other = cause_no_form k p (error.WrongNumberOfElements want got)
no_form (reason.TupleValues k want got) p other = cause_no_form k p (error.WrongNumberOfTupleValues want got)
no_form (reason.Cause k cause) p other = cause_no_form k p cause.value
