-- Why a call has no answer.
use Rattle.std.proofs.Common.{ℕ, List, ◌≡◌, ◌≢◌, Result, Ok, Err, IfErr, sym, subst, inl, inr}
use Rattle.std.specs.Prelude.{IsErrAnd}
use Rattle.wave_lex.specs.Errors.{Diagnostic}
use Rattle.wave_lex.specs.declared.error.ParserErrorKind.TheVariants as kind
use Rattle.wave_tape.specs.Errors.{Refusal}
use Rattle.wave_tape.specs.declared.error.TapeErrorKind.TheVariants as tape_kind
use Rattle.wave_type.specs.TypeErrors.{TypeRefusal}
use Rattle.wave_type.specs.declared.error.TypeErrorKind.TheVariants as type_kind
use Rattle.wave_c.specs.declared.ended.Argument.{Argument}
use Rattle.wave_c.specs.declared.ended.Failure.{Failure}
use Rattle.wave_c.specs.declared.ended.Failure.TheVariants.{Memory, NotUtf8, NoType, Refused, NoTape}
use Rattle.wave_c.specs.Failures.{IsTextUpTo, IsNotText, IsOfTypeRefusal, IsOfRefusal, IsOfTapeRefusal}

module _ (Fails : Failure → Type 0) where
  -- one that is handed on
  pub handed : {X : Type 0} (r : Result X Failure) (f : Failure) → IsErrAnd r (λ g. g ≡ f) → Fails f → IfErr r Fails
  handed (Ok x) f is fails = absurd is
  handed (Err g) f is fails = subst Fails (sym is) fails

  -- an argument that is no UTF-8
  pub not_text : (bytes : List ℕ) (argument : Argument) (f : Failure) → ((at : ℕ) → IsTextUpTo bytes at → Fails (NotUtf8 argument at)) → IsNotText bytes argument f → Fails f
  not_text bytes argument f fails is = subst Fails (sym is.1) (fails is.0 is.2)

  -- out of memory
  pub for_memory : {X : Type 0} (r : Result X Failure) → Fails Memory → IsErrAnd r (λ f. f ≡ Memory) → IfErr r Fails
  for_memory (Ok x) fails is = absurd is
  for_memory (Err f) fails is = subst Fails (sym is) fails

  -- a refusal of a type's text that is handed on
  pub type_refused : {X : Type 0} (r : Result X Failure) (e : TypeRefusal) → Fails Memory → (e.kind ≢ type_kind.OutOfMemory → Fails (NoType e)) → IsErrAnd r (λ f. IsOfTypeRefusal e f) → IfErr r Fails
  type_refused (Ok x) e memory fails is = absurd is
  type_refused (Err f) e memory fails (inl is) = subst Fails (sym is.0) memory
  type_refused (Err f) e memory fails (inr is) = subst Fails (sym is.0) (fails is.1)

  -- so a refusal of a text
  pub text_refused : {X : Type 0} (r : Result X Failure) (e : Diagnostic) → Fails Memory → (e.kind ≢ kind.OutOfMemory → Fails (Refused e)) → IsErrAnd r (λ f. IsOfRefusal e f) → IfErr r Fails
  text_refused (Ok x) e memory fails is = absurd is
  text_refused (Err f) e memory fails (inl is) = subst Fails (sym is.0) memory
  text_refused (Err f) e memory fails (inr is) = subst Fails (sym is.0) (fails is.1)

  -- so a refusal of a tape
  pub tape_refused : {X : Type 0} (r : Result X Failure) (e : Refusal) → Fails Memory → (e.kind ≢ tape_kind.OutOfMemory → Fails (NoTape e)) → IsErrAnd r (λ f. IsOfTapeRefusal e f) → IfErr r Fails
  tape_refused (Ok x) e memory fails is = absurd is
  tape_refused (Err f) e memory fails (inl is) = subst Fails (sym is.0) memory
  tape_refused (Err f) e memory fails (inr is) = subst Fails (sym is.0) (fails is.1)
