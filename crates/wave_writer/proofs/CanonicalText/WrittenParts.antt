-- How the parts that are written join to the whole.
use Rattle.std.proofs.Common.{ℕ, ◌≡◌, List, [], ◌++◌, Bool, true, false, refl, sym, ap, ◌∙◌, append_assoc, arith, subst}
use Rattle.std.specs.Prelude.{Result, Ok, Err}
use Rattle.std.proofs.lemmas.List.{append-nil}
use Rattle.std.proofs.lemmas.Result.{IfOk-weaker, IfErr-weaker}
use Rattle.std.specs.declared.alloc.AllocError.{AllocError}
use Rattle.wave_writer.specs.declared.writer.WriterError.{WriterError}
use Rattle.wave_writer.specs.WriterState.{Output, Appended, IsGrounded, CountsOnce, Refused}
use Rattle.wave_writer.specs.Private.WriterState.{Writes}

-- of the text `whole`, all but `rest` was taken, and no write failed
pub record Writing (whole rest : List ℕ) (old now : Output) : Type 0 where
  pub done : List ℕ
  pub written : now.written ≡ old.written ++ done
  pub failures : now.failures ≡ old.failures
  pub whole_is : whole ≡ done ++ rest

pub writing_none : (whole : List ℕ) (old : Output) → Writing whole whole old old
writing_none whole old = record { done = []; written = sym (append-nil old.written); failures = refl; whole_is = refl }

pub writing_more : {whole part rest : List ℕ} {old now new : Output} → Writing whole (part ++ rest) old now → Appended part now new → Writing whole rest old new
writing_more {whole} {part} {rest} {old} w a = record {
  done = w.done ++ part;
  written = a.written ∙ (ap (λ s. s ++ part) w.written ∙ append_assoc old.written w.done part);
  failures = a.failures ∙ w.failures;
  whole_is = w.whole_is ∙ sym (append_assoc w.done part rest);
}

pub writing_all : {whole : List ℕ} {old new : Output} → Writing whole [] old new → Appended whole old new
writing_all {whole} {old} w = record {
  written = w.written ∙ ap (λ s. old.written ++ s) (sym (w.whole_is ∙ append-nil w.done));
  failures = w.failures;
}

grounded_later : (e : WriterError) (writable all : Bool) (old now new : ℕ) → now ≡ old → (writable ≡ false → all ≡ false) → IsGrounded e writable now new → IsGrounded e all old new
grounded_later (WriterError.Io e) writable all old now new is h g = search arith
grounded_later WriterError.UnsupportedType writable all old now new is h g = h g
grounded_later (WriterError.Memory e) writable all old now new is h g = tt

refused_later : {whole part : List ℕ} (rest : List ℕ) {old now new : Output} {writable all : Bool} {e : WriterError} → Writing whole (part ++ rest) old now → (writable ≡ false → all ≡ false) → Refused part writable e now new → Refused whole all e old new
refused_later {whole} {part} rest {old} {now} {new} {writable} {all} {e} w h r = record {
  began = record {
    done = w.done ++ r.began.done;
    rest = r.began.rest ++ rest;
    written = r.began.written ∙ (ap (λ s. s ++ r.began.done) w.written ∙ append_assoc old.written w.done r.began.done);
    whole_is = w.whole_is ∙ (ap (λ s. w.done ++ (s ++ rest)) r.began.whole_is ∙ (ap (λ s. w.done ++ s) (append_assoc r.began.done r.began.rest rest) ∙ sym (append_assoc w.done r.began.done (r.began.rest ++ rest))));
  };
  grounded = grounded_later e writable all old.failures now.failures new.failures w.failures h r.grounded;
  counts = subst (λ n. CountsOnce e n new.failures) w.failures r.counts;
}

-- a part is refused
pub writing_refused : {whole part : List ℕ} (rest : List ℕ) {old now new : Output} {writable all : Bool} {e : WriterError} → Writing whole (part ++ rest) old now → (writable ≡ false → all ≡ false) → Refused part writable e now new → Writes whole all (Err e) old new
writing_refused rest w h r = record { ok = tt; writable = tt; err = refused_later rest w h r }

-- the same, where the part can be written as any text can
pub writing_refused_text : {whole part : List ℕ} (rest : List ℕ) {old now new : Output} {all : Bool} {e : WriterError} → Writing whole (part ++ rest) old now → Writes part true (Err e) now new → Writes whole all (Err e) old new
writing_refused_text rest w r = writing_refused rest w (λ h. cc) r.err

-- a part at the very start is refused
pub start_refused : {whole part : List ℕ} (rest : List ℕ) {old new : Output} {all : Bool} {e : WriterError} → whole ≡ part ++ rest → Writes part true (Err e) old new → Writes whole all (Err e) old new
start_refused {whole} rest {old} is r = let w : Writing whole (_ ++ rest) old old = subst (λ s. Writing whole s old old) is (writing_none whole old) in writing_refused_text rest w r

-- out of memory before anything is written
pub refused_before : (whole : List ℕ) (writable : Bool) (old : Output) (e : AllocError) → Writes whole writable (Err (WriterError.Memory e)) old old
refused_before whole writable old e = record { ok = tt; writable = tt; err = record { began = record { done = []; rest = whole; written = sym (append-nil old.written); whole_is = refl }; grounded = tt; counts = refl } }

-- the same of what is left to write, rewritten
pub writing_as : {whole rest left : List ℕ} {old now : Output} → rest ≡ left → Writing whole rest old now → Writing whole left old now
writing_as {whole} {rest} {left} {old} {now} e w = subst (λ s. Writing whole s old now) e w

-- a refusal of a writer that never fails, before anything is written here
pub refused_grounded : (whole : List ℕ) (all : Bool) (old : Output) (e : WriterError) → IsGrounded e true 0 0 → Writes whole all (Err e) old old
refused_grounded whole all old (WriterError.Io e) h = absurd (omega arith)
refused_grounded whole all old WriterError.UnsupportedType h = absurd cc
refused_grounded whole all old (WriterError.Memory e) h = refused_before whole all old e

-- the first part is written
pub start_written : {whole part : List ℕ} (rest : List ℕ) {old new : Output} → whole ≡ part ++ rest → Appended part old new → Writing whole rest old new
start_written {whole} rest {old} is a = writing_more (writing_as is (writing_none whole old)) a

-- a value without text is refused before anything is written
pub refused_unsupported : (whole : List ℕ) (writable : Bool) (old : Output) → writable ≡ false → Refused whole writable WriterError.UnsupportedType old old
refused_unsupported whole writable old no_text = record { began = record { done = []; rest = whole; written = sym (append-nil old.written); whole_is = refl }; grounded = no_text; counts = refl }

-- the last part decides
pub writing_last : {whole part : List ℕ} {old now new : Output} {writable all : Bool} {result : Result (Unit {0}) WriterError} → Writing whole part old now → all ≡ writable → Writes part writable result now new → Writes whole all result old new
writing_last {whole} {part} {old} {now} {new} {writable} {all} {result} w same r =
    let left : Writing whole (part ++ []) old now = writing_as (sym (append-nil part)) w in
    record {
      ok = IfOk-weaker result (λ _. Appended part now new) (λ _. Appended whole old new) (λ _ a. writing_all (writing_more {rest = []} left a)) r.ok;
      writable = IfOk-weaker result (λ _. writable ≡ true) (λ _. all ≡ true) (λ _ h. same ∙ h) r.writable;
      err = IfErr-weaker result (λ e. Refused part writable e now new) (λ e. Refused whole all e old new) (λ e x. refused_later [] left (λ h. same ∙ h) x) r.err;
    }

-- an empty text is written without a call
pub nothing_written : (whole : List ℕ) (all : Bool) (old : Output) → whole ≡ [] → all ≡ true → Writes whole all (Ok tt) old old
nothing_written whole all old none passes = record { ok = record { written = sym (ap (λ s. old.written ++ s) none ∙ append-nil old.written); failures = refl }; writable = passes; err = tt }

-- nothing is left to write
pub all_written : {whole : List ℕ} {old now : Output} {all : Bool} → Writing whole [] old now → all ≡ true → Writes whole all (Ok tt) old now
all_written w passes = record { ok = writing_all w; writable = passes; err = tt }
