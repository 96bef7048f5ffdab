-- What calls add to the errors that are told, one after another.
use Rattle.std.proofs.Common.{ℕ, ◌≡◌, ◌++◌, List, [], ◌∷◌, Result, Ok, Err, IfOk, append_assoc, append-nil, refl, sym, ap, ◌∙◌, subst}
use Rattle.std.specs.declared.ops.Range.{Range}
use Rattle.wave_lex.specs.Errors.{Diagnostic, Refusal, refusal_of}
use Rattle.wave_wasm.specs.Types.{TypeTree}
use Rattle.wave_grammar.specs.NodeTree.{NodeTree}
use Rattle.wave_grammar.specs.TypeErrors.{Blame}
use Rattle.wave_faults.specs.AllFaults.{Telling, Alone, Then}
use Rattle.wave_faults.specs.Private.Told.{Adds, AddsOne, AddsFaults}

-- nothing was added
pub adds_none : {F : Telling} (old : List Diagnostic) → F [] → Adds F old old
adds_none old f = record { added = []; is = sym (append-nil old); these = f }

-- what was added, in other words
pub adds_so : {F G : Telling} {old new : List Diagnostic} → ((errors : List Diagnostic) → F errors → G errors) → Adds F old new → Adds G old new
adds_so f a = record { added = a.added; is = a.is; these = f a.added a.these }

-- what is blamed was added
pub adds_one : {A : Blame} {old new : List Diagnostic} → AddsOne A old new → Adds (Alone A) old new
adds_one a = record { added = a.error ∷ []; is = a.is; these = a.blamed }

-- one error was added
pub adds_error : {F : Telling} (old new : List Diagnostic) (e : Diagnostic) → new ≡ old ++ e ∷ [] → F (e ∷ []) → Adds F old new
adds_error old new e is f = record { added = e ∷ []; is = is; these = f }

-- one that is blamed as this is, in other words
pub blamed_so : {A B : Blame} {old new : List Diagnostic} → ((k : Refusal) (q : Range ℕ) → A k q → B k q) → AddsOne A old new → AddsOne B old new
blamed_so f a = record { error = a.error; is = a.is; blamed = f (refusal_of a.error) a.error.span a.blamed }

-- the ones and the others were added
pub adds_then : {F G : Telling} {old mid new : List Diagnostic} → Adds F old mid → Adds G mid new → Adds (Then F G) old new
adds_then {old = old} a b = record {
  added = a.added ++ b.added;
  is = b.is ∙ (ap (λ (l : List Diagnostic). l ++ b.added) a.is ∙ append_assoc old a.added b.added);
  these = (a.added, b.added, refl, a.these, b.these);
}

-- what is added behind these so that G tells it makes them what F tells
pub record Leads (F G : Telling) (old new : List Diagnostic) : Type 0 where
  pub so_far : List Diagnostic
  pub is : new ≡ old ++ so_far
  pub rest : (more : List Diagnostic) → G more → F (so_far ++ more)

-- nothing was added yet
pub lead_start : {F : Telling} (old : List Diagnostic) → Leads F F old old
lead_start old = record { so_far = []; is = sym (append-nil old); rest = λ more f. f }

-- the ones were added, the others are left
pub lead_on : {F A G : Telling} {old mid new : List Diagnostic} → Leads F (Then A G) old mid → Adds A mid new → Leads F G old new
lead_on {F = F} {old = old} l a = record {
  so_far = l.so_far ++ a.added;
  is = a.is ∙ (ap (λ (x : List Diagnostic). x ++ a.added) l.is ∙ append_assoc old l.so_far a.added);
  rest = λ more g. subst F (sym (append_assoc l.so_far a.added more)) (l.rest (a.added ++ more) (a.added, more, refl, a.these, g));
}

-- what is left, in other words
pub lead_so : {F G H : Telling} {old new : List Diagnostic} → ((errors : List Diagnostic) → H errors → G errors) → Leads F G old new → Leads F H old new
lead_so f l = record { so_far = l.so_far; is = l.is; rest = λ more h. l.rest more (f more h) }

-- nothing is left
pub lead_end : {F G : Telling} {old new : List Diagnostic} → Leads F G old new → G [] → Adds F old new
lead_end {F = F} l g = record { added = l.so_far; is = l.is; these = subst F (append-nil l.so_far) (l.rest [] g) }

-- what follows where a call is Ok
pub ok_so : {A E : Type 0} (r : Result A E) {P Q : A → Type 0} → ((a : A) → P a → Q a) → IfOk r P → IfOk r Q
ok_so (Ok a) f h = f a h
ok_so (Err e) f h = tt

-- what a call added for a type, it added for the same type in other words
pub told_as : {A E : Type 0} (r : Result A E) (T U : TypeTree) (source : List ℕ) (n : NodeTree) (old new : List Diagnostic) → T ≡ U → IfOk r (λ a. AddsFaults U source n old new) → IfOk r (λ a. AddsFaults T source n old new)
told_as r T U source n old new is h = subst (λ (V : TypeTree). IfOk r (λ a. AddsFaults V source n old new)) (sym is) h
