-- What is told of the faults of a text.
use Rattle.std.proofs.Common.{ℕ, zero, suc, ◌≡◌, ◌<◌, ◌≤◌, ◌+◌, List, [], ◌∷◌, ◌++◌, Result, Ok, Err, IfOk, OnOk, length, take, get_or, refl, sym, ap, subst, ◌∙◌, arith, append_assoc}
use Rattle.std.proofs.lemmas.List.{append-nil}
use Rattle.wave_wasm.specs.Types.{TypeTree}
use Rattle.wave_lex.specs.Errors.{Diagnostic}
use Rattle.wave_files.specs.declared.answers.FileName.{FileName}
use Rattle.wave_commands.specs.declared.report.Style.{Style}
use Rattle.wave_commands.specs.Checked.{TellsFault, TellsFaults}

-- what two clauses say of what is answered
pub ok_both : {A E : Type 0} {P Q R : A → Type 0} (r : Result A E) → ((a : A) → P a → Q a → R a) → IfOk r P → IfOk r Q → IfOk r R
ok_both (Ok a) f p q = f a p q
ok_both (Err e) f p q = tt

-- and a third, of whatever is answered
pub ok_and : {A E : Type 0} {P Q R : A → Type 0} {F : Type 0} (r : Result A E) → ((a : A) → P a → Q a → F → R a) → IfOk r P → IfOk r Q → OnOk r F → IfOk r R
ok_and (Ok a) f p q h = f a p q h
ok_and (Err e) f p q h = tt

-- what a clause says of what is answered, and one of whatever is answered
pub ok_but : {A E : Type 0} {P R : A → Type 0} {F : Type 0} (r : Result A E) → ((a : A) → P a → F → R a) → IfOk r P → OnOk r F → IfOk r R
ok_but (Ok a) f p h = f a p h
ok_but (Err e) f p h = tt

-- one fault more is told
told_more : (style : Style) (name : FileName) (source : List ℕ) (T : TypeTree) (errors : List Diagnostic) (text : List ℕ) (e : Diagnostic) (one : List ℕ) → TellsFaults style name source T errors text → TellsFault style name source T e one
    → TellsFaults style name source T (errors ++ e ∷ []) (text ++ one)
told_more style name source T [] text e one none tells = (one, [], tells, refl, ap (λ x. x ++ one) none ∙ sym (append-nil one))
told_more style name source T (first ∷ errors) text e one (said, others, tells_first, more, is) tells =
    (said, others ++ one, tells_first, told_more style name source T errors others e one more tells, ap (λ x. x ++ one) is ∙ append_assoc said others one)

-- the next of the errors
next_error : (errors : List Diagnostic) (place : ℕ) (e : Diagnostic) → place < length errors → e ≡ get_or errors place e → take (suc place) errors ≡ take place errors ++ e ∷ []
next_error [] place e less is = absurd (omega (arith, less))
next_error (first ∷ errors) zero e less is = ap (λ z. z ∷ []) (sym is)
next_error (first ∷ errors) (suc place) e less is = ap (λ z. first ∷ z) (next_error errors place e (omega (arith, less)) is)

all_errors : (errors : List Diagnostic) (place : ℕ) → length errors ≤ place → take place errors ≡ errors
all_errors [] zero all = refl
all_errors [] (suc place) all = refl
all_errors (e ∷ errors) zero all = absurd (omega (arith, all))
all_errors (e ∷ errors) (suc place) all = ap (λ z. e ∷ z) (all_errors errors place (omega (arith, all)))

-- the next of the errors is told
pub next_told : (style : Style) (name : FileName) (source : List ℕ) (T : TypeTree) (errors : List Diagnostic) (place : ℕ) (e : Diagnostic) (text one new : List ℕ) → place < length errors → e ≡ get_or errors place e
    → TellsFaults style name source T (take place errors) text → TellsFault style name source T e one → new ≡ text ++ one → TellsFaults style name source T (take (place + 1) errors) new
next_told style name source T errors place e text one new less is told tells bytes =
    let more = told_more style name source T (take place errors) text e one told tells in
    let next : suc place ≡ place + 1 = omega arith in
    let same = sym (next_error errors place e less is) ∙ ap (λ n. take n errors) next in
    subst (λ x. TellsFaults style name source T x new) same (subst (TellsFaults style name source T (take place errors ++ e ∷ [])) (sym bytes) more)

-- all errors are told
pub all_told : (style : Style) (name : FileName) (source : List ℕ) (T : TypeTree) (errors : List Diagnostic) (place : ℕ) (text : List ℕ) → length errors ≤ place
    → TellsFaults style name source T (take place errors) text → TellsFaults style name source T errors text
all_told style name source T errors place text all told = subst (λ x. TellsFaults style name source T x text) (all_errors errors place all) told
