use Rattle.std.proofs.Common.{ℕ, List, refl, sym}
use Rattle.wave_type.specs.FunctionType.{FunctionType}
use Rattle.wave_handle.specs.FuncTypeHandle.{held_function_type}
use Rattle.wave_c.specs.Answers.{IsHeldBy, SaysAt, FailsAt, IsCallExplanationAt}
use Rattle.wave_c.specs.Ends.{Tells}
use Rattle.wave_c.specs.declared.ended.Failure.{Failure}
use Rattle.wave_c.specs.declared.ended.Failure.TheVariants.{Closed}
use Rattle.wave_c.specs.Failures.{limit_of, FailsAsHandle, FailsToExplain}
use Rattle.wave_c.proofs.Told.{told_at, told_none}
use Rattle.wave_c.proofs.wave_call_explain.Goals as goal
use Rattle.wave_c.proofs.wave_call_explain.Goals.{in-Some, in-None}

pub returns-clause-told : goal.returns-clause-told
returns-clause-told c =
    let n = limit_of c.args.levels in
    let held = held_function_type c.args.handle.now in
    let Of = IsHeldBy held in
    let None = FailsAsHandle held in
    let Says : FunctionType → List ℕ → Type 0 = IsCallExplanationAt n c.args.text.now in
    let Fails : FunctionType → Failure → Type 0 = λ f. FailsToExplain c.args.text.now in
    let old = c.args.out.now in
    let new = c.answer.new.out in
    let said = c.match-get.said in
    elim c.match-get.branch as (λ _. Tells (SaysAt Of Says) (FailsAt Of None Fails) old new c.answer.result c.answer.new.report) [
      | in-Some w ↦ told_at Of None Says Fails old new w.in-Some.func.now (sym w.in-Some.ensures.value) said w.call_explained-said.result w.said-is c.answer.result c.answer.new.report w.call_explained-said.ensures.said w.call_explained-said.ensures.failed c.answer.ensures
      | in-None w ↦ told_none Of None Says Fails old new Closed (refl, sym w.in-None.ensures.value) said w.said-is c.answer.result c.answer.new.report c.answer.ensures
    ]
