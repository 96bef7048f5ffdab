use Rattle.std.proofs.Common.{ℕ, List}
use Rattle.wave_wasm.specs.Types.{TypeTree}
use Rattle.wave_c.specs.Answers.{IsSpelledBy, SaysAt, FailsAt, IsCanonicalAt}
use Rattle.wave_c.specs.Ends.{Tells}
use Rattle.wave_c.specs.declared.ended.Failure.{Failure}
use Rattle.wave_c.specs.Failures.{limit_of, FailsAsType, IsRefusedAt, FailsToRead}
use Rattle.wave_c.proofs.Told.{told_at, told_none}
use Rattle.wave_c.proofs.wave_canonical_at.Goals as goal
use Rattle.wave_c.proofs.wave_canonical_at.Goals.{in-Ok, in-Err}

pub returns : goal.returns
returns c =
    let n = limit_of c.args.levels in
    let Of = IsSpelledBy c.args.ty.now in
    let None = FailsAsType n c.args.ty.now in
    let Says : TypeTree → List ℕ → Type 0 = IsCanonicalAt n c.args.text.now in
    let Fails : TypeTree → Failure → Type 0 = λ T. FailsToRead (IsRefusedAt n c.args.text.now T) c.args.text.now in
    let old = c.args.out.now in
    let new = c.answer.new.out in
    let said = c.match-opened.said in
    record {
      told = elim c.match-opened.branch as (λ _. Tells (SaysAt Of Says) (FailsAt Of None Fails) old new c.answer.result c.answer.new.report) [
        | in-Ok w ↦ told_at Of None Says Fails old new w.in-Ok.ty w.in-Ok.ensures.opened said w.canonical-said.result w.said-is c.answer.result c.answer.new.report w.canonical-said.ensures.said w.canonical-said.ensures.failed c.answer.ensures
        | in-Err w ↦ told_none Of None Says Fails old new w.in-Err.failure w.in-Err.ensures.failed said w.said-is c.answer.result c.answer.new.report c.answer.ensures
      ];
    }
