use Rattle.std.proofs.Common.{sym, subst, ◌∙◌}
use Rattle.wave_lex.specs.declared.error.Detail.{Detail}
use Rattle.wave_leaf.specs.Errors.{error_at}
use Rattle.wave_leaf.specs.Private.Errors.{IsErrorOf}
use Rattle.wave_leaf.proofs.ReadErrors.ByParts.{copied}
use Rattle.wave_leaf.proofs.error.Reason.new.Goals as goal

pub returns-in-Ok : goal.returns-in-Ok
returns-in-Ok c = λ p.
    let same = c.in-Ok.ensures.ok in
    subst (λ (d : Detail). IsErrorOf c.args.kind p d (error_at p c.with_words.result)) (sym c.in-Static.is)
    (copied c.args.kind p c.in-Static.words c.in-Ok.words _ same (c.with_words.ensures (λ d is. c.in-None-of_words.ensures d (sym same ∙ is)) p))

pub returns-in-None-of_words-2 : goal.returns-in-None-of_words-2
returns-in-None-of_words-2 c = λ p.
    subst (λ (d : Detail). IsErrorOf c.args.kind p d (error_at p c.with_words-in-None-of_words-2.result)) (sym c.in-Owned.is)
    (c.with_words-in-None-of_words-2.ensures (λ d is. c.in-None-of_words-2.ensures d (c.deref.ensures ∙ is)) p)
