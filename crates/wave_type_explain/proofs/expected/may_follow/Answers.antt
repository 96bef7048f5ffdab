use Rattle.std.proofs.Common.{subst, ◌∙◌}
use Rattle.wave_type_explain.specs.Private.Refusals.{IsRefusedBy}
use Rattle.wave_type_explain.proofs.TextBegins.{follows_whole, follows_begun, follows_not}
use Rattle.wave_type_explain.proofs.expected.may_follow.Goals as goal

pub returns-in-None : goal.returns-in-None
returns-in-None c =
    let text = c.as_str.result.now in
    follows_whole c.args.reading c.args.before.now c.args.class text (c.as_str.ensures.value ∙ c.in_ok-text.ensures) (subst (IsRefusedBy c.args.reading 1000 text) c.in-None.is c.refusal.ensures)

pub returns-in-UnexpectedEnd : goal.returns-in-UnexpectedEnd
returns-in-UnexpectedEnd c =
    follows_begun c.args.reading c.args.before.now c.args.class c.as_str.result.now (c.as_str.ensures.value ∙ c.in_ok-text.ensures) c.refusal.result c.in-Some.kind c.in-Some.is c.in-UnexpectedEnd.is c.refusal.ensures

pub returns : goal.returns
returns c =
    follows_not c.args.reading c.args.before.now c.args.class c.as_str.result.now (c.as_str.ensures.value ∙ c.in_ok-text.ensures) c.refusal.result c.in-Some.kind c.in-Some.is c.in_default.not-UnexpectedEnd c.in_default.not-OutOfMemory c.refusal.ensures
