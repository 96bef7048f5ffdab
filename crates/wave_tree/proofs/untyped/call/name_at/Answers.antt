use Rattle.std.proofs.Common.{ap, ◌∙◌, subst, Some}
use Rattle.wave_lex.specs.Tokenization.{Lexed}
use Rattle.wave_lex.specs.FunctionName.{NameIs}
use Rattle.wave_tree.proofs.TextReading.Calls.{named_at, unnamed_at}
use Rattle.wave_tree.proofs.untyped.call.name_at.Goals as goal

pub returns-in-Some-Ok-clause-named : goal.returns-in-Some-Ok-clause-named
returns-in-Some-Ok-clause-named c =
    named_at c.args.source.now c.next.new.self c.in-Some-Ok.field-0-0
    (subst (λ r. NameIs (record { source = c.args.source.now; start = 0; end = 0 }) c.next.new.self r) (c.in-Some-Ok.is ∙ ap (λ x. Some x) c.in-Some-Ok.field-0-is) (subst (λ (z : Lexed). NameIs z c.next.new.self c.next.result) c.new-names.ensures c.next.ensures.steps))

pub returns-in-Some-Err-clause-refused : goal.returns-in-Some-Err-clause-refused
returns-in-Some-Err-clause-refused c =
    unnamed_at c.args.source.now c.next.new.self c.in-Some-Err.field-0-0 c.new.result
    (subst (λ r. NameIs (record { source = c.args.source.now; start = 0; end = 0 }) c.next.new.self r) (c.in-Some-Err.is ∙ ap (λ x. Some x) c.in-Some-Err.field-0-is) (subst (λ (z : Lexed). NameIs z c.next.new.self c.next.result) c.new-names.ensures c.next.ensures.steps))
    (record { is = c.new.ensures.refusal; stands = c.new.ensures.span ∙ c.span.ensures.span })
