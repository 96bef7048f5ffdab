use Rattle.std.proofs.Common.{ap}
use Rattle.wave_type.proofs.TypeReading.TextTokens.{items_end, items_more}
use Rattle.wave_type.proofs.tokens.tokens_of.Goals as goal

pub loop-item-preserved : goal.loop-item-preserved
loop-item-preserved c =
    items_more c.args.text.now c.loop-item.tokens.items c.push.new.self.items _ c.loop-item.lexer c.next.new.self c.in-Some.item c.loop-item.invariant c.in-Some.ensures.steps c.slice-text.ensures (ap (λ r. r.start) c.span-start.ensures.span) c.is_known-known.ensures c.in_ok-push.ensures.items

pub returns : goal.returns
returns c = items_end c.args.text.now c.loop-item.tokens.items c.loop-item.lexer c.next.new.self c.loop-item.invariant c.in_default.ensures.steps
