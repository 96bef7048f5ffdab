use Rattle.std.proofs.Common.{refl}
use Rattle.wave_lex.proofs.Tokenization.NextToken.{next_less}
use Rattle.wave_expected.proofs.ExpectedTokens.PlacedTokens.{read_more, is_expected}
use Rattle.wave_expected.proofs.expected.expected_from.Goals as goal

pub loop-class-smaller : goal.loop-class-smaller
loop-class-smaller c = next_less c.loop-class.lexer c.next_before.new.lexer c.in-Some.class c.in-Some.ensures.0

pub loop-class-preserved : goal.loop-class-preserved
loop-class-preserved c =
    read_more c.args.first.now c.args.at c.args.levels c.loop-class.lexer c.next_before.new.lexer c.loop-class.automaton c.read.new.self c.loop-class.open_brackets.items c.note_bracket.new.spans.items c.in-Some.class c.span.result c.slice.result.now
    c.loop-class.invariant c.in-Some.ensures.0 c.in-Some.ensures.1 c.span.ensures.span c.in_ok-note_bracket.ensures c.slice.ensures c.in_ok-read.ensures.after c.read.ensures.levels

pub returns-clause-expected : goal.returns-clause-expected
returns-clause-expected c =
    is_expected c.args.first.now c.args.at c.args.levels c.loop-class.lexer c.loop-class.automaton c.loop-class.open_brackets.items _ c.loop-class.invariant c.in_default.ensures c.in_ok-classes.ensures.follow c.may_end.ensures refl
