use Rattle.std.proofs.Common.{inl, arith}
use Rattle.wave_grammar.specs.PrefixAutomaton as expectation
use Rattle.wave_lex.specs.declared.error.ParserErrorKind.TheVariants as because
use Rattle.wave_grammar.proofs.Elaboration.ParamsInTurn.{error_handed}
use Rattle.wave_tree.specs.ParsedNodes.{IsParsed}
use Rattle.wave_tree.specs.Private.ParsedNodes.{IsParsedBehind}
use Rattle.wave_tree.specs.Private.ParserState.{OnlyOutOfMemory}
use Rattle.wave_tree.proofs.ParserCorrectness.BuiltNodes.{built_node, source_item}
use Rattle.wave_tree.proofs.ParserCorrectness.LexerCalls.{asks_token}
use Rattle.wave_tree.proofs.ParserCorrectness.Steps.{refuses_there, kind_is, here, handed, fails, any_token, shallow, no_level}
use Rattle.wave_tree.proofs.ParserCorrectness.OutOfMemory.{wants_refused, wants_other, wants_fails}
use Rattle.wave_tree.proofs.tokens.Tokens.parse_node.Goals as goal

pub returns-in_err-token-clause-led : goal.returns-in_err-token-clause-led
returns-in_err-token-clause-led g c = λ n s e. handed s _ _ c.from_residual.ensures.1
    (fails (inl tt) (λ _. Unit {0}) c.in_err-token.field-0.0 (here n expectation.value s _) (shallow n expectation.value s _ (omega arith)) (any_token n expectation.value s _ _) c.in_err-token.ensures.takes)

pub returns-then-levels-eq0-clause-led : goal.returns-then-levels-eq0-clause-led
returns-then-levels-eq0-clause-led g c = λ n s e. refuses_there s c.refuse_depth.result c.refuse_depth.ensures.never c.refuse_depth.ensures.refused
    (λ x says. no_level n s c.args.self.now.place x (omega arith) says)

pub returns-then-levels-eq0-clause-memory : goal.returns-then-levels-eq0-clause-memory
returns-then-levels-eq0-clause-memory g c = wants_refused (g.P.Builder.takes_memory c.args.builder) c.args.self.now.place c.refuse_depth.result c.refuse_depth.ensures.refused
    (λ x says. wants_other (g.P.Builder.takes_memory c.args.builder) c.args.self.now.place x because.NestingTooDeep (kind_is says) (λ z. cc))

pub returns-in_err-token-clause-memory : goal.returns-in_err-token-clause-memory
returns-in_err-token-clause-memory g c = error_handed (OnlyOutOfMemory (g.P.Builder.takes_memory c.args.builder) c.args.self.now.place) c.from_residual.result c.in_err-token.field-0.0 c.from_residual.ensures.1 (wants_fails (g.P.Builder.takes_memory c.args.builder) c.args.self.now.place c.args.self.now.place c.advance.new.self.place (λ _. Unit {0}) c.in_err-token.field-0.0 c.in_err-token.ensures.takes)

pub returns-clause-led : goal.returns-clause-led
returns-clause-led g c = c.parse_after_token.ensures.led c.args.self.now.place c.in_ok-token.ensures.takes

pub returns-clause-tree : goal.returns-clause-tree
returns-clause-tree g c =
    built_node (g.P.Builder.is_built c.args.builder) c.args.self.now.place c.advance.new.self.place (IsParsedBehind c.in_ok-token.token c.args.levels c.advance.new.self.place c.parse_after_token.new.self.place) (IsParsed c.args.levels c.args.self.now.place c.parse_after_token.new.self.place) c.parse_after_token.result
    (source_item c.args.self.now.place c.advance.new.self.place c.in_ok-token.token c.in_ok-token.ensures.takes) (λ n is. is c.args.self.now.place c.in_ok-token.ensures.takes) c.parse_after_token.ensures.tree

pub returns-clause-memory : goal.returns-clause-memory
returns-clause-memory g c = c.parse_after_token.ensures.memory c.args.self.now.place c.in_ok-token.ensures.takes

pub returns-clause-asks : goal.returns-clause-asks
returns-clause-asks g c =
    asks_token c.args.self.now c.advance.new.self c.parse_after_token.new.self c.in_ok-token.token c.in_ok-token.ensures.takes c.advance.ensures.asks c.parse_after_token.ensures.asks
