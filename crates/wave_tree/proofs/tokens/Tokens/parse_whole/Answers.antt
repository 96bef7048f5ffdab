use Rattle.std.proofs.Common.{[], arith, sym, subst}
use Rattle.wave_lex.specs.Errors.{Diagnostic}
use Rattle.wave_grammar.specs.PrefixAutomaton.{value}
use Rattle.wave_grammar.specs.SyntaxErrors.{FailsBySyntax}
use Rattle.wave_tree.proofs.TextReading.Meaning.{node_parsed}
use Rattle.wave_tree.specs.ParsedNodes.{IsParsed}
use Rattle.wave_tree.proofs.ParserCorrectness.BuiltNodes.{as_node}
use Rattle.wave_tree.proofs.ErrorSpans.Syntax.{back_lies, refused_lies}
use Rattle.wave_tree.proofs.tokens.Tokens.parse_whole.Goals as goal

pub returns-in-Ok-clause-tree : goal.returns-in-Ok-clause-tree
returns-in-Ok-clause-tree c = node_parsed _ _ _ _ c.start_here-start.ensures.sound (as_node (IsParsed c.args.levels c.args.self.now.place c.parse_node.new.self.place) c.in-Ok.node c.in-Ok.ensures.tree)

pub returns-in-Err-clause-within : goal.returns-in-Err-clause-within
returns-in-Err-clause-within c =
    let led = subst (λ (e : Diagnostic). FailsBySyntax e c.args.levels value [] c.args.self.now.place c.parse_node.new.self.place) (sym c.into_error.ensures) (c.in-Err.ensures.led c.args.levels [] (omega arith)) in
    back_lies _ c.args.self.now.place.lexer c.into_error.result c.refuse.result c.start_here-start.ensures.place c.refuse.ensures.within (λ apart.
    refused_lies c.into_error.result c.args.levels value [] c.args.self.now.place c.parse_node.new.self.place (led apart) c.start_here-start.ensures.inside)
