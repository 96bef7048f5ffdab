use Rattle.std.proofs.Common.{subst, []}
use Rattle.wave_grammar.specs.PrefixAutomaton.{value}
use Rattle.wave_grammar.specs.SyntaxErrors.{LeadsBehindValue, FailsBySyntax}
use Rattle.wave_tree.specs.ParserState.{Parsing}
use Rattle.wave_grammar.specs.SpannedTree.{tree_of}
use Rattle.wave_tree.specs.ParsedNodes.{IsTaken}
use Rattle.wave_tree.specs.Untyped.{IsUntypedTaken}
use Rattle.wave_tree.proofs.TextReading.UntypedValues.{untyped_of, refused_spells_none, trailing_spells_none, tree_refusal_handed}
use Rattle.wave_lex.specs.Errors.{Diagnostic, LiesInText}
use Rattle.wave_grammar.proofs.Elaboration.ParamsInTurn.{error_handed}
use Rattle.wave_tree.proofs.ErrorSpans.Trailing.{trailing_lies}
use Rattle.wave_tree.proofs.untyped.UntypedValue.parse.Goals as goal

pub returns-in_err-value-clause-refused : goal.returns-in_err-value-clause-refused
returns-in_err-value-clause-refused c =
    tree_refusal_handed 100 c.args.source.now c.from_residual.result c.in_err-value.field-0.0 c.from_residual.ensures.1
    (refused_spells_none 100 c.args.source.now c.in_err-value.field-0.0 c.parse_raw_value.new.self.place (subst (λ (z : Parsing). FailsBySyntax c.in_err-value.field-0.0 z.limit value [] z.place c.parse_raw_value.new.self.place) c.new-parser.ensures c.in_err-value.ensures.value))

pub returns-in_err-finish-clause-refused : goal.returns-in_err-finish-clause-refused
returns-in_err-finish-clause-refused c =
    tree_refusal_handed 100 c.args.source.now c.from_residual-in_err-finish.result c.in_err-finish.field-0.0 c.from_residual-in_err-finish.ensures.1
    (trailing_spells_none 100 c.args.source.now c.in_err-finish.field-0.0 c.parse_raw_value.new.self.place (tree_of c.in_ok-value.ensures.tree.1.placed)
    (subst (λ (z : Parsing). LeadsBehindValue z.limit value [] z.place c.parse_raw_value.new.self.place []) c.new-parser.ensures c.in_ok-value.ensures.value)
    (subst (λ (z : Parsing). IsTaken z.limit z.place c.parse_raw_value.new.self.place (tree_of c.in_ok-value.ensures.tree.1.placed)) c.new-parser.ensures c.in_ok-value.ensures.tree.1.taken)
    c.in_err-finish.ensures.answer)

pub returns-clause-value : goal.returns-clause-value
returns-clause-value c =
    untyped_of 100 c.args.source.now c.parse_raw_value.new.self.place c.in_ok-value.value
    (subst (λ (z : Parsing). IsUntypedTaken z.limit z.place c.parse_raw_value.new.self.place c.in_ok-value.value) c.new-parser.ensures c.in_ok-value.ensures.tree)
    c.in_ok-finish.ensures.answer

pub returns-in_err-value-clause-within : goal.returns-in_err-value-clause-within
returns-in_err-value-clause-within c =
    let e = c.in_err-value.field-0.0 in
    error_handed (λ (f : Diagnostic). LiesInText c.args.source.now f.span) c.from_residual.result e c.from_residual.ensures.1 (subst (λ (z : Parsing). LiesInText z.place.lexer.source e.span) c.new-parser.ensures c.in_err-value.ensures.within)

pub returns-in_err-finish-clause-within : goal.returns-in_err-finish-clause-within
returns-in_err-finish-clause-within c =
    let e = c.in_err-finish.field-0.0 in
    let read = subst (λ (z : Parsing). LeadsBehindValue z.limit value [] z.place c.parse_raw_value.new.self.place []) c.new-parser.ensures c.in_ok-value.ensures.value in
    error_handed (λ (f : Diagnostic). LiesInText c.args.source.now f.span) c.from_residual-in_err-finish.result e c.from_residual-in_err-finish.ensures.1 (trailing_lies c.args.source.now c.parse_raw_value.new.self.place read.tokens e read.taken c.in_err-finish.ensures.answer)
