use Rattle.std.proofs.Common.{[], subst}
use Rattle.wave_lex.specs.Errors.{Diagnostic, LiesInText}
use Rattle.wave_grammar.specs.PrefixAutomaton.{value}
use Rattle.wave_grammar.specs.SpannedTree.{tree_of}
use Rattle.wave_grammar.specs.SyntaxErrors.{LeadsBehindValue, FailsBySyntax}
use Rattle.wave_grammar.proofs.Elaboration.ParamsInTurn.{error_handed}
use Rattle.wave_tree.specs.ParsedNodes.{IsTaken}
use Rattle.wave_tree.specs.ParserState.{Parsing}
use Rattle.wave_tree.specs.Untyped.{IsUntypedTaken, RefusesTree}
use Rattle.wave_tree.proofs.ErrorSpans.Trailing.{trailing_lies}
use Rattle.wave_tree.proofs.TextReading.UntypedValues.{untyped_of, refused_spells_none, trailing_spells_none}
use Rattle.wave_c.specs.Failures.{limit_of}
use Rattle.wave_c.proofs.untyped.read_untyped.Goals as goal

pub returns-in_err-value-clause-refused : goal.returns-in_err-value-clause-refused
returns-in_err-value-clause-refused c =
    let s = c.args.text.now in
    let n = limit_of c.args.levels in
    let e = c.in_err-value.field-0.0 in
    let new = c.parse_raw_value.new.self.place in
    error_handed (RefusesTree n s) c.from_residual.result e c.from_residual.ensures.1
    (refused_spells_none n s e new (subst (λ (z : Parsing). FailsBySyntax e z.limit value [] z.place new) c.parser_at-parser.ensures c.in_err-value.ensures.value))

pub returns-in_err-finish-clause-refused : goal.returns-in_err-finish-clause-refused
returns-in_err-finish-clause-refused c =
    let s = c.args.text.now in
    let n = limit_of c.args.levels in
    let e = c.in_err-finish.field-0.0 in
    let new = c.parse_raw_value.new.self.place in
    let t = tree_of c.in_ok-value.ensures.tree.1.placed in
    error_handed (RefusesTree n s) c.from_residual-in_err-finish.result e c.from_residual-in_err-finish.ensures.1
    (trailing_spells_none n s e new t
    (subst (λ (z : Parsing). LeadsBehindValue z.limit value [] z.place new []) c.parser_at-parser.ensures c.in_ok-value.ensures.value)
    (subst (λ (z : Parsing). IsTaken z.limit z.place new t) c.parser_at-parser.ensures c.in_ok-value.ensures.tree.1.taken)
    c.in_err-finish.ensures.answer)

pub returns-in_err-finish-clause-within : goal.returns-in_err-finish-clause-within
returns-in_err-finish-clause-within c =
    let s = c.args.text.now in
    let e = c.in_err-finish.field-0.0 in
    let new = c.parse_raw_value.new.self.place in
    let read = subst (λ (z : Parsing). LeadsBehindValue z.limit value [] z.place new []) c.parser_at-parser.ensures c.in_ok-value.ensures.value in
    error_handed (λ (f : Diagnostic). LiesInText s f.span) c.from_residual-in_err-finish.result e c.from_residual-in_err-finish.ensures.1
    (trailing_lies s new read.tokens e read.taken c.in_err-finish.ensures.answer)

pub returns-clause-value : goal.returns-clause-value
returns-clause-value c =
    let new = c.parse_raw_value.new.self.place in
    let u = c.in_ok-value.value in
    untyped_of (limit_of c.args.levels) c.args.text.now new u (subst (λ (z : Parsing). IsUntypedTaken z.limit z.place new u) c.parser_at-parser.ensures c.in_ok-value.ensures.tree) c.in_ok-finish.ensures.answer
