use Rattle.std.proofs.Common.{subst}
use Rattle.wave_wasm.specs.Types.{TypeTree}
use Rattle.wave_wasm.specs.Values.{Value}
use Rattle.wave_value.specs.FullTypes.{IsFull}
use Rattle.wave_value.specs.TypedValue.{TypedValue, IsAt}
use Rattle.wave_grammar.proofs.Elaboration.ParamsInTurn.{error_handed}
use Rattle.wave_tree.specs.FromStr.{IsValueTaken, RefusesText}
use Rattle.wave_tree.specs.ParserState.{Parsing}
use Rattle.wave_tree.proofs.TextReading.TypedTexts.{value_refused, trailing_refused, value_read}
use Rattle.wave_c.specs.Failures.{limit_of}
use Rattle.wave_c.proofs.answer.read.Goals as goal

abbrev tree : TypedValue → Value
tree v = v.tree

abbrev of : TypedValue → TypeTree → Type 0
of v T = IsAt T v

pub returns-in_err-value-clause-refused : goal.returns-in_err-value-clause-refused
returns-in_err-value-clause-refused c =
    let T = c.args.ty.now in
    let s = c.args.text.now in
    let n = limit_of c.args.levels in
    let e = c.in_err-value.field-0.0 in
    let was = c.in_err-value.ensures in
    error_handed (RefusesText IsFull T n s) c.from_residual.result e c.from_residual.ensures.1
    (value_refused IsFull T n s c.parser_at-parser.result c.parse_value.new.self e c.parser_at-parser.ensures was.refused was.within was.caused was.memory)

pub returns-in_err-finish-clause-refused : goal.returns-in_err-finish-clause-refused
returns-in_err-finish-clause-refused c =
    let T = c.args.ty.now in
    let s = c.args.text.now in
    let n = limit_of c.args.levels in
    let e = c.in_err-finish.field-0.0 in
    let new = c.parse_value.new.self.place in
    let v = c.in_ok-value.value in
    error_handed (RefusesText IsFull T n s) c.from_residual-in_err-finish.result e c.from_residual-in_err-finish.ensures.1
    (trailing_refused tree of IsFull T n s new v e (subst (λ (z : Parsing). IsValueTaken tree of T z.limit z.place new v) c.parser_at-parser.ensures c.in_ok-value.ensures.value) c.in_err-finish.ensures.answer)

pub returns-clause-read : goal.returns-clause-read
returns-clause-read c =
    let T = c.args.ty.now in
    let n = limit_of c.args.levels in
    let new = c.parse_value.new.self.place in
    let v = c.in_ok-value.value in
    value_read tree of T n c.args.text.now new v (subst (λ (z : Parsing). IsValueTaken tree of T z.limit z.place new v) c.parser_at-parser.ensures c.in_ok-value.ensures.value) c.in_ok-finish.ensures.answer
