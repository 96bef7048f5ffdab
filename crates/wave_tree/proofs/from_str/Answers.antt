use Rattle.std.proofs.Common.{subst}
use Rattle.wave_tree.specs.ParserState.{Parsing}
use Rattle.wave_tree.specs.FromStr.{IsValueTaken, RefusesText}
use Rattle.wave_tree.proofs.TextReading.TypedTexts.{value_refused, trailing_refused, value_read}
use Rattle.wave_grammar.proofs.Elaboration.ParamsInTurn.{error_handed}
use Rattle.wave_tree.proofs.from_str.Goals as goal

pub returns-in_err-value-clause-refused : goal.returns-in_err-value-clause-refused
returns-in_err-value-clause-refused g c =
    let full = g.V.WasmValue.is_full in
    let T = g.V.Type.WasmType.tree c.args.ty.now in
    let s = c.args.s.now in
    let e = c.in_err-value.field-0.0 in
    let was = c.in_err-value.ensures in
    error_handed (RefusesText full T 100 s) c.from_residual.result e c.from_residual.ensures.1
    (value_refused full T 100 s c.new-parser.result c.parse_value.new.self e c.new-parser.ensures was.refused was.within was.caused was.memory)

pub returns-in_err-finish-clause-refused : goal.returns-in_err-finish-clause-refused
returns-in_err-finish-clause-refused g c =
    let full = g.V.WasmValue.is_full in
    let tree = g.V.WasmValue.tree in
    let of = g.V.WasmValue.is_of in
    let T = g.V.Type.WasmType.tree c.args.ty.now in
    let s = c.args.s.now in
    let e = c.in_err-finish.field-0.0 in
    let new = c.parse_value.new.self.place in
    let v = c.in_ok-value.value in
    error_handed (RefusesText full T 100 s) c.from_residual-in_err-finish.result e c.from_residual-in_err-finish.ensures.1
    (trailing_refused tree of full T 100 s new v e (subst (λ (z : Parsing). IsValueTaken tree of T z.limit z.place new v) c.new-parser.ensures c.in_ok-value.ensures.value) c.in_err-finish.ensures.answer)

pub returns-clause-read : goal.returns-clause-read
returns-clause-read g c =
    let tree = g.V.WasmValue.tree in
    let of = g.V.WasmValue.is_of in
    let T = g.V.Type.WasmType.tree c.args.ty.now in
    let new = c.parse_value.new.self.place in
    let v = c.in_ok-value.value in
    value_read tree of T 100 c.args.s.now new v (subst (λ (z : Parsing). IsValueTaken tree of T z.limit z.place new v) c.new-parser.ensures c.in_ok-value.ensures.value) c.in_ok-finish.ensures.answer
