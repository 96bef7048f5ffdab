use Rattle.std.specs.Prelude.{IfOk}
use Rattle.std.proofs.Common.{sym, subst}
use Rattle.wave_tree.proofs.TextReading.ValuesFromTokens.{all_print}
use Rattle.wave_tree.specs.ParserState.{Parsing, BeginsRow, HoldsNoBrace}
use Rattle.wave_tree.specs.FromStr.{PrintsWithinTwice}
use Rattle.wave_tree.proofs.parser.Parser.parse_value.Goals as goal

pub returns-clause-spares : goal.returns-clause-spares
returns-clause-spares g c = λ plain row none.
    c.parse_typed.ensures.spares plain (subst (λ (z : Parsing). BeginsRow z.place) (sym c.self.view_is) row) (subst (λ (z : Parsing). HoldsNoBrace z.place) (sym c.self.view_is) none)

pub returns-clause-twice : goal.returns-clause-twice
returns-clause-twice g c = λ labelled representable.
    let tree = g.V.WasmValue.tree in
    let T = g.V.Type.WasmType.tree c.args.ty.now in
    subst (λ (z : Parsing). IfOk c.parse_typed.result (λ v. PrintsWithinTwice T z.limit (tree v))) c.self.view_is
    (all_print tree g.V.WasmValue.is_of g.met.V.WasmValue.of_fits T c.self.inside.limit c.self.inside.tokens.place c.parse_typed.new.self.place c.parse_typed.result c.parse_typed.ensures.value labelled representable)
