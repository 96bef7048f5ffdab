use Rattle.std.proofs.Common.{sym, subst, Option, Bor, Ok}
use Rattle.wave_grammar.specs.NodeTree.{node, no_nodes}
use Rattle.wave_wasm.specs.Borrowed.{denoted}
use Rattle.wave_leaf.specs.Reading.{IsReadWhereExpected}
use Rattle.wave_leaf.proofs.LeafReading.PlainTypes.{no_row_spares, token_no_row}
use Rattle.wave_read.proofs.values.ValueBuilderBuilder.leaf.Goals as goal

pub returns-in-None-read_fast : goal.returns-in-None-read_fast
returns-in-None-read_fast g c = λ o w source token here.
    let n = node c.args.ty c.args.span no_nodes in (
      subst (λ (d : Option (Bor g.row.V-Type.Denot)). IsReadWhereExpected g.V.WasmValue.tree g.V.WasmValue.is_of g.V.WasmValue.is_full o w (denoted g.V.Type.WasmType.tree d) source n c.read_leaf.result) (sym c.in-Some.is) (c.read_leaf.ensures o w source token here),
      no_row_spares (denoted g.V.Type.WasmType.tree c.args.self.expected) n c.read_leaf.result (token_no_row c.args.ty token),
    )

pub returns-in-Some-read_fast : goal.returns-in-Some-read_fast
returns-in-Some-read_fast g c = λ o w source token here.
    let n = node c.args.ty c.args.span no_nodes in (
      subst (λ (d : Option (Bor g.row.V-Type.Denot)). IsReadWhereExpected g.V.WasmValue.tree g.V.WasmValue.is_of g.V.WasmValue.is_full o w (denoted g.V.Type.WasmType.tree d) source n (Ok c.in-Some-read_fast.val)) (sym c.in-Some.is) (c.in-Some-read_fast.ensures o w source here),
      no_row_spares (denoted g.V.Type.WasmType.tree c.args.self.expected) n (Ok c.in-Some-read_fast.val) (token_no_row c.args.ty token),
    )
