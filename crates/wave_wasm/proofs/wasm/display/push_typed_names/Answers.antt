use Rattle.std.proofs.Common.{ap, sym, codes, ◌++◌, Bor, arith}
use Rattle.wave_wasm.specs.Borrowed.{texts, denoted_all}
use Rattle.wave_wasm.specs.Types.{TypeTree}
use Rattle.wave_wasm.specs.CommaParts.{comma_if}
use Rattle.wave_wasm.specs.TypeText.{type_text, typed_names}
use Rattle.wave_wasm.specs.Private.TypeText.{name_part}
use Rattle.wave_wasm.proofs.Displays.TextAppend.{adding_none, adding_as, adding_more, adding_two}
use Rattle.wave_wasm.proofs.Displays.Functions.{adding_typed}
use Rattle.wave_wasm.proofs.CanonicalText.Sequences.{parted_joined}
use Rattle.wave_wasm.proofs.wasm.display.push_typed_names.Goals as goal

pub loop-i-init : goal.loop-i-init
loop-i-init g c =
    adding_as (ap (λ z. z ++ codes ")") (sym (parted_joined (typed_names (texts c.args.names.now.items) (denoted_all g.T.WasmType.tree c.args.types.now.items))))) (adding_more (codes "(") (adding_none _ _) c.in_ok-push_str.ensures.bytes)

pub loop-i-preserved : goal.loop-i-preserved
loop-i-preserved g c =
    let f : Bor g.row.T.Denot → TypeTree = λ t. g.T.WasmType.tree t.now in
    let names = texts c.args.names.now.items in
    let a = adding_typed f names c.args.types.now.items c.loop-i.i c.index.result.now c.loop-i.later _ (omega (arith, c.loop-i-test.true, c.len-i-end.ensures)) c.index.ensures c.loop-i.invariant in
    adding_two (name_part names c.loop-i.i) (type_text (f c.index.result.now)) (adding_more (comma_if c.loop-i.later) a c.in_ok-push_separator.ensures) c.in_ok-push_name.ensures c.in_ok-push_type.ensures
