use Rattle.std.proofs.Common.{get_or, ap, arith}
use Rattle.wave_wasm.specs.Borrowed.{denoted_fields}
use Rattle.wave_grammar.specs.NodeTree.{place_of}
use Rattle.wave_faults.proofs.Walk.FieldRows.{left_row, as_fields}
use Rattle.wave_faults.proofs.Walk.Records.{left_end}
use Rattle.wave_faults.proofs.records.tell_left_out.Goals as goal

pub loop-i-preserved : goal.loop-i-preserved
loop-i-preserved g c = λ es has.
    let fields = c.args.fields.now in
    let i = c.loop-i.i in
    left_row g.T.WasmType.tree fields i (get_or fields i c.index-fields-i.result) (get_or fields i c.index-fields-i-in-loop-i.result) es (place_of c.args.node.now) c.args.told.now.items c.loop-i.told.items c.tell_missing.new.told.items (omega arith) (ap (get_or fields i) c.index-fields-i.is) (ap (get_or fields i) c.index-fields-i-in-loop-i.is)
    (c.loop-i.invariant es has) (c.in_ok-tell_missing.ensures es has)

pub returns : goal.returns
returns g c = λ es has.
    left_end (denoted_fields g.T.WasmType.tree c.args.fields.now) c.loop-i.i es (place_of c.args.node.now) c.args.told.now.items c.loop-i.told.items (omega (arith, as_fields g.T.WasmType.tree c.args.fields.now)) (c.loop-i.invariant es has)
