use Rattle.std.proofs.Common.{◌-◌, get_or, ap, arith}
use Rattle.wave_faults.proofs.Walk.FieldRows.{looks_before}
use Rattle.wave_faults.proofs.records.types_by_name.Goals as goal

pub loop-i-preserved : goal.loop-i-preserved
loop-i-preserved g c =
    let fields = c.args.fields.now in
    let i = c.loop-i.i - 1 in
    record {
      within = omega (arith, c.loop-i.invariant.within);
      held = looks_before g.T.WasmType.tree fields c.loop-i.types c.insert.new.self i c.loop-i.i (get_or fields i c.index-fields-i.result) (get_or fields i c.index-fields-i-in-loop-i.result) (omega arith) (omega arith) (ap (get_or fields i) c.index-fields-i.is) (ap (get_or fields i) c.index-fields-i-in-loop-i.is) c.loop-i.invariant.held c.in_ok-insert.ensures.updates;
    }
