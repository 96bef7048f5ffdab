use Rattle.wave_read.proofs.ItemReading.TupleCounts.{count_answered}
use Rattle.wave_read.proofs.PartByPart.NodeTypes.{fault_answered, fault_counts, row_counts, others_count}
use Rattle.wave_read.proofs.values.Frame+V+Type+V.refused.Goals as goal

pub returns-in-Faulty-clause-refused : goal.returns-in-Faulty-clause-refused
returns-in-Faulty-clause-refused g c = fault_answered g.V.Type.WasmType.tree g.V.WasmValue.tree g.V.WasmValue.is_of g.V.WasmValue.is_full c.args.self.now c.args.count c.in-Faulty.fault c.in-Faulty.is c.of_kind.result c.args.span c.of_kind.ensures

pub returns-in-Faulty-clause-counted : goal.returns-in-Faulty-clause-counted
returns-in-Faulty-clause-counted g c = fault_counts g.V.Type.WasmType.tree g.V.WasmValue.tree g.V.WasmValue.is_of g.V.WasmValue.is_full c.args.self.now c.args.count c.in-Faulty.fault c.in-Faulty.is c.of_kind.result c.args.span c.of_kind.ensures

pub returns-in-TupleItems-clause-refused : goal.returns-in-TupleItems-clause-refused
returns-in-TupleItems-clause-refused g c =
    count_answered g.V.Type.WasmType.tree g.V.WasmValue.tree g.V.WasmValue.is_of g.V.WasmValue.is_full c.args.span c.args.count c.in-TupleItems.row c.args.self.now c.miscounted.result g.met.V.WasmValue.full_parts c.in-TupleItems.is c.miscounted.ensures.count c.miscounted.ensures.refusal c.miscounted.ensures.span

pub returns-in-TupleItems-clause-counted : goal.returns-in-TupleItems-clause-counted
returns-in-TupleItems-clause-counted g c = row_counts g.V.Type.WasmType.tree g.V.WasmValue.tree g.V.WasmValue.is_of g.V.WasmValue.is_full c.args.self.now c.args.count c.in-TupleItems.row c.miscounted.result c.in-TupleItems.is c.miscounted.ensures.count

pub returns-in_default-clause-counted : goal.returns-in_default-clause-counted
returns-in_default-clause-counted g c = others_count g.V.Type.WasmType.tree g.V.WasmValue.tree g.V.WasmValue.is_of g.V.WasmValue.is_full c.args.self.now c.args.count c.in_default.not-Faulty c.in_default.not-TupleItems
