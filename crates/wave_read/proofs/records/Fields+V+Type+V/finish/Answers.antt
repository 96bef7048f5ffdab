use Rattle.std.proofs.Common.{refl, sym, subst}
use Rattle.wave_wasm.specs.Types.{TypeTree, HasDistinctNames}
use Rattle.wave_wasm.specs.ConstructorContracts.{TypedRecord}
use Rattle.wave_grammar.specs.NodeTree.{node, node_trees}
use Rattle.wave_grammar.specs.declared.form.NodeType.TheVariants as kind
use Rattle.wave_read.proofs.RecordReading.FinishedRecords.{record_typed, finish_built, finish_unfilled}
use Rattle.wave_read.proofs.records.Fields+V+Type+V.finish.Goals as goal

pub returns-in_err-fields : goal.returns-in_err-fields
returns-in_err-fields g c = λ w T source children h.
    finish_unfilled g.V.WasmValue.tree g.V.WasmValue.is_of g.V.WasmValue.is_full w g.V.Type.WasmType.tree T source children c.args.self h c.args.span c.in_err-fields.field-0.0 c.from_residual.result c.from_residual.ensures.1 g.met.V.WasmValue.full_parts (c.in_err-fields.ensures.refused (node kind.TupleSet c.args.span (node_trees children)) refl) (c.in_err-fields.ensures.within (node kind.TupleSet c.args.span (node_trees children)) refl)

pub make_record_unchecked-requires : goal.make_record_unchecked-requires
make_record_unchecked-requires g c =
    let (w, T, source, children, h) = c.requires in
    subst (λ (U : TypeTree). HasDistinctNames U → TypedRecord g.V.WasmValue.is_of U c.in_ok-fields.fields.items) (sym h.type_is)
    (record_typed g.V.WasmValue.tree g.V.WasmValue.is_of g.V.WasmValue.is_full w g.V.Type.WasmType.tree T source children c.args.self h c.in_ok-fields.fields.items c.in_ok-fields.ensures.full)

pub returns : goal.returns
returns g c = λ w T source children h.
    finish_built g.V.WasmValue.tree g.V.WasmValue.is_of g.V.WasmValue.is_full w g.V.Type.WasmType.tree T source children c.args.self h c.args.span c.in_ok-fields.fields.items c.make_record_unchecked.result c.or_error_at.result c.in_ok-fields.ensures.full c.make_record_unchecked.ensures.built c.make_record_unchecked.ensures.full (c.or_error_at.ensures (node kind.TupleSet c.args.span (node_trees children)) refl)
