use Rattle.wave_grammar.specs.FaultOrder.{in_text}
use Rattle.std.proofs.Common.{refl, sym, subst}
use Rattle.wave_wasm.specs.Types.{TypeTree, HasDistinctNames}
use Rattle.wave_wasm.specs.ConstructorContracts.{TypedMap}
use Rattle.wave_grammar.specs.NodeTree.{node, node_trees}
use Rattle.wave_grammar.specs.declared.form.NodeType.TheVariants as kind
use Rattle.wave_read.proofs.MapReading.EntrySteps.{map_typed, finish_built}
use Rattle.wave_read.proofs.maps.Entries+V+Type+V.finish.Goals as goal

pub make_map_unchecked-requires : goal.make_map_unchecked-requires
make_map_unchecked-requires g c =
    let (w, T, source, children, h) = c.requires in
    subst (λ (U : TypeTree). HasDistinctNames U → TypedMap g.V.WasmValue.is_of U c.in-Ok.entries.items) (sym h.type_is)
    (map_typed g.V.WasmValue.tree g.V.WasmValue.is_of g.V.WasmValue.is_full in_text w g.V.Type.WasmType.tree T source children c.args.self h c.in-Ok.entries.items c.in-Ok.ensures)

pub returns : goal.returns
returns g c = λ w T source children h.
    finish_built g.V.WasmValue.tree g.V.WasmValue.is_of g.V.WasmValue.is_full in_text w g.V.Type.WasmType.tree T source children c.args.self h c.args.span c.in-Ok.entries.items c.make_map_unchecked.result c.or_error_at.result g.met.V.WasmValue.of_fits c.in-Ok.ensures c.make_map_unchecked.ensures.built c.make_map_unchecked.ensures.full (c.or_error_at.ensures (node kind.TupleSet c.args.span (node_trees children)) refl)
