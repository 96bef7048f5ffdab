use Rattle.wave_grammar.specs.FaultOrder.{in_text}
use Rattle.std.proofs.Common.{List, length, refl, sym, subst}
use Rattle.std.specs.Prelude.{IfOk, IfErr}
use Rattle.wave_wasm.specs.Types.{TypeTree, HasDistinctNames}
use Rattle.wave_wasm.specs.Borrowed.{denoted_all}
use Rattle.wave_wasm.specs.ConstructorContracts.{MakesTuple, FullTuple, TypedTuple}
use Rattle.wave_grammar.specs.NodeTree.{node, node_trees}
use Rattle.wave_grammar.specs.declared.form.NodeType.TheVariants as kind
use Rattle.wave_grammar.proofs.ByKind.Tuples.{as_denoted}
use Rattle.wave_read.specs.TupleParts.{AreReadEach}
use Rattle.wave_read.proofs.ItemReading.Tuples.{items_fine, count_refused, row_typed, tuple_read}
use Rattle.wave_read.proofs.tuples.TupleItems+V+Type+V.finish.Goals as goal

pub returns-in-Some : goal.returns-in-Some
returns-in-Some g c = λ w T source children a.
    count_refused g.V.WasmValue.tree g.V.WasmValue.is_of g.V.WasmValue.is_full in_text w T (denoted_all g.V.Type.WasmType.tree c.args.self.types.items) source c.args.span children (length c.args.self.types.items) c.args.self.count c.in-Some.error a.kind a.parts (sym (as_denoted g.V.Type.WasmType.tree c.args.self.types.items)) a.count c.in-Some.ensures.count
    (λ Ts is distinct items nodes. items_fine g.V.WasmValue.tree g.V.WasmValue.is_of g.V.WasmValue.is_full in_text w Ts source children c.args.self.items.items items distinct
    (subst (λ (l : List TypeTree). AreReadEach g.V.WasmValue.tree g.V.WasmValue.is_of g.V.WasmValue.is_full w l source children c.args.self.items.items) is a.read) nodes) c.in-Some.ensures.refusal c.in-Some.ensures.span

pub make_tuple_unchecked-requires : goal.make_tuple_unchecked-requires
make_tuple_unchecked-requires g c =
    let (w, T, source, children, a) = c.requires in
    subst (λ (U : TypeTree). HasDistinctNames U → TypedTuple g.V.WasmValue.is_of U c.args.self.items.items) (sym a.is)
    (row_typed g.V.WasmValue.tree g.V.WasmValue.is_of g.V.WasmValue.is_full in_text w T (denoted_all g.V.Type.WasmType.tree c.args.self.types.items) source children c.args.self.items.items (length c.args.self.types.items) c.args.self.count a.kind a.parts (sym (as_denoted g.V.Type.WasmType.tree c.args.self.types.items)) a.count c.in_default.ensures.count a.read)

pub returns : goal.returns
returns g c = λ w T source children a.
    tuple_read g.V.WasmValue.tree g.V.WasmValue.is_of g.V.WasmValue.is_full in_text w T (denoted_all g.V.Type.WasmType.tree c.args.self.types.items) source c.args.span children c.args.self.items.items (length c.args.self.types.items) c.args.self.count c.make_tuple_unchecked.result c.or_error_at.result a.kind a.parts (sym (as_denoted g.V.Type.WasmType.tree c.args.self.types.items)) a.count c.in_default.ensures.count a.read
    (subst (λ (U : TypeTree). IfOk c.make_tuple_unchecked.result (MakesTuple g.V.WasmValue.tree g.V.WasmValue.is_of U c.args.self.items.items)) a.is c.make_tuple_unchecked.ensures.built)
    (subst (λ (U : TypeTree). IfErr c.make_tuple_unchecked.result (FullTuple g.V.WasmValue.is_of g.V.WasmValue.is_full U c.args.self.items.items)) a.is c.make_tuple_unchecked.ensures.full)
    (c.or_error_at.ensures (node kind.Tuple c.args.span (node_trees children)) refl)
