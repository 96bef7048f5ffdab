use Rattle.std.proofs.Common.{ℕ, Option, Result, sym, subst, Ok, Err, List, refl}
use Rattle.wave_wasm.specs.Types.{TypeTree, HasDistinctNames}
use Rattle.wave_wasm.specs.ConstructorContracts.{TypedResult}
use Rattle.wave_grammar.specs.FaultOrder.{in_text}
use Rattle.wave_wasm.specs.Borrowed.{denoted}
use Rattle.wave_grammar.specs.NodeTree.{node, node_trees}
use Rattle.wave_grammar.specs.NodeAccessors.{first_of}
use Rattle.wave_grammar.specs.PartReading.{AnswersPayload}
use Rattle.wave_read.specs.Payloads.{result_node}
use Rattle.wave_read.proofs.PayloadReading.Results.{result_typed, result_read, result_refused}
use Rattle.wave_read.proofs.results.ResultPayload+V+Type+V.finish.Goals as goal

pub make_result_unchecked-requires : goal.make_result_unchecked-requires
make_result_unchecked-requires g c =
    let (w, T, source, children, parts) = c.requires in
    let x = c.args.self in
    let D = denoted g.V.Type.WasmType.tree x.expected in
    subst (λ (U : TypeTree). HasDistinctNames U → TypedResult g.V.WasmValue.is_of U c.case_with-payload.result) parts.ty
    (subst (λ (p : Result (Option g.row.V.Denot) (Option g.row.V.Denot)). HasDistinctNames T → TypedResult g.V.WasmValue.is_of T p) (sym c.case_with-payload.ensures)
    (result_typed g.V.WasmValue.tree g.V.WasmValue.is_of g.V.WasmValue.is_full in_text w x.is_ok T D c.in-Ok.payload parts.expected (c.in-Ok.ensures.typed w source children parts.read)))

pub returns-in-Ok : goal.returns-in-Ok
returns-in-Ok g c = λ o w T source children parts.
    let x = c.args.self in
    let n = node (result_node x.is_ok) c.args.span (node_trees children) in
    let D = denoted g.V.Type.WasmType.tree x.expected in
    result_read g.V.WasmValue.tree g.V.WasmValue.is_of g.V.WasmValue.is_full o w x.is_ok T D source c.args.span children c.in-Ok.payload c.make_result_unchecked.result c.or_error_at.result parts.expected
    (subst (λ (name : List ℕ). AnswersPayload g.V.WasmValue.tree g.V.WasmValue.is_of g.V.WasmValue.is_full w name D source n (first_of children) (Ok c.in-Ok.payload)) c.case_name.ensures (c.in-Ok.ensures.answer w source children n refl parts.read))
    (rw (sym parts.ty) at (rw c.case_with-payload.ensures at c.make_result_unchecked.ensures.built))
    (rw (sym parts.ty) at (rw c.case_with-payload.ensures at c.make_result_unchecked.ensures.full))
    c.or_error_at.ensures

pub returns-in-Err : goal.returns-in-Err
returns-in-Err g c = λ o w T source children parts.
    let x = c.args.self in
    let n = node (result_node x.is_ok) c.args.span (node_trees children) in
    let D = denoted g.V.Type.WasmType.tree x.expected in
    result_refused g.V.WasmValue.tree g.V.WasmValue.is_of g.V.WasmValue.is_full o w x.is_ok T D source c.args.span children c.in-Err.error g.met.V.WasmValue.full_parts parts.expected
    (subst (λ (name : List ℕ). AnswersPayload g.V.WasmValue.tree g.V.WasmValue.is_of g.V.WasmValue.is_full w name D source n (first_of children) (Err c.in-Err.error)) c.case_name.ensures (c.in-Err.ensures.answer w source children n refl parts.read))
    (c.in-Err.ensures.within w source children n refl parts.read)
