use Rattle.wave_grammar.specs.FaultOrder.{in_text}
use Rattle.std.proofs.Common.{refl}
use Rattle.wave_grammar.specs.NodeTree.{node, node_trees}
use Rattle.wave_read.proofs.PartByPart.FrameSteps.{kept_read, part_wrapped, finish_alone, finish_wrapped, alone_spares, wrapped_spares}
use Rattle.wave_read.proofs.values.ValueBuilderBuilder.finish.Goals as goal

pub finish-built-requires : goal.finish-built-requires
finish-built-requires g c =
    let (w, expected, source, ty, children, kept) = c.requires in
    kept_read g.V.Type.WasmType.tree g.V.WasmValue.tree g.V.WasmValue.is_of g.V.WasmValue.is_full w source ty expected children c.args.parts kept

pub wrap-requires : goal.wrap-requires
wrap-requires g c =
    let (w, expected, source, ty, children, kept) = c.requires in
    part_wrapped g.V.Type.WasmType.tree g.V.WasmValue.tree g.V.WasmValue.is_of g.V.WasmValue.is_full w source ty children c.args.span expected c.args.parts c.in-Some.whole c.finish-built.result c.in-Some.is
    (λ U parts. c.finish-built.ensures.read w U source ty children parts) kept

pub returns-in-Some : goal.returns-in-Some
returns-in-Some g c = λ w expected source ty children kept. (
  finish_wrapped g.V.Type.WasmType.tree g.V.WasmValue.tree g.V.WasmValue.is_of g.V.WasmValue.is_full w source ty children c.args.span expected c.args.parts c.in-Some.whole c.finish-built.result c.wrap.result c.in-Some.is
      (λ U parts. c.finish-built.ensures.read w U source ty children parts)
      (λ U flat read. c.wrap.ensures in_text w source (node ty c.args.span (node_trees children)) U flat refl read) kept,
  wrapped_spares g.V.Type.WasmType.tree g.V.WasmValue.tree g.V.WasmValue.is_of g.V.WasmValue.is_full w source ty children c.args.span expected (node ty c.args.span (node_trees children)) c.args.parts c.in-Some.whole c.wrap.result c.in-Some.is kept,
)

pub finish-requires : goal.finish-requires
finish-requires g c =
    let (w, expected, source, ty, children, kept) = c.requires in
    kept_read g.V.Type.WasmType.tree g.V.WasmValue.tree g.V.WasmValue.is_of g.V.WasmValue.is_full w source ty expected children c.args.parts kept

pub returns-in-None : goal.returns-in-None
returns-in-None g c = λ w expected source ty children kept. (
  finish_alone g.V.Type.WasmType.tree g.V.WasmValue.tree g.V.WasmValue.is_of g.V.WasmValue.is_full w source ty children c.args.span expected c.args.parts c.finish.result c.in-None.is
      (λ U parts. c.finish.ensures.read w U source ty children parts) kept,
  alone_spares g.V.Type.WasmType.tree g.V.WasmValue.tree g.V.WasmValue.is_of g.V.WasmValue.is_full w source ty children c.args.span expected (node ty c.args.span (node_trees children)) c.args.parts c.finish.result c.finish.ensures.plain kept,
)
