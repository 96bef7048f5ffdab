use Rattle.wave_grammar.specs.FaultOrder.{in_text}
use Rattle.wave_wasm.specs.Borrowed.{denoted}
use Rattle.wave_read.proofs.PartByPart.OneMore.{where_ok, where_err}
use Rattle.wave_read.proofs.values.ValueBuilderBuilder.TheImpl.Goals as goal

pub leaf-tells : goal.leaf-tells
leaf-tells g x y c = c.ensures in_text in_text

pub parts-tells : goal.parts-tells
parts-tells g x y c = c.ensures.begun in_text

pub push_key-tells : goal.push_key-tells
push_key-tells g x y c = record {
  kept = where_ok _ _ c.result (λ done step. step in_text (denoted g.V.Type.WasmType.tree c.args.self.expected)) c.ensures.kept;
  memory = where_err _ _ c.result (λ error wants. wants in_text (denoted g.V.Type.WasmType.tree c.args.self.expected)) c.ensures.memory;
}

pub push_part-tells : goal.push_part-tells
push_part-tells g x y c = record {
  kept = where_ok _ _ c.result (λ done step. step in_text (denoted g.V.Type.WasmType.tree c.args.self.expected)) c.ensures.kept;
  memory = where_err _ _ c.result (λ error wants. wants in_text (denoted g.V.Type.WasmType.tree c.args.self.expected)) c.ensures.memory;
}

pub finish-asks : goal.finish-asks
finish-asks g x y c =
    let (source, children, are) = c.requires in
    (in_text, denoted g.V.Type.WasmType.tree c.args.self.expected, source, c.args.ty, children, are)

pub finish-tells : goal.finish-tells
finish-tells g x y c = λ source children. c.ensures in_text (denoted g.V.Type.WasmType.tree c.args.self.expected) source c.args.ty children

pub flags-tells : goal.flags-tells
flags-tells g x y c = where_ok _ _ c.result (λ built read. read in_text in_text) c.ensures
