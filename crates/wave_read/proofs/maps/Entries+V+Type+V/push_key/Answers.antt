use Rattle.wave_grammar.specs.FaultOrder.{in_text}
use Rattle.wave_grammar.specs.NodeTree.{node, no_nodes}
use Rattle.wave_read.proofs.MapReading.EntrySteps.{key_taken, key_refused}
use Rattle.wave_read.proofs.maps.Entries+V+Type+V.push_key.Goals as goal

pub returns-in-Ok : goal.returns-in-Ok
returns-in-Ok g c = λ w T source children is expected h.
    key_taken g.V.WasmValue.tree g.V.WasmValue.is_of g.V.WasmValue.is_full in_text w g.V.Type.WasmType.tree T source children c.args.self.now h (node c.args.ty c.args.span no_nodes) c.in-Ok.key c.replace.new.self expected (c.in-Ok.ensures.answer source is) (c.in-Ok.ensures.typed source is) c.replace.ensures.after

pub returns-in-Err : goal.returns-in-Err
returns-in-Err g c = λ w T source children is expected h.
    key_refused g.V.WasmValue.tree g.V.WasmValue.is_of g.V.WasmValue.is_full in_text w g.V.Type.WasmType.tree T source children c.args.self.now h (node c.args.ty c.args.span no_nodes) c.in-Err.error g.met.V.WasmValue.full_parts expected (c.in-Err.ensures.answer source is) (c.in-Err.ensures.within source is)
