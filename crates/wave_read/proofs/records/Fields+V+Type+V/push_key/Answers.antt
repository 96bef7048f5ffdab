use Rattle.std.proofs.Common.{ℕ, List, [], ◌∷◌, ◌++◌, Some, refl, subst}
use Rattle.wave_grammar.specs.NodeTree.{node, no_nodes}
use Rattle.wave_read.specs.Private.RecordParts.{IsFieldKey, IsKeyFault}
use Rattle.wave_read.proofs.RecordReading.FieldSteps.{key_taken, key_rejected, same_fields}
use Rattle.wave_read.proofs.records.Fields+V+Type+V.push_key.Goals as goal

pub returns-in-Ok : goal.returns-in-Ok
returns-in-Ok g c = λ w T source children is expected h.
    same_fields g.V.WasmValue.tree g.V.WasmValue.is_of g.V.WasmValue.is_full w g.V.Type.WasmType.tree T source (children ++ node c.args.ty c.args.span no_nodes ∷ []) (record c.args.self.now { expected = Some c.in-Ok.expected }) (record c.keep_index.new.self { expected = Some c.in-Ok.expected }) c.keep_index.ensures.ty c.keep_index.ensures.fields refl
    (key_taken g.V.WasmValue.tree g.V.WasmValue.is_of g.V.WasmValue.is_full w g.V.Type.WasmType.tree T source children c.args.self.now h (node c.args.ty c.args.span no_nodes) c.in-Ok.expected expected (subst (λ (w : List ℕ). IsFieldKey c.args.self.now.fields.items c.args.ty w c.in-Ok.expected) is (rw c.in-Ok.is at c.in_ok-expected.ensures)))

pub returns-in-Err : goal.returns-in-Err
returns-in-Err g c = λ w T source children is expected h.
    key_rejected g.V.WasmValue.tree g.V.WasmValue.is_of g.V.WasmValue.is_full w g.V.Type.WasmType.tree T source children c.args.self.now h (node c.args.ty c.args.span no_nodes) c.in-Err.fault expected (subst (λ (w : List ℕ). IsKeyFault c.args.self.now.fields.items c.args.ty c.args.span w c.in-Err.fault) is (rw c.in-Err.is at c.in_ok-expected.ensures))
