use Rattle.std.proofs.Common.{inr, Result, subst}
use Rattle.wave_lex.specs.Errors.{Diagnostic}
use Rattle.wave_grammar.proofs.ErrorSpans.Nodes.{reported_in}
use Rattle.wave_leaf.specs.Leaves.{leaf_node}
use Rattle.wave_leaf.specs.Reading.{IsOfType}
use Rattle.wave_leaf.proofs.LeafReading.LabelKeys.{as_reported, key_reported}
use Rattle.wave_leaf.proofs.leaf.LeafToken.read_key.Goals as goal

pub returns-in-Err-clause-answer : goal.returns-in-Err-clause-answer
returns-in-Err-clause-answer g c = λ source here K p key is token.
    key_reported g.V.WasmValue.tree g.V.WasmValue.is_of g.V.WasmValue.is_full (g.V.Type.WasmType.tree c.args.ty.now) K source c.args.self.now p key c.read_plain_key.result c.in-Err.error c.with_key_detail.result is token c.in-Err.is c.with_key_detail.ensures (c.read_plain_key.ensures.answer source here K p key is token)

pub returns-in-Err-clause-within : goal.returns-in-Err-clause-within
returns-in-Err-clause-within g c = λ source here key.
    reported_in source (leaf_node c.args.self.now) c.read_plain_key.result c.in-Err.error c.with_key_detail.result (inr key) c.in-Err.is (c.read_plain_key.ensures.within source here key) (as_reported (g.V.Type.WasmType.tree c.args.ty.now) c.args.self.now c.in-Err.error c.with_key_detail.result c.with_key_detail.ensures)

pub returns-in-Ok-clause-typed : goal.returns-in-Ok-clause-typed
returns-in-Ok-clause-typed g c = λ source here.
    subst (λ (r : Result g.row.V.Denot Diagnostic). IsOfType g.V.WasmValue.is_of (g.V.Type.WasmType.tree c.args.ty.now) r) c.in-Ok.is (c.read_plain_key.ensures.typed source here)
