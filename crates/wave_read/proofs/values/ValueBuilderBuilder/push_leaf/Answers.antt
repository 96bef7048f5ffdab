use Rattle.std.proofs.Common.{sym, subst}
use Rattle.wave_grammar.specs.FaultOrder.{in_text}
use Rattle.wave_grammar.specs.NodeTree.{node, no_nodes}
use Rattle.wave_wasm.specs.Borrowed.{denoted}
use Rattle.wave_read.specs.KeptParts.{AreKeptWhereExpected}
use Rattle.wave_read.proofs.PartByPart.FrameSteps.{one_more}
use Rattle.wave_read.proofs.PartByPart.OneMore.{where_ok, where_err}
use Rattle.wave_read.proofs.values.ValueBuilderBuilder.push_leaf.Goals as goal

pub returns-then-branch-clause-kept : goal.returns-then-branch-clause-kept
returns-then-branch-clause-kept g c = λ source whole children here takes kept.
    one_more g.V.Type.WasmType.tree g.V.WasmValue.tree g.V.WasmValue.is_of g.V.WasmValue.is_full in_text source whole (denoted g.V.Type.WasmType.tree c.args.self.expected) children (node c.args.ty c.args.span no_nodes) c.args.parts.now c.push_fast.new.self
    (λ U parts. (rw c.if-branch.true at c.in_ok-push_fast.ensures.grown) in_text U source whole children here takes parts) (λ bare. (c.push_fast.ensures.bare bare).0) kept

pub returns-clause-kept : goal.returns-clause-kept
returns-clause-kept g c =
    let same = rw c.if-branch.false at c.in_ok-push_fast.ensures.grown in
    where_ok _ _ c.push_token.result (λ done step. λ source whole children here takes kept. step in_text (denoted g.V.Type.WasmType.tree c.args.self.expected) source whole children here takes
    (subst (λ p. AreKeptWhereExpected g.V.Type.WasmType.tree g.V.WasmValue.tree g.V.WasmValue.is_of g.V.WasmValue.is_full in_text (denoted g.V.Type.WasmType.tree c.args.self.expected) source whole children (record { wrapper = c.args.parts.now.wrapper; parts = p })) (sym same) kept))
    c.push_token.ensures.kept

pub returns-clause-memory : goal.returns-clause-memory
returns-clause-memory g c =
    let same = rw c.if-branch.false at c.in_ok-push_fast.ensures.grown in
    where_err _ _ c.push_token.result (λ error wants. λ source whole children kept. wants in_text (denoted g.V.Type.WasmType.tree c.args.self.expected) source whole children
    (subst (λ p. AreKeptWhereExpected g.V.Type.WasmType.tree g.V.WasmValue.tree g.V.WasmValue.is_of g.V.WasmValue.is_full in_text (denoted g.V.Type.WasmType.tree c.args.self.expected) source whole children (record { wrapper = c.args.parts.now.wrapper; parts = p })) (sym same) kept))
    c.push_token.ensures.memory
