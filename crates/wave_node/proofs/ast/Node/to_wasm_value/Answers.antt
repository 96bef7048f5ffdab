use Rattle.wave_grammar.specs.FaultOrder.{by_type}
use Rattle.wave_grammar.proofs.OneFault.FaultyTrees.{refused}
use Rattle.wave_grammar.proofs.NodeMeaning.Keys.{keyword_key, keyword_no_value, value_node, key_node, key_read, key_reported_none, simple_distinct}
use Rattle.wave_grammar.proofs.ErrorSpans.Nodes.{all_stand, all_kinds, all_in_text}
use Rattle.wave_node.proofs.ast.Node.to_wasm_value.Goals as goal

pub read_keyword-requires : goal.read_keyword-requires
read_keyword-requires g c = record { key = keyword_key c.args.src.now c.args.self.now c.if-is_keyword.ensures c.requires; keyword = c.if-is_keyword.ensures }

pub read-requires : goal.read-requires
read-requires g c = value_node c.args.src.now c.args.self.now c.if-is_keyword.ensures c.requires

pub returns-then-is_keyword-clause-answer : goal.returns-then-is_keyword-clause-answer
returns-then-is_keyword-clause-answer g c = rw c.or_error.ensures (λ t is distinct. absurd (keyword_no_value c.args.src.now c.args.self.now t c.if-is_keyword.ensures is))

pub returns-then-is_keyword-clause-key : goal.returns-then-is_keyword-clause-key
returns-then-is_keyword-clause-key g c = rw c.or_error.ensures (λ K p key is token.
    key_reported_none g.V.WasmValue.tree g.V.WasmValue.is_of g.V.WasmValue.is_full by_type by_type K p key c.read_keyword.result (c.read_keyword.ensures.answer K p key is token))

pub returns-then-is_keyword-clause-kind : goal.returns-then-is_keyword-clause-kind
returns-then-is_keyword-clause-kind g c = rw c.or_error.ensures (all_kinds c.args.self.now c.read_keyword.result c.read_keyword.ensures.within)

pub returns-then-is_keyword-clause-within : goal.returns-then-is_keyword-clause-within
returns-then-is_keyword-clause-within g c = rw c.or_error.ensures (all_stand c.args.self.now c.read_keyword.result c.read_keyword.ensures.within)

pub returns-then-is_keyword-clause-keyword : goal.returns-then-is_keyword-clause-keyword
returns-then-is_keyword-clause-keyword g c = rw c.or_error.ensures (λ word other. c.read_keyword.ensures.other other)

pub returns-then-is_keyword-clause-in_text : goal.returns-then-is_keyword-clause-in_text
returns-then-is_keyword-clause-in_text g c = rw c.or_error.ensures (all_in_text c.args.src.now c.args.self.now c.read_keyword.result c.requires c.read_keyword.ensures.within)

pub returns-clause-answer : goal.returns-clause-answer
returns-clause-answer g c = rw c.or_error-2.ensures (λ t is distinct.
    refused g.V.WasmValue.tree g.V.WasmValue.is_of g.V.WasmValue.is_full by_type (g.V.Type.WasmType.tree c.args.ty.now) t c.read.result distinct (c.read.ensures.answer t is distinct))

pub returns-clause-key : goal.returns-clause-key
returns-clause-key g c = rw c.or_error-2.ensures (λ K p key is token.
    let node = key_node c.args.src.now c.args.self.now p key c.if-is_keyword.ensures token in
    key_reported_none g.V.WasmValue.tree g.V.WasmValue.is_of g.V.WasmValue.is_full by_type by_type K p key c.read.result
    (key_read g.V.WasmValue.tree g.V.WasmValue.is_of g.V.WasmValue.is_full by_type by_type (g.V.Type.WasmType.tree c.args.ty.now) K c.args.src.now c.args.self.now p key c.read.result is c.if-is_keyword.ensures token (c.read.ensures.answer token.0.0 node (simple_distinct (g.V.Type.WasmType.tree c.args.ty.now) K is))))

pub returns-clause-keyword : goal.returns-clause-keyword
returns-clause-keyword g c = rw c.or_error-2.ensures (λ word other. absurd (c.if-is_keyword.ensures word))

pub returns-clause-kind : goal.returns-clause-kind
returns-clause-kind g c = rw c.or_error-2.ensures (all_kinds c.args.self.now c.read.result (c.read.ensures.within (value_node c.args.src.now c.args.self.now c.if-is_keyword.ensures c.requires)))

pub returns-clause-within : goal.returns-clause-within
returns-clause-within g c = rw c.or_error-2.ensures (all_stand c.args.self.now c.read.result (c.read.ensures.within (value_node c.args.src.now c.args.self.now c.if-is_keyword.ensures c.requires)))

pub returns-clause-in_text : goal.returns-clause-in_text
returns-clause-in_text g c = rw c.or_error-2.ensures (all_in_text c.args.src.now c.args.self.now c.read.result c.requires (c.read.ensures.within (value_node c.args.src.now c.args.self.now c.if-is_keyword.ensures c.requires)))
