use Rattle.std.proofs.Common.{◌≡◌, inl, inr, sym, ap, ◌∙◌, subst}
use Rattle.std.specs.Prelude.{IfErr}
use Rattle.wave_wasm.specs.Types as type
use Rattle.wave_wasm.specs.Types.{kind_of}
use Rattle.wave_wasm.proofs.TypesOfValues.TypeOfKind.{simple_is}
use Rattle.wave_grammar.specs.NodeTree.{NodeTree, place_of}
use Rattle.wave_grammar.specs.TypedReading.{IsKeyOf, AnswersKey}
use Rattle.wave_grammar.specs.ErrorSpans.{RefusesIn}
use Rattle.wave_grammar.proofs.NodeMeaning.Keys.{keyword_fault}
use Rattle.wave_grammar.proofs.ErrorSpans.Nodes.{at_in, form_at, caused_at}
use Rattle.wave_leaf.specs.Leaves.{leaf_node}
use Rattle.wave_leaf.proofs.LeafReading.SimpleTypes.{unreadable_is, has_values, caused_there}
use Rattle.wave_node.proofs.NodeReading.Children.{key_alone}
use Rattle.wave_node.proofs.NodeReading.BuilderAnswers.{keyword_unread, keyword_other}
use Rattle.wave_node.proofs.ast.Node.read_keyword.Goals as goal

pub returns-in-Bool-clause-answer : goal.returns-in-Bool-clause-answer
returns-in-Bool-clause-answer g c =
    let node : leaf_node c.leaf-leaf.result ≡ c.args.self.now = c.leaf-leaf.ensures.node ∙ sym (key_alone c.args.src.now c.args.self.now c.requires.key) in
    subst (λ (n : NodeTree). AnswersKey g.V.WasmValue.tree g.V.WasmValue.is_of g.V.WasmValue.is_full (g.V.Type.WasmType.tree c.args.ty.now) c.args.src.now n c.read_plain_key.result) node (c.read_plain_key.ensures.answer c.args.src.now c.leaf-leaf.ensures.text)

pub returns-in-Bool-clause-within : goal.returns-in-Bool-clause-within
returns-in-Bool-clause-within g c =
    let node : leaf_node c.leaf-leaf.result ≡ c.args.self.now = c.leaf-leaf.ensures.node ∙ sym (key_alone c.args.src.now c.args.self.now c.requires.key) in
    subst (λ (n : NodeTree). IfErr c.read_plain_key.result (RefusesIn n)) node (c.read_plain_key.ensures.within c.args.src.now c.leaf-leaf.ensures.text (subst (IsKeyOf c.args.src.now) (sym node) c.requires.key))

pub returns-in-Bool-clause-other : goal.returns-in-Bool-clause-other
returns-in-Bool-clause-other g c = λ other. absurd (other (simple_is type.bool (g.V.Type.WasmType.tree c.args.ty.now) (sym c.in-Bool.is ∙ c.kind-kind.ensures)))

pub returns-in-F32-clause-answer : goal.returns-in-F32-clause-answer
returns-in-F32-clause-answer g c = λ K p key is token.
    let k = unreadable_is c.kind-kind.result c.in-F32.is in
    absurd (has_values K k.0 (sym (ap kind_of is) ∙ (sym c.kind-kind.ensures ∙ k.1)))

pub returns-in-F32-clause-other : goal.returns-in-F32-clause-other
returns-in-F32-clause-other g c = λ other.
    keyword_unread (g.V.Type.WasmType.tree c.args.ty.now) c.kind-kind.result c.args.self.now c.unsupported.result c.kind-kind.ensures c.in-F32.is (caused_there _ c.args.self.now (leaf_node c.leaf-leaf.result) c.unsupported.result (sym (ap place_of c.leaf-leaf.ensures.node)) c.unsupported.ensures.cause)

pub returns-in-F32-clause-within : goal.returns-in-F32-clause-within
returns-in-F32-clause-within g c =
    let place = sym (ap place_of c.leaf-leaf.ensures.node) in
    at_in c.args.src.now c.args.self.now c.unsupported.result (inr c.requires.key) (caused_at _ c.args.self.now c.unsupported.result (caused_there _ c.args.self.now (leaf_node c.leaf-leaf.result) c.unsupported.result place c.unsupported.ensures.cause) (c.unsupported.ensures.span ∙ sym place))

pub returns-in_default-clause-answer : goal.returns-in_default-clause-answer
returns-in_default-clause-answer g c = λ K p key is token.
    inr (inl (keyword_fault K c.args.src.now c.args.self.now p key c.read_error.result (λ same. c.in_default.not-Bool (c.kind-kind.ensures ∙ (ap kind_of is ∙ ap (λ S. kind_of (type.simple S)) same))) token c.requires.keyword.0 c.read_error.ensures))

pub returns-in_default-clause-other : goal.returns-in_default-clause-other
returns-in_default-clause-other g c = λ other.
    keyword_other (g.V.Type.WasmType.tree c.args.ty.now) c.kind-kind.result c.args.self.now c.read_error.result c.kind-kind.ensures c.in_default.not-F32 c.in_default.not-F64 c.in_default.not-Unsupported c.read_error.ensures

pub returns-in_default-clause-within : goal.returns-in_default-clause-within
returns-in_default-clause-within g c = at_in c.args.src.now c.args.self.now c.read_error.result (inr c.requires.key) (form_at c.args.self.now c.read_error.result c.read_error.ensures)
