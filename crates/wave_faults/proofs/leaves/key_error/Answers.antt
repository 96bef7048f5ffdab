use Rattle.std.proofs.Common.{◌∙◌, ◌≡◌, sym, ap}
use Rattle.wave_wasm.specs.Types.{kind_of}
use Rattle.wave_grammar.specs.declared.form.NodeType.TheVariants as nodes
use Rattle.wave_grammar.specs.NodeTree.{type_of}
use Rattle.wave_faults.proofs.Walk.Adding.{ok_so}
use Rattle.wave_faults.proofs.Walk.Leaves.{key_told, bool_told, label_told}
use Rattle.wave_faults.proofs.Walk.TypeTests.{is_node, is_other_node}
use Rattle.wave_faults.proofs.leaves.key_error.Goals as goal

pub returns-then-ne : goal.returns-then-ne
returns-then-ne g c =
    ok_so c.leaf_error.result
    (λ o answers K p key simple token. key_told K c.args.source.now c.args.node.now p key o token (λ label. is_other_node c.ty.result nodes.Label c.ne.ensures c.if-ne.true (c.ty.ensures ∙ label)) (answers K (c.kind-kind.ensures ∙ ap kind_of simple)))
    c.leaf_error.ensures

pub returns-then-is_bool_key : goal.returns-then-is_bool_key
returns-then-is_bool_key g c = λ K p key simple token.
    let label : type_of c.args.node.now ≡ nodes.Label = sym c.ty.ensures ∙ is_node c.ty.result nodes.Label c.ne.ensures c.if-ne.false in
    let (bool, b, word) = c.if-is_bool_key.ensures in
    bool_told K (g.T.WasmType.tree c.args.ty.now) c.kind-kind.result c.args.source.now c.args.node.now p key b c.kind-kind.ensures simple bool token label (sym c.text_of.ensures ∙ word)

pub returns : goal.returns
returns g c = λ K p key simple token.
    let label : type_of c.args.node.now ≡ nodes.Label = sym c.ty.ensures ∙ is_node c.ty.result nodes.Label c.ne.ensures c.if-ne.false in
    label_told K (g.T.WasmType.tree c.args.ty.now) c.kind-kind.result c.args.source.now c.args.node.now p key c.in_ok-unspelled.field-0 c.kind-kind.ensures simple (λ bool b word. c.if-is_bool_key.ensures bool b (c.text_of.ensures ∙ word)) token label c.in_ok-unspelled.ensures
