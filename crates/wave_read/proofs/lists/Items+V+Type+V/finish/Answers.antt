use Rattle.wave_grammar.specs.FaultOrder.{in_text}
use Rattle.std.proofs.Common.{refl, sym, subst}
use Rattle.std.specs.Prelude.{IfOk, IfErr}
use Rattle.wave_wasm.specs.Types.{TypeTree, HasDistinctNames}
use Rattle.wave_wasm.specs.ConstructorContracts.{MakesList, FullList, TypedList}
use Rattle.wave_grammar.specs.NodeTree.{node, node_trees}
use Rattle.wave_grammar.specs.PartReading.{IsOfLength, IsOtherLength}
use Rattle.wave_grammar.specs.declared.form.NodeType.TheVariants as kind
use Rattle.wave_leaf.specs.Reading.{IsReadAs}
use Rattle.wave_read.specs.ListParts.{ReadOrHeld}
use Rattle.wave_read.proofs.ItemReading.Lists.{refusal_handed, length_refused, item_refused, items_typed, list_read}
use Rattle.wave_read.proofs.lists.Items+V+Type+V.finish.Goals as goal

pub returns-in_err-check_length : goal.returns-in_err-check_length
returns-in_err-check_length g c = λ w T source children a.
    refusal_handed (IsReadAs g.V.WasmValue.tree g.V.WasmValue.is_of g.V.WasmValue.is_full in_text w T source (node kind.List c.args.span (node_trees children))) c.from_residual.result c.in_err-check_length.field-0.0 c.from_residual.ensures.1
    (length_refused g.V.WasmValue.tree g.V.WasmValue.is_of g.V.WasmValue.is_full in_text w T source c.args.span children c.args.self.count c.in_err-check_length.field-0.0 a.count
    (subst (λ (U : TypeTree). IsOtherLength U c.args.self.count (node kind.List c.args.span (node_trees children)) c.in_err-check_length.field-0.0) a.is (c.in_err-check_length.ensures.other (node_trees children))))

pub returns-in-Some : goal.returns-in-Some
returns-in-Some g c = λ w T source children a.
    item_refused g.V.WasmValue.tree g.V.WasmValue.is_of g.V.WasmValue.is_full in_text w T (g.V.Type.WasmType.tree c.args.self.element.now) source c.args.span children c.args.self.count c.in-Some.error g.met.V.WasmValue.full_parts a.element a.count
    (subst (λ (U : TypeTree). IsOfLength U c.args.self.count) a.is c.in_ok-check_length.ensures.fits)
    (subst (ReadOrHeld g.V.WasmValue.tree g.V.WasmValue.is_of g.V.WasmValue.is_full w (g.V.Type.WasmType.tree c.args.self.element.now) source children c.args.self.items.items) c.in-Some.is a.read)

pub make_list_unchecked-requires : goal.make_list_unchecked-requires
make_list_unchecked-requires g c =
    let (w, T, source, children, a) = c.requires in
    subst (λ (U : TypeTree). HasDistinctNames U → TypedList g.V.WasmValue.is_of U c.args.self.items.items) (sym a.is)
    (items_typed g.V.WasmValue.tree g.V.WasmValue.is_of g.V.WasmValue.is_full in_text w T (g.V.Type.WasmType.tree c.args.self.element.now) source children c.args.self.items.items c.args.self.count a.element a.count
    (subst (λ (U : TypeTree). IsOfLength U c.args.self.count) a.is c.in_ok-check_length.ensures.fits)
    (subst (ReadOrHeld g.V.WasmValue.tree g.V.WasmValue.is_of g.V.WasmValue.is_full w (g.V.Type.WasmType.tree c.args.self.element.now) source children c.args.self.items.items) c.in_default.is a.read))

pub returns : goal.returns
returns g c = λ w T source children a.
    list_read g.V.WasmValue.tree g.V.WasmValue.is_of g.V.WasmValue.is_full in_text w T (g.V.Type.WasmType.tree c.args.self.element.now) source c.args.span children c.args.self.items.items c.args.self.count c.make_list_unchecked.result c.or_error_at.result a.element a.count
    (subst (λ (U : TypeTree). IsOfLength U c.args.self.count) a.is c.in_ok-check_length.ensures.fits)
    (subst (ReadOrHeld g.V.WasmValue.tree g.V.WasmValue.is_of g.V.WasmValue.is_full w (g.V.Type.WasmType.tree c.args.self.element.now) source children c.args.self.items.items) c.in_default.is a.read)
    (subst (λ (U : TypeTree). IfOk c.make_list_unchecked.result (MakesList g.V.WasmValue.tree g.V.WasmValue.is_of U c.args.self.items.items)) a.is c.make_list_unchecked.ensures.built)
    (subst (λ (U : TypeTree). IfErr c.make_list_unchecked.result (FullList g.V.WasmValue.is_of g.V.WasmValue.is_full U c.args.self.items.items)) a.is c.make_list_unchecked.ensures.full)
    (c.or_error_at.ensures (node kind.List c.args.span (node_trees children)) refl)
