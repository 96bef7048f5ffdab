use Rattle.wave_grammar.specs.FaultOrder.{in_text}
use Rattle.std.proofs.Common.{sym, ap, ◌∙◌, ◌++◌, ◌∷◌, []}
use Rattle.wave_leaf.specs.Leaves.{leaf_node}
use Rattle.wave_read.proofs.ItemReading.Lists.{one_more, item_read_at_once}
use Rattle.wave_read.proofs.lists.Items+V+Type+V.push_fast.Goals as goal

pub returns : goal.returns
returns g c = λ w T source children here a. record {
  is = a.is;
  element = a.element;
  count = one_more children (leaf_node c.args.leaf.now) c.args.self.now.count c.in-Some-checked_add.count a.count c.in-Some-checked_add.ensures.1;
  read = item_read_at_once g.V.WasmValue.tree g.V.WasmValue.is_of g.V.WasmValue.is_full in_text w g.V.Type.WasmType.tree c.args.self.now.element source children c.args.self.now.items.items c.push_reserved.new.self.items c.args.self.now.held (leaf_node c.args.leaf.now) c.in-Some.item (sym c.if-is_some.ensures) a.read
      (c.in-Some.ensures w w source here) (c.push_reserved.ensures.items ∙ ap (λ xs. xs ++ c.in-Some.item ∷ []) c.reserve.ensures.items);
}
