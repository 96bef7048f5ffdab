use Rattle.wave_grammar.specs.FaultOrder.{in_text}
use Rattle.std.proofs.Common.{sym, subst, ap, ◌∙◌, ◌++◌, ◌∷◌, []}
use Rattle.wave_wasm.specs.Borrowed.{denoted}
use Rattle.wave_leaf.specs.Reading.{IsReadWhereExpected}
use Rattle.wave_read.specs.ListParts.{element_expected}
use Rattle.wave_read.proofs.ItemReading.Lists.{one_more, held_still, item_kept, refusal_held}
use Rattle.wave_read.proofs.lists.Items+V+Type+V.push_part.Goals as goal

pub returns-then-is_some : goal.returns-then-is_some
returns-then-is_some g c = λ w T source children n takes a expected. record {
  is = a.is;
  element = a.element;
  count = one_more children n c.args.self.now.count c.in-Some.count a.count c.in-Some.ensures.1;
  read = held_still g.V.WasmValue.tree g.V.WasmValue.is_of g.V.WasmValue.is_full in_text w (g.V.Type.WasmType.tree c.args.self.now.element.now) source children c.args.self.now.items.items c.args.self.now.held n (sym c.if-is_some.ensures) a.read;
}

pub returns-in_ok-reserve-in-Ok : goal.returns-in_ok-reserve-in-Ok
returns-in_ok-reserve-in-Ok g c = λ w T source children n takes a expected. record {
  is = a.is;
  element = a.element;
  count = one_more children n c.args.self.now.count c.in-Some.count a.count c.in-Some.ensures.1;
  read = item_kept g.V.WasmValue.tree g.V.WasmValue.is_of g.V.WasmValue.is_full in_text w g.V.Type.WasmType.tree c.args.self.now.element source children c.args.self.now.items.items c.push_reserved.new.self.items c.args.self.now.held n c.in-Ok.item (sym c.if-is_some.ensures) a.read
      (subst (IsReadWhereExpected g.V.WasmValue.tree g.V.WasmValue.is_of g.V.WasmValue.is_full w w (denoted g.V.Type.WasmType.tree (element_expected c.args.self.now)) source n) c.in-Ok.is expected) (c.push_reserved.ensures.items ∙ ap (λ xs. xs ++ c.in-Ok.item ∷ []) c.reserve.ensures.items);
}

pub returns-in-Err : goal.returns-in-Err
returns-in-Err g c = λ w T source children n takes a expected. record {
  is = a.is;
  element = a.element;
  count = one_more children n c.args.self.now.count c.in-Some.count a.count c.in-Some.ensures.1;
  read = refusal_held g.V.WasmValue.tree g.V.WasmValue.is_of g.V.WasmValue.is_full in_text w g.V.Type.WasmType.tree c.args.self.now.element source children c.args.self.now.items.items c.args.self.now.held n c.in-Err.error (sym c.if-is_some.ensures) a.read
      (subst (IsReadWhereExpected g.V.WasmValue.tree g.V.WasmValue.is_of g.V.WasmValue.is_full w w (denoted g.V.Type.WasmType.tree (element_expected c.args.self.now)) source n) c.in-Err.is expected);
}
