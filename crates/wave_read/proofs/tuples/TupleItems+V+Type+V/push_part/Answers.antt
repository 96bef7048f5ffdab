use Rattle.wave_grammar.specs.FaultOrder.{in_text}
use Rattle.std.proofs.Common.{is_some, sym, ap, ◌∙◌, ◌++◌, ◌∷◌, []}
use Rattle.wave_read.proofs.ItemReading.Lists.{one_more}
use Rattle.wave_read.proofs.ItemReading.Tuples.{each_beyond, each_next}
use Rattle.wave_read.proofs.tuples.TupleItems+V+Type+V.push_part.Goals as goal

pub returns-then-is_none : goal.returns-then-is_none
returns-then-is_none g c = λ w T source children n takes a expected. record {
  is = a.is;
  kind = a.kind;
  parts = a.parts;
  count = one_more children n c.args.self.now.count c.in-Some.count a.count c.in-Some.ensures.1;
  read = each_beyond g.V.WasmValue.tree g.V.WasmValue.is_of g.V.WasmValue.is_full in_text w g.V.Type.WasmType.tree source c.args.self.now.types.items children c.args.self.now.items.items n (ap is_some (sym c.next.ensures) ∙ c.if-is_none.ensures) a.read;
}

pub returns : goal.returns
returns g c = λ w T source children n takes a expected. record {
  is = a.is;
  kind = a.kind;
  parts = a.parts;
  count = one_more children n c.args.self.now.count c.in-Some.count a.count c.in-Some.ensures.1;
  read = rw (c.push_reserved.ensures.items ∙ ap (λ xs. xs ++ c.args.item ∷ []) c.reserve.ensures.items) (each_next g.V.WasmValue.tree g.V.WasmValue.is_of g.V.WasmValue.is_full in_text w g.V.Type.WasmType.tree source c.args.self.now.types.items children c.args.self.now.items.items n c.args.item (ap is_some (sym c.next.ensures) ∙ c.if-is_none.ensures) a.read expected);
}
