use Rattle.std.proofs.Common.{◌≡◌, Some, inl, inr, sym, subst, ◌∙◌}
use Rattle.std.specs.Prelude.{slice_get}
use Rattle.wave_grammar.specs.TypedReading.{IsValueOf}
use Rattle.wave_place.specs.Paths.{item}
use Rattle.wave_place.proofs.Steps.{all_get, type_at, type_within, tuple_item}
use Rattle.wave_place.proofs.path.step_to_item.Goals as goal

pub returns-in-Ok-clause-taken : goal.returns-in-Ok-clause-taken
returns-in-Ok-clause-taken g c = λ source.
    let found = c.in-Some-item_at.ensures.some in
    record {
      step = item c.in-Some-item_at.i;
      steps = (subst (λ ns. slice_get ns c.in-Some-item_at.i ≡ Some c.in-Some-item_at.item.now) c.in-Ok.ensures.1 found.1, inl (c.in-Ok.ensures.0, sym c.in-Some.ensures));
      holds = found.2;
      text_is = c.in_ok-push_item.ensures;
    }

pub returns-in-Ok-clause-value : goal.returns-in-Ok-clause-value
returns-in-Ok-clause-value g c = λ source is.
    all_get (IsValueOf source) _ c.in-Some-item_at.i _ (c.in-Ok.ensures.2 source is) c.in-Some-item_at.ensures.some.1

pub returns-in-Some-item_at-2-clause-taken : goal.returns-in-Some-item_at-2-clause-taken
returns-in-Some-item_at-2-clause-taken g c = λ source.
    let found = c.in-Some-item_at-2.ensures.some in
    record {
      step = item c.in-Some-item_at-2.i;
      steps = (
        subst (λ ns. slice_get ns c.in-Some-item_at-2.i ≡ Some c.in-Some-item_at-2.item.now) c.in-Ok-as_tuple.ensures.1 found.1,
        inr (c.in-Ok-as_tuple.ensures.0, type_at g.T.WasmType.tree _ c.in_ok-types.types.items c.len.result c.in-Some-item_at-2.i c.index.result.now (c.len.ensures ∙ c.in_ok-types.types.ok.0) found.0 c.index.ensures c.in_ok-types.ensures),
      );
      holds = found.2;
      text_is = c.in_ok-push_item-in-Some-item_at-2.ensures;
    }

pub returns-in-Some-item_at-2-clause-value : goal.returns-in-Some-item_at-2-clause-value
returns-in-Some-item_at-2-clause-value g c = λ source is.
    all_get (IsValueOf source) _ c.in-Some-item_at-2.i _ (c.in-Ok-as_tuple.ensures.2 source is) c.in-Some-item_at-2.ensures.some.1

pub returns-clause-tuple : goal.returns-clause-tuple
returns-clause-tuple g c = λ source i is m U s lies.
    let at : slice_get c.in-Ok-as_tuple.items.now i ≡ Some m = subst (λ ns. slice_get ns i ≡ Some m) (sym c.in-Ok-as_tuple.ensures.1) s.0 in
    c.in-None.ensures.none i m (type_within g.T.WasmType.tree _ c.in_ok-types.types.items c.len.result i U (c.len.ensures ∙ c.in_ok-types.types.ok.0) c.in_ok-types.ensures (tuple_item c.args.node.now m _ U i is s.1)) at lies
