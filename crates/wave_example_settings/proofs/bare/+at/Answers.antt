use Rattle.std.proofs.Common.{refl, sym, subst, ◌∙◌}
use Rattle.wave_wasm.specs.HasType.{HasType}
use Rattle.wave_value.proofs.ValueModel.Lists.{all_more, all_items}
use Rattle.wave_example_settings.specs.BareTree.{tree}
use Rattle.wave_example_settings.proofs.Lawful.{trees_at, is_list_at, is_fixed_at}
use Rattle.wave_example_settings.proofs.bare.+at.Goals as goal

pub are_at-loop-item-preserved : goal.are_at-loop-item-preserved
are_at-loop-item-preserved t c =
    all_more (λ item. HasType c.args.ty.now (tree item)) c.deref-item-items.result.now c.loop-item.item-index c.item-item.result c.loop-item-test.true c.item-item.is (c.if-not-is_at.ensures refl) c.loop-item.invariant

pub are_at-returns : goal.are_at-returns
are_at-returns t c =
    λ yes. all_items (λ item. HasType c.args.ty.now (tree item)) c.deref-item-items.result.now _ c.loop-item.item-index c.deref-item-items.ensures.value c.loop-item-test.false c.loop-item.invariant

pub are_elements-returns-in-Some : goal.are_elements-returns-in-Some
are_elements-returns-in-Some t c = λ yes. (c.in-Some.element.now, c.in-Some.ensures, trees_at _ _ (c.are_at.ensures yes))

pub is_at-returns-in-List-None : goal.is_at-returns-in-List-None
is_at-returns-in-List-None t c =
    λ yes. subst (λ b. HasType c.args.ty.now (tree b)) (sym c.in-List-None.is-0) (is_list_at c.args.ty.now c.in-List-None.items c.in-List-None.ensures (c.are_elements.ensures yes))

pub is_at-returns-then-len-count : goal.is_at-returns-then-len-count
is_at-returns-then-len-count t c =
    λ yes. subst (λ b. HasType c.args.ty.now (tree b)) (sym c.in-Fixed-Some.is-0)
    (is_fixed_at c.args.ty.now c.in-Fixed-Some.items c.in-Fixed-Some.count c.in-Fixed-Some.ensures (sym c.in-Fixed-Some.items.ok.0 ∙ (sym c.len.ensures ∙ c.if-len-count.true)) (c.are_elements-then-len-count.ensures yes))
