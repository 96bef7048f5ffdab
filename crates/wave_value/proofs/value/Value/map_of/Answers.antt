use Rattle.wave_value.specs.Private.ValueModel.{EntryAt}
use Rattle.wave_value.proofs.ValueModel.Lists.{all_more, all_items}
use Rattle.wave_value.proofs.ConstructorAnswers.ListsAndEnums.{is_at, not_at}
use Rattle.wave_value.proofs.ConstructorAnswers.Maps.{map_taken, map_built, key_refused, value_refused}
use Rattle.wave_value.proofs.value.Value.map_of.Goals as goal

pub returns-then-not-is_at-clause-refused : goal.returns-then-not-is_at-clause-refused
returns-then-not-is_at-clause-refused g c =
    key_refused g.S.ShowsValue.words c.args.ty.now c.in-Some.key.now c.in-Some.value.now c.deref-entry-items.result.now c.args.entries.items c.loop-entry.entry-index c.entry-item.result _ c.in-Some.ensures c.deref-entry-items.ensures.value c.loop-entry-test.true c.entry-item.is (not_at _ _ _ c.if-not-is_at.true c.is_at.ensures) c.wrong_type.ensures

pub returns-then-not-is_at-2-clause-refused : goal.returns-then-not-is_at-2-clause-refused
returns-then-not-is_at-2-clause-refused g c =
    value_refused g.S.ShowsValue.words c.args.ty.now c.in-Some.key.now c.in-Some.value.now c.deref-entry-items.result.now c.args.entries.items c.loop-entry.entry-index c.entry-item.result _ c.in-Some.ensures c.deref-entry-items.ensures.value c.loop-entry-test.true c.entry-item.is (not_at _ _ _ c.if-not-is_at-2.true c.is_at-in-loop-entry.ensures) c.wrong_type-then-not-is_at-2.ensures

pub loop-entry-preserved : goal.loop-entry-preserved
loop-entry-preserved g c =
    all_more (EntryAt c.in-Some.key.now c.in-Some.value.now) c.deref-entry-items.result.now c.loop-entry.entry-index c.entry-item.result c.loop-entry-test.true c.entry-item.is (is_at _ _ _ c.if-not-is_at.false c.is_at.ensures, is_at _ _ _ c.if-not-is_at-2.false c.is_at-in-loop-entry.ensures) c.loop-entry.invariant

pub returns-clause-built : goal.returns-clause-built
returns-clause-built g c =
    map_built c.args.ty.now c.in_ok-clone.field-0 c.in-Some.key.now c.in-Some.value.now c.args.entries.items c.in_ok-clone.ensures.cases c.in-Some.ensures (all_items (EntryAt c.in-Some.key.now c.in-Some.value.now) c.deref-entry-items.result.now c.args.entries.items c.loop-entry.entry-index c.deref-entry-items.ensures.value c.loop-entry-test.false c.loop-entry.invariant)

pub returns-clause-taken : goal.returns-clause-taken
returns-clause-taken g c =
    map_taken c.args.ty.now c.in-Some.key.now c.in-Some.value.now c.args.entries.items c.in-Some.ensures (all_items (EntryAt c.in-Some.key.now c.in-Some.value.now) c.deref-entry-items.result.now c.args.entries.items c.loop-entry.entry-index c.deref-entry-items.ensures.value c.loop-entry-test.false c.loop-entry.invariant)
