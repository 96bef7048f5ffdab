use Rattle.std.proofs.Common.{sym}
use Rattle.std.proofs.lemmas.Bool.{false≢true}
use Rattle.wave_value.specs.Private.RecordConstructor.{held}
use Rattle.wave_value.proofs.ConstructorAnswers.ListsAndEnums.{is_at, not_at}
use Rattle.wave_value.proofs.ConstructorAnswers.Records.{missing_refused, other_refused, taking_more, unknown_refused, all_in_order}
use Rattle.wave_value.proofs.value.checked.in_order.Goals as goal

pub returns-in_default-clause-refused : goal.returns-in_default-clause-refused
returns-in_default-clause-refused g c =
    missing_refused g.S.ShowsValue.words c.deref-field-items.result.now _ c.loop-field.field-index c.field-item.result _ (held c.args.given) (held c.loop-field.given) c.loop-field.vals.items _ c.deref-field-items.ensures.value c.loop-field-test.true c.field-item.is c.as_str-name.ensures.value c.loop-field.invariant (sym c.in_default.ensures.value) c.named.ensures

pub returns-then-not-is_at-clause-refused : goal.returns-then-not-is_at-clause-refused
returns-then-not-is_at-clause-refused g c =
    other_refused g.S.ShowsValue.words c.deref-field-items.result.now _ c.loop-field.field-index c.field-item.result _ (held c.args.given) (held c.loop-field.given) c.loop-field.vals.items c.in-Some.val _ c.deref-field-items.ensures.value c.loop-field-test.true c.field-item.is c.as_str-name.ensures.value c.loop-field.invariant (sym c.in-Some.ensures.value) (not_at _ _ _ c.if-not-is_at.true c.is_at.ensures) c.wrong_type.ensures

pub loop-field-preserved : goal.loop-field-preserved
loop-field-preserved g c =
    rw c.in_ok-push.ensures.items (taking_more c.deref-field-items.result.now c.loop-field.field-index c.field-item.result _ (held c.args.given) c.loop-field.given c.remove.new.self c.loop-field.vals.items c.in-Some.val c.loop-field-test.true c.field-item.is c.as_str-name.ensures.value c.loop-field.invariant (sym c.in-Some.ensures.value) (is_at _ _ _ c.if-not-is_at.false c.is_at.ensures) c.in-Some.ensures.updates)

pub returns-in-Some-first_key_value-clause-refused : goal.returns-in-Some-first_key_value-clause-refused
returns-in-Some-first_key_value-clause-refused g c =
    unknown_refused g.S.ShowsValue.words c.deref-field-items.result.now _ c.loop-field.field-index (held c.args.given) (held c.loop-field.given) c.loop-field.vals.items c.in-Some-first_key_value.name.now.now c.in-Some-first_key_value.field-0-1.now _ c.deref-field-items.ensures.value c.loop-field-test.false c.loop-field.invariant c.in-Some-first_key_value.ensures.value c.named-in-Some-first_key_value.ensures

pub returns-clause-given : goal.returns-clause-given
returns-clause-given g c =
    all_in_order c.deref-field-items.result.now _ c.loop-field.field-index (held c.args.given) c.loop-field.given c.loop-field.vals.items c.deref-field-items.ensures.value c.loop-field-test.false c.loop-field.invariant (λ lt. false≢true (c.in-None.ensures.variant.1 lt))
