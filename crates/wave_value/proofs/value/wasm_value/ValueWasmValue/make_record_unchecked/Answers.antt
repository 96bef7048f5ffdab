use Rattle.std.proofs.Common.{map, sym, ap, ◌∙◌}
use Rattle.std.proofs.lemmas.Result.{IfErr-weaker}
use Rattle.wave_wasm.specs.ConstructorContracts.{FullRecord}
use Rattle.wave_wasm.specs.Borrowed.{named}
use Rattle.wave_type.specs.TypeModel.{by_bytes, record_part}
use Rattle.wave_value.specs.FullTypes.{IsFull}
use Rattle.wave_value.specs.RecordConstructor.{RefusesRecord, last_under}
use Rattle.wave_value.specs.ConstructorRules.{own_text}
use Rattle.wave_value.specs.TypedValue.{IsAt}
use Rattle.wave_value.proofs.ConstructorAnswers.Records.{record_fits, record_built, record_taken}
use Rattle.wave_value.proofs.Lawful.Records.{built_record, full_record}
use Rattle.wave_value.proofs.TypedParts.RecordsFit.{typed_in_order}
use Rattle.wave_value.proofs.value.wasm_value.ValueWasmValue.make_record_unchecked.Goals as goal

pub invariant_of-result : goal.invariant_of-result
invariant_of-result c =
    let parts = map by_bytes c.in-Some.stated.now.items in
    let given = typed_in_order c.args.ty.now c.in-Some.stated.now.items c.replace-fields.result.items c.in_ok-vals-in-Some.vals.items c.stand_in_order.result c.in-Some.ensures c.if-stand_in_order.true c.stand_in_order.ensures.turn c.stand_in_order.ensures.distinct (rw c.replace-fields.ensures.value c.requires) c.in_ok-vals-in-Some.ensures in
    record_fits c.in_ok-clone-in-Some.field-0 parts (last_under (named c.replace-fields.result.items)) c.in_ok-vals-in-Some.vals.items (c.in-Some.ensures ∙ ap record_part (sym c.in_ok-clone-in-Some.ensures.cases)) given

pub returns-in_ok-clone-in-Some-clause-exact : goal.returns-in_ok-clone-in-Some-clause-exact
returns-in_ok-clone-in-Some-clause-exact c =
    let parts = map by_bytes c.in-Some.stated.now.items in
    let given = typed_in_order c.args.ty.now c.in-Some.stated.now.items c.replace-fields.result.items c.in_ok-vals-in-Some.vals.items c.stand_in_order.result c.in-Some.ensures c.if-stand_in_order.true c.stand_in_order.ensures.turn c.stand_in_order.ensures.distinct (rw c.replace-fields.ensures.value c.requires) c.in_ok-vals-in-Some.ensures in
    rw (sym c.replace-fields.ensures.value) (record_built c.args.ty.now c.in_ok-clone-in-Some.field-0 parts (named c.replace-fields.result.items) c.in_ok-vals-in-Some.vals.items c.in_ok-clone-in-Some.ensures.cases c.in-Some.ensures given)

pub returns-in_ok-clone-in-Some-clause-taken : goal.returns-in_ok-clone-in-Some-clause-taken
returns-in_ok-clone-in-Some-clause-taken c =
    let parts = map by_bytes c.in-Some.stated.now.items in
    let given = typed_in_order c.args.ty.now c.in-Some.stated.now.items c.replace-fields.result.items c.in_ok-vals-in-Some.vals.items c.stand_in_order.result c.in-Some.ensures c.if-stand_in_order.true c.stand_in_order.ensures.turn c.stand_in_order.ensures.distinct (rw c.replace-fields.ensures.value c.requires) c.in_ok-vals-in-Some.ensures in
    rw (sym c.replace-fields.ensures.value) (record_taken c.args.ty.now parts (named c.replace-fields.result.items) c.in_ok-vals-in-Some.vals.items c.in-Some.ensures given)

pub returns-in_ok-clone-in-Some-clause-built : goal.returns-in_ok-clone-in-Some-clause-built
returns-in_ok-clone-in-Some-clause-built c =
    built_record _ _ _ (returns-in_ok-clone-in-Some-clause-exact c) (returns-in_ok-clone-in-Some-clause-taken c)

pub returns-in_default-clause-full : goal.returns-in_default-clause-full
returns-in_default-clause-full c =
    rw (sym c.replace-fields.ensures.value) (IfErr-weaker c.record_of.result (RefusesRecord own_text c.args.ty.now (named c.replace-fields.result.items)) (FullRecord (λ v T. IsAt T v) IsFull c.args.ty.now c.replace-fields.result.items) (λ e r. full_record own_text c.args.ty.now c.replace-fields.result.items e r) c.record_of.ensures.refused)
