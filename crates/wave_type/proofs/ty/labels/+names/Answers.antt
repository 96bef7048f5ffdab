use Rattle.std.proofs.Common.{arith, ap, map}
use Rattle.wave_wasm.specs.Types.{depth_of_types, depth_of_fields, depth_of_cases, types_of, fields_of, cases_of}
use Rattle.wave_type.specs.TypeModel.{by_bytes}
use Rattle.wave_type.proofs.TypeTrees.Equality.{type_at, field_at, case_at}
use Rattle.wave_type.proofs.DistinctNames.LabelTest.{record_passes, record_fails, variant_passes, variant_fails}
use Rattle.wave_type.proofs.ty.labels.+names.Goals as goal

pub types_pass-names_pass-requires : goal.types_pass-names_pass-requires
types_pass-names_pass-requires t c =
    (omega (arith, type_at c.deref-ty-items.result.now c.loop-ty.ty-index c.ty-item.result c.loop-ty-test.true c.ty-item.is, ap (λ us. depth_of_types (types_of us)) c.deref-ty-items.ensures.value), tt)

pub fields_pass-names_pass-requires : goal.fields_pass-names_pass-requires
fields_pass-names_pass-requires t c =
    (omega (arith, field_at c.deref-field-items.result.now c.loop-field.field-index c.field-item.result c.loop-field-test.true c.field-item.is, ap (λ us. depth_of_fields (fields_of (map by_bytes us))) c.deref-field-items.ensures.value), tt)

pub cases_pass-payload_passes-requires : goal.cases_pass-payload_passes-requires
cases_pass-payload_passes-requires t c =
    (omega (arith, case_at c.deref-case-items.result.now c.loop-case.case-index c.case-item.result c.loop-case-test.true c.case-item.is, ap (λ us. depth_of_cases (cases_of (map by_bytes us))) c.deref-case-items.ensures.value), tt)

pub names_pass-returns-then-are_label_names : goal.names_pass-returns-then-are_label_names
names_pass-returns-then-are_label_names t c =
    rw (← c.ty.view_is) (rw c.in-Record.is (record_passes _ _ _ _ _ (λ i. (c.deref-in-Record.ensures i).0.items) (λ i. (c.deref-then-are_label_names.ensures i).0.items) c.are_label_names.ensures c.if-are_label_names.true c.fields_pass.ensures))

pub names_pass-returns-else-are_label_names : goal.names_pass-returns-else-are_label_names
names_pass-returns-else-are_label_names t c =
    rw (← c.ty.view_is) (rw c.in-Record.is (record_fails _ _ _ (λ i. (c.deref-in-Record.ensures i).0.items) c.are_label_names.ensures c.if-are_label_names.false))

pub names_pass-returns-then-are_label_names-2 : goal.names_pass-returns-then-are_label_names-2
names_pass-returns-then-are_label_names-2 t c =
    rw (← c.ty.view_is) (rw c.in-Variant.is (variant_passes _ _ _ _ _ (λ i. (c.deref-in-Variant.ensures i).0.items) (λ i. (c.deref-then-are_label_names-2.ensures i).0.items) c.are_label_names-in-Variant.ensures c.if-are_label_names-2.true c.cases_pass.ensures))

pub names_pass-returns-else-are_label_names-2 : goal.names_pass-returns-else-are_label_names-2
names_pass-returns-else-are_label_names-2 t c =
    rw (← c.ty.view_is) (rw c.in-Variant.is (variant_fails _ _ _ (λ i. (c.deref-in-Variant.ensures i).0.items) c.are_label_names-in-Variant.ensures c.if-are_label_names-2.false))
