use Rattle.std.proofs.Common.{rules, arith, ap, ◌∙◌, map}
use Rattle.std.specs.Cmp.Lexicographic.{pointwise}
use Rattle.std.specs.String.{string_eq}
use Rattle.wave_wasm.specs.Types.{types_of, fields_of, cases_of, depth, depth_of_types, depth_of_fields, depth_of_cases}
use Rattle.wave_type.specs.TypeEquality.{same_tree}
use Rattle.wave_type.specs.TypeModel.{by_bytes}
use Rattle.wave_type.specs.Private.TypeModel.{shape_tree}
use Rattle.wave_type.proofs.TypeTrees.Equality.{names_same, types_same, same_field, fields_same, same_case, cases_same}
use Rattle.wave_type.proofs.TypeTrees.Sizes.{below, types_most, fields_most, cases_most}
use Rattle.wave_type.proofs.ty.equality.TypePartialEq.+eq.Goals as goal

pub eq-requires-in-Record-Record : goal.eq-requires-in-Record-Record
eq-requires-in-Record-Record t c κs =
    (((below _ (fields_most _) (omega (arith, ap (λ v. depth_of_fields (fields_of (map by_bytes v.0.items))) c.deref-in-Record-Record.ensures, ap depth c.self.view_is, ap (λ s. depth (shape_tree s)) c.in-Record-Record.is-0)), (below _ (fields_most _) (omega (arith, ap (λ v. depth_of_fields (fields_of (map by_bytes v.0.items))) c.deref-in-Record-Record-2.ensures, ap depth c.other.view_is, ap (λ s. depth (shape_tree s)) c.in-Record-Record.is-1)), tt)), tt), search rules)

pub eq-requires-in-Tuple-Tuple : goal.eq-requires-in-Tuple-Tuple
eq-requires-in-Tuple-Tuple t c κs =
    (((below _ (types_most _) (omega (arith, ap (λ v. depth_of_types (types_of v.0.items)) c.deref-in-Tuple-Tuple.ensures, ap depth c.self.view_is, ap (λ s. depth (shape_tree s)) c.in-Tuple-Tuple.is-0)), (below _ (types_most _) (omega (arith, ap (λ v. depth_of_types (types_of v.0.items)) c.deref-in-Tuple-Tuple-2.ensures, ap depth c.other.view_is, ap (λ s. depth (shape_tree s)) c.in-Tuple-Tuple.is-1)), tt)), tt), search rules)

pub eq-requires-in-Variant-Variant : goal.eq-requires-in-Variant-Variant
eq-requires-in-Variant-Variant t c κs =
    (((below _ (cases_most _ (λ n. omega arith) (λ n t. omega arith) _) (omega (arith, ap (λ v. depth_of_cases (cases_of (map by_bytes v.0.items))) c.deref-in-Variant-Variant.ensures, ap depth c.self.view_is, ap (λ s. depth (shape_tree s)) c.in-Variant-Variant.is-0)), (below _ (cases_most _ (λ n. omega arith) (λ n t. omega arith) _) (omega (arith, ap (λ v. depth_of_cases (cases_of (map by_bytes v.0.items))) c.deref-in-Variant-Variant-2.ensures, ap depth c.other.view_is, ap (λ s. depth (shape_tree s)) c.in-Variant-Variant.is-1)), tt)), tt), search rules)

pub returns-in-Record-Record : goal.returns-in-Record-Record
returns-in-Record-Record t c =
    rw (← c.self.view_is) (rw (← c.other.view_is) (rw c.in-Record-Record.is-0 (rw c.in-Record-Record.is-1 (c.eq-in-Record-Record.ensures ∙ ((λ i. pointwise same_field (c.deref-in-Record-Record.ensures i).0.items (c.deref-in-Record-Record-2.ensures i).0.items) ∙ fields_same c.in-Record-Record.a.value.0.items c.in-Record-Record.b.value.0.items)))))

pub returns-in-Tuple-Tuple : goal.returns-in-Tuple-Tuple
returns-in-Tuple-Tuple t c =
    rw (← c.self.view_is) (rw (← c.other.view_is) (rw c.in-Tuple-Tuple.is-0 (rw c.in-Tuple-Tuple.is-1 (c.eq-in-Tuple-Tuple.ensures ∙ ((λ i. pointwise same_tree (c.deref-in-Tuple-Tuple.ensures i).0.items (c.deref-in-Tuple-Tuple-2.ensures i).0.items) ∙ types_same c.in-Tuple-Tuple.a.value.0.items c.in-Tuple-Tuple.b.value.0.items)))))

pub returns-in-Variant-Variant : goal.returns-in-Variant-Variant
returns-in-Variant-Variant t c =
    rw (← c.self.view_is) (rw (← c.other.view_is) (rw c.in-Variant-Variant.is-0 (rw c.in-Variant-Variant.is-1 (c.eq-in-Variant-Variant.ensures ∙ ((λ i. pointwise same_case (c.deref-in-Variant-Variant.ensures i).0.items (c.deref-in-Variant-Variant-2.ensures i).0.items) ∙ cases_same c.in-Variant-Variant.a.value.0.items c.in-Variant-Variant.b.value.0.items)))))

pub returns-in-Enum-Enum : goal.returns-in-Enum-Enum
returns-in-Enum-Enum t c =
    rw (← c.self.view_is) (rw (← c.other.view_is) (rw c.in-Enum-Enum.is-0 (rw c.in-Enum-Enum.is-1 (c.eq-in-Enum-Enum.ensures ∙ ((λ i. pointwise string_eq (c.deref-in-Enum-Enum.ensures i).0.items (c.deref-in-Enum-Enum-2.ensures i).0.items) ∙ names_same c.in-Enum-Enum.a.value.0.items c.in-Enum-Enum.b.value.0.items)))))

pub returns-in-Flags-Flags : goal.returns-in-Flags-Flags
returns-in-Flags-Flags t c =
    rw (← c.self.view_is) (rw (← c.other.view_is) (rw c.in-Flags-Flags.is-0 (rw c.in-Flags-Flags.is-1 (c.eq-in-Flags-Flags.ensures ∙ ((λ i. pointwise string_eq (c.deref-in-Flags-Flags.ensures i).0.items (c.deref-in-Flags-Flags-2.ensures i).0.items) ∙ names_same c.in-Flags-Flags.a.value.0.items c.in-Flags-Flags.b.value.0.items)))))
