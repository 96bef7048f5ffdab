use Rattle.std.proofs.Common.{◌≡◌, ◌+◌, ◌*◌, map, drop}
use Rattle.wave_wasm.specs.Types.{depth, depth_of_types, depth_of_fields, depth_of_cases, depth_of_maybe, types_of, fields_of, cases_of, maybe_type}
use Rattle.wave_type.specs.TypeModel.{by_bytes}
use Rattle.wave_type.specs.Private.LabelTest.{types_pass, fields_pass, cases_pass}
use Rattle.wave_type.proofs.ty.labels.+names.Given as goal

abbrev pub decreases-names_pass : goal.decreases-names_pass
decreases-names_pass l = 3 * depth l.ty.now

abbrev pub decreases-payload_passes : goal.decreases-payload_passes
decreases-payload_passes l = 3 * depth_of_maybe (maybe_type l.payload.now) + 1

abbrev pub decreases-types_pass : goal.decreases-types_pass
decreases-types_pass l = 3 * depth_of_types (types_of l.types.now.items) + 2

abbrev pub decreases-fields_pass : goal.decreases-fields_pass
decreases-fields_pass l = 3 * depth_of_fields (fields_of (map by_bytes l.fields.now.items)) + 2

abbrev pub decreases-cases_pass : goal.decreases-cases_pass
decreases-cases_pass l = 3 * depth_of_cases (cases_of (map by_bytes l.cases.now.items)) + 2

abbrev pub invariant-types_pass-loop-ty : goal.invariant-types_pass-loop-ty
invariant-types_pass-loop-ty l = types_pass (types_of (drop l.ty-index l.ty-items)) ≡ types_pass (types_of l.ty-items)

abbrev pub invariant-fields_pass-loop-field : goal.invariant-fields_pass-loop-field
invariant-fields_pass-loop-field l =
    fields_pass (fields_of (map by_bytes (drop l.field-index l.field-items))) ≡ fields_pass (fields_of (map by_bytes l.field-items))

abbrev pub invariant-cases_pass-loop-case : goal.invariant-cases_pass-loop-case
invariant-cases_pass-loop-case l =
    cases_pass (cases_of (map by_bytes (drop l.case-index l.case-items))) ≡ cases_pass (cases_of (map by_bytes l.case-items))
