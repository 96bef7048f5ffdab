use Rattle.std.proofs.Common.{◌≡◌, ◌+◌, ◌*◌, max, map, take}
use Rattle.std.specs.Fmt.{HasWritten, IsPlainFormatter}
use Rattle.wave_wasm.specs.Types.{depth, depth_of_types, depth_of_fields, depth_of_cases, depth_of_maybe, types_of, fields_of, cases_of, maybe_type}
use Rattle.wave_wasm.specs.Commas.{joined}
use Rattle.wave_wasm.specs.TypeText.{type_text}
use Rattle.wave_type.specs.TypeModel.{by_bytes}
use Rattle.wave_wasm.proofs.Displays.JoinedTexts.{separator}
use Rattle.wave_type.proofs.TypeTexts.JoinedTexts.{field_line, case_line}
use Rattle.wave_type.proofs.ty.display.+text.Given as goal

abbrev pub decreases-write_type : goal.decreases-write_type
decreases-write_type g l = 4 * depth l.ty.now

abbrev pub decreases-write_types : goal.decreases-write_types
decreases-write_types g l = 4 * depth_of_types (types_of l.types.now.items) + 3

abbrev pub decreases-write_fields : goal.decreases-write_fields
decreases-write_fields g l = 4 * depth_of_fields (fields_of (map by_bytes l.fields.now.items)) + 3

abbrev pub decreases-write_cases : goal.decreases-write_cases
decreases-write_cases g l = 4 * depth_of_cases (cases_of (map by_bytes l.cases.now.items)) + 3

abbrev pub decreases-write_case : goal.decreases-write_case
decreases-write_case g l = 4 * depth_of_maybe (maybe_type l.case.now.1) + 2

abbrev pub decreases-write_result : goal.decreases-write_result
decreases-write_result g l = 4 * max (depth_of_maybe (maybe_type l.ok.now)) (depth_of_maybe (maybe_type l.err.now)) + 2

abbrev pub invariant-write_types-loop-ty : goal.invariant-write_types-loop-ty
invariant-write_types-loop-ty g l =
    (l.separator ≡ separator (map type_text (take l.ty-index l.ty-items))) × (IsPlainFormatter l.initial.f → HasWritten g.W.Write.write_str_gives l.initial.f (joined (map type_text (take l.ty-index l.ty-items))) l.f)

abbrev pub invariant-write_fields-loop-field : goal.invariant-write_fields-loop-field
invariant-write_fields-loop-field g l =
    (l.separator ≡ separator (map field_line (take l.field-index l.field-items))) × (IsPlainFormatter l.initial.f → HasWritten g.W.Write.write_str_gives l.initial.f (joined (map field_line (take l.field-index l.field-items))) l.f)

abbrev pub invariant-write_cases-loop-case : goal.invariant-write_cases-loop-case
invariant-write_cases-loop-case g l =
    (l.separator ≡ separator (map case_line (take l.case-index l.case-items))) × (IsPlainFormatter l.initial.f → HasWritten g.W.Write.write_str_gives l.initial.f (joined (map case_line (take l.case-index l.case-items))) l.f)
