use Rattle.std.proofs.Common.{◌+◌, ◌*◌, codes}
use Rattle.wave_wasm.specs.Borrowed.{named}
use Rattle.wave_type.specs.Private.TypeReading.{HasNames, part_names, field_part, case_part, type_read}
use Rattle.wave_type.specs.TypeFaults.{more_types, more_fields, more_cases}
use Rattle.wave_type.proofs.TypeReading.PartLoops.{PartsLeft}
use Rattle.wave_type.proofs.reader.Reader.+types.Given as goal

abbrev pub decreases-ty : goal.decreases-ty
decreases-ty l = 8 * l.levels

abbrev pub decreases-err : goal.decreases-err
decreases-err l = 8 * l.levels + 1

abbrev pub decreases-payload : goal.decreases-payload
decreases-payload l = 8 * l.levels + 2

abbrev pub decreases-payloads : goal.decreases-payloads
decreases-payloads l = 8 * l.levels + 4

abbrev pub decreases-types : goal.decreases-types
decreases-types l = 8 * l.levels + 4

abbrev pub decreases-fields : goal.decreases-fields
decreases-fields l = 8 * l.levels + 4

abbrev pub decreases-cases : goal.decreases-cases
decreases-cases l = 8 * l.levels + 4

abbrev pub decreases-list : goal.decreases-list
decreases-list l = 8 * l.levels + 5

abbrev pub decreases-option : goal.decreases-option
decreases-option l = 8 * l.levels + 5

abbrev pub decreases-map : goal.decreases-map
decreases-map l = 8 * l.levels + 5

abbrev pub decreases-result : goal.decreases-result
decreases-result l = 8 * l.levels + 5

abbrev pub decreases-of_kind : goal.decreases-of_kind
decreases-of_kind l = 8 * l.levels + 7

abbrev pub invariant-types-loop-part : goal.invariant-types-loop-part
invariant-types-loop-part l = PartsLeft (λ seen. type_read l.levels) (codes ">") (λ seen. more_types l.levels) l.fn.self l._part l.types.items l.self

abbrev pub invariant-fields-loop-part : goal.invariant-fields-loop-part
invariant-fields-loop-part l =
    record {
      names : HasNames l.taken (part_names (named l.fields.items));
      left : PartsLeft (field_part (type_read l.levels)) l.mark (λ seen. more_fields l.levels (part_names seen)) l.fn.self l._part (named l.fields.items) l.self;
    }

abbrev pub invariant-cases-loop-part : goal.invariant-cases-loop-part
invariant-cases-loop-part l =
    record {
      names : HasNames l.taken (part_names (named l.cases.items));
      left : PartsLeft (case_part (type_read l.levels)) (codes "}") (λ seen. more_cases l.levels (part_names seen)) l.fn.self l._part (named l.cases.items) l.self;
    }
