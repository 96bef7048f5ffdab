use Rattle.std.proofs.Common.{rules, ◌≡◌, true, refl, codes, string_bytes, ◌++◌, append_assoc}
use Rattle.std.specs.Fmt.{HasWritten, decimal}
use Rattle.std.specs.Prelude.{map}
use Rattle.std.proofs.lemmas.Grind.{put_two, put_three, put_four, put_five}
use Rattle.std.proofs.Output.{has_written_of_eq}
use Rattle.wave_wasm.specs.Types.{fixed, types_of, fields_of, cases_of, maybe_type}
use Rattle.wave_wasm.specs.Commas.{joined}
use Rattle.wave_wasm.specs.TypeText.{type_text, type_texts, field_texts, case_texts, result_text, maybe_text}
use Rattle.wave_type.specs.TypeModel.{by_bytes}
use Rattle.wave_wasm.proofs.Displays.JoinedTexts.{separator_more}
use Rattle.wave_type.proofs.TypeTexts.JoinedTexts.{turn_written, field_line, case_line, all_types, all_fields, all_cases, pair_text, fixed_text}
use Rattle.wave_type.proofs.TypeTexts.FunctionParts.{all_parts}
use Rattle.wave_type.proofs.TypeTrees.Equality.{type_at, field_at, case_at}
use Rattle.wave_type.proofs.ty.display.+text.Goals as goal

pub write_types-write_type-requires : goal.write_types-write_type-requires
write_types-write_type-requires g t c κs within = search (rules, type_at)

pub write_types-loop-ty-preserved : goal.write_types-loop-ty-preserved
write_types-loop-ty-preserved g t c =
    let next = turn_written g.W.Write.write_str_gives type_text c.deref-ty-items.result.now c.loop-ty.ty-index c.loop-ty.separator.now c.ty-item.result c.loop-ty-test.true c.ty-item.is c.loop-ty.invariant.0 in
    (separator_more type_text c.deref-ty-items.result.now c.loop-ty.ty-index c.ty-item.result c.loop-ty-test.true, λ p. next _ c.loop-ty.f c.write.new.self c.write_type.new.f (c.loop-ty.invariant.1 p) (search rules) (search rules))

pub write_types-returns : goal.write_types-returns
write_types-returns g t c = λ p ok.
    has_written_of_eq _ _ _ _ _ (all_types _ _ c.loop-ty.ty-index c.deref-ty-items.ensures.value c.loop-ty-test.false) (c.loop-ty.invariant.1 p)

pub write_fields-write_type-requires : goal.write_fields-write_type-requires
write_fields-write_type-requires g t c κs within = search (rules, field_at)

pub write_fields-loop-field-preserved : goal.write_fields-loop-field-preserved
write_fields-loop-field-preserved g t c =
    let took = g.W.Write.write_str_gives in
    let field = c.field-item.result in
    let next = turn_written took field_line c.deref-field-items.result.now c.loop-field.field-index c.loop-field.separator.now field c.loop-field-test.true c.field-item.is c.loop-field.invariant.0 in (
      separator_more field_line c.deref-field-items.result.now c.loop-field.field-index field c.loop-field-test.true,
      λ p.
          let name_written : HasWritten took c.write.new.self (string_bytes field.0 ++ codes ": ") c.write-in-loop-field.new.self = search rules in
          let type_written : HasWritten took c.write-in-loop-field.new.self (type_text field.1) c.write_type.new.f = search rules in
          next _ c.loop-field.f c.write.new.self c.write_type.new.f (c.loop-field.invariant.1 p) (search rules) (put_two took _ _ _ _ _ _ name_written type_written (append_assoc (string_bytes field.0) (codes ": ") (type_text field.1))),
    )

pub write_fields-returns-clause-fields : goal.write_fields-returns-clause-fields
write_fields-returns-clause-fields g t c = λ p ok.
    has_written_of_eq _ _ _ _ _ (all_fields _ _ c.loop-field.field-index c.deref-field-items.ensures.value c.loop-field-test.false) (c.loop-field.invariant.1 p)

pub write_fields-returns-clause-parts : goal.write_fields-returns-clause-parts
write_fields-returns-clause-parts g t c = λ p ok.
    has_written_of_eq _ _ _ _ _ (all_parts _ _ c.loop-field.field-index c.deref-field-items.ensures.value c.loop-field-test.false) (c.loop-field.invariant.1 p)

pub write_cases-write_case-requires : goal.write_cases-write_case-requires
write_cases-write_case-requires g t c κs within = search (rules, case_at)

pub write_cases-loop-case-preserved : goal.write_cases-loop-case-preserved
write_cases-loop-case-preserved g t c =
    let next = turn_written g.W.Write.write_str_gives case_line c.deref-case-items.result.now c.loop-case.case-index c.loop-case.separator.now c.case-item.result c.loop-case-test.true c.case-item.is c.loop-case.invariant.0 in
    (separator_more case_line c.deref-case-items.result.now c.loop-case.case-index c.case-item.result c.loop-case-test.true, λ p. next _ c.loop-case.f c.write.new.self c.write_case.new.f (c.loop-case.invariant.1 p) (search rules) (search rules))

pub write_cases-returns : goal.write_cases-returns
write_cases-returns g t c = λ p ok.
    has_written_of_eq _ _ _ _ _ (all_cases _ _ c.loop-case.case-index c.deref-case-items.ensures.value c.loop-case-test.false) (c.loop-case.invariant.1 p)

pub write_type-returns-in_ok-write_type-in-List : goal.write_type-returns-in_ok-write_type-in-List
write_type-returns-in_ok-write_type-in-List g t c = λ p ok.
    let took = g.W.Write.write_str_gives in
    let first : HasWritten took c.args.f.now (codes "list<") c.write.new.self = c.in_ok-write-in-List.ensures.writes p (refl {a = true}) in
    let second : HasWritten took c.write.new.self (type_text c.deref.result.now.0) c.write_type.new.f = c.in_ok-write_type-in-List.ensures first.plain (refl {a = true}) in
    let third : HasWritten took c.write_type.new.f (codes ">") c.write-in-List.new.self = c.write-in-List.ensures.writes second.plain ok in
    put_three took _ _ _ _ _ _ _ _ first second third (search rules)

pub write_type-returns-in_ok-write_type-in-Option : goal.write_type-returns-in_ok-write_type-in-Option
write_type-returns-in_ok-write_type-in-Option g t c = λ p ok.
    let took = g.W.Write.write_str_gives in
    let first : HasWritten took c.args.f.now (codes "option<") c.write-in-Option.new.self = c.in_ok-write-in-Option.ensures.writes p (refl {a = true}) in
    let second : HasWritten took c.write-in-Option.new.self (type_text c.deref-in-Option.result.now.0) c.write_type-in-Option.new.f = c.in_ok-write_type-in-Option.ensures first.plain (refl {a = true}) in
    let third : HasWritten took c.write_type-in-Option.new.f (codes ">") c.write-in-Option-2.new.self = c.write-in-Option-2.ensures.writes second.plain ok in
    put_three took _ _ _ _ _ _ _ _ first second third (search rules)

pub write_type-returns-in_ok-write_type-in-FixedLengthList : goal.write_type-returns-in_ok-write_type-in-FixedLengthList
write_type-returns-in_ok-write_type-in-FixedLengthList g t c = λ p ok.
    let took = g.W.Write.write_str_gives in
    let first : HasWritten took c.args.f.now (codes "list<") c.write-in-FixedLengthList.new.self = c.in_ok-write-in-FixedLengthList.ensures.writes p (refl {a = true}) in
    let second : HasWritten took c.write-in-FixedLengthList.new.self (type_text c.in-FixedLengthList.parts.value.0) c.write_type-in-FixedLengthList.new.f = search rules in
    let third : HasWritten took c.write_type-in-FixedLengthList.new.f (codes ", " ++ (decimal c.in-FixedLengthList.parts.value.1 ++ codes ">")) c.write-in-FixedLengthList-2.new.self = search rules in
    let is : fixed c.in-FixedLengthList.parts.value.0 c.in-FixedLengthList.parts.value.1 ≡ c.args.ty.now = search rules in
    put_three took _ _ _ _ _ _ _ _ first second third (fixed_text c.in-FixedLengthList.parts.value.0 c.in-FixedLengthList.parts.value.1 c.args.ty.now is)

pub write_type-returns-in_ok-write_types-in-Tuple : goal.write_type-returns-in_ok-write_types-in-Tuple
write_type-returns-in_ok-write_types-in-Tuple g t c = λ p ok.
    let took = g.W.Write.write_str_gives in
    let first : HasWritten took c.args.f.now (codes "tuple<") c.write-in-Tuple.new.self = c.in_ok-write-in-Tuple.ensures.writes p (refl {a = true}) in
    let second : HasWritten took c.write-in-Tuple.new.self (joined (type_texts (types_of c.deref-in-Tuple.result.now.0.items))) c.write_types.new.f = c.in_ok-write_types-in-Tuple.ensures first.plain (refl {a = true}) in
    let third : HasWritten took c.write_types.new.f (codes ">") c.write-in-Tuple-2.new.self = c.write-in-Tuple-2.ensures.writes second.plain ok in
    put_three took _ _ _ _ _ _ _ _ first second third (search rules)

pub write_type-returns-in_ok-write_fields-in-Record : goal.write_type-returns-in_ok-write_fields-in-Record
write_type-returns-in_ok-write_fields-in-Record g t c = λ p ok.
    let took = g.W.Write.write_str_gives in
    let first : HasWritten took c.args.f.now (codes "record { ") c.write-in-Record.new.self = c.in_ok-write-in-Record.ensures.writes p (refl {a = true}) in
    let second : HasWritten took c.write-in-Record.new.self (joined (field_texts (fields_of (map by_bytes c.deref-in-Record.result.now.0.items)))) c.write_fields.new.f = c.in_ok-write_fields-in-Record.ensures.fields first.plain (refl {a = true}) in
    let third : HasWritten took c.write_fields.new.f (codes " }") c.write-in-Record-2.new.self = c.write-in-Record-2.ensures.writes second.plain ok in
    put_three took _ _ _ _ _ _ _ _ first second third (search rules)

pub write_type-returns-in_ok-write_cases-in-Variant : goal.write_type-returns-in_ok-write_cases-in-Variant
write_type-returns-in_ok-write_cases-in-Variant g t c = λ p ok.
    let took = g.W.Write.write_str_gives in
    let first : HasWritten took c.args.f.now (codes "variant { ") c.write-in-Variant.new.self = c.in_ok-write-in-Variant.ensures.writes p (refl {a = true}) in
    let second : HasWritten took c.write-in-Variant.new.self (joined (case_texts (cases_of (map by_bytes c.deref-in-Variant.result.now.0.items)))) c.write_cases.new.f = c.in_ok-write_cases-in-Variant.ensures first.plain (refl {a = true}) in
    let third : HasWritten took c.write_cases.new.f (codes " }") c.write-in-Variant-2.new.self = c.write-in-Variant-2.ensures.writes second.plain ok in
    put_three took _ _ _ _ _ _ _ _ first second third (search rules)

pub write_type-returns-in_ok-write_names-in-Enum : goal.write_type-returns-in_ok-write_names-in-Enum
write_type-returns-in_ok-write_names-in-Enum g t c = λ p ok.
    let took = g.W.Write.write_str_gives in
    let first : HasWritten took c.args.f.now (codes "enum { ") c.write-in-Enum.new.self = c.in_ok-write-in-Enum.ensures.writes p (refl {a = true}) in
    let second : HasWritten took c.write-in-Enum.new.self (joined (map string_bytes c.deref-in-Enum.result.now.0.items)) c.write_names.new.f = c.in_ok-write_names-in-Enum.ensures first.plain (refl {a = true}) in
    let third : HasWritten took c.write_names.new.f (codes " }") c.write-in-Enum-2.new.self = c.write-in-Enum-2.ensures.writes second.plain ok in
    put_three took _ _ _ _ _ _ _ _ first second third (search rules)

pub write_type-returns-in_ok-write_names-in-Flags : goal.write_type-returns-in_ok-write_names-in-Flags
write_type-returns-in_ok-write_names-in-Flags g t c = λ p ok.
    let took = g.W.Write.write_str_gives in
    let first : HasWritten took c.args.f.now (codes "flags { ") c.write-in-Flags.new.self = c.in_ok-write-in-Flags.ensures.writes p (refl {a = true}) in
    let second : HasWritten took c.write-in-Flags.new.self (joined (map string_bytes c.deref-in-Flags.result.now.0.items)) c.write_names-in-Flags.new.f = c.in_ok-write_names-in-Flags.ensures first.plain (refl {a = true}) in
    let third : HasWritten took c.write_names-in-Flags.new.f (codes " }") c.write-in-Flags-2.new.self = c.write-in-Flags-2.ensures.writes second.plain ok in
    put_three took _ _ _ _ _ _ _ _ first second third (search rules)

pub write_result-returns-in_ok-write_type-in-Some-None : goal.write_result-returns-in_ok-write_type-in-Some-None
write_result-returns-in_ok-write_type-in-Some-None g t c = λ p ok.
    let took = g.W.Write.write_str_gives in
    let first : HasWritten took c.args.f.now (codes "result<") c.write-in-Some-None.new.self = c.in_ok-write-in-Some-None.ensures.writes p (refl {a = true}) in
    let second : HasWritten took c.write-in-Some-None.new.self (type_text c.in-Some-None.ok) c.write_type-in-Some-None.new.f = c.in_ok-write_type-in-Some-None.ensures first.plain (refl {a = true}) in
    let third : HasWritten took c.write_type-in-Some-None.new.f (codes ">") c.write-in-Some-None-2.new.self = c.write-in-Some-None-2.ensures.writes second.plain ok in
    put_three took _ _ _ _ _ _ _ _ first second third (search rules)

pub write_result-returns-in_ok-write_type-in-None-Some : goal.write_result-returns-in_ok-write_type-in-None-Some
write_result-returns-in_ok-write_type-in-None-Some g t c = λ p ok.
    let took = g.W.Write.write_str_gives in
    let first : HasWritten took c.args.f.now (codes "result<_, ") c.write-in-None-Some.new.self = c.in_ok-write-in-None-Some.ensures.writes p (refl {a = true}) in
    let second : HasWritten took c.write-in-None-Some.new.self (type_text c.in-None-Some.err) c.write_type.new.f = c.in_ok-write_type-in-None-Some.ensures first.plain (refl {a = true}) in
    let third : HasWritten took c.write_type.new.f (codes ">") c.write-in-None-Some-2.new.self = c.write-in-None-Some-2.ensures.writes second.plain ok in
    put_three took _ _ _ _ _ _ _ _ first second third (search rules)

pub write_type-returns-in_ok-write_type-in-Map-2 : goal.write_type-returns-in_ok-write_type-in-Map-2
write_type-returns-in_ok-write_type-in-Map-2 g t c = λ p ok.
    let took = g.W.Write.write_str_gives in
    let first : HasWritten took c.args.f.now (codes "map<") c.write-in-Map.new.self = c.in_ok-write-in-Map.ensures.writes p (refl {a = true}) in
    let second : HasWritten took c.write-in-Map.new.self (type_text c.in-Map.types.value.0) c.write_type-in-Map.new.f = search rules in
    let third : HasWritten took c.write_type-in-Map.new.f (codes ", ") c.write-in-Map-2.new.self = c.in_ok-write-in-Map-2.ensures.writes second.plain (refl {a = true}) in
    let fourth : HasWritten took c.write-in-Map-2.new.self (type_text c.in-Map.types.value.1) c.write_type-in-Map-2.new.f = search rules in
    let fifth : HasWritten took c.write_type-in-Map-2.new.f (codes ">") c.write-in-Map-3.new.self = c.write-in-Map-3.ensures.writes fourth.plain ok in
    put_five took _ _ _ _ _ _ _ _ _ _ _ _ first second third fourth fifth (search rules)

pub write_result-returns-in_ok-write_type-in-Some-Some-2 : goal.write_result-returns-in_ok-write_type-in-Some-Some-2
write_result-returns-in_ok-write_type-in-Some-Some-2 g t c = λ p ok.
    let took = g.W.Write.write_str_gives in
    let first : HasWritten took c.args.f.now (codes "result<") c.write-in-Some-Some.new.self = c.in_ok-write-in-Some-Some.ensures.writes p (refl {a = true}) in
    let second : HasWritten took c.write-in-Some-Some.new.self (type_text c.in-Some-Some.ok) c.write_type-in-Some-Some.new.f = c.in_ok-write_type-in-Some-Some.ensures first.plain (refl {a = true}) in
    let third : HasWritten took c.write_type-in-Some-Some.new.f (codes ", ") c.write-in-Some-Some-2.new.self = c.in_ok-write-in-Some-Some-2.ensures.writes second.plain (refl {a = true}) in
    let fourth : HasWritten took c.write-in-Some-Some-2.new.self (type_text c.in-Some-Some.err) c.write_type-in-Some-Some-2.new.f = c.in_ok-write_type-in-Some-Some-2.ensures third.plain (refl {a = true}) in
    let fifth : HasWritten took c.write_type-in-Some-Some-2.new.f (codes ">") c.write-in-Some-Some-3.new.self = c.write-in-Some-Some-3.ensures.writes fourth.plain ok in
    let same : codes "result<" ++ ((type_text c.in-Some-Some.ok ++ (codes ", " ++ type_text c.in-Some-Some.err)) ++ codes ">") ≡ result_text (maybe_text (maybe_type c.args.ok.now)) (maybe_text (maybe_type c.args.err.now)) = search rules in
    put_five took _ _ _ _ _ _ _ _ _ _ _ _ first second third fourth fifth (pair_text (codes "result<") (type_text c.in-Some-Some.ok) (type_text c.in-Some-Some.err) _ same)

pub write_case-returns-in_ok-write_type-in-Some : goal.write_case-returns-in_ok-write_type-in-Some
write_case-returns-in_ok-write_type-in-Some g t c = λ p ok.
    let took = g.W.Write.write_str_gives in
    let first : HasWritten took c.args.f.now (string_bytes c.args.case.now.0) c.write.new.self = search rules in
    let second : HasWritten took c.write.new.self (codes "(") c.write-in-Some.new.self = c.in_ok-write-in-Some.ensures.writes first.plain (refl {a = true}) in
    let third : HasWritten took c.write-in-Some.new.self (type_text c.in-Some.payload) c.write_type.new.f = c.in_ok-write_type-in-Some.ensures second.plain (refl {a = true}) in
    let fourth : HasWritten took c.write_type.new.f (codes ")") c.write-in-Some-2.new.self = c.write-in-Some-2.ensures.writes third.plain ok in
    put_four took _ _ _ _ _ _ _ _ _ _ first second third fourth (search rules)
