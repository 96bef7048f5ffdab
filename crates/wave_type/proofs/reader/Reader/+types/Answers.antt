use Rattle.std.proofs.Common.{rules, ◌≡◌, ◌-◌, ℕ, List, ◌∷◌, ◌++◌, Some, None, inr, sym, ap, ◌∙◌, codes}
use Rattle.wave_wasm.specs.Borrowed.{texts, named}
use Rattle.wave_wasm.specs.Types.{TypeTree}
use Rattle.wave_wasm.specs.declared.wasm.WasmTypeKind.TheVariants as kinds
use Rattle.wave_type.specs.Private.TypeTokens.{GoesOn}
use Rattle.wave_type.specs.declared.error.TypeErrorKind.TheVariants.{UnexpectedEnd}
use Rattle.wave_type.specs.TypeConstructors.{tuple_type, record_type, variant_type, enum_type, flags_type}
use Rattle.wave_type.specs.Private.TypeReading.{after, part_names, names_read, types_read, fields_read, cases_read, payloads_read, err_behind, kind_read, type_read}
use Rattle.wave_type.specs.TypeFaults.{no_more, a_length, err_type, Expectation, type_expected, ok_expected, part_expected, close_expected, expected_behind, refused}
use Rattle.wave_type.specs.TypeSpelling.{Tokens}
use Rattle.wave_type.proofs.TypeFaults.TokenSteps.{fails_onward, fails_before, mark_runs, kind_runs, key_runs, count_runs, err_is_type, ok_is_type, field_fails, case_fails, comma_runs, payload_runs}
use Rattle.wave_type.proofs.TypeReading.PartSteps.{named_more, has_part_names, level_less}
use Rattle.wave_type.proofs.TypeReading.PartLoops.{part_fails, end_fails, all_read, more_left, type_fails, type_next, colon_fails, field_type_fails, field_next, payload_fails, case_next}
use Rattle.wave_type.proofs.TypeReading.ReaderSteps.{goes_so, answers_err, answers_onward, mark_refused, ok_goes_on, answers_built, form_read, types_are_some, fields_are_some, cases_are_some, enum_is_some, flags_are_some}
use Rattle.wave_type.proofs.TypeFaults.SpelledIsTaken.{read_runs}
use Rattle.wave_type.proofs.reader.Reader.+types.Goals as goal

pub ty-returns : goal.ty-returns
ty-returns t c =
    let n = c.args.levels in
    let some = c.in_ok-kind.ensures.taken.1 in
    answers_onward (λ ty. ty) c.of_kind.result c.args.self.now c.kind.new.self c.of_kind.new.self (type_read n c.args.self.now) (kind_read (type_read (n - 1)) c.in_ok-kind.kind c.kind.new.self) (λ expectations. type_expected n ∷ expectations) (λ expectations. expected_behind (n - 1) c.in_ok-kind.kind ++ expectations) (level_less n c.args.self.now c.kind.new.self c.in_ok-kind.kind some c.in_ok-kind.ensures.taken.0) (λ expectations. kind_runs n c.args.self.now c.kind.new.self c.in_ok-kind.kind expectations some c.in_ok-kind.ensures.taken.0) c.of_kind.ensures

-- ---- types

pub types-returns-in_err-ty : goal.types-returns-in_err-ty
types-returns-in_err-ty t c =
    let kind = c.in_err-ty.field-0.0 in
    answers_err _ _ kind _ _ _ _ (search rules) (part_fails c.loop-part.invariant c.ty.new.self kind (type_fails c.args.levels (codes ">") c.loop-part.self c.ty.new.self kind c.in_err-ty.ensures))

pub types-returns-in_err-ends : goal.types-returns-in_err-ends
types-returns-in_err-ends t c =
    let next = type_next c.args.levels (codes ">") c.loop-part.self c.ty.new.self c.loop-part.types.items c.in_ok-ty.ty c.in_ok-ty.ensures in
    let kind = c.in_err-ends.field-0.0 in
    answers_err _ _ kind _ _ _ _ (search rules) (end_fails c.loop-part.invariant next c.ends.new.self kind c.in_err-ends.ensures.refused)

pub types-returns-then-branch : goal.types-returns-then-branch
types-returns-then-branch t c =
    let next = type_next c.args.levels (codes ">") c.loop-part.self c.ty.new.self c.loop-part.types.items c.in_ok-ty.ty c.in_ok-ty.ensures in
    all_read c.loop-part.invariant next c.ends.new.self _ c.in_ok-push.ensures.items c.in_ok-ends.field-0 c.in_ok-ends.ensures.taken c.if-branch.true

pub types-loop-part-preserved : goal.types-loop-part-preserved
types-loop-part-preserved t c =
    let next = type_next c.args.levels (codes ">") c.loop-part.self c.ty.new.self c.loop-part.types.items c.in_ok-ty.ty c.in_ok-ty.ensures in
    more_left c.loop-part.invariant next c.ends.new.self _ c.in_ok-push.ensures.items c.in_ok-ends.field-0 c.in_ok-ends.ensures.taken c.if-branch.false

-- ---- fields

pub fields-returns-in_err-name : goal.fields-returns-in_err-name
fields-returns-in_err-name t c =
    let known = c.loop-part.invariant in
    let names = part_names (named c.loop-part.fields.items) in
    let kind = c.in_err-name.field-0.0 in
    answers_err _ _ kind _ _ _ _ (search rules) (part_fails known.left c.new_name.new.self kind (field_fails c.args.levels c.args.mark.now names c.loop-part.self c.new_name.new.self kind (c.in_err-name.ensures.refused names known.names)))

pub fields-returns-in_err-expect : goal.fields-returns-in_err-expect
fields-returns-in_err-expect t c =
    let known = c.loop-part.invariant in
    let seen = named c.loop-part.fields.items in
    let kind = c.in_err-expect.field-0.0 in
    answers_err _ _ kind _ _ _ _ (search rules) (part_fails known.left c.expect.new.self kind (colon_fails c.args.levels c.args.mark.now c.in_ok-name.name.now seen c.loop-part.self c.new_name.new.self (c.in_ok-name.ensures.read (part_names seen) known.names) c.expect.new.self kind c.in_err-expect.ensures.refused))

pub fields-returns-in_err-ty : goal.fields-returns-in_err-ty
fields-returns-in_err-ty t c =
    let known = c.loop-part.invariant in
    let seen = named c.loop-part.fields.items in
    let kind = c.in_err-ty.field-0.0 in
    answers_err _ _ kind _ _ _ _ (search rules) (part_fails known.left c.ty.new.self kind (field_type_fails c.args.levels c.args.mark.now c.in_ok-name.name.now seen c.loop-part.self c.new_name.new.self (c.in_ok-name.ensures.read (part_names seen) known.names) c.expect.new.self c.in_ok-expect.ensures.taken c.ty.new.self kind c.in_err-ty.ensures))

pub fields-returns-in_err-ends : goal.fields-returns-in_err-ends
fields-returns-in_err-ends t c =
    let known = c.loop-part.invariant in
    let seen = named c.loop-part.fields.items in
    let next = field_next c.args.levels c.args.mark.now c.in_ok-name.name.now seen c.loop-part.self c.new_name.new.self (c.in_ok-name.ensures.read (part_names seen) known.names) c.expect.new.self c.in_ok-expect.ensures.taken c.ty.new.self c.in_ok-ty.ty c.in_ok-ty.ensures in
    let kind = c.in_err-ends.field-0.0 in
    answers_err _ _ kind _ _ _ _ (search rules) (end_fails known.left next c.ends.new.self kind c.in_err-ends.ensures.refused)

pub fields-returns-then-branch : goal.fields-returns-then-branch
fields-returns-then-branch t c =
    let known = c.loop-part.invariant in
    let seen = named c.loop-part.fields.items in
    let next = field_next c.args.levels c.args.mark.now c.in_ok-name.name.now seen c.loop-part.self c.new_name.new.self (c.in_ok-name.ensures.read (part_names seen) known.names) c.expect.new.self c.in_ok-expect.ensures.taken c.ty.new.self c.in_ok-ty.ty c.in_ok-ty.ensures in
    let all = named_more c.loop-part.fields.items c.push.new.self.items c.in_ok-name.name c.in_ok-ty.ty c.in_ok-push.ensures.items in
    all_read known.left next c.ends.new.self _ all c.in_ok-ends.field-0 c.in_ok-ends.ensures.taken c.if-branch.true

pub fields-loop-part-preserved : goal.fields-loop-part-preserved
fields-loop-part-preserved t c =
    let known = c.loop-part.invariant in
    let seen = named c.loop-part.fields.items in
    let next = field_next c.args.levels c.args.mark.now c.in_ok-name.name.now seen c.loop-part.self c.new_name.new.self (c.in_ok-name.ensures.read (part_names seen) known.names) c.expect.new.self c.in_ok-expect.ensures.taken c.ty.new.self c.in_ok-ty.ty c.in_ok-ty.ensures in
    let all = named_more c.loop-part.fields.items c.push.new.self.items c.in_ok-name.name c.in_ok-ty.ty c.in_ok-push.ensures.items in
    record {
      names = has_part_names c.new_name.new.taken c.in_ok-name.name c.in_ok-ty.ty c.loop-part.fields.items c.push.new.self.items c.in_ok-push.ensures.items (c.in_ok-name.ensures.added (part_names seen) known.names);
      left = more_left known.left next c.ends.new.self _ all c.in_ok-ends.field-0 c.in_ok-ends.ensures.taken c.if-branch.false;
    }

-- ---- cases

pub cases-returns-in_err-name : goal.cases-returns-in_err-name
cases-returns-in_err-name t c =
    let known = c.loop-part.invariant in
    let names = part_names (named c.loop-part.cases.items) in
    let kind = c.in_err-name.field-0.0 in
    answers_err _ _ kind _ _ _ _ (search rules) (part_fails known.left c.new_name.new.self kind (case_fails c.args.levels (codes "}") names c.loop-part.self c.new_name.new.self kind (c.in_err-name.ensures.refused names known.names)))

pub cases-returns-in_err-payload : goal.cases-returns-in_err-payload
cases-returns-in_err-payload t c =
    let known = c.loop-part.invariant in
    let seen = named c.loop-part.cases.items in
    let kind = c.in_err-payload.field-0.0 in
    answers_err _ _ kind _ _ _ _ (search rules) (part_fails known.left c.payload.new.self kind (payload_fails c.args.levels (codes "}") c.in_ok-name.name.now seen c.loop-part.self c.new_name.new.self (c.in_ok-name.ensures.read (part_names seen) known.names) c.payload.new.self kind c.in_err-payload.ensures))

pub cases-returns-in_err-ends : goal.cases-returns-in_err-ends
cases-returns-in_err-ends t c =
    let known = c.loop-part.invariant in
    let seen = named c.loop-part.cases.items in
    let next = case_next c.args.levels (codes "}") c.in_ok-name.name.now seen c.loop-part.self c.new_name.new.self (c.in_ok-name.ensures.read (part_names seen) known.names) c.payload.new.self c.in_ok-payload.payload c.in_ok-payload.ensures in
    let kind = c.in_err-ends.field-0.0 in
    answers_err _ _ kind _ _ _ _ (search rules) (end_fails known.left next c.ends.new.self kind c.in_err-ends.ensures.refused)

pub cases-returns-then-branch : goal.cases-returns-then-branch
cases-returns-then-branch t c =
    let known = c.loop-part.invariant in
    let seen = named c.loop-part.cases.items in
    let next = case_next c.args.levels (codes "}") c.in_ok-name.name.now seen c.loop-part.self c.new_name.new.self (c.in_ok-name.ensures.read (part_names seen) known.names) c.payload.new.self c.in_ok-payload.payload c.in_ok-payload.ensures in
    let all = named_more c.loop-part.cases.items c.push.new.self.items c.in_ok-name.name c.in_ok-payload.payload c.in_ok-push.ensures.items in
    all_read known.left next c.ends.new.self _ all c.in_ok-ends.field-0 c.in_ok-ends.ensures.taken c.if-branch.true

pub cases-loop-part-preserved : goal.cases-loop-part-preserved
cases-loop-part-preserved t c =
    let known = c.loop-part.invariant in
    let seen = named c.loop-part.cases.items in
    let next = case_next c.args.levels (codes "}") c.in_ok-name.name.now seen c.loop-part.self c.new_name.new.self (c.in_ok-name.ensures.read (part_names seen) known.names) c.payload.new.self c.in_ok-payload.payload c.in_ok-payload.ensures in
    let all = named_more c.loop-part.cases.items c.push.new.self.items c.in_ok-name.name c.in_ok-payload.payload c.in_ok-push.ensures.items in
    record {
      names = has_part_names c.new_name.new.taken c.in_ok-name.name c.in_ok-payload.payload c.loop-part.cases.items c.push.new.self.items c.in_ok-push.ensures.items (c.in_ok-name.ensures.added (part_names seen) known.names);
      left = more_left known.left next c.ends.new.self _ all c.in_ok-ends.field-0 c.in_ok-ends.ensures.taken c.if-branch.false;
    }

-- ---- forms

pub list-returns-in_err-ends : goal.list-returns-in_err-ends
list-returns-in_err-ends t c = answers_err _ _ c.in_err-ends.field-0.0 _ _ _ _ (search rules) (inr (λ expectations. mark_runs (codes "<") c.args.self.now c.expect.new.self _ c.in_ok-expect.ensures.taken ∙ (read_runs c.args.levels c.expect.new.self c.ty.new.self c.in_ok-element.element c.in_ok-element.ensures _ ∙ c.in_err-ends.ensures.refused a_length expectations)))

-- after the element type of a list and a comma
list_runs : (n : ℕ) (ts m l k : Tokens) (E : TypeTree) (expectations : List Expectation) → after (codes "<") ts ≡ Some m → type_read n m ≡ Some (E, l) → GoesOn (codes ">") l k → refused ts (expected_behind n kinds.List ++ expectations) ≡ refused k (part_expected (codes ">") a_length ∷ expectations)
list_runs n ts m l k E expectations mark read more =
    mark_runs (codes "<") ts m _ mark ∙ (read_runs n m l E read _ ∙ comma_runs (codes ">") a_length l k expectations more)

pub list-returns-in_err-count : goal.list-returns-in_err-count
list-returns-in_err-count t c =
    let more = goes_so (codes ">") c.ty.new.self c.ends.new.self c.in_ok-ends.field-0 c.in_ok-ends.ensures.taken c.if-branch.false in
    answers_err _ _ c.in_err-count.field-0.0 _ _ _ _ (search rules) (inr (λ expectations. list_runs c.args.levels c.args.self.now c.expect.new.self c.ty.new.self c.ends.new.self c.in_ok-element.element expectations c.in_ok-expect.ensures.taken c.in_ok-element.ensures more ∙ c.in_err-count.ensures.refused (codes ">") expectations))

pub list-returns-in_err-close : goal.list-returns-in_err-close
list-returns-in_err-close t c =
    let more = goes_so (codes ">") c.ty.new.self c.ends.new.self c.in_ok-ends.field-0 c.in_ok-ends.ensures.taken c.if-branch.false in
    answers_err _ _ c.in_err-close.field-0.0 _ _ _ _ (search rules) (inr (λ expectations. list_runs c.args.levels c.args.self.now c.expect.new.self c.ty.new.self c.ends.new.self c.in_ok-element.element expectations c.in_ok-expect.ensures.taken c.in_ok-element.ensures more ∙ (count_runs (codes ">") c.ends.new.self c.length.new.self c.in_ok-count.count expectations c.in_ok-count.ensures.taken ∙ c.in_err-close.ensures.refused expectations)))

pub option-returns-in_err-close : goal.option-returns-in_err-close
option-returns-in_err-close t c = answers_err _ _ c.in_err-close.field-0.0 _ _ _ _ (search rules) (inr (λ expectations. mark_runs (codes "<") c.args.self.now c.expect.new.self _ c.in_ok-expect.ensures.taken ∙ (read_runs c.args.levels c.expect.new.self c.ty.new.self c.in_ok-some.some c.in_ok-some.ensures _ ∙ c.in_err-close.ensures.refused expectations)))

pub map-returns-in_err-close : goal.map-returns-in_err-close
map-returns-in_err-close t c = answers_err _ _ c.in_err-close.field-0.0 _ _ _ _ (search rules) (inr (λ expectations. mark_runs (codes "<") c.args.self.now c.expect.new.self _ c.in_ok-expect.ensures.taken ∙ (key_runs c.expect.new.self c.key.new.self c.in_ok-key.key _ c.in_ok-key.ensures.taken ∙ (mark_runs (codes ",") c.key.new.self c.expect-2.new.self _ c.in_ok-expect-2.ensures.taken ∙ (read_runs c.args.levels c.expect-2.new.self c.ty.new.self c.in_ok-value.value c.in_ok-value.ensures _ ∙ c.in_err-close.ensures.refused expectations)))))

pub err-returns-in_err-close : goal.err-returns-in_err-close
err-returns-in_err-close t c = answers_err _ _ c.in_err-close.field-0.0 _ _ _ _ (search rules) (inr (λ expectations. read_runs c.args.levels c.args.self.now c.ty.new.self c.in_ok-err.err c.in_ok-err.ensures _ ∙ c.in_err-close.ensures.refused expectations))

pub payload-returns-in_err-expect : goal.payload-returns-in_err-expect
payload-returns-in_err-expect t c = answers_err _ _ c.in_err-expect.field-0.0 _ _ _ _ (search rules) (inr (λ expectations. payload_runs c.args.levels c.args.self.now c.takes.new.self expectations c.if-not-takes.ensures ∙ (read_runs c.args.levels c.takes.new.self c.ty.new.self c.in_ok-ty.ty c.in_ok-ty.ensures _ ∙ mark_refused (codes ")") c.ty.new.self c.expect.new.self c.in_err-expect.field-0.0 c.in_err-expect.ensures.refused expectations)))

-- where `_` doesn't stand next
ok_run : (n : ℕ) (ts m : Tokens) (expectations : List Expectation) → (after (codes "_") ts ≡ None) × (m ≡ ts) → refused ts (ok_expected n ∷ expectations) ≡ refused m (type_expected n ∷ close_expected (codes ">") (err_type n) ∷ expectations)
ok_run n ts m expectations (none, same) = ok_is_type n ts expectations none ∙ ap (λ us. refused us (type_expected n ∷ close_expected (codes ">") (err_type n) ∷ expectations)) (sym same)

pub payloads-returns-in_err-ok : goal.payloads-returns-in_err-ok
payloads-returns-in_err-ok t c = answers_err _ _ c.in_err-ok.field-0.0 _ _ _ _ (search rules) (fails_onward (λ expectations. ok_expected c.args.levels ∷ expectations) (λ expectations. type_expected c.args.levels ∷ close_expected (codes ">") (err_type c.args.levels) ∷ expectations) c.args.self.now c.takes.new.self c.ty.new.self c.in_err-ok.field-0.0 (λ expectations. ok_run c.args.levels c.args.self.now c.takes.new.self expectations c.if-takes.ensures) (fails_before (type_expected c.args.levels) (λ expectations. close_expected (codes ">") (err_type c.args.levels) ∷ expectations) c.takes.new.self c.ty.new.self c.in_err-ok.field-0.0 c.in_err-ok.ensures))

pub payloads-returns-in_err-ends : goal.payloads-returns-in_err-ends
payloads-returns-in_err-ends t c = answers_err _ _ c.in_err-ends.field-0.0 _ _ _ _ (search rules) (inr (λ expectations. ok_run c.args.levels c.args.self.now c.takes.new.self expectations c.if-takes.ensures ∙ (read_runs c.args.levels c.takes.new.self c.ty.new.self c.in_ok-ok.ok c.in_ok-ok.ensures _ ∙ c.in_err-ends.ensures.refused (err_type c.args.levels) expectations)))

pub payloads-returns : goal.payloads-returns
payloads-returns t c =
    let n = c.args.levels in
    let old = c.args.self.now in
    let m = c.ty.new.self in
    let k = c.ends.new.self in
    let rest = λ (expectations : List Expectation). close_expected (codes ">") (err_type n) ∷ expectations in
    let more : GoesOn (codes ">") m k = goes_so (codes ">") m k c.in_ok-ends.field-0 c.in_ok-ends.ensures.taken c.if-branch.false in
    let read : type_read n old ≡ Some (c.in_ok-ok.ok, m) = ap (type_read n) (sym c.if-takes.ensures.1) ∙ c.in_ok-ok.ensures in
    answers_onward (λ ty. ty) c.err-2.result old k c.err-2.new.self (payloads_read (type_read n) old (after (codes "_") old)) (err_behind (type_read n) (Some c.in_ok-ok.ok) k) (λ expectations. ok_expected n ∷ expectations) (λ expectations. type_expected n ∷ close_expected (codes ">") no_more ∷ expectations) (ok_goes_on (type_read n) old m k c.in_ok-ok.ok c.if-takes.ensures.0 read more) (λ expectations. ok_is_type n old expectations c.if-takes.ensures.0 ∙ (read_runs n old m c.in_ok-ok.ok read (rest expectations) ∙ (comma_runs (codes ">") (err_type n) m k expectations more ∙ err_is_type n (codes ">") k expectations))) c.err-2.ensures

-- ---- forms of parts

pub of_kind-returns-in_ok-tuple-in-Tuple : goal.of_kind-returns-in_ok-tuple-in-Tuple
of_kind-returns-in_ok-tuple-in-Tuple t c =
    let n = c.args.levels in
    let parts = c.in_ok-types-in-Tuple.types.items in
    let read = c.in_ok-types-in-Tuple.ensures in
    let made = c.in_ok-tuple-in-Tuple.ensures in
    let form = form_read (after (codes "<") c.args.self.now) (types_read (type_read n)) tuple_type c.expect.new.self c.types.new.self parts c.in_ok-tuple-in-Tuple.field-0 c.in_ok-expect-in-Tuple.ensures.taken read made in
    rw c.in-Tuple.is (answers_built c.in_ok-tuple-in-Tuple.field-0 UnexpectedEnd c.ok_or.result c.args.self.now c.types.new.self _ _ c.ok_or.ensures.value (λ none. types_are_some (type_read n) c.expect.new.self c.types.new.self parts read (sym made ∙ none)) form)

pub of_kind-returns-in_ok-record-in-Record : goal.of_kind-returns-in_ok-record-in-Record
of_kind-returns-in_ok-record-in-Record t c =
    let n = c.args.levels in
    let parts = named c.in_ok-fields-in-Record.fields.items in
    let read = c.in_ok-fields-in-Record.ensures in
    let made = c.in_ok-record-in-Record.ensures in
    let form = form_read (after (codes "{") c.args.self.now) (fields_read (type_read n) (codes "}")) record_type c.expect-in-Record.new.self c.fields.new.self parts c.in_ok-record-in-Record.field-0 c.in_ok-expect-in-Record.ensures.taken read made in
    rw c.in-Record.is (answers_built c.in_ok-record-in-Record.field-0 UnexpectedEnd c.ok_or-in-Record.result c.args.self.now c.fields.new.self _ _ c.ok_or-in-Record.ensures.value (λ none. fields_are_some (type_read n) (codes "}") c.expect-in-Record.new.self c.fields.new.self parts read (sym made ∙ none)) form)

pub of_kind-returns-in_ok-variant-in-Variant : goal.of_kind-returns-in_ok-variant-in-Variant
of_kind-returns-in_ok-variant-in-Variant t c =
    let n = c.args.levels in
    let parts = named c.in_ok-cases-in-Variant.cases.items in
    let read = c.in_ok-cases-in-Variant.ensures in
    let made = c.in_ok-variant-in-Variant.ensures in
    let form = form_read (after (codes "{") c.args.self.now) (cases_read (type_read n)) variant_type c.expect-in-Variant.new.self c.cases.new.self parts c.in_ok-variant-in-Variant.field-0 c.in_ok-expect-in-Variant.ensures.taken read made in
    rw c.in-Variant.is (answers_built c.in_ok-variant-in-Variant.field-0 UnexpectedEnd c.ok_or-in-Variant.result c.args.self.now c.cases.new.self _ _ c.ok_or-in-Variant.ensures.value (λ none. cases_are_some (type_read n) c.expect-in-Variant.new.self c.cases.new.self parts read (sym made ∙ none)) form)

pub of_kind-returns-in_ok-enum_ty-in-Enum : goal.of_kind-returns-in_ok-enum_ty-in-Enum
of_kind-returns-in_ok-enum_ty-in-Enum t c =
    let n = c.args.levels in
    let parts = texts c.in_ok-names-in-Enum.names.items in
    let read = c.in_ok-names-in-Enum.ensures in
    let made = c.in_ok-enum_ty-in-Enum.ensures ∙ ap (λ l. enum_type (texts l)) c.as_slice.ensures.value in
    let form = form_read (after (codes "{") c.args.self.now) (names_read (codes "}")) enum_type c.expect-in-Enum.new.self c.names.new.self parts c.in_ok-enum_ty-in-Enum.field-0 c.in_ok-expect-in-Enum.ensures.taken read made in
    rw c.in-Enum.is (answers_built c.in_ok-enum_ty-in-Enum.field-0 UnexpectedEnd c.ok_or-in-Enum.result c.args.self.now c.names.new.self _ _ c.ok_or-in-Enum.ensures.value (λ none. enum_is_some (codes "}") c.expect-in-Enum.new.self c.names.new.self parts read (sym made ∙ none)) form)

pub of_kind-returns-in_ok-flags-in-Flags : goal.of_kind-returns-in_ok-flags-in-Flags
of_kind-returns-in_ok-flags-in-Flags t c =
    let n = c.args.levels in
    let parts = texts c.in_ok-names-in-Flags.names.items in
    let read = c.in_ok-names-in-Flags.ensures in
    let made = c.in_ok-flags-in-Flags.ensures ∙ ap (λ l. flags_type (texts l)) c.as_slice-in-Flags.ensures.value in
    let form = form_read (after (codes "{") c.args.self.now) (names_read (codes "}")) flags_type c.expect-in-Flags.new.self c.names-in-Flags.new.self parts c.in_ok-flags-in-Flags.field-0 c.in_ok-expect-in-Flags.ensures.taken read made in
    rw c.in-Flags.is (answers_built c.in_ok-flags-in-Flags.field-0 UnexpectedEnd c.ok_or-in-Flags.result c.args.self.now c.names-in-Flags.new.self _ _ c.ok_or-in-Flags.ensures.value (λ none. flags_are_some (codes "}") c.expect-in-Flags.new.self c.names-in-Flags.new.self parts read (sym made ∙ none)) form)
