-- The text of a type determines the type.
use Rattle.std.proofs.Common.{◌≡◌, ℕ, Bool, true, false, List, [], ◌∷◌, ◌++◌, refl, sym, ap, subst, ◌∙◌, arith, drop, codes, append_assoc}
use Rattle.std.specs.Prelude.{◌&&◌, ◌||◌, ◌==◌, ◌^◌, ◌<◌, nat_lt}
use Rattle.std.specs.Fmt.{decimal}
use Rattle.std.proofs.lemmas.Bool.{false≢true, and_parts, eq-eqb, ltb-true}
use Rattle.std.proofs.lemmas.Bool.Decides.{nat_tests}
use Rattle.std.proofs.lemmas.List.{append_cancel_left}
use Rattle.std.proofs.lemmas.Fmt.{decimal_injective}
use Rattle.wave_wasm.specs.Lists.{AllOf}
use Rattle.wave_wasm.specs.declared.wasm.WasmTypeKind.{WasmTypeKind}
use Rattle.wave_wasm.specs.declared.wasm.WasmTypeKind.TheVariants as kinds
use Rattle.wave_wasm.specs.Types as type
use Rattle.wave_wasm.specs.Types.{Simple, Unreadable, TypeTree, MaybeType, Types, Fields, Cases, no_type, a_type, no_types, type_and, no_fields, field, no_cases, case_of, simple_kind, unreadable_kind, kind_of, field_names, case_names, EachNamesOfMaybe, EachNamesOfTypes, EachNamesOfFields, EachNamesOfCases, every_maybe, every_type, every_field, every_case, can_be_built, has_names, IsRepresentable}
use Rattle.wave_wasm.specs.Commas.{joined, followed}
use Rattle.wave_wasm.specs.TypeText.{kind_word, type_text, type_texts, field_texts, case_texts, payload_text}
use Rattle.wave_lex.specs.Labels.{IsLabel, HasLabels}
use Rattle.wave_wasm.proofs.TypesOfValues.TypeOfKind.{simple_is}
use Rattle.wave_type.specs.TypeTexts.{TypeTextTells}
use Rattle.wave_type.proofs.TypeTexts.Prefixes.{is_stop, has_no_stop, StopsFirst, first_of, one_prefix, regroup, label_goes_on, number_goes_on, one_kind, has_word}

-- ---- what is asked of a type and of its parts

short : (n : ℕ) → nat_lt n (2 ^ 32) ≡ true → n < 2 ^ 64
short n h = omega (arith, ltb-true n (2 ^ 32) h)

-- a type of `Type` whose names are labels
abbrev pub IsReported : TypeTree → Type 0
IsReported T = IsRepresentable T × HasLabels T

abbrev pub IsReportedMaybe : MaybeType → Type 0
IsReportedMaybe P = (every_maybe can_be_built P ≡ true) × EachNamesOfMaybe (AllOf IsLabel) P

abbrev pub AreReportedTypes : Types → Type 0
AreReportedTypes Ts = (every_type can_be_built Ts ≡ true) × EachNamesOfTypes (AllOf IsLabel) Ts

abbrev pub AreReportedFields : Fields → Type 0
AreReportedFields fs = (every_field can_be_built fs ≡ true) × (AllOf IsLabel (field_names fs) × EachNamesOfFields (AllOf IsLabel) fs)

abbrev pub AreReportedCases : Cases → Type 0
AreReportedCases cs = (every_case can_be_built cs ≡ true) × (AllOf IsLabel (case_names cs) × EachNamesOfCases (AllOf IsLabel) cs)

pub first_type : (T : TypeTree) (more : Types) → AreReportedTypes (type_and T more) → IsReported T × AreReportedTypes more
first_type T more h = let p = and_parts _ _ h.0 in ((p.0, h.1.0), (p.1, h.1.1))

pub first_field : (name : List ℕ) (T : TypeTree) (more : Fields) → AreReportedFields (field name T more) → IsLabel name × (IsReported T × AreReportedFields more)
first_field name T more h = let p = and_parts _ _ h.0 in (h.1.0.0, ((p.0, h.1.1.0), (p.1, (h.1.0.1, h.1.1.1))))

pub first_case : (name : List ℕ) (P : MaybeType) (more : Cases) → AreReportedCases (case_of name P more) → IsLabel name × (IsReportedMaybe P × AreReportedCases more)
first_case name P more h = let p = and_parts _ _ h.0 in (h.1.0.0, ((p.0, h.1.1.0), (p.1, (h.1.0.1, h.1.1.1))))

pub element_of_fixed : (E : TypeTree) (n : ℕ) → IsReported (type.fixed E n) → IsReported E × (n < 2 ^ 64)
element_of_fixed E n h = let p = and_parts _ _ h.0 in ((p.1, h.1), short n p.0)

pub types_of_tuple : (Ts : Types) → IsReported (type.tuple Ts) → AreReportedTypes Ts × (has_names (type_texts Ts) ≡ true)
types_of_tuple no_types h = absurd (false≢true h.0)
types_of_tuple (type_and T more) h = (h, refl)

pub fields_of_record : (fs : Fields) → IsReported (type.record_type fs) → AreReportedFields fs × (has_names (field_texts fs) ≡ true)
fields_of_record no_fields h = absurd (false≢true h.0)
fields_of_record (field name T more) h = (h, refl)

pub cases_of_variant : (cs : Cases) → IsReported (type.variant cs) → AreReportedCases cs × (has_names (case_texts cs) ≡ true)
cases_of_variant no_cases h = absurd (false≢true h.0)
cases_of_variant (case_of name P more) h = (h, refl)

pub payloads_of_result : (A B : MaybeType) → IsReported (type.result A B) → IsReportedMaybe A × IsReportedMaybe B
payloads_of_result A B h =
    let p = and_parts _ _ h.0 in
    ((p.0, h.1.0), (p.1, h.1.1))

-- ---- what follows a type

-- the byte may follow a type: ` `, `)`, `,` and `>` are such bytes
abbrev is_end : ℕ → Bool
is_end c = (nat_lt 40 c && nat_lt c 45) || (c == 62 || c == 32)

-- nothing follows, or first such a byte
abbrev Ends : List ℕ → Type 0
Ends [] = Unit {0}
Ends (c ∷ r) = is_end c ≡ true

end_stops : (c : ℕ) → is_end c ≡ true → is_stop c ≡ true
end_stops c h = grind (arith, nat_tests)

ends_stop : (r : List ℕ) → Ends r → StopsFirst r
ends_stop [] h = tt
ends_stop (c ∷ r) h = end_stops c h

ends_row : (texts : List (List ℕ)) (c : ℕ) (r : List ℕ) → is_end c ≡ true → Ends (followed texts ++ (c ∷ r))
ends_row [] c r h = h
ends_row (text ∷ more) c r h = refl

not_end : (c : ℕ) (r x : List ℕ) → is_end c ≡ false → Ends r → r ≡ c ∷ x → ⊥
not_end c r x other h e = false≢true (sym other ∙ subst Ends e h)

-- ---- the first word of a type's text

-- the kind whose word the text begins with: its own, but for a fixed-length list
abbrev prefix_kind : TypeTree → WasmTypeKind
prefix_kind (type.fixed E n) = kinds.List
prefix_kind T = kind_of T

simple_word : (S : Simple) → has_no_stop (kind_word (simple_kind S)) ≡ true
simple_word type.bool = refl
simple_word (type.whole type.s8) = refl
simple_word (type.whole type.s16) = refl
simple_word (type.whole type.s32) = refl
simple_word (type.whole type.s64) = refl
simple_word (type.whole type.u8) = refl
simple_word (type.whole type.u16) = refl
simple_word (type.whole type.u32) = refl
simple_word (type.whole type.u64) = refl
simple_word type.char = refl
simple_word type.string = refl

-- the text of the type, with what follows it, as its first word and what follows that
record Prefixed (T : TypeTree) (whole : List ℕ) : Type 0 where
  rest : List ℕ
  is : whole ≡ kind_word (prefix_kind T) ++ rest
  word : has_no_stop (kind_word (prefix_kind T)) ≡ true
  stops : StopsFirst rest

prefixed : (T : TypeTree) (r : List ℕ) → IsReported T → Ends r → Prefixed T (type_text T ++ r)
prefixed (type.simple S) r h ends = record { rest = r; is = refl; word = simple_word S; stops = ends_stop r ends }
prefixed (type.unreadable type.f32) r h ends = record { rest = r; is = refl; word = refl; stops = ends_stop r ends }
prefixed (type.unreadable type.f64) r h ends = record { rest = r; is = refl; word = refl; stops = ends_stop r ends }
prefixed (type.unreadable type.unsupported) r h ends = absurd (false≢true h.0)
prefixed (type.list E) r h ends = record { rest = drop 4 (type_text (type.list E) ++ r); is = refl; word = refl; stops = refl }
prefixed (type.fixed E n) r h ends = record { rest = drop 4 (type_text (type.fixed E n) ++ r); is = refl; word = refl; stops = refl }
prefixed (type.record_type fs) r h ends = record { rest = drop 6 (type_text (type.record_type fs) ++ r); is = refl; word = refl; stops = refl }
prefixed (type.tuple Ts) r h ends = record { rest = drop 5 (type_text (type.tuple Ts) ++ r); is = refl; word = refl; stops = refl }
prefixed (type.variant cs) r h ends = record { rest = drop 7 (type_text (type.variant cs) ++ r); is = refl; word = refl; stops = refl }
prefixed (type.enum names) r h ends = record { rest = drop 4 (type_text (type.enum names) ++ r); is = refl; word = refl; stops = refl }
prefixed (type.option P) r h ends = record { rest = drop 6 (type_text (type.option P) ++ r); is = refl; word = refl; stops = refl }
prefixed (type.result no_type no_type) r h ends = record { rest = r; is = refl; word = refl; stops = ends_stop r ends }
prefixed (type.result no_type (a_type B)) r h ends = record { rest = drop 6 (type_text (type.result no_type (a_type B)) ++ r); is = refl; word = refl; stops = refl }
prefixed (type.result (a_type A) no_type) r h ends = record { rest = drop 6 (type_text (type.result (a_type A) no_type) ++ r); is = refl; word = refl; stops = refl }
prefixed (type.result (a_type A) (a_type B)) r h ends = record { rest = drop 6 (type_text (type.result (a_type A) (a_type B)) ++ r); is = refl; word = refl; stops = refl }
prefixed (type.flags names) r h ends = record { rest = drop 5 (type_text (type.flags names) ++ r); is = refl; word = refl; stops = refl }
prefixed (type.map K V) r h ends = record { rest = drop 3 (type_text (type.map K V) ++ r); is = refl; word = refl; stops = refl }

-- types with one text begin with the word of one kind
same_prefix : (T U : TypeTree) (r s : List ℕ) → IsReported T → IsReported U → Ends r → Ends s → type_text T ++ r ≡ type_text U ++ s → prefix_kind T ≡ prefix_kind U
same_prefix T U r s h k a b e =
    let f = prefixed T r h a in
    let g = prefixed U s k b in
    one_kind _ _ (one_prefix (kind_word (prefix_kind T)) (kind_word (prefix_kind U)) f.rest g.rest f.word g.word f.stops g.stops (sym f.is ∙ (e ∙ g.is))).0

-- no type's text begins with `_`
no_underscore : (T : TypeTree) (r x : List ℕ) → IsReported T → Ends r → 95 ∷ x ≡ type_text T ++ r → ⊥
no_underscore T r x h ends e =
    let f = prefixed T r h ends in
    has_word (prefix_kind T) (one_prefix [] (kind_word (prefix_kind T)) (95 ∷ x) f.rest refl f.word refl f.stops (e ∙ f.is)).0

-- ---- which of eleven forms a type has, by its first word

abbrev form : TypeTree → ℕ
form (type.simple S) = 0
form (type.unreadable kind) = 1
form (type.list E) = 2
form (type.fixed E n) = 2
form (type.record_type fs) = 3
form (type.tuple Ts) = 4
form (type.variant cs) = 5
form (type.enum names) = 6
form (type.option P) = 7
form (type.result A B) = 8
form (type.flags names) = 9
form (type.map K V) = 10

abbrev form_of_kind : WasmTypeKind → ℕ
form_of_kind kinds.F32 = 1
form_of_kind kinds.F64 = 1
form_of_kind kinds.Unsupported = 1
form_of_kind kinds.List = 2
form_of_kind kinds.Record = 3
form_of_kind kinds.Tuple = 4
form_of_kind kinds.Variant = 5
form_of_kind kinds.Enum = 6
form_of_kind kinds.Option = 7
form_of_kind kinds.Result = 8
form_of_kind kinds.Flags = 9
form_of_kind kinds.Map = 10
form_of_kind _ = 0

simple_form : (S : Simple) → 0 ≡ form_of_kind (simple_kind S)
simple_form type.bool = refl
simple_form (type.whole type.s8) = refl
simple_form (type.whole type.s16) = refl
simple_form (type.whole type.s32) = refl
simple_form (type.whole type.s64) = refl
simple_form (type.whole type.u8) = refl
simple_form (type.whole type.u16) = refl
simple_form (type.whole type.u32) = refl
simple_form (type.whole type.u64) = refl
simple_form type.char = refl
simple_form type.string = refl

form_is : (T : TypeTree) → form T ≡ form_of_kind (prefix_kind T)
form_is (type.simple S) = simple_form S
form_is (type.unreadable type.f32) = refl
form_is (type.unreadable type.f64) = refl
form_is (type.unreadable type.unsupported) = refl
form_is (type.list E) = refl
form_is (type.fixed E n) = refl
form_is (type.record_type fs) = refl
form_is (type.tuple Ts) = refl
form_is (type.variant cs) = refl
form_is (type.enum names) = refl
form_is (type.option P) = refl
form_is (type.result A B) = refl
form_is (type.flags names) = refl
form_is (type.map K V) = refl

-- types with one text have one form
same_form : (T U : TypeTree) (r s : List ℕ) → IsReported T → IsReported U → Ends r → Ends s → type_text T ++ r ≡ type_text U ++ s → (form T == form U) ≡ true
same_form T U r s h k a b e = eq-eqb _ _ (form_is T ∙ (ap form_of_kind (same_prefix T U r s h k a b e) ∙ sym (form_is U)))

one_simple : (S R : Simple) → simple_kind S ≡ simple_kind R → S ≡ R
one_simple S R e = let same : type.simple R ≡ type.simple S = simple_is S (type.simple R) e in cc

abbrev unreadable_of : WasmTypeKind → Unreadable
unreadable_of kinds.F32 = type.f32
unreadable_of kinds.F64 = type.f64
unreadable_of _ = type.unsupported

unreadable_back : (u : Unreadable) → unreadable_of (unreadable_kind u) ≡ u
unreadable_back type.f32 = refl
unreadable_back type.f64 = refl
unreadable_back type.unsupported = refl

one_unreadable : (u v : Unreadable) → unreadable_kind u ≡ unreadable_kind v → u ≡ v
one_unreadable u v e = sym (unreadable_back u) ∙ (ap unreadable_of e ∙ unreadable_back v)

-- ---- rows of texts

-- the payload in parentheses stops a name, and so does what follows where there is none
payload_stops : (P : MaybeType) (r : List ℕ) → Ends r → StopsFirst (payload_text P ++ r)
payload_stops no_type r h = ends_stop r h
payload_stops (a_type T) r h = refl

-- a first text, written as a further one is
as_followed : (xs ys : List (List ℕ)) (r s : List ℕ) → has_names xs ≡ true → has_names ys ≡ true → joined xs ++ r ≡ joined ys ++ s → followed xs ++ r ≡ followed ys ++ s
as_followed [] ys r s h k e = absurd (false≢true h)
as_followed (x ∷ xs) [] r s h k e = absurd (false≢true k)
as_followed (x ∷ xs) (y ∷ ys) r s h k e = ap (λ z. 44 ∷ 32 ∷ z) e

-- names after commas, up to a space
names_tell : (ms ns : List (List ℕ)) (r s : List ℕ) → AllOf IsLabel ms → AllOf IsLabel ns → followed ms ++ (32 ∷ r) ≡ followed ns ++ (32 ∷ s) → (ms ≡ ns) × (r ≡ s)
names_tell [] [] r s h k e = (refl, ap (drop 1) e)
names_tell [] (n ∷ ns) r s h k e = absurd (omega (arith, first_of e))
names_tell (m ∷ ms) [] r s h k e = absurd (omega (arith, first_of e))
names_tell (m ∷ ms) (n ∷ ns) r s h k e =
    let apart = regroup m (followed ms) (32 ∷ r) n (followed ns) (32 ∷ s) (ap (drop 2) e) in
    let first = one_prefix m n _ _ (label_goes_on m h.0) (label_goes_on n k.0) (ends_stop _ (ends_row ms 32 r refl)) (ends_stop _ (ends_row ns 32 s refl)) apart in
    let others = names_tell ms ns r s h.1 k.1 first.1 in
    ((λ i. first.0 i ∷ others.0 i), others.1)

-- names in braces
braced_tell : (ms ns : List (List ℕ)) (r s : List ℕ) → has_names ms ≡ true → has_names ns ≡ true → AllOf IsLabel ms → AllOf IsLabel ns → (joined ms ++ codes " }") ++ r ≡ (joined ns ++ codes " }") ++ s → (ms ≡ ns) × (r ≡ s)
braced_tell ms ns r s h k l m e =
    let all = names_tell ms ns (125 ∷ r) (125 ∷ s) l m (as_followed ms ns _ _ h k (regroup (joined ms) (codes " }") r (joined ns) (codes " }") s e)) in
    (all.0, ap (drop 1) all.1)

-- ---- the payloads of a result

-- the text of the payload's type determines it, where there is one
abbrev MaybeTells : MaybeType → Type 0
MaybeTells no_type = Unit {0}
MaybeTells (a_type T) = (U : TypeTree) (r s : List ℕ) → IsReported T → IsReported U → Ends r → Ends s → type_text T ++ r ≡ type_text U ++ s → (T ≡ U) × (r ≡ s)

-- what stands after the word `result`, and what follows that
abbrev behind_result : MaybeType → MaybeType → List ℕ → List ℕ
behind_result no_type no_type r = r
behind_result (a_type A) no_type r = codes "<" ++ (type_text A ++ (62 ∷ r))
behind_result no_type (a_type B) r = codes "<_, " ++ (type_text B ++ (62 ∷ r))
behind_result (a_type A) (a_type B) r = codes "<" ++ (type_text A ++ (codes ", " ++ (type_text B ++ (62 ∷ r))))

behind_is : (A B : MaybeType) (r : List ℕ) → type_text (type.result A B) ++ r ≡ codes "result" ++ behind_result A B r
behind_is no_type no_type r = refl
behind_is (a_type A) no_type r = ap (λ z. codes "result<" ++ z) (append_assoc (type_text A) (codes ">") r)
behind_is no_type (a_type B) r = ap (λ z. codes "result<_, " ++ z) (append_assoc (type_text B) (codes ">") r)
behind_is (a_type A) (a_type B) r =
    ap (λ z. codes "result<" ++ z)
    (append_assoc (type_text A ++ (codes ", " ++ type_text B)) (codes ">") r
    ∙ (append_assoc (type_text A) (codes ", " ++ type_text B) (codes ">" ++ r) ∙ ap (λ z. type_text A ++ z) refl))

behind_tells : (A B C D : MaybeType) (r s : List ℕ) → MaybeTells A → MaybeTells B → IsReportedMaybe A → IsReportedMaybe B → IsReportedMaybe C → IsReportedMaybe D → Ends r → Ends s
    → behind_result A B r ≡ behind_result C D s → ((A ≡ C) × (B ≡ D)) × (r ≡ s)
behind_tells no_type no_type no_type no_type r s t u h k l m a b e = ((refl, refl), e)
behind_tells no_type no_type (a_type C) no_type r s t u h k l m a b e = absurd (not_end 60 r _ refl a e)
behind_tells no_type no_type no_type (a_type D) r s t u h k l m a b e = absurd (not_end 60 r _ refl a e)
behind_tells no_type no_type (a_type C) (a_type D) r s t u h k l m a b e = absurd (not_end 60 r _ refl a e)
behind_tells (a_type A) no_type no_type no_type r s t u h k l m a b e = absurd (not_end 60 s _ refl b (sym e))
behind_tells no_type (a_type B) no_type no_type r s t u h k l m a b e = absurd (not_end 60 s _ refl b (sym e))
behind_tells (a_type A) (a_type B) no_type no_type r s t u h k l m a b e = absurd (not_end 60 s _ refl b (sym e))
behind_tells no_type (a_type B) (a_type C) no_type r s t u h k l m a b e = absurd (no_underscore C (62 ∷ s) _ l refl (ap (drop 1) e))
behind_tells no_type (a_type B) (a_type C) (a_type D) r s t u h k l m a b e = absurd (no_underscore C (codes ", " ++ (type_text D ++ (62 ∷ s))) _ l refl (ap (drop 1) e))
behind_tells (a_type A) no_type no_type (a_type D) r s t u h k l m a b e = absurd (no_underscore A (62 ∷ r) _ h refl (sym (ap (drop 1) e)))
behind_tells (a_type A) (a_type B) no_type (a_type D) r s t u h k l m a b e = absurd (no_underscore A (codes ", " ++ (type_text B ++ (62 ∷ r))) _ h refl (sym (ap (drop 1) e)))
behind_tells (a_type A) no_type (a_type C) (a_type D) r s t u h k l m a b e =
    absurd (omega (arith, first_of (t C (62 ∷ r) (codes ", " ++ (type_text D ++ (62 ∷ s))) h l refl refl (ap (drop 1) e)).1))
behind_tells (a_type A) (a_type B) (a_type C) no_type r s t u h k l m a b e =
    absurd (omega (arith, first_of (t C (codes ", " ++ (type_text B ++ (62 ∷ r))) (62 ∷ s) h l refl refl (ap (drop 1) e)).1))
behind_tells (a_type A) no_type (a_type C) no_type r s t u h k l m a b e =
    let p = t C (62 ∷ r) (62 ∷ s) h l refl refl (ap (drop 1) e) in
    ((ap a_type p.0, refl), ap (drop 1) p.1)
behind_tells no_type (a_type B) no_type (a_type D) r s t u h k l m a b e =
    let p = u D (62 ∷ r) (62 ∷ s) k m refl refl (ap (drop 4) e) in
    ((refl, ap a_type p.0), ap (drop 1) p.1)
behind_tells (a_type A) (a_type B) (a_type C) (a_type D) r s t u h k l m a b e =
    let p = t C (codes ", " ++ (type_text B ++ (62 ∷ r))) (codes ", " ++ (type_text D ++ (62 ∷ s))) h l refl refl (ap (drop 1) e) in
    let q = u D (62 ∷ r) (62 ∷ s) k m refl refl (ap (drop 2) p.1) in
    ((ap a_type p.0, ap a_type q.0), ap (drop 1) q.1)

-- ---- types

-- what stands in angle brackets
in_angles : (x y r s : List ℕ) → (x ++ codes ">") ++ r ≡ (y ++ codes ">") ++ s → x ++ (62 ∷ r) ≡ y ++ (62 ∷ s)
in_angles x y r s e = regroup x (codes ">") r y (codes ">") s e

mutual
  -- a type's text determines the type and what follows it
  tells : (T U : TypeTree) (r s : List ℕ) → IsReported T → IsReported U → Ends r → Ends s → type_text T ++ r ≡ type_text U ++ s → (T ≡ U) × (r ≡ s)
  tells (type.simple S) (type.simple R) r s h k a b e =
      let p = one_prefix (kind_word (simple_kind S)) (kind_word (simple_kind R)) r s (simple_word S) (simple_word R) (ends_stop r a) (ends_stop s b) e in
      (ap type.simple (one_simple S R (one_kind _ _ p.0)), p.1)
  tells (type.unreadable u) (type.unreadable v) r s h k a b e =
      let p = one_unreadable u v (same_prefix (type.unreadable u) (type.unreadable v) r s h k a b e) in
      (ap type.unreadable p, append_cancel_left (kind_word (unreadable_kind u)) r s (e ∙ ap (λ z. kind_word (unreadable_kind z) ++ s) (sym p)))
  tells (type.list E) (type.list F) r s h k a b e =
      let p = tells E F (62 ∷ r) (62 ∷ s) h k refl refl (in_angles (type_text E) (type_text F) r s (ap (drop 5) e)) in
      (ap type.list p.0, ap (drop 1) p.1)
  tells (type.list E) (type.fixed F m) r s h k a b e =
      let apart = in_angles (type_text E) (type_text F ++ (codes ", " ++ decimal m)) r s (ap (drop 5) e) ∙ append_assoc (type_text F) (codes ", " ++ decimal m) (62 ∷ s) in
      absurd (omega (arith, first_of (tells E F (62 ∷ r) ((codes ", " ++ decimal m) ++ (62 ∷ s)) h (element_of_fixed F m k).0 refl refl apart).1))
  tells (type.fixed E n) (type.list F) r s h k a b e =
      let apart = sym (append_assoc (type_text E) (codes ", " ++ decimal n) (62 ∷ r)) ∙ in_angles (type_text E ++ (codes ", " ++ decimal n)) (type_text F) r s (ap (drop 5) e) in
      absurd (omega (arith, first_of (tells E F ((codes ", " ++ decimal n) ++ (62 ∷ r)) (62 ∷ s) (element_of_fixed E n h).0 k refl refl apart).1))
  tells (type.fixed E n) (type.fixed F m) r s h k a b e =
      let x = codes ", " ++ decimal n in
      let y = codes ", " ++ decimal m in
      let f = element_of_fixed E n h in
      let g = element_of_fixed F m k in
      let apart = regroup (type_text E) x (62 ∷ r) (type_text F) y (62 ∷ s) (in_angles (type_text E ++ x) (type_text F ++ y) r s (ap (drop 5) e)) in
      let p = tells E F (x ++ (62 ∷ r)) (y ++ (62 ∷ s)) f.0 g.0 refl refl apart in
      let q = one_prefix (decimal n) (decimal m) (62 ∷ r) (62 ∷ s) (number_goes_on n f.1) (number_goes_on m g.1) refl refl (ap (drop 2) p.1) in
      ((λ i. type.fixed (p.0 i) (decimal_injective n m f.1 g.1 q.0 i)), ap (drop 1) q.1)
  tells (type.record_type fs) (type.record_type gs) r s h k a b e =
      let f = fields_of_record fs h in
      let g = fields_of_record gs k in
      let row = as_followed (field_texts fs) (field_texts gs) _ _ f.1 g.1 (regroup (joined (field_texts fs)) (codes " }") r (joined (field_texts gs)) (codes " }") s (ap (drop 9) e)) in
      let p = fields_tell fs gs (125 ∷ r) (125 ∷ s) f.0 g.0 row in
      (ap type.record_type p.0, ap (drop 1) p.1)
  tells (type.tuple Ts) (type.tuple Us) r s h k a b e =
      let f = types_of_tuple Ts h in
      let g = types_of_tuple Us k in
      let row = as_followed (type_texts Ts) (type_texts Us) _ _ f.1 g.1 (in_angles (joined (type_texts Ts)) (joined (type_texts Us)) r s (ap (drop 6) e)) in
      let p = types_tell Ts Us r s f.0 g.0 row in
      (ap type.tuple p.0, p.1)
  tells (type.variant cs) (type.variant ds) r s h k a b e =
      let f = cases_of_variant cs h in
      let g = cases_of_variant ds k in
      let row = as_followed (case_texts cs) (case_texts ds) _ _ f.1 g.1 (regroup (joined (case_texts cs)) (codes " }") r (joined (case_texts ds)) (codes " }") s (ap (drop 10) e)) in
      let p = cases_tell cs ds (125 ∷ r) (125 ∷ s) f.0 g.0 row in
      (ap type.variant p.0, ap (drop 1) p.1)
  tells (type.enum ms) (type.enum ns) r s h k a b e =
      let p = braced_tell ms ns r s h.0 k.0 h.1 k.1 (ap (drop 7) e) in
      (ap type.enum p.0, p.1)
  tells (type.option P) (type.option Q) r s h k a b e =
      let p = tells P Q (62 ∷ r) (62 ∷ s) h k refl refl (in_angles (type_text P) (type_text Q) r s (ap (drop 7) e)) in
      (ap type.option p.0, ap (drop 1) p.1)
  tells (type.result A B) (type.result C D) r s h k a b e =
      let f = payloads_of_result A B h in
      let g = payloads_of_result C D k in
      let p = behind_tells A B C D r s (maybe_tells A) (maybe_tells B) f.0 f.1 g.0 g.1 a b (ap (drop 6) (sym (behind_is A B r) ∙ (e ∙ behind_is C D s))) in
      ((λ i. type.result (p.0.0 i) (p.0.1 i)), p.1)
  tells (type.flags ms) (type.flags ns) r s h k a b e =
      let p = braced_tell ms ns r s h.0 k.0 h.1 k.1 (ap (drop 8) e) in
      (ap type.flags p.0, p.1)
  tells (type.map K V) (type.map L W) r s h k a b e =
      let key = kind_word (simple_kind K) in
      let other = kind_word (simple_kind L) in
      let inner = in_angles (key ++ (codes ", " ++ type_text V)) (other ++ (codes ", " ++ type_text W)) r s (ap (drop 4) e) in
      let p = one_prefix key other _ _ (simple_word K) (simple_word L) refl refl (regroup key (codes ", " ++ type_text V) (62 ∷ r) other (codes ", " ++ type_text W) (62 ∷ s) inner) in
      let q = tells V W (62 ∷ r) (62 ∷ s) h k refl refl (ap (drop 2) p.1) in
      ((λ i. type.map (one_simple K L (one_kind _ _ p.0) i) (q.0 i)), ap (drop 1) q.1)
  tells T U r s h k a b e = absurd (false≢true (same_form T U r s h k a b e))

  maybe_tells : (P : MaybeType) → MaybeTells P
  maybe_tells no_type = tt
  maybe_tells (a_type T) = λ U r s h k a b e. tells T U r s h k a b e

  -- a payload in parentheses, or none
  payload_tells : (P Q : MaybeType) (r s : List ℕ) → IsReportedMaybe P → IsReportedMaybe Q → Ends r → Ends s → payload_text P ++ r ≡ payload_text Q ++ s → (P ≡ Q) × (r ≡ s)
  payload_tells no_type no_type r s h k a b e = (refl, e)
  payload_tells no_type (a_type U) r s h k a b e = absurd (not_end 40 r _ refl a e)
  payload_tells (a_type T) no_type r s h k a b e = absurd (not_end 40 s _ refl b (sym e))
  payload_tells (a_type T) (a_type U) r s h k a b e =
      let p = tells T U (41 ∷ r) (41 ∷ s) h k refl refl (regroup (type_text T) (codes ")") r (type_text U) (codes ")") s (ap (drop 1) e)) in
      (ap a_type p.0, ap (drop 1) p.1)

  -- types after commas, up to `>`
  types_tell : (Ts Us : Types) (r s : List ℕ) → AreReportedTypes Ts → AreReportedTypes Us → followed (type_texts Ts) ++ (62 ∷ r) ≡ followed (type_texts Us) ++ (62 ∷ s) → (Ts ≡ Us) × (r ≡ s)
  types_tell no_types no_types r s h k e = (refl, ap (drop 1) e)
  types_tell no_types (type_and U Us) r s h k e = absurd (omega (arith, first_of e))
  types_tell (type_and T Ts) no_types r s h k e = absurd (omega (arith, first_of e))
  types_tell (type_and T Ts) (type_and U Us) r s h k e =
      let f = first_type T Ts h in
      let g = first_type U Us k in
      let apart = regroup (type_text T) (followed (type_texts Ts)) (62 ∷ r) (type_text U) (followed (type_texts Us)) (62 ∷ s) (ap (drop 2) e) in
      let p = tells T U _ _ f.0 g.0 (ends_row (type_texts Ts) 62 r refl) (ends_row (type_texts Us) 62 s refl) apart in
      let q = types_tell Ts Us r s f.1 g.1 p.1 in
      ((λ i. type_and (p.0 i) (q.0 i)), q.1)

  -- fields after commas, up to a space
  fields_tell : (fs gs : Fields) (r s : List ℕ) → AreReportedFields fs → AreReportedFields gs → followed (field_texts fs) ++ (32 ∷ r) ≡ followed (field_texts gs) ++ (32 ∷ s) → (fs ≡ gs) × (r ≡ s)
  fields_tell no_fields no_fields r s h k e = (refl, ap (drop 1) e)
  fields_tell no_fields (field m U gs) r s h k e = absurd (omega (arith, first_of e))
  fields_tell (field n T fs) no_fields r s h k e = absurd (omega (arith, first_of e))
  fields_tell (field n T fs) (field m U gs) r s h k e =
      let f = first_field n T fs h in
      let g = first_field m U gs k in
      let x = codes ": " ++ type_text T in
      let y = codes ": " ++ type_text U in
      let apart = regroup (n ++ x) (followed (field_texts fs)) (32 ∷ r) (m ++ y) (followed (field_texts gs)) (32 ∷ s) (ap (drop 2) e) in
      let o = one_prefix n m _ _ (label_goes_on n f.0) (label_goes_on m g.0) refl refl (regroup n x _ m y _ apart) in
      let p = tells T U _ _ f.1.0 g.1.0 (ends_row (field_texts fs) 32 r refl) (ends_row (field_texts gs) 32 s refl) (ap (drop 2) o.1) in
      let q = fields_tell fs gs r s f.1.1 g.1.1 p.1 in
      ((λ i. field (o.0 i) (p.0 i) (q.0 i)), q.1)

  -- cases after commas, up to a space
  cases_tell : (cs ds : Cases) (r s : List ℕ) → AreReportedCases cs → AreReportedCases ds → followed (case_texts cs) ++ (32 ∷ r) ≡ followed (case_texts ds) ++ (32 ∷ s) → (cs ≡ ds) × (r ≡ s)
  cases_tell no_cases no_cases r s h k e = (refl, ap (drop 1) e)
  cases_tell no_cases (case_of m Q ds) r s h k e = absurd (omega (arith, first_of e))
  cases_tell (case_of n P cs) no_cases r s h k e = absurd (omega (arith, first_of e))
  cases_tell (case_of n P cs) (case_of m Q ds) r s h k e =
      let f = first_case n P cs h in
      let g = first_case m Q ds k in
      let x = payload_text P in
      let y = payload_text Q in
      let v = followed (case_texts cs) ++ (32 ∷ r) in
      let w = followed (case_texts ds) ++ (32 ∷ s) in
      let a = ends_row (case_texts cs) 32 r refl in
      let b = ends_row (case_texts ds) 32 s refl in
      let apart = regroup (n ++ x) (followed (case_texts cs)) (32 ∷ r) (m ++ y) (followed (case_texts ds)) (32 ∷ s) (ap (drop 2) e) in
      let o = one_prefix n m (x ++ v) (y ++ w) (label_goes_on n f.0) (label_goes_on m g.0) (payload_stops P v a) (payload_stops Q w b) (regroup n x v m y w apart) in
      let p = payload_tells P Q v w f.1.0 g.1.0 a b o.1 in
      let q = cases_tell cs ds r s f.1.1 g.1.1 p.1 in
      ((λ i. case_of (o.0 i) (p.0 i) (q.0 i)), q.1)

-- the text of a type determines the type
pub text_tells : (T : TypeTree) → IsRepresentable T → HasLabels T → TypeTextTells T
text_tells T representable labels U other_own other_labels e = (tells T U [] [] (representable, labels) (other_own, other_labels) tt tt (ap (λ z. z ++ []) e)).0
