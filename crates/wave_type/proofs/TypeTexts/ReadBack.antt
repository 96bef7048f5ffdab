-- The text of a type has tokens that spell the type.
use Rattle.std.proofs.Common.{◌≡◌, ℕ, ◌^◌, true, List, [], ◌∷◌, ◌++◌, inl, Option, refl, sym, ap, subst, arith, codes, append_assoc, get_or, map}
use Rattle.std.specs.Fmt.{decimal}
use Rattle.std.proofs.lemmas.Bool.{false≢true, and_parts, ltb-true}
use Rattle.std.proofs.lemmas.List.{append-nil}
use Rattle.wave_wasm.specs.Lists.{AllOf}
use Rattle.wave_wasm.specs.Names.{AreDistinct}
use Rattle.wave_wasm.specs.Types as type
use Rattle.wave_wasm.specs.Types.{Simple, TypeTree, MaybeType, Types, Fields, Cases, no_type, a_type, no_types, type_and, no_fields, field, no_cases, case_of, type_list, field_list, case_list, type_option, maybe_type, simple_kind, EachNamesOfMaybe, EachNamesOfTypes, EachNamesOfFields, EachNamesOfCases, HasDistinctNames, IsRepresentable}
use Rattle.wave_wasm.specs.Commas.{joined, behind_name}
use Rattle.wave_wasm.specs.TypeText.{kind_word, angled, braced, type_text, type_texts, field_texts, case_texts, payload_text}
use Rattle.wave_lex.specs.Labels.{IsLabel, HasDistinctLabels}
use Rattle.wave_lex.specs.Tokens.{label}
use Rattle.wave_lex.proofs.RegularShapes.Derivatives.{matches_from}
use Rattle.wave_type.specs.TypeSpelling.{Tokens, IsTokenizedTo, Spells, SpellsNames, SpellsTypes, SpellsFields, SpellsCases, SpellsPayload, StandsAlone, IsTypeOf}
use Rattle.wave_type.proofs.TypeTexts.Tokenizes.{Stops, Ends, ends_stop, space_cut, end_cut, brace_open_cut, brace_close_cut, paren_open_cut, paren_close_cut, colon_cut, comma_cut, less_cut, greater_cut, blank_cut, label_cut, number_cut}
use Rattle.wave_type.proofs.TypeReading.Complete.{types_again, fields_again, cases_again, payload_same}
use Rattle.wave_type.proofs.TypeReading.Sound.{AreParts, IsNamed, IsField, IsCase, names_spelled, types_spelled, fields_spelled, cases_spelled, map_self}
use Rattle.wave_type.proofs.TypeTexts.Injective.{IsReported, IsReportedMaybe, AreReportedTypes, AreReportedFields, AreReportedCases, first_type, first_field, first_case, element_of_fixed, types_of_tuple, fields_of_record, cases_of_variant, payloads_of_result}

-- ---- what follows a type

comma_alone : (us : Tokens) → StandsAlone (codes "," ∷ us)
comma_alone us e = let same : 44 ≡ 60 = ap (λ (l : List ℕ). get_or l 0 0) e in omega (arith, same)

greater_alone : (us : Tokens) → StandsAlone (codes ">" ∷ us)
greater_alone us e = let same : 62 ≡ 60 = ap (λ (l : List ℕ). get_or l 0 0) e in omega (arith, same)

pub paren_alone : (us : Tokens) → StandsAlone (codes ")" ∷ us)
paren_alone us e = let same : 41 ≡ 60 = ap (λ (l : List ℕ). get_or l 0 0) e in omega (arith, same)

brace_alone : (us : Tokens) → StandsAlone (codes "}" ∷ us)
brace_alone us e = let same : 125 ≡ 60 = ap (λ (l : List ℕ). get_or l 0 0) e in omega (arith, same)

-- before the end or what may follow a type, after which the tokens are known, the text has tokens that spell the item
abbrev pub Prints : (Tokens → Tokens → Type 0) → List ℕ → Type 0
Prints Item x = (r : List ℕ) (us : Tokens) → Ends r → StandsAlone us → IsTokenizedTo r us → (ts : Tokens) × IsTokenizedTo (x ++ r) ts × Item ts us

-- ---- words

-- a word that is a label, before what stops it
word_cut : (w r : List ℕ) (ts : Tokens) → IsLabel w → Ends r → IsTokenizedTo r ts → IsTokenizedTo (w ++ r) (w ∷ ts)
word_cut w r ts h ends cut = label_cut w r ts h (ends_stop r ends) cut

simple_label : (S : Simple) → IsLabel (kind_word (simple_kind S))
simple_label type.bool = matches_from (codes "bool") label refl
simple_label (type.whole type.s8) = matches_from (codes "s8") label refl
simple_label (type.whole type.s16) = matches_from (codes "s16") label refl
simple_label (type.whole type.s32) = matches_from (codes "s32") label refl
simple_label (type.whole type.s64) = matches_from (codes "s64") label refl
simple_label (type.whole type.u8) = matches_from (codes "u8") label refl
simple_label (type.whole type.u16) = matches_from (codes "u16") label refl
simple_label (type.whole type.u32) = matches_from (codes "u32") label refl
simple_label (type.whole type.u64) = matches_from (codes "u64") label refl
simple_label type.char = matches_from (codes "char") label refl
simple_label type.string = matches_from (codes "string") label refl

-- `word<..>`
angled_cut : (w x r : List ℕ) (ts : Tokens) → IsLabel w → IsTokenizedTo (x ++ (62 ∷ r)) ts → IsTokenizedTo (angled w x ++ r) (w ∷ codes "<" ∷ ts)
angled_cut w x r ts h cut =
    let inner : IsTokenizedTo ((x ++ codes ">") ++ r) ts = subst (λ z. IsTokenizedTo z ts) (sym (append_assoc x (codes ">") r)) cut in
    let all : IsTokenizedTo (w ++ (60 ∷ ((x ++ codes ">") ++ r))) (w ∷ codes "<" ∷ ts) = label_cut w (60 ∷ ((x ++ codes ">") ++ r)) (codes "<" ∷ ts) h refl (less_cut ((x ++ codes ">") ++ r) ts inner) in
    subst (λ z. IsTokenizedTo z (w ∷ codes "<" ∷ ts)) (sym (append_assoc w (codes "<" ++ (x ++ codes ">")) r)) all

-- `word { .. }`
braced_cut : (w : List ℕ) (parts : List (List ℕ)) (r : List ℕ) (ts : Tokens) → IsLabel w → IsTokenizedTo (joined parts ++ (32 ∷ 125 ∷ r)) ts → IsTokenizedTo (braced w parts ++ r) (w ∷ codes "{" ∷ ts)
braced_cut w parts r ts h cut =
    let x = joined parts ++ codes " }" in
    let inner : IsTokenizedTo (x ++ r) ts = subst (λ z. IsTokenizedTo z ts) (sym (append_assoc (joined parts) (codes " }") r)) cut in
    let spaced : IsTokenizedTo (32 ∷ 123 ∷ 32 ∷ (x ++ r)) (codes "{" ∷ ts) = space_cut (123 ∷ 32 ∷ (x ++ r)) (codes "{" ∷ ts) (brace_open_cut (32 ∷ (x ++ r)) ts (space_cut (x ++ r) ts inner)) in
    let all : IsTokenizedTo (w ++ (32 ∷ 123 ∷ 32 ∷ (x ++ r))) (w ∷ codes "{" ∷ ts) = label_cut w (32 ∷ 123 ∷ 32 ∷ (x ++ r)) (codes "{" ∷ ts) h refl spaced in
    subst (λ z. IsTokenizedTo z (w ∷ codes "{" ∷ ts)) (sym (append_assoc w (codes " { " ++ x) r)) all

-- ---- parts with commas between

module _ {A : Type 0} (mark : List ℕ) (Is : A → Tokens → Tokens → Type 0) (line : A → List ℕ) where
  pub parts_cut : (x : A) (xs : List A) → AllOf (λ a. Prints (Is a) (line a)) (x ∷ xs) → (q : List ℕ) (us : Tokens) → Ends q → StandsAlone (mark ∷ us) → IsTokenizedTo q (mark ∷ us) → (ts : Tokens) × IsTokenizedTo (joined (map line (x ∷ xs)) ++ q) ts × AreParts mark Is (x ∷ xs) ts us
  parts_cut x [] (p, h) q us ends alone cut =
      let w = p q (mark ∷ us) ends alone cut in
      (w.0, subst (λ z. IsTokenizedTo (z ++ q) w.0) (sym (append-nil (line x))) w.1, (mark ∷ us, w.2, inl refl))
  parts_cut x (y ∷ xs) (p, h) q us ends alone cut =
      let w = parts_cut y xs h q us ends alone cut in
      let behind = joined (map line (y ∷ xs)) in
      let v = p (44 ∷ 32 ∷ (behind ++ q)) (codes "," ∷ w.0) refl (comma_alone w.0) (comma_cut (behind ++ q) w.0 w.1) in
      (v.0, subst (λ z. IsTokenizedTo z v.0) (sym (append_assoc (line x) (codes ", " ++ behind) q)) v.1, (w.0, v.2, w.2))

  -- in braces
  in_braces : (x : A) (xs : List A) → AllOf (λ a. Prints (Is a) (line a)) (x ∷ xs) → StandsAlone (mark ∷ []) → mark ≡ codes "}" → (r : List ℕ) (us : Tokens) → IsTokenizedTo r us → (ts : Tokens) × IsTokenizedTo (joined (map line (x ∷ xs)) ++ (32 ∷ 125 ∷ r)) ts × AreParts mark Is (x ∷ xs) ts us
  in_braces x xs h alone same r us cut =
      parts_cut x xs h (32 ∷ 125 ∷ r) us refl alone (space_cut (125 ∷ r) (mark ∷ us) (subst (λ m. IsTokenizedTo (125 ∷ r) (m ∷ us)) (sym same) (brace_close_cut r us cut)))

-- a name
name_prints : (name : List ℕ) → IsLabel name → Prints (IsNamed name) name
name_prints name h r us ends alone cut = (name ∷ us, word_cut name r us h ends cut, (name, refl, (h, inl refl)))

names_print : (names : List (List ℕ)) → AllOf IsLabel names → AllOf (λ name. Prints (IsNamed name) name) names
names_print [] h = tt
names_print (n ∷ ns) h = (name_prints n h.0, names_print ns h.1)

-- names in braces
named_cut : (names : List (List ℕ)) → type.has_names names ≡ true → AllOf IsLabel names → (r : List ℕ) (us : Tokens) → IsTokenizedTo r us → (ts : Tokens) × IsTokenizedTo (joined names ++ (32 ∷ 125 ∷ r)) ts × SpellsNames (codes "}") names ts us
named_cut [] e h r us cut = absurd (false≢true e)
named_cut (n ∷ ns) e h r us cut =
    let w = in_braces (codes "}") IsNamed (λ x. x) n ns (names_print (n ∷ ns) h) (brace_alone []) refl r us cut in
    (w.0, subst (λ z. IsTokenizedTo (joined z ++ (32 ∷ 125 ∷ r)) w.0) (map_self (n ∷ ns)) w.1, names_spelled (codes "}") (n ∷ ns) w.0 us w.2)

-- a field
pub field_prints : (name : List ℕ) (T : TypeTree) → IsLabel name → Prints (Spells T) (type_text T) → Prints (IsField (name, T)) (behind_name name (type_text T))
field_prints name T h p r us ends alone cut =
    let w = p r us ends alone cut in
    let all : IsTokenizedTo (name ++ (58 ∷ 32 ∷ (type_text T ++ r))) (name ∷ codes ":" ∷ w.0) = label_cut name (58 ∷ 32 ∷ (type_text T ++ r)) (codes ":" ∷ w.0) h refl (colon_cut (type_text T ++ r) w.0 w.1) in
    (name ∷ codes ":" ∷ w.0, subst (λ z. IsTokenizedTo z (name ∷ codes ":" ∷ w.0)) (sym (append_assoc name (codes ": " ++ type_text T) r)) all, (name, w.0, refl, (h, inl refl), w.2))

-- a case
case_prints : (name : List ℕ) (P : MaybeType) → IsLabel name → Prints (SpellsPayload P) (payload_text P) → Prints (IsCase (name, type_option P)) (name ++ payload_text P)
case_prints name P h p r us ends alone cut =
    let w = p r us ends alone cut in
    let all : IsTokenizedTo (name ++ (payload_text P ++ r)) (name ∷ w.0) = label_cut name (payload_text P ++ r) w.0 h (stops P) w.1 in
    (name ∷ w.0, subst (λ z. IsTokenizedTo z (name ∷ w.0)) (sym (append_assoc name (payload_text P) r)) all, (name, w.0, refl, (h, inl refl), subst (λ z. SpellsPayload z w.0 us) (payload_same P) w.2))
  where
    stops : (Q : MaybeType) → Stops (payload_text Q ++ r)
    stops no_type = ends_stop r ends
    stops (a_type T) = refl

-- the texts of parts, as those of a list
abbrev pub field_line : List ℕ × TypeTree → List ℕ
field_line f = behind_name f.0 (type_text f.1)

abbrev case_line : List ℕ × Option TypeTree → List ℕ
case_line c = c.0 ++ payload_text (maybe_type c.1)

types_lines : (Ts : Types) → map type_text (type_list Ts) ≡ type_texts Ts
types_lines no_types = refl
types_lines (type_and T more) = ap (λ l. type_text T ∷ l) (types_lines more)

fields_lines : (fs : Fields) → map field_line (field_list fs) ≡ field_texts fs
fields_lines no_fields = refl
fields_lines (field name T more) = ap (λ l. behind_name name (type_text T) ∷ l) (fields_lines more)

cases_lines : (cs : Cases) → map case_line (case_list cs) ≡ case_texts cs
cases_lines no_cases = refl
cases_lines (case_of name P more) = λ i. (name ++ payload_text (sym (payload_same P) i)) ∷ cases_lines more i

-- fields in braces
record_cut : (fs : Fields) → IsReported (type.record_type fs) → AllOf (λ f. Prints (IsField f) (field_line f)) (field_list fs) → (r : List ℕ) (us : Tokens) → IsTokenizedTo r us → (ts : Tokens) × IsTokenizedTo (joined (field_texts fs) ++ (32 ∷ 125 ∷ r)) ts × SpellsFields (codes "}") fs ts us
record_cut no_fields h all r us cut = absurd (false≢true h.0)
record_cut (field name T more) h all r us cut =
    let fs = field name T more in
    let w = in_braces (codes "}") IsField field_line (name, T) (field_list more) all (brace_alone []) refl r us cut in
    (w.0, subst (λ z. IsTokenizedTo (joined z ++ (32 ∷ 125 ∷ r)) w.0) (fields_lines fs) w.1, subst (λ z. SpellsFields (codes "}") z w.0 us) (fields_again fs) (fields_spelled (codes "}") (field_list fs) w.0 us w.2))

-- types through `>`
tuple_cut : (Ts : Types) → IsReported (type.tuple Ts) → AllOf (λ T. Prints (Spells T) (type_text T)) (type_list Ts) → (r : List ℕ) (us : Tokens) → IsTokenizedTo r us → (ts : Tokens) × IsTokenizedTo (joined (type_texts Ts) ++ (62 ∷ r)) ts × SpellsTypes Ts ts us
tuple_cut no_types h all r us cut = absurd (false≢true h.0)
tuple_cut (type_and T more) h all r us cut =
    let Ts = type_and T more in
    let w = parts_cut (codes ">") Spells type_text T (type_list more) all (62 ∷ r) us refl (greater_alone us) (greater_cut r us cut) in
    (w.0, subst (λ z. IsTokenizedTo (joined z ++ (62 ∷ r)) w.0) (types_lines Ts) w.1, subst (λ z. SpellsTypes z w.0 us) (types_again Ts) (types_spelled (type_list Ts) w.0 us w.2))

-- cases in braces
variant_cut : (cs : Cases) → IsReported (type.variant cs) → AllOf (λ c. Prints (IsCase c) (case_line c)) (case_list cs) → (r : List ℕ) (us : Tokens) → IsTokenizedTo r us → (ts : Tokens) × IsTokenizedTo (joined (case_texts cs) ++ (32 ∷ 125 ∷ r)) ts × SpellsCases cs ts us
variant_cut no_cases h all r us cut = absurd (false≢true h.0)
variant_cut (case_of name P more) h all r us cut =
    let cs = case_of name P more in
    let w = in_braces (codes "}") IsCase case_line (name, type_option P) (case_list more) all (brace_alone []) refl r us cut in
    (w.0, subst (λ z. IsTokenizedTo (joined z ++ (32 ∷ 125 ∷ r)) w.0) (cases_lines cs) w.1, subst (λ z. SpellsCases z w.0 us) (cases_again cs) (cases_spelled (case_list cs) w.0 us w.2))

-- ---- types

mutual
  -- the text of a type, with what may follow it
  pub type_prints : (T : TypeTree) → IsReported T → HasDistinctNames T → Prints (Spells T) (type_text T)
  type_prints (type.simple S) h d r us ends alone cut = (kind_word (simple_kind S) ∷ us, word_cut (kind_word (simple_kind S)) r us (simple_label S) ends cut, refl)
  type_prints (type.unreadable type.f32) h d r us ends alone cut = (codes "f32" ∷ us, word_cut (codes "f32") r us (matches_from (codes "f32") label refl) ends cut, refl)
  type_prints (type.unreadable type.f64) h d r us ends alone cut = (codes "f64" ∷ us, word_cut (codes "f64") r us (matches_from (codes "f64") label refl) ends cut, refl)
  type_prints (type.unreadable type.unsupported) h d r us ends alone cut = absurd (false≢true h.0)
  type_prints (type.list E) h d r us ends alone cut =
      let w = type_prints E h d (62 ∷ r) (codes ">" ∷ us) refl (greater_alone us) (greater_cut r us cut) in
      (codes "list" ∷ codes "<" ∷ w.0, angled_cut (codes "list") (type_text E) r w.0 (matches_from (codes "list") label refl) w.1, (w.0, codes ">" ∷ us, refl, w.2, inl refl))
  type_prints (type.fixed E k) h d r us ends alone cut =
      let f = element_of_fixed E k h in
      let count = number_cut k (62 ∷ r) (codes ">" ∷ us) f.1 refl (greater_cut r us cut) in
      let x = codes ", " ++ decimal k in
      let w = type_prints E f.0 d (44 ∷ 32 ∷ (decimal k ++ (62 ∷ r))) (codes "," ∷ decimal k ∷ codes ">" ∷ us) refl (comma_alone (decimal k ∷ codes ">" ∷ us)) (comma_cut (decimal k ++ (62 ∷ r)) (decimal k ∷ codes ">" ∷ us) count) in
      let there : IsTokenizedTo ((type_text E ++ x) ++ (62 ∷ r)) w.0 = subst (λ z. IsTokenizedTo z w.0) (sym (append_assoc (type_text E) x (62 ∷ r))) w.1 in
      (codes "list" ∷ codes "<" ∷ w.0, angled_cut (codes "list") (type_text E ++ x) r w.0 (matches_from (codes "list") label refl) there, (w.0, codes ">" ∷ us, refl, w.2, ltb-true k (2 ^ 32) (and_parts _ _ h.0).0, inl refl))
  type_prints (type.record_type fs) h d r us ends alone cut =
      let w = record_cut fs h (fields_print fs (fields_of_record fs h).0 d.1) r us cut in
      (codes "record" ∷ codes "{" ∷ w.0, braced_cut (codes "record") (field_texts fs) r w.0 (matches_from (codes "record") label refl) w.1, (w.0, refl, w.2, d.0))
  type_prints (type.tuple Ts) h d r us ends alone cut =
      let w = tuple_cut Ts h (types_print Ts (types_of_tuple Ts h).0 d) r us cut in
      (codes "tuple" ∷ codes "<" ∷ w.0, angled_cut (codes "tuple") (joined (type_texts Ts)) r w.0 (matches_from (codes "tuple") label refl) w.1, (w.0, refl, w.2))
  type_prints (type.variant cs) h d r us ends alone cut =
      let w = variant_cut cs h (cases_print cs (cases_of_variant cs h).0 d.1) r us cut in
      (codes "variant" ∷ codes "{" ∷ w.0, braced_cut (codes "variant") (case_texts cs) r w.0 (matches_from (codes "variant") label refl) w.1, (w.0, refl, w.2, d.0))
  type_prints (type.enum names) h d r us ends alone cut =
      let w = named_cut names h.0 h.1 r us cut in
      (codes "enum" ∷ codes "{" ∷ w.0, braced_cut (codes "enum") names r w.0 (matches_from (codes "enum") label refl) w.1, (w.0, refl, w.2, d))
  type_prints (type.option P) h d r us ends alone cut =
      let w = type_prints P h d (62 ∷ r) (codes ">" ∷ us) refl (greater_alone us) (greater_cut r us cut) in
      (codes "option" ∷ codes "<" ∷ w.0, angled_cut (codes "option") (type_text P) r w.0 (matches_from (codes "option") label refl) w.1, (w.0, codes ">" ∷ us, refl, w.2, inl refl))
  type_prints (type.result no_type no_type) h d r us ends alone cut = (codes "result" ∷ us, word_cut (codes "result") r us (matches_from (codes "result") label refl) ends cut, (refl, alone))
  type_prints (type.result (a_type A) no_type) h d r us ends alone cut =
      let f = payloads_of_result (a_type A) no_type h in
      let w = type_prints A f.0 d.0 (62 ∷ r) (codes ">" ∷ us) refl (greater_alone us) (greater_cut r us cut) in
      (codes "result" ∷ codes "<" ∷ w.0, angled_cut (codes "result") (type_text A) r w.0 (matches_from (codes "result") label refl) w.1, (w.0, codes ">" ∷ us, refl, w.2, inl refl))
  type_prints (type.result no_type (a_type B)) h d r us ends alone cut =
      let f = payloads_of_result no_type (a_type B) h in
      let w = type_prints B f.1 d.1 (62 ∷ r) (codes ">" ∷ us) refl (greater_alone us) (greater_cut r us cut) in
      let text = type_text B ++ (62 ∷ r) in
      let there : IsTokenizedTo (95 ∷ 44 ∷ 32 ∷ text) (codes "_" ∷ codes "," ∷ w.0) = blank_cut (44 ∷ 32 ∷ text) (codes "," ∷ w.0) (comma_cut text w.0 w.1) in
      (codes "result" ∷ codes "<" ∷ codes "_" ∷ codes "," ∷ w.0, angled_cut (codes "result") (codes "_, " ++ type_text B) r (codes "_" ∷ codes "," ∷ w.0) (matches_from (codes "result") label refl) there, (w.0, codes ">" ∷ us, refl, w.2, inl refl))
  type_prints (type.result (a_type A) (a_type B)) h d r us ends alone cut =
      let f = payloads_of_result (a_type A) (a_type B) h in
      let v = type_prints B f.1 d.1 (62 ∷ r) (codes ">" ∷ us) refl (greater_alone us) (greater_cut r us cut) in
      let text = type_text B ++ (62 ∷ r) in
      let w = type_prints A f.0 d.0 (44 ∷ 32 ∷ text) (codes "," ∷ v.0) refl (comma_alone v.0) (comma_cut text v.0 v.1) in
      let there : IsTokenizedTo ((type_text A ++ (codes ", " ++ type_text B)) ++ (62 ∷ r)) w.0 = subst (λ z. IsTokenizedTo z w.0) (sym (append_assoc (type_text A) (codes ", " ++ type_text B) (62 ∷ r))) w.1 in
      (codes "result" ∷ codes "<" ∷ w.0, angled_cut (codes "result") (type_text A ++ (codes ", " ++ type_text B)) r w.0 (matches_from (codes "result") label refl) there, (w.0, v.0, codes ">" ∷ us, refl, w.2, v.2, inl refl))
  type_prints (type.flags names) h d r us ends alone cut =
      let w = named_cut names h.0 h.1 r us cut in
      (codes "flags" ∷ codes "{" ∷ w.0, braced_cut (codes "flags") names r w.0 (matches_from (codes "flags") label refl) w.1, (w.0, refl, w.2, d))
  type_prints (type.map K V) h d r us ends alone cut =
      let w = type_prints V h d (62 ∷ r) (codes ">" ∷ us) refl (greater_alone us) (greater_cut r us cut) in
      let key = kind_word (simple_kind K) in
      let text = type_text V ++ (62 ∷ r) in
      let pair : IsTokenizedTo (key ++ (44 ∷ 32 ∷ text)) (key ∷ codes "," ∷ w.0) = label_cut key (44 ∷ 32 ∷ text) (codes "," ∷ w.0) (simple_label K) refl (comma_cut text w.0 w.1) in
      let there : IsTokenizedTo ((key ++ (codes ", " ++ type_text V)) ++ (62 ∷ r)) (key ∷ codes "," ∷ w.0) = subst (λ z. IsTokenizedTo z (key ∷ codes "," ∷ w.0)) (sym (append_assoc key (codes ", " ++ type_text V) (62 ∷ r))) pair in
      (codes "map" ∷ codes "<" ∷ key ∷ codes "," ∷ w.0, angled_cut (codes "map") (key ++ (codes ", " ++ type_text V)) r (key ∷ codes "," ∷ w.0) (matches_from (codes "map") label refl) there, (w.0, codes ">" ∷ us, refl, w.2, inl refl))

  -- a payload in parentheses, or none
  payload_prints : (P : MaybeType) → IsReportedMaybe P → EachNamesOfMaybe AreDistinct P → Prints (SpellsPayload P) (payload_text P)
  payload_prints no_type h d r us ends alone cut = (us, cut, refl)
  payload_prints (a_type T) h d r us ends alone cut =
      let w = type_prints T h d (41 ∷ r) (codes ")" ∷ us) refl (paren_alone us) (paren_close_cut r us cut) in
      let inner : IsTokenizedTo ((type_text T ++ codes ")") ++ r) w.0 = subst (λ z. IsTokenizedTo z w.0) (sym (append_assoc (type_text T) (codes ")") r)) w.1 in
      (codes "(" ∷ w.0, paren_open_cut ((type_text T ++ codes ")") ++ r) w.0 inner, (w.0, refl, w.2))

  types_print : (Ts : Types) → AreReportedTypes Ts → EachNamesOfTypes AreDistinct Ts → AllOf (λ T. Prints (Spells T) (type_text T)) (type_list Ts)
  types_print no_types h d = tt
  types_print (type_and T more) h d = let f = first_type T more h in (type_prints T f.0 d.0, types_print more f.1 d.1)

  fields_print : (fs : Fields) → AreReportedFields fs → EachNamesOfFields AreDistinct fs → AllOf (λ f. Prints (IsField f) (field_line f)) (field_list fs)
  fields_print no_fields h d = tt
  fields_print (field name T more) h d = let f = first_field name T more h in (field_prints name T f.0 (type_prints T f.1.0 d.0), fields_print more f.1.1 d.1)

  cases_print : (cs : Cases) → AreReportedCases cs → EachNamesOfCases AreDistinct cs → AllOf (λ c. Prints (IsCase c) (case_line c)) (case_list cs)
  cases_print no_cases h d = tt
  cases_print (case_of name P more) h d =
      let f = first_case name P more h in
      let p = case_prints name P f.0 (payload_prints P f.1.0 d.0) in
      (subst (λ z. Prints (IsCase (name, type_option P)) (name ++ payload_text z)) (payload_same P) p, cases_print more f.1.1 d.1)

-- the text of a type spells it
pub text_spells : (T : TypeTree) → IsRepresentable T → HasDistinctLabels T → IsTypeOf (type_text T) T
text_spells T representable labelled =
    let w = type_prints T (representable, labelled.0) labelled.1 [] [] tt tt end_cut in
    (w.0, subst (λ z. IsTokenizedTo z w.0) (append-nil (type_text T)) w.1, w.2)
