-- The test of names says what labels and distinct names are.
use Rattle.std.proofs.Common.{◌≡◌, ◌≢◌, ℕ, zero, suc, ◌+◌, ◌<◌, ◌≤◌, Bool, true, false, not, eqb, List, [], ◌∷◌, ◌++◌, map, length, get_or, take, Option, Some, None, refl, sym, ap, subst, ◌∙◌, arith, ◌↔◌, IsTrue, String, string_bytes}
use Rattle.std.specs.Prelude.{◌&&◌, encode_utf8_all}
use Rattle.std.specs.Cmp.{both_ways}
use Rattle.std.specs.Cmp.Derive.{both_true}
use Rattle.std.specs.Option.{option_eq}
use Rattle.std.specs.Str.{bytes_eq}
use Rattle.std.specs.declared.alloc.Global.{Global}
use Rattle.std.proofs.Math.Seq.{take-length}
use Rattle.std.proofs.lemmas.Bool.{and_parts, or_from, eq-eqb, eqb-true, not-true, not_from_false, false_from_ne_true}
use Rattle.std.specs.List.{position, position_from}
use Rattle.std.proofs.lemmas.Iterator.Adapters.{position_from-zero}
use Rattle.std.proofs.lemmas.List.{take_more, get_or-map, length-map}
use Rattle.std.proofs.lemmas.List.Quantifiers.{position-Some}
use Rattle.std.proofs.lemmas.Slice.Eq.{bytes_eq-Decides}
use Rattle.std.proofs.lemmas.Str.{encodes-IsAscii}
use Rattle.wave_wasm.specs.Lists.{AllOf}
use Rattle.wave_wasm.specs.Names.{IsNoneOf, AreDistinct, is_one_of}
use Rattle.wave_wasm.specs.Types as type
use Rattle.wave_wasm.specs.Types.{TypeTree, MaybeType, Types, Fields, Cases, no_type, a_type, no_types, type_and, no_fields, field, no_cases, case_of, EachNames, EachNamesOfMaybe, EachNamesOfTypes, EachNamesOfFields, EachNamesOfCases, fields_of, cases_of, field_names, case_names}
use Rattle.wave_wasm.proofs.Names.NameTests.{none_of, distinct_more}
use Rattle.wave_lex.specs.Labels.{IsLabel, HasDistinctLabels}
use Rattle.wave_lex.specs.LongestMatch.{Greatest, IsPrefixOf}
use Rattle.wave_lex.specs.Tokens.{label}
use Rattle.wave_lex.proofs.RegularShapes.Derivatives.{matches_from, matches_into}
use Rattle.wave_lex.proofs.RegularShapes.LabelWords.{ascii_text}
use Rattle.wave_type.specs.TypeModel.{by_bytes}
use Rattle.wave_type.specs.Private.LabelTest.{are_label_names, names_pass, payload_passes, types_pass, fields_pass, cases_pass}
use Rattle.wave_type.specs.TypeWords.{is_label}

-- ---- a name

-- a label is spelled by itself
by_itself : (s : List ℕ) → IsLabel s → encode_utf8_all s ≡ s
by_itself s h = encodes-IsAscii s (ascii_text label s refl h)

-- a prefix that is a label and the whole name makes the name a label
whole_into : (s : List ℕ) → IsPrefixOf label s (length s) → IsLabel s
whole_into s f = subst IsLabel (sym (by_itself f.scalars f.has) ∙ (f.spelled ∙ take-length s)) f.has

-- a label is such a prefix of itself
whole_from : (s : List ℕ) → IsLabel s → IsPrefixOf label s (length s)
whole_from s h = record { scalars = s; fits = omega arith; spelled = by_itself s h ∙ sym (take-length s); has = h }

-- the longest label at the start of a name is the whole name exactly where the name is a label
pub prefix_tells : (s : List ℕ) (o : Option ℕ) → Greatest (IsPrefixOf label s) o → option_eq eqb o (Some (length s)) ≡ is_label s
prefix_tells s None none = sym (false_from_ne_true (is_label s) (λ t. none (length s) (whole_from s (matches_from s label t))))
prefix_tells s (Some k) best =
    both_ways (eqb k (length s)) (is_label s) (λ e. matches_into s label (whole_into s (subst (IsPrefixOf label s) (eqb-true k (length s) e) best.0))) (λ t. let le = best.1 (length s) (whole_from s (matches_from s label t)) in eq-eqb k (length s) (omega (arith, best.0.fits)))

-- ---- names

none_into : (ns : List (List ℕ)) (n : List ℕ) → IsNoneOf ns n → is_one_of ns n ≡ false
none_into [] n h = refl
none_into (m ∷ ns) n h = or_from (bytes_eq n m) (is_one_of ns n) (false_from_ne_true (bytes_eq n m) (λ e. h.0 ((bytes_eq-Decides n m).0 e))) (none_into ns n h.1)

labels_from : (ns : List (List ℕ)) → are_label_names ns ≡ true → AllOf IsLabel ns
labels_from [] e = tt
labels_from (n ∷ ns) e =
    let p = and_parts _ _ e in
    let q = and_parts _ _ p.1 in
    (matches_from n label p.0, labels_from ns q.1)

distinct_from : (ns : List (List ℕ)) → are_label_names ns ≡ true → AreDistinct ns
distinct_from [] e = tt
distinct_from (n ∷ ns) e =
    let p = and_parts _ _ e in
    let q = and_parts _ _ p.1 in
    (none_of ns n (not-true _ q.0), distinct_from ns q.1)

names_into : (ns : List (List ℕ)) → AllOf IsLabel ns → AreDistinct ns → are_label_names ns ≡ true
names_into [] h d = refl
names_into (n ∷ ns) h d = both_true (matches_into n label h.0) (both_true (not_from_false (is_one_of ns n) (none_into ns n d.0)) (names_into ns h.1 d.1))

-- ---- types

module _ (Pass : List (List ℕ) → Type 0) (says : (ns : List (List ℕ)) → are_label_names ns ≡ true → Pass ns) where
  mutual
    pub each_from : (T : TypeTree) → names_pass T ≡ true → EachNames Pass T
    each_from (type.simple S) e = tt
    each_from (type.unreadable kind) e = tt
    each_from (type.list E) e = each_from E e
    each_from (type.fixed E n) e = each_from E e
    each_from (type.record_type fs) e = let p = and_parts _ _ e in (says (field_names fs) p.0, fields_from fs p.1)
    each_from (type.tuple Ts) e = types_from Ts e
    each_from (type.variant cs) e = let p = and_parts _ _ e in (says (case_names cs) p.0, cases_from cs p.1)
    each_from (type.enum names) e = says names e
    each_from (type.option P) e = each_from P e
    each_from (type.result A B) e = let p = and_parts _ _ e in (maybe_from A p.0, maybe_from B p.1)
    each_from (type.flags names) e = says names e
    each_from (type.map K V) e = each_from V e

    maybe_from : (P : MaybeType) → payload_passes P ≡ true → EachNamesOfMaybe Pass P
    maybe_from no_type e = tt
    maybe_from (a_type T) e = each_from T e

    types_from : (Ts : Types) → types_pass Ts ≡ true → EachNamesOfTypes Pass Ts
    types_from no_types e = tt
    types_from (type_and T more) e = let p = and_parts _ _ e in (each_from T p.0, types_from more p.1)

    fields_from : (fs : Fields) → fields_pass fs ≡ true → EachNamesOfFields Pass fs
    fields_from no_fields e = tt
    fields_from (field name T more) e = let p = and_parts _ _ e in (each_from T p.0, fields_from more p.1)

    cases_from : (cs : Cases) → cases_pass cs ≡ true → EachNamesOfCases Pass cs
    cases_from no_cases e = tt
    cases_from (case_of name payload more) e = let p = and_parts _ _ e in (maybe_from payload p.0, cases_from more p.1)

module _ (Pass Also : List (List ℕ) → Type 0) (says : (ns : List (List ℕ)) → Pass ns → Also ns → are_label_names ns ≡ true) where
  mutual
    pub each_into : (T : TypeTree) → EachNames Pass T → EachNames Also T → names_pass T ≡ true
    each_into (type.simple S) h k = refl
    each_into (type.unreadable kind) h k = refl
    each_into (type.list E) h k = each_into E h k
    each_into (type.fixed E n) h k = each_into E h k
    each_into (type.record_type fs) h k = both_true (says (field_names fs) h.0 k.0) (fields_into fs h.1 k.1)
    each_into (type.tuple Ts) h k = types_into Ts h k
    each_into (type.variant cs) h k = both_true (says (case_names cs) h.0 k.0) (cases_into cs h.1 k.1)
    each_into (type.enum names) h k = says names h k
    each_into (type.option P) h k = each_into P h k
    each_into (type.result A B) h k = both_true (maybe_into A h.0 k.0) (maybe_into B h.1 k.1)
    each_into (type.flags names) h k = says names h k
    each_into (type.map K V) h k = each_into V h k

    maybe_into : (P : MaybeType) → EachNamesOfMaybe Pass P → EachNamesOfMaybe Also P → payload_passes P ≡ true
    maybe_into no_type h k = refl
    maybe_into (a_type T) h k = each_into T h k

    types_into : (Ts : Types) → EachNamesOfTypes Pass Ts → EachNamesOfTypes Also Ts → types_pass Ts ≡ true
    types_into no_types h k = refl
    types_into (type_and T more) h k = both_true (each_into T h.0 k.0) (types_into more h.1 k.1)

    fields_into : (fs : Fields) → EachNamesOfFields Pass fs → EachNamesOfFields Also fs → fields_pass fs ≡ true
    fields_into no_fields h k = refl
    fields_into (field name T more) h k = both_true (each_into T h.0 k.0) (fields_into more h.1 k.1)

    cases_into : (cs : Cases) → EachNamesOfCases Pass cs → EachNamesOfCases Also cs → cases_pass cs ≡ true
    cases_into no_cases h k = refl
    cases_into (case_of name payload more) h k = both_true (maybe_into payload h.0 k.0) (cases_into more h.1 k.1)

-- the test passes exactly where the names are labels and distinct
pub pass_is_labelled : (T : TypeTree) (b : Bool) → b ≡ names_pass T → IsTrue b ↔ HasDistinctLabels T
pass_is_labelled T b e =
    (λ h. (each_from (AllOf IsLabel) labels_from T (sym e ∙ h), each_from AreDistinct distinct_from T (sym e ∙ h)), λ g. e ∙ each_into (AllOf IsLabel) AreDistinct names_into T g.0 g.1)

-- ---- kept names

-- the names of fields that are kept with their names
pub kept_fields : (fs : List (String Global × TypeTree)) → field_names (fields_of (map by_bytes fs)) ≡ map (λ f. string_bytes f.0) fs
kept_fields [] = refl
kept_fields (f ∷ fs) = ap (λ ns. string_bytes f.0 ∷ ns) (kept_fields fs)

-- the names of cases, likewise
pub kept_cases : (cs : List (String Global × Option TypeTree)) → case_names (cases_of (map by_bytes cs)) ≡ map (λ c. string_bytes c.0) cs
kept_cases [] = refl
kept_cases (c ∷ cs) = ap (λ ns. string_bytes c.0 ∷ ns) (kept_cases cs)

-- ---- names by their first places

-- the names are labels, and none stands twice
abbrev pub AreTested : List (List ℕ) → Type 0
AreTested ns = AllOf IsLabel ns × AreDistinct ns

-- names that were tested pass
pub tested_pass : (ns : List (List ℕ)) → AreTested ns → are_label_names ns ≡ true
tested_pass ns h = names_into ns h.0 h.1

all_push : (ns : List (List ℕ)) (n : List ℕ) → AllOf IsLabel ns → IsLabel n → AllOf IsLabel (ns ++ n ∷ [])
all_push [] n h l = (l, tt)
all_push (m ∷ ns) n h l = (h.0, all_push ns n h.1 l)

label_at : (ns : List (List ℕ)) (i : ℕ) (d : List ℕ) → AllOf IsLabel ns → i < length ns → IsLabel (get_or ns i d)
label_at [] i d h lt = absurd (omega (arith, lt))
label_at (n ∷ ns) zero d h lt = h.0
label_at (n ∷ ns) (suc i) d h lt = label_at ns i d h.1 (omega (arith, lt))

none_before : (ns : List (List ℕ)) (i : ℕ) (n : List ℕ) → i ≤ length ns → ((k : ℕ) → k < i → bytes_eq n (get_or ns k []) ≡ false) → IsNoneOf (take i ns) n
none_before ns zero n le h = tt
none_before [] (suc i) n le h = absurd (omega (arith, le))
none_before (m ∷ ns) (suc i) n le h = (λ e. let same : bytes_eq n m ≡ true = (bytes_eq-Decides n m).1 e in let other : bytes_eq n m ≡ false = h 0 (omega arith) in let no : true ≡ false = sym same ∙ other in cc, none_before ns i n (omega (arith, le)) (λ k l. h (suc k) (omega (arith, l))))

other_at : (ns : List (List ℕ)) (i : ℕ) (d m : List ℕ) → IsNoneOf ns m → i < length ns → m ≢ get_or ns i d
other_at [] i d m h lt = absurd (omega (arith, lt))
other_at (n ∷ ns) zero d m h lt = h.0
other_at (n ∷ ns) (suc i) d m h lt = other_at ns i d m h.1 (omega (arith, lt))

own_from : (k : ℕ) (ns : List (List ℕ)) (i : ℕ) (d : List ℕ) → AreDistinct ns → i < length ns → position_from (bytes_eq (get_or ns i d)) k ns ≡ Some (k + i)
own_from k [] i d h lt = absurd (omega (arith, lt))
own_from k (n ∷ ns) zero d h lt = let e : k ≡ k + 0 = omega arith in rw ((bytes_eq-Decides n n).1 refl) (ap Some e)
own_from k (n ∷ ns) (suc i) d h lt =
    let other : bytes_eq (get_or ns i d) n ≡ false = false_from_ne_true (bytes_eq (get_or ns i d) n) (λ e. other_at ns i d n h.0 (omega (arith, lt)) (sym ((bytes_eq-Decides (get_or ns i d) n).0 e))) in
    let e : k + 1 + i ≡ k + suc i = omega arith in
    rw other (own_from (k + 1) ns i d h.1 (omega (arith, lt)) ∙ ap Some e)

-- of distinct names each stands first at its own place
own_place : (ns : List (List ℕ)) (i : ℕ) (d : List ℕ) → AreDistinct ns → i < length ns → position (bytes_eq (get_or ns i d)) ns ≡ Some i
own_place ns i d h lt = let e : 0 + i ≡ i = omega arith in position_from-zero (bytes_eq (get_or ns i d)) ns ∙ (own_from 0 ns i d h lt ∙ ap Some e)

-- the test of places is equality
pub same_place : (o : Option ℕ) (i : ℕ) → false ≡ not (option_eq eqb o (Some i)) → o ≡ Some i
same_place None i e = cc
same_place (Some k) i e = ap Some (eqb-true k i (sym (turned (eqb k i) e)))
  where
    turned : (b : Bool) → false ≡ not b → true ≡ b
    turned true e = refl
    turned false e = cc

pub other_place : (o : Option ℕ) (i : ℕ) → true ≡ not (option_eq eqb o (Some i)) → o ≢ Some i
other_place o i e f =
    let same : true ≡ not (eqb i i) = e ∙ ap (λ p. not (option_eq eqb p (Some i))) f in
    let clash : true ≡ false = same ∙ ap not (eq-eqb i i refl) in cc

module _ {A : Type 0} (name_of : A → List ℕ) (xs : List A) (i : ℕ) (x : A) (n : List ℕ) (lt : i < length xs) (is : x ≡ get_or xs i x) (called : n ≡ name_of x) where
  fits : i < length (map name_of xs)
  fits = let all : length (map name_of xs) ≡ length xs = length-map xs name_of in omega (arith, all, lt)

  name_there : get_or (map name_of xs) i n ≡ n
  name_there = get_or-map name_of xs i x n lt ∙ (ap name_of (sym is) ∙ sym called)

  -- one name more that is a label and stands first here
  pub tests_more : is_label n ≡ true → position (bytes_eq n) (map name_of xs) ≡ Some i → AreTested (take i (map name_of xs)) → AreTested (take (i + 1) (map name_of xs))
  tests_more passes first h =
      let ns = map name_of xs in
      let inside : i < length ns = fits in
      let more : take (i + 1) ns ≡ take i ns ++ n ∷ [] = take_more ns i n fits ∙ ap (λ m. take i ns ++ m ∷ []) name_there in
      let new : IsNoneOf (take i ns) n = none_before ns i n (omega (arith, inside)) (position-Some (bytes_eq n) ns i [] first).2 in
      subst AreTested (sym more) (all_push (take i ns) n h.0 (matches_from n label passes), distinct_more (take i ns) n h.1 new)

  -- the name is no label
  pub fails_label : is_label n ≡ false → are_label_names (map name_of xs) ≡ false
  fails_label unlabelled = false_from_ne_true (are_label_names (map name_of xs)) (λ t.
      let yes : is_label n ≡ true = matches_into n label (subst IsLabel name_there (label_at (map name_of xs) i n (labels_from (map name_of xs) t) fits)) in
      let clash : true ≡ false = sym yes ∙ unlabelled in cc)

  -- it stands first at another place
  pub fails_place : (position (bytes_eq n) (map name_of xs) ≢ Some i) → are_label_names (map name_of xs) ≡ false
  fails_place elsewhere = false_from_ne_true (are_label_names (map name_of xs)) (λ t.
      elsewhere (subst (λ m. position (bytes_eq m) (map name_of xs) ≡ Some i) name_there (own_place (map name_of xs) i n (distinct_from (map name_of xs) t) fits)))

-- a record whose names were tested
pub record_passes : (fs gs hs : List (String Global × TypeTree)) (b d : Bool) → gs ≡ fs → hs ≡ fs → b ≡ are_label_names (map (λ f. string_bytes f.0) gs) → b ≡ true → d ≡ fields_pass (fields_of (map by_bytes hs)) → d ≡ names_pass (type.record_type (fields_of (map by_bytes fs)))
record_passes fs gs hs b d g h names passes says =
    let test : true ≡ are_label_names (field_names (fields_of (map by_bytes fs))) = sym passes ∙ (names ∙ (ap (λ us. are_label_names (map (λ (f : String Global × TypeTree). string_bytes f.0) us)) g ∙ ap are_label_names (sym (kept_fields fs)))) in
    says ∙ (ap (λ us. fields_pass (fields_of (map by_bytes us))) h ∙ ap (λ c. c && fields_pass (fields_of (map by_bytes fs))) test)

pub record_fails : (fs gs : List (String Global × TypeTree)) (b : Bool) → gs ≡ fs → b ≡ are_label_names (map (λ f. string_bytes f.0) gs) → b ≡ false → b ≡ names_pass (type.record_type (fields_of (map by_bytes fs)))
record_fails fs gs b g names no_labels =
    let test : false ≡ are_label_names (field_names (fields_of (map by_bytes fs))) = sym no_labels ∙ (names ∙ (ap (λ us. are_label_names (map (λ (f : String Global × TypeTree). string_bytes f.0) us)) g ∙ ap are_label_names (sym (kept_fields fs)))) in
    no_labels ∙ ap (λ c. c && fields_pass (fields_of (map by_bytes fs))) test

-- a variant, likewise
pub variant_passes : (cs gs hs : List (String Global × Option TypeTree)) (b d : Bool) → gs ≡ cs → hs ≡ cs → b ≡ are_label_names (map (λ c. string_bytes c.0) gs) → b ≡ true → d ≡ cases_pass (cases_of (map by_bytes hs)) → d ≡ names_pass (type.variant (cases_of (map by_bytes cs)))
variant_passes cs gs hs b d g h names passes says =
    let test : true ≡ are_label_names (case_names (cases_of (map by_bytes cs))) = sym passes ∙ (names ∙ (ap (λ us. are_label_names (map (λ (c : String Global × Option TypeTree). string_bytes c.0) us)) g ∙ ap are_label_names (sym (kept_cases cs)))) in
    says ∙ (ap (λ us. cases_pass (cases_of (map by_bytes us))) h ∙ ap (λ c. c && cases_pass (cases_of (map by_bytes cs))) test)

pub variant_fails : (cs gs : List (String Global × Option TypeTree)) (b : Bool) → gs ≡ cs → b ≡ are_label_names (map (λ c. string_bytes c.0) gs) → b ≡ false → b ≡ names_pass (type.variant (cases_of (map by_bytes cs)))
variant_fails cs gs b g names no_labels =
    let test : false ≡ are_label_names (case_names (cases_of (map by_bytes cs))) = sym no_labels ∙ (names ∙ (ap (λ us. are_label_names (map (λ (c : String Global × Option TypeTree). string_bytes c.0) us)) g ∙ ap are_label_names (sym (kept_cases cs)))) in
    no_labels ∙ ap (λ c. c && cases_pass (cases_of (map by_bytes cs))) test
