-- The JSON of a value of a type is read there as the merged value.
use Rattle.std.proofs.Common.{◌≡◌, ◌≢◌, inl, inr, ℕ, suc, ℤ, pos, negsuc, ◌<◌, ◌^◌, nat_lt, chars, codes, Bool, true, false, not, cond, ◌||◌, if◌then◌else◌, List, [], ◌∷◌, length, map, Option, Some, None, Ok, Err, refl, sym, ap, subst, ◌∙◌, arith, rules, tests}
use Rattle.std.specs.Prelude.{option_and_then}
use Rattle.std.specs.Char.{encode_utf8}
use Rattle.std.specs.Fmt.{signed_decimal}
use Rattle.std.specs.Str.{bytes_eq}
use Rattle.std.proofs.lemmas.Int.{ints}
use Rattle.std.proofs.lemmas.List.{append-nil}
use Rattle.std.proofs.lemmas.Str.{IsUtf8-encode, chars_past_char, chars-nil}
use Rattle.std.specs.Char.{IsScalar}
use Rattle.json.specs.Json as json
use Rattle.json.specs.Json.{Json, Items, Members, no_items, item, no_members, member}
use Rattle.json.specs.Find.{is_null}
use Rattle.wave_wasm.specs.HasType.{HasType, HasPayload, HasTypes, HasFields, HasCase, IsLeafOf}
use Rattle.wave_wasm.specs.Lists.{AllOf}
use Rattle.wave_wasm.specs.Merge.{merged, merged_maybe, merged_values, merged_fields, merged_entries, merge, without, leaf_eq}
use Rattle.wave_wasm.specs.Names.{IsNoneOf, AreAllOf, AreDistinct, ArePicked, is_one_of, found_in}
use Rattle.wave_wasm.specs.Numbers.{IsInRange, IsSignedWithin, IsUnsignedWithin}
use Rattle.wave_wasm.specs.Text.{is_no_option, leaf_text}
use Rattle.wave_wasm.specs.Types as type
use Rattle.wave_wasm.specs.Types.{TypeTree, MaybeType, Types, Fields, Cases, Simple, Whole, no_type, a_type, no_types, type_and, no_cases, case_of, count_of, field_names, case_names, HasDistinctNames, EachNamesOfMaybe, EachNamesOfTypes, EachNamesOfFields, EachNamesOfCases}
use Rattle.wave_wasm.specs.Values as value
use Rattle.wave_wasm.specs.Values.{Value, MaybeValue, FieldValues, Entries, Leaf, no_value, a_value, values, entries, entry, leaf_type, IsSound}
use Rattle.wave_wasm.proofs.Merging.KeyTexts.{leaves_apart}
use Rattle.wave_wasm.proofs.Merging.LastValues.{leaf_eq-self}
use Rattle.wave_wasm.proofs.Names.NameTests.{passes}
use Rattle.wave_wasm.proofs.Names.Subsequences.{same_bytes, unlike, picked_distinct, picked_of, picked_found}
use Rattle.wave_grammar.proofs.RoundTrip.Fields.{names_of, names_same, none_at_option}
use Rattle.wave_grammar.proofs.RoundTrip.Names.{AreApart, merge_keeps}
use Rattle.wave_grammar.proofs.RoundTrip.Numbers.{is_written}
use Rattle.wave_json.specs.declared.error.JsonErrorKind.TheVariants as kinds
use Rattle.wave_json.specs.Mapping.{leaf_json, name_items, one_member, pair_json, is_option, key_name, plain_json, value_items, field_members, case_json, option_json, map_json, entry_members, entry_items}
use Rattle.wave_json.specs.Reading.{Reading, ◌>>=◌, or_fault, under, item_step, member_step, is_in_range, is_signed_within, is_unsigned_within, whole_of, only_scalar, leaf_at, items_count, each_at, name_at, pair_at, repeated_behind, first_repeated, unless_found, member_names, distinct_members, first_unknown, known_members, member_of, members_at, json_case, some_at, is_option_type, left_out, field_at, distinct_entries, pairs_of, value_at, types_at, fields_at, case_at, payload_at}
use Rattle.wave_json.proofs.Builds.{same_count}
use Rattle.wave_json.proofs.Entries.{array_pairs}

-- ---- values of one token

lt_true : (n m : ℕ) → n < m → nat_lt n m ≡ true
lt_true n m h = search (rules, tests)

signed_true : (half : ℕ) (z : ℤ) → IsSignedWithin half z → is_signed_within half z ≡ true
signed_true half (pos n) h = lt_true n half (omega (arith, ints, h.0, h.1))
signed_true half (negsuc n) h = lt_true n half (omega (arith, ints, h.0, h.1))

unsigned_true : (end : ℕ) (z : ℤ) → IsUnsignedWithin end z → is_unsigned_within end z ≡ true
unsigned_true end (pos n) h = lt_true n end (omega (arith, ints, h.0, h.1))
unsigned_true end (negsuc n) h = absurd (omega (arith, ints, h.0, h.1))

range_true : (kind : Whole) (z : ℤ) → IsInRange kind z → is_in_range kind z ≡ true
range_true type.s8 z h = signed_true (2 ^ 7) z h
range_true type.s16 z h = signed_true (2 ^ 15) z h
range_true type.s32 z h = signed_true (2 ^ 31) z h
range_true type.s64 z h = signed_true (2 ^ 63) z h
range_true type.u8 z h = unsigned_true (2 ^ 8) z h
range_true type.u16 z h = unsigned_true (2 ^ 16) z h
range_true type.u32 z h = unsigned_true (2 ^ 32) z h
range_true type.u64 z h = unsigned_true (2 ^ 64) z h

whole_again : (kind : Whole) (z : ℤ) → IsInRange kind z → whole_of kind (signed_decimal z) ≡ Some z
whole_again kind z h =
    ap (option_and_then (λ (y : ℤ). if is_in_range kind y then Some y else None)) (is_written kind z h).value
    ∙ ap (λ (b : Bool). if b then Some z else None) (range_true kind z h)

chars_one : (c : ℕ) → IsScalar c → chars (encode_utf8 c) ≡ c ∷ []
chars_one c is = chars_past_char (encode_utf8 c) [] c (IsUtf8-encode c is) (sym (append-nil (encode_utf8 c))) ∙ ap (λ (l : List ℕ). c ∷ l) chars-nil

one_again : (one : Leaf) → IsSound one → leaf_at (leaf_type one) (leaf_json one) ≡ Ok one
one_again (value.bool b) h = refl
one_again (value.whole kind z) h = ap (λ (o : Option ℤ). or_fault o kinds.Number >>= λ y. Ok (value.whole kind y)) (whole_again kind z h)
one_again (value.char c) h = ap (λ (l : List ℕ). or_fault (only_scalar l) kinds.Char >>= λ d. Ok (value.char d)) (chars_one c h)
one_again (value.string s) h = refl

leaf_again : (S : Simple) (one : Leaf) → IsLeafOf S one → leaf_at S (leaf_json one) ≡ Ok one
leaf_again S one h = subst (λ (R : Simple). leaf_at R (leaf_json one) ≡ Ok one) h.0 (one_again one h.1)

-- ---- names

not_one : (names : List (List ℕ)) (name : List ℕ) → IsNoneOf names name → is_one_of names name ≡ false
not_one [] name h = refl
not_one (other ∷ names) name h = ap (λ (b : Bool). b || is_one_of names name) (unlike name other h.0) ∙ not_one names name h.1

one_more : (before names : List (List ℕ)) (name : List ℕ) → AllOf (IsNoneOf before) names → IsNoneOf names name → AllOf (IsNoneOf (name ∷ before)) names
one_more before [] name h k = tt
one_more before (other ∷ names) name h k = (((λ e. k.0 (sym e)), h.0), one_more before names name h.1 k.1)

none_repeated : (before : List (List ℕ)) (n : ℕ) (names : List (List ℕ)) → AllOf (IsNoneOf before) names → AreDistinct names → repeated_behind before n names ≡ None
none_repeated before n [] h d = refl
none_repeated before n (name ∷ names) h d =
    ap (λ (b : Bool). if b then Some (n, name) else repeated_behind (name ∷ before) (suc n) names) (not_one before name h.0)
    ∙ none_repeated (name ∷ before) (suc n) names (one_more before names name h.1 d.0) d.1

none_before : (names : List (List ℕ)) → AllOf (IsNoneOf []) names
none_before [] = tt
none_before (name ∷ names) = (tt, none_before names)

distinct_none : (names : List (List ℕ)) → AreDistinct names → first_repeated names ≡ None
distinct_none names d = none_repeated [] 0 names (none_before names) d

distinct_again : (ms : Members) → AreDistinct (member_names ms) → distinct_members ms ≡ Ok ms
distinct_again ms d = ap (λ (o : Option (ℕ × List ℕ)). unless_found {A = ℕ × List ℕ} kinds.Repeated (λ r. member_step r.1) o ms) (distinct_none (member_names ms) d)

-- ---- flags

names_again : (names picked : List (List ℕ)) (n : ℕ) → AreAllOf names picked → each_at (name_at names) n (name_items picked) ≡ Ok picked
names_again names [] n h = refl
names_again names (one ∷ picked) n h = rw (passes names one h.0, names_again names picked (suc n) h.1) refl

flags_again : (names picked : List (List ℕ)) → AreDistinct names → ArePicked names picked → value_at (type.flags names) (plain_json (value.flags picked)) ≡ Ok (value.flags picked)
flags_again names picked distinct h =
    ap (λ (q : Reading (List (List ℕ))). q >>= λ given. unless_found {A = ℕ × List ℕ} kinds.Repeated (λ r. item_step r.0) (first_repeated given) (value.flags (found_in given names))) (names_again names picked 0 (picked_of names picked h))
    ∙ (ap (λ (o : Option (ℕ × List ℕ)). unless_found {A = ℕ × List ℕ} kinds.Repeated (λ r. item_step r.0) o (value.flags (found_in picked names))) (distinct_none picked (picked_distinct names picked h distinct))
    ∙ ap (λ (l : List (List ℕ)). as_flags l) (picked_found names picked h distinct))
  where
    as_flags : List (List ℕ) → Reading Value
    as_flags l = Ok (value.flags l)

-- ---- items

abbrev items_of : List Value → Items
items_of vs = value_items (merged_values (values vs))

merged_list : (vs : List Value) → values (map merged vs) ≡ merged_values (values vs)
merged_list [] = refl
merged_list (v ∷ vs) = ap (λ (l : value.Values). value.value_and (merged v) l) (merged_list vs)

items_long : (vs : List Value) → items_count (items_of vs) ≡ length vs
items_long [] = refl
items_long (v ∷ vs) = ap suc (items_long vs)

-- each such value is read again
abbrev IsAgain : (Value → Type 0) → (Json → Reading Value) → Type 0
IsAgain P read = (v : Value) → P v → read (plain_json (merged v)) ≡ Ok (merged v)

items_again : (P : Value → Type 0) (read : Json → Reading Value) → IsAgain P read → (n : ℕ) (vs : List Value) → AllOf P vs → each_at read n (items_of vs) ≡ Ok (map merged vs)
items_again P read each n [] h = refl
items_again P read each n (v ∷ vs) h = rw (each v h.0, items_again P read each (suc n) vs h.1) refl

abbrev as_list : List Value → Reading Value
as_list vs = Ok (value.list (values vs))

abbrev as_fixed : List Value → Reading Value
as_fixed vs = Ok (value.fixed (values vs))

abbrev as_tuple : List Value → Reading Value
as_tuple vs = Ok (value.tuple (values vs))

abbrev read_value : Value → Reading Value
read_value v = Ok v

list_again : (E : TypeTree) → IsAgain (HasType E) (value_at E) → (vs : List Value) → AllOf (HasType E) vs → value_at (type.list E) (plain_json (merged (value.list (values vs)))) ≡ Ok (merged (value.list (values vs)))
list_again E each vs h =
    ap (λ (q : Reading (List Value)). q >>= as_list) (items_again (HasType E) (value_at E) each 0 vs h)
    ∙ ap (λ (l : value.Values). read_value (value.list l)) (merged_list vs)

fixed_again : (E : TypeTree) (n : ℕ) → IsAgain (HasType E) (value_at E) → (vs : List Value) → AllOf (HasType E) vs → length vs ≡ n → value_at (type.fixed E n) (plain_json (merged (value.fixed (values vs)))) ≡ Ok (merged (value.fixed (values vs)))
fixed_again E n each vs h long =
    ap (λ (b : Bool). if b then (each_at (value_at E) 0 (items_of vs) >>= as_fixed) else Err (record { kind = kinds.Length; path = [] })) (same_count (items_count (items_of vs)) n (items_long vs ∙ long))
    ∙ (ap (λ (q : Reading (List Value)). q >>= as_fixed) (items_again (HasType E) (value_at E) each 0 vs h)
    ∙ ap (λ (l : value.Values). read_value (value.fixed l)) (merged_list vs))

-- ---- members of a record

-- under each name stands the field's value where it is no `none`, and nothing else
abbrev written_json : Value → Option Json
written_json v = if is_no_option v then None else Some (plain_json v)

abbrev AreFound : Members → FieldValues → Type 0
AreFound ms value.no_fields = Unit {0}
AreFound ms (value.field name v more) = (member_of name ms ≡ written_json v) × AreFound ms more

found_past : (name : List ℕ) (j : Json) (ms : Members) (fs : FieldValues) → IsNoneOf (names_of fs) name → AreFound ms fs → AreFound (member name j ms) fs
found_past name j ms value.no_fields n h = tt
found_past name j ms (value.field first w more) n h = (
  ap (λ (b : Bool). if b then Some j else member_of first ms) (unlike first name (λ f. n.0 (sym f))) ∙ h.0,
  found_past name j ms more n.1 h.1,
)

absent : (name : List ℕ) (fs : FieldValues) → IsNoneOf (names_of fs) name → member_of name (field_members fs) ≡ None
absent name value.no_fields n = refl
absent name (value.field first w more) n = by (is_no_option w) (absent name more n.1)
  where
    by : (b : Bool) → member_of name (field_members more) ≡ None → member_of name (if b then field_members more else member first (plain_json w) (field_members more)) ≡ None
    by true rest = rest
    by false rest = ap (λ (t : Bool). if t then Some (plain_json w) else member_of name (field_members more)) (unlike name first n.0) ∙ rest

all_found : (fs : FieldValues) → AreDistinct (names_of fs) → AreFound (field_members fs) fs
all_found value.no_fields d = tt
all_found (value.field name v more) d = by (is_no_option v) (all_found more d.1)
  where
    by : (b : Bool) → AreFound (field_members more) more → (member_of name (if b then field_members more else member name (plain_json v) (field_members more)) ≡ (if b then None else Some (plain_json v))) × AreFound (if b then field_members more else member name (plain_json v) (field_members more)) more
    by true rest = (absent name more d.0, rest)
    by false rest = (
      ap (λ (t : Bool). if t then Some (plain_json v) else member_of name (field_members more)) (same_bytes name),
      found_past name (plain_json v) (field_members more) more d.0 rest,
    )

members_none : (name : List ℕ) (fs : FieldValues) → IsNoneOf (names_of fs) name → IsNoneOf (member_names (field_members fs)) name
members_none name value.no_fields n = tt
members_none name (value.field first w more) n = by (is_no_option w) (members_none name more n.1)
  where
    by : (b : Bool) → IsNoneOf (member_names (field_members more)) name → IsNoneOf (member_names (if b then field_members more else member first (plain_json w) (field_members more))) name
    by true rest = rest
    by false rest = (n.0, rest)

members_distinct : (fs : FieldValues) → AreDistinct (names_of fs) → AreDistinct (member_names (field_members fs))
members_distinct value.no_fields d = tt
members_distinct (value.field name v more) d = by (is_no_option v) (members_distinct more d.1)
  where
    by : (b : Bool) → AreDistinct (member_names (field_members more)) → AreDistinct (member_names (if b then field_members more else member name (plain_json v) (field_members more)))
    by true rest = rest
    by false rest = (members_none name more d.0, rest)

-- each name is one of these
none_unknown : (names ks : List (List ℕ)) → AreAllOf names ks → first_unknown names ks ≡ None
none_unknown names [] h = refl
none_unknown names (k ∷ ks) h = ap (λ (b : Bool). if b then first_unknown names ks else Some k) (passes names k h.0) ∙ none_unknown names ks h.1

more_of : (first : List ℕ) (names some : List (List ℕ)) → AreAllOf names some → AreAllOf (first ∷ names) some
more_of first names [] h = tt
more_of first names (one ∷ more) h = (inr h.0, more_of first names more h.1)

members_of_names : (fs : FieldValues) → AreAllOf (names_of fs) (member_names (field_members fs))
members_of_names value.no_fields = tt
members_of_names (value.field name v more) = by (is_no_option v) (more_of name (names_of more) (member_names (field_members more)) (members_of_names more))
  where
    by : (b : Bool) → AreAllOf (name ∷ names_of more) (member_names (field_members more)) → AreAllOf (name ∷ names_of more) (member_names (if b then field_members more else member name (plain_json v) (field_members more)))
    by true rest = rest
    by false rest = (inl refl, rest)

known_again : (names : List (List ℕ)) (ms : Members) → AreAllOf names (member_names ms) → known_members names ms ≡ Ok ms
known_again names ms h = ap (λ (o : Option (List ℕ)). unless_found {A = List ℕ} kinds.Unknown member_step o ms) (none_unknown names (member_names ms) h)

-- a field that is left out
left_again : (T : TypeTree) (name : List ℕ) (v : Value) → HasType T v → is_no_option (merged v) ≡ true → left_out T name ≡ Ok (merged v)
left_again (type.option P) name v h e = ap read_value (sym (none_at_option (type.option P) v h e).1)
left_again (type.simple S) name v h e = absurd (none_at_option (type.simple S) v h e).0
left_again (type.unreadable kind) name v h e = absurd h
left_again (type.list E) name v h e = absurd (none_at_option (type.list E) v h e).0
left_again (type.fixed E n) name v h e = absurd (none_at_option (type.fixed E n) v h e).0
left_again (type.record_type fs) name v h e = absurd (none_at_option (type.record_type fs) v h e).0
left_again (type.tuple Ts) name v h e = absurd (none_at_option (type.tuple Ts) v h e).0
left_again (type.variant cs) name v h e = absurd (none_at_option (type.variant cs) v h e).0
left_again (type.enum names) name v h e = absurd (none_at_option (type.enum names) v h e).0
left_again (type.result A B) name v h e = absurd (none_at_option (type.result A B) v h e).0
left_again (type.flags names) name v h e = absurd (none_at_option (type.flags names) v h e).0
left_again (type.map K V) name v h e = absurd (none_at_option (type.map K V) v h e).0

field_again : (T : TypeTree) (name : List ℕ) (v : Value) → HasType T v → value_at T (plain_json (merged v)) ≡ Ok (merged v) → (b : Bool) → is_no_option (merged v) ≡ b → field_at (value_at T) (left_out T name) name (if b then None else Some (plain_json (merged v))) ≡ Ok (merged v)
field_again T name v h reads true e = left_again T name v h e
field_again T name v h reads false e = ap (under (member_step name)) reads

-- ---- cases

abbrev maybe_json : MaybeValue → Option Json
maybe_json no_value = None
maybe_json (a_value v) = Some (plain_json v)

case_there : (name : List ℕ) (p : MaybeValue) → json_case (case_json name p) ≡ Some (name, maybe_json p)
case_there name no_value = refl
case_there name (a_value v) = refl

case_apart : (cs : Cases) (name : List ℕ) (payload : MaybeValue) (other : List ℕ) → HasCase cs name payload → IsNoneOf (case_names cs) other → name ≢ other
case_apart no_cases name payload other h none same = absurd h
case_apart (case_of first P more) name payload other (inl h) none same = none.0 (sym same ∙ h.0)
case_apart (case_of first P more) name payload other (inr h) none same = case_apart more name payload other h none.1 same

-- ---- options

-- the value is an option exactly at an option, and elsewhere its JSON is not `null`
record Shaped (P : TypeTree) (w : Value) : Type 0 where
  pub same : is_option (merged w) ≡ is_option_type P
  pub some : is_option_type P ≡ false → is_null (plain_json (merged w)) ≡ false

shaped_as : (P : TypeTree) (w x : Value) → w ≡ x → is_option_type P ≡ false → is_option (merged x) ≡ false → is_null (plain_json (merged x)) ≡ false → Shaped P w
shaped_as P w x e none option null = subst (Shaped P) (sym e) (record { same = option ∙ sym none; some = λ f. null })

leaf_some : (one : Leaf) → is_null (leaf_json one) ≡ false
leaf_some (value.bool b) = refl
leaf_some (value.whole kind z) = refl
leaf_some (value.char c) = refl
leaf_some (value.string s) = refl

case_some : (name : List ℕ) (p : MaybeValue) → is_null (case_json name p) ≡ false
case_some name no_value = refl
case_some name (a_value v) = refl

map_some : (es : Entries) → is_null (map_json es) ≡ false
map_some value.no_entries = refl
map_some (entry (value.bool b) v more) = refl
map_some (entry (value.whole kind z) v more) = refl
map_some (entry (value.char c) v more) = refl
map_some (entry (value.string s) v more) = refl

shaped : (P : TypeTree) (w : Value) → HasType P w → Shaped P w
shaped (type.simple S) w (one, h, e) = shaped_as (type.simple S) w (value.leaf one) e refl refl (leaf_some one)
shaped (type.unreadable kind) w h = absurd h
shaped (type.list E) w (vs, h, e) = shaped_as (type.list E) w (value.list (values vs)) e refl refl refl
shaped (type.fixed E n) w (vs, h, long, e) = shaped_as (type.fixed E n) w (value.fixed (values vs)) e refl refl refl
shaped (type.record_type fs) w (all, h, e) = shaped_as (type.record_type fs) w (value.record_value all) e refl refl refl
shaped (type.tuple Ts) w (vs, h, e) = shaped_as (type.tuple Ts) w (value.tuple (values vs)) e refl refl refl
shaped (type.variant cs) w (name, payload, h, e) = shaped_as (type.variant cs) w (value.variant name payload) e refl refl (case_some name (merged_maybe payload))
shaped (type.enum names) w (name, h, e) = shaped_as (type.enum names) w (value.enum name) e refl refl refl
shaped (type.option P) w (inl e) = subst (Shaped (type.option P)) (sym e) (record { same = refl; some = λ f. absurd (cc) })
shaped (type.option P) w (inr (x, h, e)) = subst (Shaped (type.option P)) (sym e) (record { same = refl; some = λ f. absurd (cc) })
shaped (type.result A B) w (inl (payload, h, e)) = shaped_as (type.result A B) w (value.ok payload) e refl refl (case_some (codes "ok") (merged_maybe payload))
shaped (type.result A B) w (inr (payload, h, e)) = shaped_as (type.result A B) w (value.err payload) e refl refl (case_some (codes "err") (merged_maybe payload))
shaped (type.flags names) w (picked, h, e) = shaped_as (type.flags names) w (value.flags picked) e refl refl refl
shaped (type.map K V) w (es, h, e) = shaped_as (type.map K V) w (value.map (entries es)) e refl refl (map_some (entries (merge leaf_eq (merged_entries (entries es)))))

abbrev as_some : Value → Reading Value
as_some v = Ok (value.option (a_value v))

abbrev some_of : TypeTree → Bool → Json → Reading Value
some_of P t j = if is_null j then Ok (value.option no_value) else (some_at t (value_at P) j >>= as_some)

some_again : (P : TypeTree) (w : Value) → HasType P w → value_at P (plain_json (merged w)) ≡ Ok (merged w) → value_at (type.option P) (option_json (a_value (merged w))) ≡ Ok (value.option (a_value (merged w)))
some_again P w h reads = let s = shaped P w h in ap (λ (b : Bool). value_at (type.option P) (if b then one_member (codes "some") j else j)) s.same ∙ by (is_option_type P) s.some
  where
    j : Json
    j = plain_json (merged w)

    by : (t : Bool) → (t ≡ false → is_null j ≡ false) → some_of P t (if t then one_member (codes "some") j else j) ≡ Ok (value.option (a_value (merged w)))
    by true some = ap (λ (q : Reading Value). under (member_step (codes "some")) q >>= as_some) reads
    by false some = ap (λ (b : Bool). if b then Ok (value.option no_value) else (value_at P j >>= as_some)) (some refl) ∙ ap (λ (q : Reading Value). q >>= as_some) reads

-- ---- maps

string_key : (k : Leaf) → IsLeafOf type.string k → value.string (key_name k) ≡ k
string_key (value.bool b) h = let e = h.0 in absurd (cc)
string_key (value.whole kind z) h = let e = h.0 in absurd (cc)
string_key (value.char c) h = let e = h.0 in absurd (cc)
string_key (value.string s) h = refl

names_apart : (a b : Leaf) → IsLeafOf type.string a → IsLeafOf type.string b → key_name a ≡ key_name b → a ≡ b
names_apart a b h k e = sym (string_key a h) ∙ (ap value.string e ∙ string_key b k)

apart_from : (f : Leaf → List ℕ) (S : Simple) → ((a b : Leaf) → IsLeafOf S a → IsLeafOf S b → f a ≡ f b → a ≡ b) → (key : Leaf) (es : List (Leaf × Value)) → IsLeafOf S key → AllOf (λ e. IsLeafOf S e.0) es → AllOf (λ e. leaf_eq key e.0 ≡ false) es → IsNoneOf (map (λ e. f e.0) es) (f key)
apart_from f S one key [] k h a = tt
apart_from f S one key (e ∷ es) k h a = (
  (λ same. let is : key ≡ e.0 = one key e.0 k h.0 same in let self = ap (leaf_eq key) is in let yes = leaf_eq-self key in let no = a.0 in cc),
  apart_from f S one key es k h.1 a.1,
)

apart_names : (f : Leaf → List ℕ) (S : Simple) → ((a b : Leaf) → IsLeafOf S a → IsLeafOf S b → f a ≡ f b → a ≡ b) → (es : List (Leaf × Value)) → AllOf (λ e. IsLeafOf S e.0) es → AreApart leaf_eq es → AreDistinct (map (λ e. f e.0) es)
apart_names f S one [] h a = tt
apart_names f S one (e ∷ es) h a = (apart_from f S one e.0 es h.0 h.1 a.0, apart_names f S one es h.1 a.1)

-- an entry whose value is read again
abbrev IsEntryAgain : Simple → TypeTree → Leaf × Value → Type 0
IsEntryAgain K V e = IsLeafOf K e.0 × (value_at V (plain_json e.1) ≡ Ok e.1)

keys_of : (K : Simple) (V : TypeTree) (es : List (Leaf × Value)) → AllOf (IsEntryAgain K V) es → AllOf (λ e. IsLeafOf K e.0) es
keys_of K V [] h = tt
keys_of K V (e ∷ es) h = (h.0.0, keys_of K V es h.1)

abbrev as_map : List (Leaf × Value) → Reading Value
as_map es = Ok (value.map (entries es))

members_again : (V : TypeTree) (es : List (Leaf × Value)) → AllOf (IsEntryAgain type.string V) es → members_at (value_at V) (entry_members (entries es)) ≡ Ok es
members_again V [] h = refl
members_again V (e ∷ es) h =
    rw (h.0.1, members_again V es h.1) (ap (λ (k : Leaf). these ((k, e.1) ∷ es)) (string_key e.0 h.0.0))
  where
    these : List (Leaf × Value) → Reading (List (Leaf × Value))
    these l = Ok l

pairs_again : (K : Simple) (V : TypeTree) (n : ℕ) (es : List (Leaf × Value)) → AllOf (IsEntryAgain K V) es → each_at (pair_at (leaf_at K) (value_at V)) n (entry_items (entries es)) ≡ Ok es
pairs_again K V n [] h = refl
pairs_again K V n (e ∷ es) h = rw (leaf_again K e.0 h.0.0, h.0.1, pairs_again K V (suc n) es h.1) refl

entry_names : (es : List (Leaf × Value)) → member_names (entry_members (entries es)) ≡ map (λ e. key_name e.0) es
entry_names [] = refl
entry_names (e ∷ es) = ap (λ (l : List (List ℕ)). key_name e.0 ∷ l) (entry_names es)

map_named : (es : List (Leaf × Value)) → AllOf (λ e. IsLeafOf type.string e.0) es → map_json (entries es) ≡ json.object (entry_members (entries es))
map_named [] h = refl
map_named (e ∷ es) h = by e.0 h.0
  where
    by : (k : Leaf) → IsLeafOf type.string k → map_json (entry k e.1 (entries es)) ≡ json.object (member (key_name k) (plain_json e.1) (entry_members (entries es)))
    by (value.bool b) h = let e = h.0 in absurd (cc)
    by (value.whole kind z) h = let e = h.0 in absurd (cc)
    by (value.char c) h = let e = h.0 in absurd (cc)
    by (value.string s) h = refl

map_pairs : (K : Simple) (es : List (Leaf × Value)) → K ≢ type.string → AllOf (λ e. IsLeafOf K e.0) es → pairs_of (map_json (entries es)) ≡ Ok (entry_items (entries es))
map_pairs K [] other h = refl
map_pairs K (e ∷ es) other h = by e.0 h.0
  where
    by : (k : Leaf) → IsLeafOf K k → pairs_of (map_json (entry k e.1 (entries es))) ≡ Ok (item (pair_json (leaf_json k) (plain_json e.1)) (entry_items (entries es)))
    by (value.bool b) h = refl
    by (value.whole kind z) h = refl
    by (value.char c) h = refl
    by (value.string s) h = absurd (other (sym h.0))

keys_again : (K : Simple) (es : List (Leaf × Value)) → AllOf (λ e. IsLeafOf K e.0) es → AreApart leaf_eq es → distinct_entries es ≡ Ok es
keys_again K es h a =
    ap (λ (o : Option (ℕ × List ℕ)). unless_found {A = ℕ × List ℕ} kinds.Repeated (λ r. item_step r.0) o es) (distinct_none (map (λ e. leaf_text e.0) es) (apart_names leaf_text K (leaves_apart K) es h a))

named_again : (V : TypeTree) (es : List (Leaf × Value)) → AllOf (IsEntryAgain type.string V) es → AreApart leaf_eq es → value_at (type.map type.string V) (map_json (entries es)) ≡ Ok (value.map (entries es))
named_again V es h a =
    let keys = keys_of type.string V es h in
    let ms = entry_members (entries es) in
    let distinct : AreDistinct (member_names ms) = subst AreDistinct (sym (entry_names es)) (apart_names key_name type.string names_apart es keys a) in
    ap (value_at (type.map type.string V)) (map_named es keys)
    ∙ (ap (λ (q : Reading Members). (q >>= members_at (value_at V)) >>= as_map) (distinct_again ms distinct)
    ∙ ap (λ (q : Reading (List (Leaf × Value))). q >>= as_map) (members_again V es h))

unnamed_again : (K : Simple) (V : TypeTree) (es : List (Leaf × Value)) → K ≢ type.string → AllOf (IsEntryAgain K V) es → AreApart leaf_eq es → value_at (type.map K V) (map_json (entries es)) ≡ Ok (value.map (entries es))
unnamed_again K V es other h a =
    let keys = keys_of K V es h in
    ap (λ (q : Reading (List (Leaf × Value))). q >>= as_map) (array_pairs K (value_at V) (map_json (entries es)) other)
    ∙ (ap (λ (q : Reading Items). ((q >>= each_at (pair_at (leaf_at K) (value_at V)) 0) >>= distinct_entries) >>= as_map) (map_pairs K es other keys)
    ∙ (ap (λ (q : Reading (List (Leaf × Value))). (q >>= distinct_entries) >>= as_map) (pairs_again K V 0 es h)
    ∙ ap (λ (q : Reading (List (Leaf × Value))). q >>= as_map) (keys_again K es keys a)))

map_again : (K : Simple) (V : TypeTree) (es : List (Leaf × Value)) → AllOf (IsEntryAgain K V) es → AreApart leaf_eq es → value_at (type.map K V) (map_json (entries es)) ≡ Ok (value.map (entries es))
map_again type.bool V es h a = unnamed_again type.bool V es (λ e. cc) h a
map_again (type.whole kind) V es h a = unnamed_again (type.whole kind) V es (λ e. cc) h a
map_again type.char V es h a = unnamed_again type.char V es (λ e. cc) h a
map_again type.string V es h a = named_again V es h a

-- merged entries
module _ {K V : Type 0} (same : K → K → Bool) where
  kept : (P : K × V → Type 0) (key : K) (es : List (K × V)) → AllOf P es → AllOf P (without same key es)
  kept P key [] h = tt
  kept P key (e ∷ es) h = by (same key e.0) (kept P key es h.1)
    where
      by : (t : Bool) → AllOf P (without same key es) → AllOf P (cond (not t) (e ∷ without same key es) (without same key es))
      by true w = w
      by false w = (h.0, w)

  kept_apart : (key : K) (es : List (K × V)) → AreApart same es → AreApart same (without same key es)
  kept_apart key [] h = tt
  kept_apart key (e ∷ es) h = by (same key e.0) (kept_apart key es h.1)
    where
      by : (t : Bool) → AreApart same (without same key es) → AreApart same (cond (not t) (e ∷ without same key es) (without same key es))
      by true w = w
      by false w = (kept (λ f. same e.0 f.0 ≡ false) key es h.0, w)

  kept_other : (key : K) (es : List (K × V)) → AllOf (λ f. same key f.0 ≡ false) (without same key es)
  kept_other key [] = tt
  kept_other key (e ∷ es) = by (same key e.0) refl (kept_other key es)
    where
      by : (t : Bool) → same key e.0 ≡ t → AllOf (λ f. same key f.0 ≡ false) (without same key es) → AllOf (λ f. same key f.0 ≡ false) (cond (not t) (e ∷ without same key es) (without same key es))
      by true f w = w
      by false f w = (f, w)

  merge_apart : (es : List (K × V)) → AreApart same (merge same es)
  merge_apart [] = tt
  merge_apart (e ∷ es) = (kept_other e.0 (merge same es), kept_apart e.0 (merge same es) (merge_apart es))

entries_again : (K : Simple) (V : TypeTree) → IsAgain (HasType V) (value_at V) → (es : List (Leaf × Value)) → AllOf (λ e. IsLeafOf K e.0 × HasType V e.1) es → AllOf (IsEntryAgain K V) (merged_entries (entries es))
entries_again K V each [] h = tt
entries_again K V each (e ∷ es) h = ((h.0.0, each e.1 h.0.1), entries_again K V each es h.1)

merged_again : (K : Simple) (V : TypeTree) → IsAgain (HasType V) (value_at V) → (es : List (Leaf × Value)) → AllOf (λ e. IsLeafOf K e.0 × HasType V e.1) es → value_at (type.map K V) (plain_json (merged (value.map (entries es)))) ≡ Ok (merged (value.map (entries es)))
merged_again K V each es h =
    let all = merged_entries (entries es) in
    map_again K V (merge leaf_eq all) (merge_keeps leaf_eq (IsLeafOf K) (λ (w : Value). value_at V (plain_json w) ≡ Ok w) all (entries_again K V each es h)) (merge_apart leaf_eq all)

-- ---- any value

abbrev Reads : TypeTree → Value → Type 0
Reads T v = value_at T (plain_json (merged v)) ≡ Ok (merged v)

abbrev as_all : FieldValues → Reading FieldValues
as_all fields = Ok fields

abbrev as_ok : MaybeValue → Reading Value
as_ok p = Ok (value.ok p)

abbrev as_err : MaybeValue → Reading Value
as_err p = Ok (value.err p)

abbrev result_behind : MaybeType → MaybeType → List ℕ × Option Json → Reading Value
result_behind A B c =
    if bytes_eq c.0 (codes "ok") then (payload_at A (codes "ok") c.1 >>= as_ok)
    else (if bytes_eq c.0 (codes "err") then (payload_at B (codes "err") c.1 >>= as_err) else Err (record { kind = kinds.Unknown; path = [] }))

bytes_eq_same : (a b : List ℕ) → a ≡ b → bytes_eq a b ≡ true
bytes_eq_same a b e = ap (bytes_eq a) (sym e) ∙ same_bytes a

types_long : (Ts : Types) (vs : List Value) → HasTypes Ts vs → length vs ≡ count_of Ts
types_long no_types vs h = ap (λ (l : List Value). length l) h
types_long (type_and T more) vs (w, others, h, hs, e) = ap (λ (l : List Value). length l) e ∙ ap suc (types_long more others hs)

record_again : (fs : Fields) (all : FieldValues) → AreDistinct (field_names fs) → HasFields fs all → ((ms : Members) → AreFound ms (merged_fields all) → fields_at fs ms ≡ Ok (merged_fields all)) → Reads (type.record_type fs) (value.record_value all)
record_again fs all distinct h fields =
    let names = names_same fs all h in
    let ms = field_members (merged_fields all) in
    let apart : AreDistinct (names_of (merged_fields all)) = subst AreDistinct (sym names) distinct in
    ap (λ (q : Reading Members). (q >>= known_members (field_names fs)) >>= λ x. fields_at fs x >>= λ fields. Ok (value.record_value fields)) (distinct_again ms (members_distinct (merged_fields all) apart))
    ∙ (ap (λ (q : Reading Members). q >>= λ x. fields_at fs x >>= λ fields. Ok (value.record_value fields)) (known_again (field_names fs) ms (subst (λ (l : List (List ℕ)). AreAllOf l (member_names ms)) names (members_of_names (merged_fields all))))
    ∙ ap (λ (q : Reading FieldValues). q >>= λ fields. Ok (value.record_value fields)) (fields ms (all_found (merged_fields all) apart)))

mutual
  pub again : (T : TypeTree) → HasDistinctNames T → (v : Value) → HasType T v → Reads T v
  again (type.simple S) distinct v (one, h, e) = subst (Reads (type.simple S)) (sym e) (rw (leaf_again S one h) refl)
  again (type.unreadable kind) distinct v h = absurd h
  again (type.list E) distinct v (vs, h, e) = subst (Reads (type.list E)) (sym e) (list_again E (again E distinct) vs h)
  again (type.fixed E n) distinct v (vs, h, long, e) = subst (Reads (type.fixed E n)) (sym e) (fixed_again E n (again E distinct) vs h long)
  again (type.record_type fs) distinct v (all, h, e) = subst (Reads (type.record_type fs)) (sym e) (record_again fs all distinct.0 h (fields_again fs distinct.1 all h))
  again (type.tuple Ts) distinct v (vs, h, e) =
      subst (Reads (type.tuple Ts)) (sym e)
      (ap (λ (b : Bool). if b then (types_at Ts 0 (items_of vs) >>= as_tuple) else Err (record { kind = kinds.Length; path = [] })) (same_count (items_count (items_of vs)) (count_of Ts) (items_long vs ∙ types_long Ts vs h))
      ∙ (ap (λ (q : Reading (List Value)). q >>= as_tuple) (types_again Ts distinct 0 vs h)
      ∙ ap (λ (l : value.Values). read_value (value.tuple l)) (merged_list vs)))
  again (type.variant cs) distinct v (name, payload, h, e) =
      subst (Reads (type.variant cs)) (sym e)
      (ap (λ (o : Option (List ℕ × Option Json)). or_fault o kinds.Mismatch >>= λ c. case_at cs c.0 c.1) (case_there name (merged_maybe payload))
      ∙ case_again cs distinct.0 distinct.1 name payload h)
  again (type.enum names) distinct v (name, h, e) = subst (Reads (type.enum names)) (sym e) (rw (passes names name h) refl)
  again (type.option P) distinct v (inl e) = subst (Reads (type.option P)) (sym e) refl
  again (type.option P) distinct v (inr (w, h, e)) = subst (Reads (type.option P)) (sym e) (some_again P w h (again P distinct w h))
  again (type.result A B) distinct v (inl (payload, h, e)) =
      subst (Reads (type.result A B)) (sym e)
      (ap (λ (o : Option (List ℕ × Option Json)). or_fault o kinds.Mismatch >>= result_behind A B) (case_there (codes "ok") (merged_maybe payload))
      ∙ ap (λ (q : Reading MaybeValue). q >>= as_ok) (payload_again A distinct.0 (codes "ok") payload h))
  again (type.result A B) distinct v (inr (payload, h, e)) =
      subst (Reads (type.result A B)) (sym e)
      (ap (λ (o : Option (List ℕ × Option Json)). or_fault o kinds.Mismatch >>= result_behind A B) (case_there (codes "err") (merged_maybe payload))
      ∙ ap (λ (q : Reading MaybeValue). q >>= as_err) (payload_again B distinct.1 (codes "err") payload h))
  again (type.flags names) distinct v (picked, h, e) = subst (Reads (type.flags names)) (sym e) (flags_again names picked distinct h)
  again (type.map K V) distinct v (es, h, e) = subst (Reads (type.map K V)) (sym e) (merged_again K V (again V distinct) es h)

  payload_again : (P : MaybeType) → EachNamesOfMaybe AreDistinct P → (name : List ℕ) (p : MaybeValue) → HasPayload P p → payload_at P name (maybe_json (merged_maybe p)) ≡ Ok (merged_maybe p)
  payload_again no_type distinct name p h = subst (λ (q : MaybeValue). payload_at no_type name (maybe_json (merged_maybe q)) ≡ Ok (merged_maybe q)) (sym h) refl
  payload_again (a_type T) distinct name p (w, h, e) =
      subst (λ (q : MaybeValue). payload_at (a_type T) name (maybe_json (merged_maybe q)) ≡ Ok (merged_maybe q)) (sym e) (rw (again T distinct w h) refl)

  types_again : (Ts : Types) → EachNamesOfTypes AreDistinct Ts → (n : ℕ) (vs : List Value) → HasTypes Ts vs → types_at Ts n (items_of vs) ≡ Ok (map merged vs)
  types_again no_types distinct n vs h = subst (λ (l : List Value). types_at no_types n (items_of l) ≡ Ok (map merged l)) (sym h) refl
  types_again (type_and T more) distinct n vs (w, others, h, hs, e) =
      subst (λ (l : List Value). types_at (type_and T more) n (items_of l) ≡ Ok (map merged l)) (sym e) (rw (again T distinct.0 w h, types_again more distinct.1 (suc n) others hs) refl)

  fields_again : (fs : Fields) → EachNamesOfFields AreDistinct fs → (all : FieldValues) → HasFields fs all → (ms : Members) → AreFound ms (merged_fields all) → fields_at fs ms ≡ Ok (merged_fields all)
  fields_again type.no_fields distinct all h ms found = ap (λ (l : FieldValues). as_all (merged_fields l)) (sym h)
  fields_again (type.field name T more) distinct all (w, others, h, hs, e) ms found =
      let there : AreFound ms (value.field name (merged w) (merged_fields others)) = subst (λ (l : FieldValues). AreFound ms (merged_fields l)) e found in
      let one : field_at (value_at T) (left_out T name) name (member_of name ms) ≡ Ok (merged w) = ap (field_at (value_at T) (left_out T name) name) there.0 ∙ field_again T name w h (again T distinct.0 w h) (is_no_option (merged w)) refl in
      subst (λ (l : FieldValues). fields_at (type.field name T more) ms ≡ Ok (merged_fields l)) (sym e) (rw (one, fields_again more distinct.1 others hs ms there.1) refl)

  case_again : (cs : Cases) → AreDistinct (case_names cs) → EachNamesOfCases AreDistinct cs → (name : List ℕ) (payload : MaybeValue) → HasCase cs name payload → case_at cs name (maybe_json (merged_maybe payload)) ≡ Ok (value.variant name (merged_maybe payload))
  case_again no_cases distinct each name payload h = absurd h
  case_again (case_of other P more) distinct each name payload (inl h) = rw ((bytes_eq_same name other h.0), payload_again P each.0 name payload h.1) refl
  case_again (case_of other P more) distinct each name payload (inr h) = rw (unlike name other (case_apart more name payload other h distinct.0)) (case_again more distinct.1 each.1 name payload h)
