-- The texts of values: what they are read as, and that no two values have one.
use Rattle.std.proofs.Common.{◌≡◌, ℕ, ℤ, pos, negsuc, ◌+◌, ◌≤◌, ◌^◌, codes, Bool, true, false, if◌then◌else◌, List, [], ◌∷◌, ◌++◌, Option, Some, Ok, sym, ap, ◌∙◌, arith}
use Rattle.std.specs.Fmt.{signed_decimal}
use Rattle.std.proofs.lemmas.Int.{ints}
use Rattle.json.specs.Json as json
use Rattle.json.specs.Json.{Json, Items, Members, document}
use Rattle.json.specs.Lex.{tokens}
use Rattle.json.specs.Print.{IsNumber, print}
use Rattle.json.specs.Token.{Token}
use Rattle.json.specs.Tree.{json_tokens, depth, HasNumbers, ItemsHaveNumbers, MembersHaveNumbers}
use Rattle.json.proofs.Printed.Decimals.{IsNumber-decimal, IsNumber-signed_decimal}
use Rattle.json.proofs.Printed.Tokens.{tokens-print}
use Rattle.json.proofs.Printed.Trees.{value-json_tokens, ArePrintable-json_tokens, document-print}
use Rattle.wave_wasm.specs.Lists.{AllOf}
use Rattle.wave_wasm.specs.Merge.{merged, merged_maybe, merged_values, merged_fields, merged_entries, merge, leaf_eq}
use Rattle.wave_wasm.specs.Numbers.{IsInRange, IsSignedWithin, IsUnsignedWithin}
use Rattle.wave_wasm.specs.Text.{is_no_option}
use Rattle.wave_wasm.specs.Types as type
use Rattle.wave_wasm.specs.Types.{TypeTree, Whole, HasDistinctNames}
use Rattle.wave_wasm.specs.Values as value
use Rattle.wave_wasm.specs.Values.{Value, MaybeValue, Values, FieldValues, Entries, Leaf, no_value, a_value, entries, entry, IsSound, IsWellFormed, IsWellFormedMaybe, AreWellFormed, AreWellFormedFields, AreWellFormedEntries}
use Rattle.wave_wasm.proofs.TypesOfValues.WellFormed.{formed}
use Rattle.wave_grammar.proofs.RoundTrip.Names.{merge_keeps}
use Rattle.wave_json.specs.declared.error.JsonErrorKind.TheVariants as kinds
use Rattle.wave_json.specs.Laws.{TextReadsBack, OneTextEach}
use Rattle.wave_json.specs.Mapping.{leaf_json, name_items, one_member, is_option, plain_json, value_items, field_members, case_json, option_json, map_json, entry_members, entry_items, json_of}
use Rattle.wave_json.specs.Reading.{Reading, ◌>>=◌, or_fault, value_at}
use Rattle.wave_json.proofs.Again.{again}
use Rattle.wave_json.proofs.Builds.{ok_is}

-- ---- numbers

number_signed : (half : ℕ) → half ≤ 2 ^ 63 → (z : ℤ) → IsSignedWithin half z → IsNumber (signed_decimal z)
number_signed half le (pos n) h = IsNumber-decimal n (omega (arith, ints, le, h.0, h.1))
number_signed half le (negsuc n) h = IsNumber-signed_decimal (negsuc n) (omega (arith, ints, le, h.0, h.1))

number_unsigned : (end : ℕ) → end ≤ 2 ^ 64 → (z : ℤ) → IsUnsignedWithin end z → IsNumber (signed_decimal z)
number_unsigned end le (pos n) h = IsNumber-decimal n (omega (arith, ints, le, h.0, h.1))
number_unsigned end le (negsuc n) h = absurd (omega (arith, ints, h.0, h.1))

number_in : (kind : Whole) (z : ℤ) → IsInRange kind z → IsNumber (signed_decimal z)
number_in type.s8 z h = number_signed (2 ^ 7) (omega arith) z h
number_in type.s16 z h = number_signed (2 ^ 15) (omega arith) z h
number_in type.s32 z h = number_signed (2 ^ 31) (omega arith) z h
number_in type.s64 z h = number_signed (2 ^ 63) (omega arith) z h
number_in type.u8 z h = number_unsigned (2 ^ 8) (omega arith) z h
number_in type.u16 z h = number_unsigned (2 ^ 16) (omega arith) z h
number_in type.u32 z h = number_unsigned (2 ^ 32) (omega arith) z h
number_in type.u64 z h = number_unsigned (2 ^ 64) (omega arith) z h

leaf_numbers : (one : Leaf) → IsSound one → HasNumbers (leaf_json one)
leaf_numbers (value.bool b) h = tt
leaf_numbers (value.whole kind z) h = number_in kind z h
leaf_numbers (value.char c) h = tt
leaf_numbers (value.string s) h = tt

name_numbers : (names : List (List ℕ)) → ItemsHaveNumbers (name_items names)
name_numbers [] = tt
name_numbers (name ∷ names) = (tt, name_numbers names)

-- ---- maps

abbrev HasEntryNumbers : Leaf × Value → Type 0
HasEntryNumbers e = IsSound e.0 × HasNumbers (plain_json e.1)

members_numbers : (es : List (Leaf × Value)) → AllOf HasEntryNumbers es → MembersHaveNumbers (entry_members (entries es))
members_numbers [] h = tt
members_numbers (e ∷ es) h = (h.0.1, members_numbers es h.1)

items_numbers : (es : List (Leaf × Value)) → AllOf HasEntryNumbers es → ItemsHaveNumbers (entry_items (entries es))
items_numbers [] h = tt
items_numbers (e ∷ es) h = ((leaf_numbers e.0 h.0.0, (h.0.1, tt)), items_numbers es h.1)

map_numbers : (es : List (Leaf × Value)) → AllOf HasEntryNumbers es → HasNumbers (map_json (entries es))
map_numbers [] h = tt
map_numbers (e ∷ es) h = by e.0 h.0.0
  where
    by : (k : Leaf) → IsSound k → HasNumbers (map_json (entry k e.1 (entries es)))
    by (value.bool b) s = ((tt, (h.0.1, tt)), items_numbers es h.1)
    by (value.whole kind z) s = ((number_in kind z s, (h.0.1, tt)), items_numbers es h.1)
    by (value.char c) s = ((tt, (h.0.1, tt)), items_numbers es h.1)
    by (value.string t) s = (h.0.1, members_numbers es h.1)

-- ---- values

mutual
  numbers : (v : Value) → IsWellFormed v → HasNumbers (json_of v)
  numbers (value.leaf one) h = leaf_numbers one h
  numbers (value.unreadable kind) h = tt
  numbers (value.list vs) h = numbers_values vs h
  numbers (value.fixed vs) h = numbers_values vs h
  numbers (value.tuple vs) h = numbers_values vs h
  numbers (value.record_value fs) h = numbers_fields fs h
  numbers (value.variant name payload) h = numbers_case name payload h
  numbers (value.enum name) h = tt
  numbers (value.option payload) h = numbers_option payload h
  numbers (value.ok payload) h = numbers_case (codes "ok") payload h
  numbers (value.err payload) h = numbers_case (codes "err") payload h
  numbers (value.flags names) h = name_numbers names
  numbers (value.map es) h = map_numbers (merge leaf_eq (merged_entries es)) (merge_keeps leaf_eq IsSound (λ (w : Value). HasNumbers (plain_json w)) (merged_entries es) (numbers_entries es h.1))

  numbers_values : (vs : Values) → AreWellFormed vs → ItemsHaveNumbers (value_items (merged_values vs))
  numbers_values value.no_values h = tt
  numbers_values (value.value_and v more) h = (numbers v h.0, numbers_values more h.1)

  numbers_fields : (fs : FieldValues) → AreWellFormedFields fs → MembersHaveNumbers (field_members (merged_fields fs))
  numbers_fields value.no_fields h = tt
  numbers_fields (value.field name v more) h = by (is_no_option (merged v)) (numbers v h.0) (numbers_fields more h.1)
    where
      by : (b : Bool) → HasNumbers (json_of v) → MembersHaveNumbers (field_members (merged_fields more)) → MembersHaveNumbers (if b then field_members (merged_fields more) else json.member name (json_of v) (field_members (merged_fields more)))
      by true one others = others
      by false one others = (one, others)

  numbers_case : (name : List ℕ) (payload : MaybeValue) → IsWellFormedMaybe payload → HasNumbers (case_json name (merged_maybe payload))
  numbers_case name no_value h = tt
  numbers_case name (a_value v) h = (numbers v h, tt)

  numbers_option : (payload : MaybeValue) → IsWellFormedMaybe payload → HasNumbers (option_json (merged_maybe payload))
  numbers_option no_value h = tt
  numbers_option (a_value v) h = by (is_option (merged v)) (numbers v h)
    where
      by : (b : Bool) → HasNumbers (json_of v) → HasNumbers (if b then one_member (codes "some") (json_of v) else json_of v)
      by true one = (one, tt)
      by false one = one

  numbers_entries : (es : Entries) → AreWellFormedEntries es → AllOf HasEntryNumbers (merged_entries es)
  numbers_entries value.no_entries h = tt
  numbers_entries (entry key v more) h = ((h.0, numbers v h.1), numbers_entries more h.2)

-- ---- texts

pub text_again : TextReadsBack
text_again T v distinct h shallow =
    ap (λ (o : Option Json). or_fault o kinds.Syntax >>= value_at T) (document-print (json_of v) (numbers v (formed T v h)) shallow) ∙ again T distinct v h

abbrev done : Json → Option (Json × List Token)
done j = Some (j, [])

done_is : (a b : Json) → done a ≡ done b → a ≡ b
done_is a b e = let same : (a, []) ≡ (b, []) = cc in ap (λ (p : Json × List Token). p.0) same

-- JSON of one text is one
one_json : (a b : Json) → HasNumbers a → HasNumbers b → print (json_tokens a) ≡ print (json_tokens b) → a ≡ b
one_json a b ha hb e =
    let same : json_tokens a ≡ json_tokens b = sym (tokens-print (json_tokens a) (ArePrintable-json_tokens a ha)) ∙ (ap tokens e ∙ tokens-print (json_tokens b) (ArePrintable-json_tokens b hb)) in
    let d = depth a + depth b in
    done_is a b (sym (value-json_tokens a d [] (omega arith)) ∙ (ap (λ (ts : List Token). json.value d (ts ++ [])) same ∙ value-json_tokens b d [] (omega arith)))

abbrev read_as : Value → Reading Value
read_as v = Ok v

pub one_text : OneTextEach
one_text T v w distinct hv hw = (
  (λ e.
      let same = one_json (json_of v) (json_of w) (numbers v (formed T v hv)) (numbers w (formed T w hw)) e in
      ok_is (merged v) (merged w) (sym (again T distinct v hv) ∙ (ap (value_at T) same ∙ again T distinct w hw))),
  (λ e. ap (λ (x : Value). print (json_tokens (plain_json x))) e),
)
