-- How many parts are read, where they begin, and which part is none.
use Rattle.std.proofs.Common.{◌≡◌, ◌≤◌, ℕ, suc, Bool, true, false, cond, eqb, List, [], length, map, Some, None, Result, Ok, Err, Bor, refl, sym, ap, subst, ◌∙◌, arith, inl, inr}
use Rattle.std.specs.Int.{w64}
use Rattle.std.proofs.lemmas.List.{length-map, nil_from_length}
use Rattle.wave_wasm.specs.declared.wasm.WasmTypeKind.{WasmTypeKind}
use Rattle.wave_wasm.specs.declared.wasm.WasmTypeKind.TheVariants as kinds
use Rattle.wave_wasm.specs.ConstructorContracts.{IsOfListKind, list_value, type_parts}
use Rattle.wave_wasm.specs.Lists.{AllOf}
use Rattle.wave_wasm.specs.HasType.{HasType}
use Rattle.wave_wasm.specs.Text.{is_no_option}
use Rattle.wave_wasm.specs.Types as type
use Rattle.wave_wasm.specs.Types.{TypeTree, Types, Fields, kind_of, simple_kind, list_part, list_length, type_list, depth}
use Rattle.wave_wasm.specs.Values as value
use Rattle.wave_wasm.specs.Values.{Value, no_value, a_value, values, field_values}
use Rattle.wave_wasm.proofs.CanonicalText.Sequences.{depths}
use Rattle.wave_wasm.proofs.TypesOfValues.TypeOfKind.{is_simple_kind, not_simple}
use Rattle.wave_tape.specs.Names.{AreTexts, HasTextNames}
use Rattle.wave_tape.specs.declared.error.Stop.{Stop}
use Rattle.wave_tape.specs.declared.error.Stop.TheVariants as stops
use Rattle.wave_tape.specs.Reading.{Fault, Reading, ◌>>=◌, number_at, choice_at, zero_at, times, row_at, value_at, type_row_at, field_row_at}
use Rattle.wave_tape.specs.Private.Readers.{IsFaultOf, Gives, each_at, each_field_at}
use Rattle.wave_tape.specs.Private.TextWriters.{AreCounted}
use Rattle.wave_tape.proofs.Fields.{bind_ok, ok_is}
use Rattle.wave_tape.proofs.Puts.{zero_of, some_of}
use Rattle.wave_tape.proofs.Readings.{fault_on}
use Rattle.wave_tape.proofs.TypeParts.{IsTuple, IsRecordType, list_type, fixed_type}
use Rattle.wave_tape.proofs.Depths.{field_depth, types_depth, fields_depth}
use Rattle.wave_tape.proofs.Cases.{as_some, option_behind}
use Rattle.wave_tape.proofs.Builds as builds
use Rattle.wave_tape.proofs.Builds.{bind_twice, row_times}
use Rattle.wave_tape.proofs.Records as records

-- where the parts begin: behind a 0, where there are none
abbrev pub begins : Bool → List ℕ → Result (List ℕ) Fault
begins none bytes = cond none (zero_at bytes) (Ok bytes)

-- as many are denoted
pub all_long : {X Y : Type 0} (xs : List X) (f : X → Y) (n : ℕ) → n ≡ length xs → n ≡ length (map f xs)
all_long xs f n e = e ∙ sym (length-map xs f)

-- ---- tuples

pub tuple_row : (Ts : Types) (parts : List TypeTree) (b : Bool) (n : ℕ) (bytes rest : List ℕ) → parts ≡ type_list Ts → b ≡ eqb n 0 → n ≡ length parts → begins b bytes ≡ Ok rest → type_row_at Ts bytes ≡ each_at parts rest
tuple_row Ts parts true n bytes rest are test counted e =
    let none : parts ≡ [] = nil_from_length parts (sym counted ∙ zero_of n (sym test)) in
    builds.row_none Ts bytes rest (sym are ∙ none) e ∙ ap (λ (l : List TypeTree). each_at l rest) (sym none)
tuple_row Ts parts false n bytes rest are test counted e =
    let some : 1 ≤ length (type_list Ts) = let one = some_of n (sym test) in omega (arith, one, counted, ap length are) in
    builds.row_each Ts bytes some ∙ (ap (λ (l : List TypeTree). each_at l bytes) (sym are) ∙ ap (each_at parts) (ok_is bytes rest e))

pub tuple_row_stop : (Ts : Types) (parts : List TypeTree) (b : Bool) (n : ℕ) (bytes : List ℕ) (x : Fault) → parts ≡ type_list Ts → b ≡ eqb n 0 → n ≡ length parts → begins b bytes ≡ Err x → type_row_at Ts bytes ≡ Err x
tuple_row_stop Ts parts true n bytes x are test counted e =
    let none : parts ≡ [] = nil_from_length parts (sym counted ∙ zero_of n (sym test)) in
    builds.row_none_stop Ts bytes x (sym are ∙ none) e
tuple_row_stop Ts parts false n bytes x are test counted e = absurd cc

-- the values of a tuple
pub tuple_reads : (T : TypeTree) (parts : List TypeTree) (b : Bool) (n : ℕ) (bytes rest : List ℕ) → IsTuple T parts → b ≡ eqb n 0 → n ≡ length parts → begins b bytes ≡ Ok rest → value_at T bytes ≡ (each_at parts rest >>= λ x. Ok (value.tuple (values x.0), x.1))
tuple_reads T parts b n bytes rest is test counted e =
    ap (λ (U : TypeTree). value_at U bytes) is.is ∙ ap (λ (q : Reading (List Value)). q >>= builds.as_tuple) (tuple_row is.types parts b n bytes rest is.parts_are test counted e)

pub tuple_stops : (T : TypeTree) (parts : List TypeTree) (b : Bool) (n : ℕ) (bytes : List ℕ) (x : Fault) → IsTuple T parts → b ≡ eqb n 0 → n ≡ length parts → begins b bytes ≡ Err x → value_at T bytes ≡ Err x
tuple_stops T parts b n bytes x is test counted e =
    ap (λ (U : TypeTree). value_at U bytes) is.is ∙ ap (λ (q : Reading (List Value)). q >>= builds.as_tuple) (tuple_row_stop is.types parts b n bytes x is.parts_are test counted e)

-- ---- records

pub fields_row : (fs : Fields) (parts : List (List ℕ × TypeTree)) (b : Bool) (n : ℕ) (bytes rest : List ℕ) → parts ≡ type.field_list fs → b ≡ eqb n 0 → n ≡ length parts → begins b bytes ≡ Ok rest → field_row_at fs bytes ≡ (each_field_at parts rest >>= records.as_fields)
fields_row fs parts true n bytes rest are test counted e =
    let none : parts ≡ [] = nil_from_length parts (sym counted ∙ zero_of n (sym test)) in
    records.row_none fs bytes rest (sym are ∙ none) e ∙ ap (λ (l : List (List ℕ × TypeTree)). each_field_at l rest >>= records.as_fields) (sym none)
fields_row fs parts false n bytes rest are test counted e =
    let some : 1 ≤ length (type.field_list fs) = let one = some_of n (sym test) in omega (arith, one, counted, ap length are) in
    records.row_each fs bytes some
    ∙ (ap (λ (l : List (List ℕ × TypeTree)). each_field_at l bytes >>= records.as_fields) (sym are) ∙ ap (λ (s : List ℕ). each_field_at parts s >>= records.as_fields) (ok_is bytes rest e))

pub fields_row_stop : (fs : Fields) (parts : List (List ℕ × TypeTree)) (b : Bool) (n : ℕ) (bytes : List ℕ) (x : Fault) → parts ≡ type.field_list fs → b ≡ eqb n 0 → n ≡ length parts → begins b bytes ≡ Err x → field_row_at fs bytes ≡ Err x
fields_row_stop fs parts true n bytes x are test counted e =
    let none : parts ≡ [] = nil_from_length parts (sym counted ∙ zero_of n (sym test)) in
    records.row_none_stop fs bytes x (sym are ∙ none) e
fields_row_stop fs parts false n bytes x are test counted e = absurd cc

abbrev as_record : value.FieldValues × List ℕ → Reading Value
as_record x = Ok (value.record_value x.0, x.1)

-- the fields of a record
pub record_reads : (T : TypeTree) (parts : List (List ℕ × TypeTree)) (b : Bool) (n : ℕ) (bytes rest : List ℕ) → IsRecordType T parts → b ≡ eqb n 0 → n ≡ length parts → begins b bytes ≡ Ok rest → value_at T bytes ≡ (each_field_at parts rest >>= λ x. Ok (value.record_value (field_values x.0), x.1))
record_reads T parts b n bytes rest is test counted e =
    ap (λ (U : TypeTree). value_at U bytes) is.is
    ∙ (ap (λ (q : Reading value.FieldValues). q >>= as_record) (fields_row is.fields parts b n bytes rest is.parts_are test counted e) ∙ bind_twice (each_field_at parts rest) records.as_fields as_record)

pub record_stops : (T : TypeTree) (parts : List (List ℕ × TypeTree)) (b : Bool) (n : ℕ) (bytes : List ℕ) (x : Fault) → IsRecordType T parts → b ≡ eqb n 0 → n ≡ length parts → begins b bytes ≡ Err x → value_at T bytes ≡ Err x
record_stops T parts b n bytes x is test counted e =
    ap (λ (U : TypeTree). value_at U bytes) is.is ∙ ap (λ (q : Reading value.FieldValues). q >>= as_record) (fields_row_stop is.fields parts b n bytes x is.parts_are test counted e)

-- ---- the parts of a tuple and a record

pub record IsRow (Full : TypeTree → Type 0) (T : TypeTree) (parts : List TypeTree) : Type 0 where
  pub named : HasTextNames T → AllOf HasTextNames parts
  pub full : AllOf Full (type_parts T) → AllOf Full parts
  pub deep : depth T ≡ suc (depths depth parts)

pub tuple_parts_are : (Full : TypeTree → Type 0) (T : TypeTree) (parts : List TypeTree) → IsTuple T parts → IsRow Full T parts
tuple_parts_are Full T parts is = record {
  named = λ h. subst (AllOf HasTextNames) (sym is.parts_are) (builds.types_all AreTexts is.types (subst HasTextNames is.is h));
  full = λ h. subst (AllOf Full) (sym is.parts_are) (subst (λ (U : TypeTree). AllOf Full (type_parts U)) is.is h);
  deep = ap depth is.is ∙ ap suc (types_depth is.types ∙ ap (depths depth) (sym is.parts_are));
}

pub record IsFieldRow (Full : TypeTree → Type 0) (T : TypeTree) (parts : List (List ℕ × TypeTree)) : Type 0 where
  pub named : HasTextNames T → AllOf (λ f. HasTextNames f.1) parts
  pub full : AllOf Full (type_parts T) → AllOf (λ f. Full f.1) parts
  pub deep : depth T ≡ suc (depths field_depth parts)

pub record_parts_are : (Full : TypeTree → Type 0) (T : TypeTree) (parts : List (List ℕ × TypeTree)) → IsRecordType T parts → IsFieldRow Full T parts
record_parts_are Full T parts is = record {
  named = λ h. subst (AllOf (λ f. HasTextNames f.1)) (sym is.parts_are) (records.fields_all AreTexts is.fields (subst HasTextNames is.is h).1);
  full = λ h. subst (AllOf (λ f. Full f.1)) (sym is.parts_are) (records.full_all Full (type.field_list is.fields) (subst (λ (U : TypeTree). AllOf Full (type_parts U)) is.is h));
  deep = ap depth is.is ∙ ap suc (fields_depth is.fields ∙ ap (depths field_depth) (sym is.parts_are));
}

-- ---- lists

abbrev as_items : TypeTree → List Value × List ℕ → Reading Value
as_items T y = Ok (list_value T y.0, y.1)

abbrev counted_list : TypeTree → ℕ × List ℕ → Reading Value
counted_list E n = times (value_at E) n.0 n.1 >>= as_items (type.list E)

fixed_row : (E : TypeTree) (n : ℕ) (b : Bool) (bytes rest : List ℕ) → b ≡ eqb n 0 → begins b bytes ≡ Ok rest → row_at (value_at E) n bytes ≡ times (value_at E) n rest
fixed_row E n true bytes rest test e =
    let none : n ≡ 0 = zero_of n (sym test) in
    ap (λ (k : ℕ). row_at (value_at E) k bytes) none ∙ (ap (λ (q : Result (List ℕ) Fault). q >>= builds.as_none) e ∙ ap (λ (k : ℕ). times (value_at E) k rest) (sym none))
fixed_row E n false bytes rest test e = row_times (value_at E) n bytes (some_of n (sym test)) ∙ ap (times (value_at E) n) (ok_is bytes rest e)

fixed_row_stop : (E : TypeTree) (n : ℕ) (b : Bool) (bytes : List ℕ) (x : Fault) → b ≡ eqb n 0 → begins b bytes ≡ Err x → row_at (value_at E) n bytes ≡ Err x
fixed_row_stop E n true bytes x test e = ap (λ (k : ℕ). row_at (value_at E) k bytes) (zero_of n (sym test)) ∙ ap (λ (q : Result (List ℕ) Fault). q >>= builds.as_none) e
fixed_row_stop E n false bytes x test e = absurd cc

no_simple_list : (k : WasmTypeKind) → IsOfListKind k → is_simple_kind k ≡ false
no_simple_list kinds.List h = refl
no_simple_list kinds.FixedLengthList h = refl
no_simple_list _ h = absurd h

-- a list has an element type
pub element_some : (T : TypeTree) → IsOfListKind (kind_of T) → None ≡ list_part T → ⊥
element_some (type.list E) k e = absurd cc
element_some (type.fixed E n) k e = absurd cc
element_some (type.simple S) k e = absurd (not_simple (simple_kind S) S refl (no_simple_list (simple_kind S) k))
element_some (type.unreadable type.f32) k e = k
element_some (type.unreadable type.f64) k e = k
element_some (type.unreadable type.unsupported) k e = k
element_some _ k e = k

-- a list whose length the type doesn't say
pub list_of : (T : TypeTree) → IsOfListKind (kind_of T) → None ≡ list_length T → (E : TypeTree) × (T ≡ type.list E)
list_of (type.list E) k e = (E, refl)
list_of (type.fixed E n) k e = absurd cc
list_of (type.simple S) k e = absurd (not_simple (simple_kind S) S refl (no_simple_list (simple_kind S) k))
list_of (type.unreadable type.f32) k e = absurd k
list_of (type.unreadable type.f64) k e = absurd k
list_of (type.unreadable type.unsupported) k e = absurd k
list_of _ k e = absurd k

-- and one whose length it says
pub fixed_of : (T : TypeTree) (n : ℕ) → Some n ≡ list_length T → (E : TypeTree) × (T ≡ type.fixed E n)
fixed_of (type.fixed E m) n e = (E, ap (λ (k : ℕ). type.fixed E k) (same m n e))
  where
    same : (m n : ℕ) → Some n ≡ Some m → m ≡ n
    same m n e = cc
fixed_of _ n e = absurd cc

pub list_counted : (T E : TypeTree) (bytes : List ℕ) (r : Result (ℕ × Bor (List ℕ)) Stop) → T ≡ type.list E → Gives (λ x. (x.0, x.1.now)) r (number_at w64 bytes) → AreCounted T bytes r
list_counted T E bytes (Ok x) is h = λ F f.
    let same = list_type T F (ap kind_of is) f in
    subst (λ (U : TypeTree). value_at U bytes ≡ (times (value_at F) x.0 x.1.now >>= as_items U)) (sym same) (ap (λ (q : Reading ℕ). q >>= counted_list F) h)
list_counted T E bytes (Err s) is h =
    fault_on s (number_at w64 bytes) (value_at T bytes) (λ x e. ap (λ (U : TypeTree). value_at U bytes) is ∙ ap (λ (q : Reading ℕ). q >>= counted_list E) e) h

pub fixed_counted : (T E : TypeTree) (n : ℕ) (b : Bool) (bytes : List ℕ) (rest : Bor (List ℕ)) → T ≡ type.fixed E n → b ≡ eqb n 0 → begins b bytes ≡ Ok rest.now → AreCounted T bytes (Ok (n, rest))
fixed_counted T E n b bytes rest is test e = λ F f.
    let same = fixed_type T F n (ap kind_of is) f (ap list_length (sym is)) in
    subst (λ (U : TypeTree). value_at U bytes ≡ (times (value_at F) n rest.now >>= as_items U)) (sym same)
    (ap (λ (q : Reading (List Value)). q >>= as_items (type.fixed F n)) (fixed_row F n b bytes rest.now test e))

pub fixed_stopped : (T E : TypeTree) (n : ℕ) (b : Bool) (bytes : List ℕ) (s : Stop) → T ≡ type.fixed E n → b ≡ eqb n 0 → IsFaultOf s (begins b bytes) → AreCounted T bytes (Err s)
fixed_stopped T E n b bytes s is test h =
    fault_on s (begins b bytes) (value_at T bytes)
    (λ x e. ap (λ (U : TypeTree). value_at U bytes) is ∙ ap (λ (q : Reading (List Value)). q >>= as_items (type.fixed E n)) (fixed_row_stop E n b bytes x test e)) h

-- ---- none

pub not_none : (T : TypeTree) (v : Value) → (kind_of T ≡ kinds.Option → ⊥) → HasType T v → is_no_option v ≡ false
not_none (type.simple S) v apart (one, h, e) = ap is_no_option e
not_none (type.unreadable kind) v apart h = absurd h
not_none (type.list E) v apart (vs, h, e) = ap is_no_option e
not_none (type.fixed E n) v apart (vs, h, counted, e) = ap is_no_option e
not_none (type.record_type fs) v apart (all, h, e) = ap is_no_option e
not_none (type.tuple Ts) v apart (vs, h, e) = ap is_no_option e
not_none (type.variant cs) v apart (name, payload, h, e) = ap is_no_option e
not_none (type.enum names) v apart (name, h, e) = ap is_no_option e
not_none (type.option P) v apart h = absurd (apart refl)
not_none (type.result A B) v apart (inl (payload, h, e)) = ap is_no_option e
not_none (type.result A B) v apart (inr (payload, h, e)) = ap is_no_option e
not_none (type.flags names) v apart (picked, h, e) = ap is_no_option e
not_none (type.map K V) v apart (es, h, e) = ap is_no_option e

module _ (T P : TypeTree) (bytes : List ℕ) (is : T ≡ type.option P) where
  pub option_is : (b : Bool) (rest : List ℕ) → choice_at bytes ≡ Ok (b, rest) → value_at T bytes ≡ option_behind P (b, rest)
  option_is b rest e = ap (λ (U : TypeTree). value_at U bytes) is ∙ ap (λ (q : Reading Bool). q >>= option_behind P) e

  pub none_is : (b : Bool) (rest : List ℕ) → b ≡ false → choice_at bytes ≡ Ok (b, rest) → value_at T bytes ≡ Ok (value.option no_value, rest)
  none_is b rest none e = option_is b rest e ∙ ap (λ (c : Bool). option_behind P (c, rest)) none

  pub some_is : (b : Bool) (rest : List ℕ) → b ≡ true → choice_at bytes ≡ Ok (b, rest) → value_at T bytes ≡ (value_at P rest >>= λ x. Ok (value.option (a_value x.0), x.1))
  some_is b rest some e = option_is b rest e ∙ ap (λ (c : Bool). option_behind P (c, rest)) some

  pub option_stop : (x : Fault) → choice_at bytes ≡ Err x → value_at T bytes ≡ Err x
  option_stop x e = ap (λ (U : TypeTree). value_at U bytes) is ∙ ap (λ (q : Reading Bool). q >>= option_behind P) e

  pub some_no_none : (b : Bool) (rest : List ℕ) → b ≡ true → choice_at bytes ≡ Ok (b, rest) → (v : Value) (after : List ℕ) → value_at T bytes ≡ Ok (v, after) → is_no_option v ≡ false
  some_no_none b rest some e v after read =
      let a = bind_ok (value_at P rest) as_some (v, after) (sym (some_is b rest some e) ∙ read) in
      ap (λ (x : Value × List ℕ). is_no_option x.0) (sym (ok_is (value.option (a_value a.0.0), a.0.1) (v, after) a.2))

-- a fault is no value
pub no_value_of : (bytes : List ℕ) (T : TypeTree) (s : Stop) (part : Reading Bool) → IsFaultOf s part → ((x : Fault) → part ≡ Err x → value_at T bytes ≡ Err x) → (v : Value) (after : List ℕ) → value_at T bytes ≡ Ok (v, after) → is_no_option v ≡ false
no_value_of bytes T s part h stop v after read = absurd (apart s part h stop)
  where
    apart : (s : Stop) (part : Reading Bool) → IsFaultOf s part → ((x : Fault) → part ≡ Err x → value_at T bytes ≡ Err x) → ⊥
    apart stops.Memory part h stop = h
    apart (stops.Refused left) part h stop = h
    apart (stops.Fault kind left) part h stop = let e = stop (record { kind = kind; left = left }) h in cc
