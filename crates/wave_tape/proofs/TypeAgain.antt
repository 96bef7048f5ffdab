-- The bytes of a type are read as this type again, whatever follows. So no two types have the same.
use Rattle.std.proofs.Common.{◌≡◌, ℕ, zero, suc, ◌^◌, ◌<◌, ◌≤◌, ltb, max, true, false, cond, List, [], ◌∷◌, ◌++◌, length, get_or, drop, Ok, Err, refl, sym, ap, subst, ◌∙◌, append_assoc, length-append, arith}
use Rattle.std.specs.Int.{w64}
use Rattle.std.specs.List.{flat_map}
use Rattle.std.proofs.lemmas.Bool.{and_parts, ltb-true}
use Rattle.wave_wasm.specs.Lists.{AllOf}
use Rattle.wave_wasm.specs.Types as type
use Rattle.wave_wasm.specs.Types.{TypeTree, MaybeType, Types, Fields, Cases, Simple, Unreadable, no_type, a_type, no_types, type_and, no_cases, case_of, type_list, field_list, case_list, types_of, fields_of, every_maybe, every_type, every_field, every_case, depth, depth_of_maybe, depth_of_types, depth_of_fields, depth_of_cases}
use Rattle.wave_tape.specs.declared.error.TapeErrorKind.TheVariants as kinds
use Rattle.wave_tape.specs.Tape.{count_bytes, text_bytes, name_bytes}
use Rattle.wave_tape.specs.TypeTape.{simple_byte, type_bytes, payload_type_bytes, item_type_bytes, field_type_bytes, case_type_bytes, is_told, has_type_tape}
use Rattle.wave_tape.specs.Reading.{fault, Reading, ◌>>=◌, number_at, choice_at, name_at, times, pair_at}
use Rattle.wave_tape.specs.Laws.{OneTypeTapeEach}
use Rattle.wave_tape.proofs.Fields.{done, wide64, number_again, name_again, choice_again}
use Rattle.wave_tape.proofs.Parts.{name_rows}
use Rattle.wave_tape.proofs.Sizes.{rows_long, names_long, counted_some}
use Rattle.wave_tape.proofs.TypeTapes.{one_field, items_flat, fields_flat}
use Rattle.wave_tape.proofs.Again.{Again, times_again, pair_again, counted, one_start}

-- ---- a reader

-- a payload's type
abbrev payload_type_at : (List ℕ → Reading TypeTree) → List ℕ → Reading MaybeType
payload_type_at read bytes = choice_at bytes >>= λ some. cond some.0 (read some.1 >>= λ x. done (a_type x.0, x.1)) (done (no_type, some.1))

-- as many parts as a count says
abbrev counted_at : {A : Type 0} → (List ℕ → Reading A) → List ℕ → Reading (List A)
counted_at read bytes = number_at w64 bytes >>= λ n. times read n.0 n.1

-- the simple types by their bytes
abbrev simples : List Simple
simples =
    type.bool ∷ type.bool ∷ type.whole type.u8 ∷ type.whole type.u16 ∷ type.whole type.u32 ∷ type.whole type.u64
    ∷ type.whole type.s8 ∷ type.whole type.s16 ∷ type.whole type.s32 ∷ type.whole type.s64 ∷ type.char ∷ type.string ∷ []

simple_back : (S : Simple) → get_or simples (simple_byte S) type.bool ≡ S
simple_back type.bool = refl
simple_back (type.whole type.u8) = refl
simple_back (type.whole type.u16) = refl
simple_back (type.whole type.u32) = refl
simple_back (type.whole type.u64) = refl
simple_back (type.whole type.s8) = refl
simple_back (type.whole type.s16) = refl
simple_back (type.whole type.s32) = refl
simple_back (type.whole type.s64) = refl
simple_back type.char = refl
simple_back type.string = refl

-- the type of keys
abbrev key_at : List ℕ → Reading Simple
key_at [] = Err (fault kinds.End [])
key_at (b ∷ rest) = done (get_or simples b type.bool, rest)

-- a type that has no parts
abbrev leaf : Simple → List ℕ → Reading TypeTree
leaf S bytes = done (type.simple S, bytes)

abbrev float : Unreadable → List ℕ → Reading TypeTree
float kind bytes = done (type.unreadable kind, bytes)

-- the cases of these names and payloads
abbrev cases_from : List (List ℕ × MaybeType) → Cases
cases_from [] = no_cases
cases_from (c ∷ more) = case_of c.0 c.1 (cases_from more)

-- the cases, as a list of names and payloads
abbrev case_pairs : Cases → List (List ℕ × MaybeType)
case_pairs no_cases = []
case_pairs (case_of name payload more) = (name, payload) ∷ case_pairs more

module _ (read : List ℕ → Reading TypeTree) where
  abbrev list_at : List ℕ → Reading TypeTree
  list_at bytes = read bytes >>= λ x. done (type.list x.0, x.1)

  abbrev tuple_at : List ℕ → Reading TypeTree
  tuple_at bytes = counted_at read bytes >>= λ x. done (type.tuple (types_of x.0), x.1)

  abbrev record_at : List ℕ → Reading TypeTree
  record_at bytes = counted_at (pair_at name_at read) bytes >>= λ x. done (type.record_type (fields_of x.0), x.1)

  abbrev variant_at : List ℕ → Reading TypeTree
  variant_at bytes = counted_at (pair_at name_at (payload_type_at read)) bytes >>= λ x. done (type.variant (cases_from x.0), x.1)

  abbrev enum_at : List ℕ → Reading TypeTree
  enum_at bytes = counted_at name_at bytes >>= λ x. done (type.enum x.0, x.1)

  abbrev option_at : List ℕ → Reading TypeTree
  option_at bytes = read bytes >>= λ x. done (type.option x.0, x.1)

  abbrev result_at : List ℕ → Reading TypeTree
  result_at bytes = pair_at (payload_type_at read) (payload_type_at read) bytes >>= λ x. done (type.result x.0.0 x.0.1, x.1)

  abbrev flags_at : List ℕ → Reading TypeTree
  flags_at bytes = counted_at name_at bytes >>= λ x. done (type.flags x.0, x.1)

  abbrev map_at : List ℕ → Reading TypeTree
  map_at bytes = pair_at key_at read bytes >>= λ x. done (type.map x.0.0 x.0.1, x.1)

  abbrev fixed_at : List ℕ → Reading TypeTree
  fixed_at bytes = pair_at (number_at w64) read bytes >>= λ x. done (type.fixed x.0.1 x.0.0, x.1)

  -- the readers by the bytes of the kinds
  abbrev readers : List (List ℕ → Reading TypeTree)
  readers =
      leaf type.bool ∷ leaf type.bool ∷ leaf (type.whole type.u8) ∷ leaf (type.whole type.u16) ∷ leaf (type.whole type.u32) ∷ leaf (type.whole type.u64)
      ∷ leaf (type.whole type.s8) ∷ leaf (type.whole type.s16) ∷ leaf (type.whole type.s32) ∷ leaf (type.whole type.s64) ∷ leaf type.char ∷ leaf type.string
      ∷ list_at ∷ tuple_at ∷ record_at ∷ variant_at ∷ enum_at ∷ option_at ∷ result_at ∷ flags_at ∷ map_at ∷ fixed_at ∷ float type.f32 ∷ float type.f64 ∷ []

-- a type of fewer levels than n
abbrev type_at : ℕ → List ℕ → Reading TypeTree
type_at zero bytes = Err (fault kinds.End bytes)
type_at (suc n) [] = Err (fault kinds.End [])
type_at (suc n) (kind ∷ rest) = get_or (readers (type_at n)) kind (leaf type.bool) rest

-- ---- the families as lists

types_back : (Ts : Types) → types_of (type_list Ts) ≡ Ts
types_back no_types = refl
types_back (type_and T more) = ap (type_and T) (types_back more)

fields_back : (fs : Fields) → fields_of (field_list fs) ≡ fs
fields_back type.no_fields = refl
fields_back (type.field name T more) = ap (type.field name T) (fields_back more)

cases_back : (cs : Cases) → cases_from (case_pairs cs) ≡ cs
cases_back no_cases = refl
cases_back (case_of name payload more) = ap (case_of name payload) (cases_back more)

-- the bytes of a case
abbrev pair_bytes : List ℕ × MaybeType → List ℕ
pair_bytes c = text_bytes c.0 ++ payload_type_bytes c.1

pairs_flat : (cs : Cases) → case_type_bytes cs ≡ flat_map pair_bytes (case_pairs cs)
pairs_flat no_cases = refl
pairs_flat (case_of name payload more) =
    ap (λ (z : List ℕ). text_bytes name ++ (payload_type_bytes payload ++ z)) (pairs_flat more)
    ∙ sym (append_assoc (text_bytes name) (payload_type_bytes payload) (flat_map pair_bytes (case_pairs more)))

pairs_long : (cs : Cases) → length (case_list cs) ≡ length (case_pairs cs)
pairs_long no_cases = refl
pairs_long (case_of name payload more) = ap suc (pairs_long more)

-- ---- what is read

-- the type is told, and of fewer levels
record IsBelow (n : ℕ) (T : TypeTree) : Type 0 where
  pub deep : depth T < n
  pub told : has_type_tape T ≡ true

record IsMaybeBelow (n : ℕ) (P : MaybeType) : Type 0 where
  pub deep : depth_of_maybe P < n
  pub told : every_maybe is_told P ≡ true

types_below : (n : ℕ) (Ts : Types) → depth_of_types Ts < n → every_type is_told Ts ≡ true → AllOf (IsBelow n) (type_list Ts)
types_below n no_types deep told = tt
types_below n (type_and T more) deep told =
    let t = and_parts _ _ told in
    (record { deep = omega (arith, deep); told = t.0 }, types_below n more (omega (arith, deep)) t.1)

fields_below : (n : ℕ) (fs : Fields) → depth_of_fields fs < n → every_field is_told fs ≡ true → AllOf (λ f. Unit {0} × IsBelow n f.1) (field_list fs)
fields_below n type.no_fields deep told = tt
fields_below n (type.field name T more) deep told =
    let t = and_parts _ _ told in
    ((tt, record { deep = omega (arith, deep); told = t.0 }), fields_below n more (omega (arith, deep)) t.1)

cases_below : (n : ℕ) (cs : Cases) → depth_of_cases cs < n → every_case is_told cs ≡ true → AllOf (λ c. Unit {0} × IsMaybeBelow n c.1) (case_pairs cs)
cases_below n no_cases deep told = tt
cases_below n (case_of name payload more) deep told =
    let t = and_parts _ _ told in
    ((tt, record { deep = omega (arith, deep); told = t.0 }), cases_below n more (omega (arith, deep)) t.1)

-- a type that is told takes a byte
type_some : (T : TypeTree) → has_type_tape T ≡ true → 1 ≤ length (type_bytes T)
type_some (type.unreadable type.f32) told = omega arith
type_some (type.unreadable type.f64) told = omega arith
type_some (type.unreadable type.unsupported) told = absurd (cc)
type_some (type.simple S) told = omega arith
type_some (type.list E) told = omega arith
type_some (type.fixed E n) told = omega arith
type_some (type.record_type fs) told = omega arith
type_some (type.tuple Ts) told = omega arith
type_some (type.variant cs) told = omega arith
type_some (type.enum names) told = omega arith
type_some (type.option P) told = omega arith
type_some (type.result A B) told = omega arith
type_some (type.flags names) told = omega arith
type_some (type.map K V) told = omega arith

name_again_here : Again name_at text_bytes (λ (name : List ℕ). Unit {0})
name_again_here name rest h lt = name_again name rest (omega (arith, lt, length-append name rest))

key_again : Again key_at (λ (K : Simple). simple_byte K ∷ []) (λ (K : Simple). Unit {0})
key_again K rest h lt = ap (λ (S : Simple). done (S, rest)) (simple_back K)

number_again_here : Again (number_at w64) count_bytes (λ (n : ℕ). n < 2 ^ 64)
number_again_here n rest h lt = number_again w64 (2 ^ 64) wide64 n rest h

all_units : (names : List (List ℕ)) → AllOf (λ (name : List ℕ). Unit {0}) names
all_units [] = tt
all_units (name ∷ names) = (tt, all_units names)

-- parts behind their count
counted_again : {A : Type 0} (read : List ℕ → Reading A) (f : A → List ℕ) (P : A → Type 0) → Again read f P → (xs : List A) (n : ℕ) (bytes rest : List ℕ) → n ≡ length xs → bytes ≡ flat_map f xs → length xs ≤ length (flat_map f xs) → AllOf P xs
    → length ((count_bytes n ++ bytes) ++ rest) < 2 ^ 64 → counted_at read ((count_bytes n ++ bytes) ++ rest) ≡ Ok (xs, rest)
counted_again read f P each xs n bytes rest same flat long all lt =
    let e : (count_bytes n ++ bytes) ++ rest ≡ count_bytes (length xs) ++ (flat_map f xs ++ rest) =
    append_assoc (count_bytes n) bytes rest ∙ (ap (λ (k : ℕ). count_bytes k ++ (bytes ++ rest)) same ∙ ap (λ (z : List ℕ). count_bytes (length xs) ++ (z ++ rest)) flat) in
    let c = counted (length xs) (flat_map f xs) rest long (subst (λ (s : List ℕ). length s < 2 ^ 64) e lt) in
    ap (counted_at read) e
    ∙ rw (number_again w64 (2 ^ 64) wide64 (length xs) (flat_map f xs ++ rest) c.small) (times_again read f P each xs rest all c.below)

payload_again : (n : ℕ) → Again (type_at n) type_bytes (IsBelow n) → Again (payload_type_at (type_at n)) payload_type_bytes (IsMaybeBelow n)
payload_again n each no_type rest h lt = rw (choice_again false rest) refl
payload_again n each (a_type T) rest h lt =
    rw (choice_again true (type_bytes T ++ rest), each T rest (record { deep = h.deep; told = h.told }) (omega (arith, lt))) refl

-- a type is read again
type_again : (n : ℕ) → Again (type_at n) type_bytes (IsBelow n)
type_again zero T rest h lt = let d = h.deep in absurd (omega (arith, d))
type_again (suc n) (type.unreadable type.f32) rest h lt = refl
type_again (suc n) (type.unreadable type.f64) rest h lt = refl
type_again (suc n) (type.unreadable type.unsupported) rest h lt = let t = h.told in absurd (cc)
type_again (suc n) (type.simple type.bool) rest h lt = refl
type_again (suc n) (type.simple (type.whole type.u8)) rest h lt = refl
type_again (suc n) (type.simple (type.whole type.u16)) rest h lt = refl
type_again (suc n) (type.simple (type.whole type.u32)) rest h lt = refl
type_again (suc n) (type.simple (type.whole type.u64)) rest h lt = refl
type_again (suc n) (type.simple (type.whole type.s8)) rest h lt = refl
type_again (suc n) (type.simple (type.whole type.s16)) rest h lt = refl
type_again (suc n) (type.simple (type.whole type.s32)) rest h lt = refl
type_again (suc n) (type.simple (type.whole type.s64)) rest h lt = refl
type_again (suc n) (type.simple type.char) rest h lt = refl
type_again (suc n) (type.simple type.string) rest h lt = refl
type_again (suc n) (type.list E) rest h lt =
    let d = h.deep in
    rw (type_again n E rest (record { deep = omega (arith, d); told = h.told }) (omega (arith, lt))) refl
type_again (suc n) (type.option P) rest h lt =
    let d = h.deep in
    rw (type_again n P rest (record { deep = omega (arith, d); told = h.told }) (omega (arith, lt))) refl
type_again (suc n) (type.tuple Ts) rest h lt =
    let d = h.deep in
    let all = types_below n Ts (omega (arith, d)) h.told in
    let long = rows_long type_bytes (IsBelow n) (λ T below. type_some T below.told) (type_list Ts) all in
    let c = counted_again (type_at n) type_bytes (IsBelow n) (type_again n) (type_list Ts) (length (type_list Ts)) (item_type_bytes Ts) rest refl (items_flat Ts) long all (omega (arith, lt)) in
    rw c (ap (λ (Us : Types). done (type.tuple Us, rest)) (types_back Ts))
type_again (suc n) (type.record_type fs) rest h lt =
    let d = h.deep in
    let P : List ℕ × TypeTree → Type 0 = λ f. Unit {0} × IsBelow n f.1 in
    let all = fields_below n fs (omega (arith, d)) h.told in
    let long = rows_long one_field P (λ f below. counted_some (length f.0) (f.0 ++ type_bytes f.1)) (field_list fs) all in
    let each = pair_again name_at (type_at n) text_bytes type_bytes (λ (name : List ℕ). Unit {0}) (IsBelow n) name_again_here (type_again n) in
    let c = counted_again (pair_at name_at (type_at n)) one_field P each (field_list fs) (length (field_list fs)) (field_type_bytes fs) rest refl (fields_flat fs) long all (omega (arith, lt)) in
    rw c (ap (λ (gs : Fields). done (type.record_type gs, rest)) (fields_back fs))
type_again (suc n) (type.variant cs) rest h lt =
    let d = h.deep in
    let P : List ℕ × MaybeType → Type 0 = λ c. Unit {0} × IsMaybeBelow n c.1 in
    let all = cases_below n cs (omega (arith, d)) h.told in
    let long = rows_long pair_bytes P (λ c below. counted_some (length c.0) (c.0 ++ payload_type_bytes c.1)) (case_pairs cs) all in
    let each = pair_again name_at (payload_type_at (type_at n)) text_bytes payload_type_bytes (λ (name : List ℕ). Unit {0}) (IsMaybeBelow n) name_again_here (payload_again n (type_again n)) in
    let c = counted_again (pair_at name_at (payload_type_at (type_at n))) pair_bytes P each (case_pairs cs) (length (case_list cs)) (case_type_bytes cs) rest (pairs_long cs) (pairs_flat cs) long all (omega (arith, lt)) in
    rw c (ap (λ (ds : Cases). done (type.variant ds, rest)) (cases_back cs))
type_again (suc n) (type.enum names) rest h lt =
    rw (counted_again name_at text_bytes (λ (name : List ℕ). Unit {0}) name_again_here names (length names) (name_bytes names) rest refl (sym (name_rows names)) (names_long names) (all_units names) (omega (arith, lt))) refl
type_again (suc n) (type.flags names) rest h lt =
    rw (counted_again name_at text_bytes (λ (name : List ℕ). Unit {0}) name_again_here names (length names) (name_bytes names) rest refl (sym (name_rows names)) (names_long names) (all_units names) (omega (arith, lt))) refl
type_again (suc n) (type.result A B) rest h lt =
    let d = h.deep in
    let t = and_parts _ _ h.told in
    let p = payload_again n (type_again n) in
    rw (pair_again (payload_type_at (type_at n)) (payload_type_at (type_at n)) payload_type_bytes payload_type_bytes (IsMaybeBelow n) (IsMaybeBelow n) p p (A, B) rest (record { deep = omega (arith, d); told = t.0 }, record { deep = omega (arith, d); told = t.1 }) (omega (arith, lt))) refl
type_again (suc n) (type.map K V) rest h lt =
    let d = h.deep in
    rw (pair_again key_at (type_at n) (λ (S : Simple). simple_byte S ∷ []) type_bytes (λ (S : Simple). Unit {0}) (IsBelow n) key_again (type_again n) (K, V) rest (tt, record { deep = omega (arith, d); told = h.told }) (omega (arith, lt))) refl
type_again (suc n) (type.fixed E m) rest h lt =
    let d = h.deep in
    let t = and_parts (ltb m (2 ^ 32)) (has_type_tape E) h.told in
    let short = ltb-true m (2 ^ 32) t.0 in
    rw (pair_again (number_at w64) (type_at n) count_bytes type_bytes (λ (k : ℕ). k < 2 ^ 64) (IsBelow n) number_again_here (type_again n) (m, E) rest (omega (arith, short), record { deep = omega (arith, d); told = t.1 }) (omega (arith, lt))) refl

pub one_type_tape : OneTypeTapeEach
one_type_tape T U r s told_T told_U lt e =
    let n = suc (max (depth T) (depth U)) in
    let rows : type_bytes T ++ r ≡ type_bytes U ++ s = ap (drop 1) e in
    let small : length (type_bytes T ++ r) < 2 ^ 64 = omega (arith, lt) in
    let first = type_again n T r (record { deep = omega arith; told = told_T }) small in
    let second = type_again n U s (record { deep = omega arith; told = told_U }) (subst (λ (x : List ℕ). length x < 2 ^ 64) rows small) in
    one_start T U r s (sym first ∙ (ap (type_at n) rows ∙ second))
