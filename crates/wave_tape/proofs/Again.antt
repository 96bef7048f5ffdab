-- What stands for a value of the type is read as this value, whatever follows.
use Rattle.std.proofs.Common.{◌≡◌, ◌≢◌, ℕ, suc, ℤ, pos, negsuc, ◌^◌, ◌<◌, ◌≤◌, Bool, true, false, cond, List, [], ◌∷◌, ◌++◌, length, drop, Option, Some, Ok, ◌⊎◌, inl, inr, refl, sym, ap, subst, ◌∙◌, append_assoc, length-append, arith}
use Rattle.std.specs.Int.{Width, w8, w16, w32, w64, cast_unsigned}
use Rattle.std.specs.List.{flat_map}
use Rattle.std.specs.Str.{bytes_eq}
use Rattle.std.specs.Char.{IsScalar}
use lib.Utf8.{scalar_cases}
use Rattle.std.proofs.lemmas.Int.{ints, to_z-of_z}
use Rattle.std.proofs.lemmas.List.{append-nil}
use Rattle.std.proofs.lemmas.Str.{is_utf8-from_IsUtf8}
use Rattle.std.proofs.lemmas.Slice.Eq.{bytes_eq-Decides}
use Rattle.wave_wasm.specs.Lists.{AllOf}
use Rattle.wave_wasm.specs.Names.{IsNoneOf, AreDistinct, ArePicked}
use Rattle.wave_wasm.specs.Numbers.{IsInRange, IsUnsignedWithin}
use Rattle.wave_wasm.specs.Types as type
use Rattle.wave_wasm.specs.Types.{TypeTree, MaybeType, Types, Fields, Cases, Simple, Whole, no_type, a_type, no_types, type_and, no_cases, case_of, case_names, HasDistinctNames, EachNamesOfMaybe, EachNamesOfTypes, EachNamesOfFields, EachNamesOfCases}
use Rattle.wave_wasm.specs.Values as value
use Rattle.wave_wasm.specs.Values.{Value, MaybeValue, FieldValues, Leaf, no_value, a_value, values, entries, leaf_type}
use Rattle.wave_wasm.specs.HasType.{IsLeafOf, HasType, HasPayload, HasTypes, HasFields, HasCase}
use Rattle.wave_wasm.proofs.Names.NameTests.{passes}
use Rattle.wave_wasm.proofs.Names.Subsequences.{unlike}
use Rattle.wave_tape.specs.Tape.{bytes_of, payload_bytes, field_bytes, field_row_bytes, leaf_bytes, text_bytes, count_bytes, width_of, tape}
use Rattle.wave_tape.specs.Reading.{Reading, number_at, name_at, whole_of, leaf_at, times, row_at, names_behind, flags_at, pair_at, value_at, payload_at, types_at, type_row_at, fields_at, field_row_at, case_at, tape_at}
use Rattle.wave_tape.specs.Private.Rows.{row_or_zero}
use Rattle.wave_tape.proofs.Fields.{done, ok_is, wide8, wide64, number_again, name_again, text_again, char_again, choice_again, zero_again}
use Rattle.wave_tape.proofs.Parts.{row_rows, list_bytes, pair_bytes, map_bytes, name_rows}
use Rattle.wave_tape.proofs.Signed.{fits8, fits16, fits32, fits64}
use Rattle.wave_tape.proofs.Readings.{read_as}
use Rattle.wave_tape.proofs.Taken.{limit_of, wide}
use Rattle.wave_tape.proofs.Sizes.{leaf_some, first_some, value_some, rows_long, names_long}
use Rattle.wave_tape.specs.Laws.{OneTapeEach, OneCallTapeEach}

-- ---- values of one token

bits_below : (kind : Whole) (z : ℤ) → IsInRange kind z → cast_unsigned (width_of kind) z < limit_of kind
bits_below type.s8 (pos n) h = omega (arith, ints)
bits_below type.s8 (negsuc n) h = omega (arith, ints)
bits_below type.s16 (pos n) h = omega (arith, ints)
bits_below type.s16 (negsuc n) h = omega (arith, ints)
bits_below type.s32 (pos n) h = omega (arith, ints)
bits_below type.s32 (negsuc n) h = omega (arith, ints)
bits_below type.s64 (pos n) h = omega (arith, ints)
bits_below type.s64 (negsuc n) h = omega (arith, ints)
bits_below type.u8 (pos n) h = omega (arith, ints)
bits_below type.u8 (negsuc n) h = absurd h.0.le
bits_below type.u16 (pos n) h = omega (arith, ints)
bits_below type.u16 (negsuc n) h = absurd h.0.le
bits_below type.u32 (pos n) h = omega (arith, ints)
bits_below type.u32 (negsuc n) h = absurd h.0.le
bits_below type.u64 (pos n) h = omega (arith, ints)
bits_below type.u64 (negsuc n) h = absurd h.0.le

unsigned_again : (w : Width) (end : ℕ) (z : ℤ) → IsUnsignedWithin end z → pos (cast_unsigned w z) ≡ z
unsigned_again w end (pos n) h = refl
unsigned_again w end (negsuc n) h = absurd h.0.le

whole_again : (kind : Whole) (z : ℤ) → IsInRange kind z → whole_of kind (cast_unsigned (width_of kind) z) ≡ z
whole_again type.s8 z h = to_z-of_z w8 z (fits8 z h)
whole_again type.s16 z h = to_z-of_z w16 z (fits16 z h)
whole_again type.s32 z h = to_z-of_z w32 z (fits32 z h)
whole_again type.s64 z h = to_z-of_z w64 z (fits64 z h)
whole_again type.u8 z h = unsigned_again w8 (2 ^ 8) z h
whole_again type.u16 z h = unsigned_again w16 (2 ^ 16) z h
whole_again type.u32 z h = unsigned_again w32 (2 ^ 32) z h
whole_again type.u64 z h = unsigned_again w64 (2 ^ 64) z h

scalar_below : (c : ℕ) → IsScalar c → c < 2 ^ 32
scalar_below c is = by (scalar_cases c is)
  where
    by : (c < 55296) ⊎ ((57344 ≤ c) × (c < 1114112)) → c < 2 ^ 32
    by (inl h) = omega (arith, h)
    by (inr h) = omega (arith, h.1)

leaf_one_again : (one : Leaf) (rest : List ℕ) → value.IsSound one → length (leaf_bytes one ++ rest) < 2 ^ 64 → leaf_at (leaf_type one) (leaf_bytes one ++ rest) ≡ Ok (one, rest)
leaf_one_again (value.bool b) rest sound lt = rw (choice_again b rest) refl
leaf_one_again (value.whole kind z) rest sound lt =
    rw (number_again (width_of kind) (limit_of kind) (wide kind) (cast_unsigned (width_of kind) z) rest (bits_below kind z sound)) (ap (λ (y : ℤ). read_as (value.whole kind y) rest) (whole_again kind z sound))
leaf_one_again (value.char c) rest sound lt = rw (char_again c rest (scalar_below c sound) sound) refl
leaf_one_again (value.string s) rest sound lt =
    let small : length s < 2 ^ 64 = omega (arith, lt, length-append s rest) in
    rw (text_again s rest small (is_utf8-from_IsUtf8 s sound)) refl

pub leaf_again : (S : Simple) (one : Leaf) (rest : List ℕ) → IsLeafOf S one → length (leaf_bytes one ++ rest) < 2 ^ 64 → leaf_at S (leaf_bytes one ++ rest) ≡ Ok (one, rest)
leaf_again S one rest (is, sound) lt = subst (λ (R : Simple). leaf_at R (leaf_bytes one ++ rest) ≡ Ok (one, rest)) is (leaf_one_again one rest sound lt)

-- ---- parts in turn

-- each such part is read again
abbrev pub Again : {A : Type 0} → (List ℕ → Reading A) → (A → List ℕ) → (A → Type 0) → Type 0
Again {A = A} read f P = (x : A) (rest : List ℕ) → P x → length (f x ++ rest) < 2 ^ 64 → read (f x ++ rest) ≡ Ok (x, rest)

-- the bytes behind the first part are fewer
pub behind_below : (front more rest : List ℕ) → length ((front ++ more) ++ rest) < 2 ^ 64 → (length (front ++ (more ++ rest)) < 2 ^ 64) × (length (more ++ rest) < 2 ^ 64)
behind_below front more rest lt = (
  omega (arith, lt, length-append (front ++ more) rest, length-append front more, length-append front (more ++ rest), length-append more rest),
  omega (arith, lt, length-append (front ++ more) rest, length-append front more, length-append more rest),
)

pub times_again : {A : Type 0} (read : List ℕ → Reading A) (f : A → List ℕ) (P : A → Type 0) → Again read f P → (xs : List A) (rest : List ℕ) → AllOf P xs → length (flat_map f xs ++ rest) < 2 ^ 64 → times read (length xs) (flat_map f xs ++ rest) ≡ Ok (xs, rest)
times_again read f P each [] rest all lt = refl
times_again read f P each (x ∷ xs) rest all lt =
    let below = behind_below (f x) (flat_map f xs) rest lt in
    ap (times read (suc (length xs))) (append_assoc (f x) (flat_map f xs) rest)
    ∙ rw (each x (flat_map f xs ++ rest) all.0 below.0, times_again read f P each xs rest all.1 below.1) refl

row_again : (read : List ℕ → Reading Value) (P : Value → Type 0) → Again read bytes_of P → (n : ℕ) (vs : List Value) (rest : List ℕ) → length vs ≡ n → AllOf P vs → length (row_or_zero bytes_of vs ++ rest) < 2 ^ 64 → row_at read n (row_or_zero bytes_of vs ++ rest) ≡ Ok (vs, rest)
row_again read P each n [] rest counted all lt = subst (λ (k : ℕ). row_at read k (0 ∷ rest) ≡ Ok ([], rest)) counted (rw (zero_again rest) refl)
row_again read P each n (v ∷ vs) rest counted all lt =
    subst (λ (k : ℕ). row_at read k (row_or_zero bytes_of (v ∷ vs) ++ rest) ≡ Ok (v ∷ vs, rest)) counted (times_again read bytes_of P each (v ∷ vs) rest all lt)

pub pair_again : {A B : Type 0} (first : List ℕ → Reading A) (second : List ℕ → Reading B) (f : A → List ℕ) (g : B → List ℕ) (P : A → Type 0) (Q : B → Type 0) → Again first f P → Again second g Q → Again (pair_at first second) (λ (p : A × B). f p.0 ++ g p.1) (λ (p : A × B). P p.0 × Q p.1)
pair_again first second f g P Q each_first each_second p rest h lt =
    let below = behind_below (f p.0) (g p.1) rest lt in
    ap (pair_at first second) (append_assoc (f p.0) (g p.1) rest) ∙ rw (each_first p.0 (g p.1 ++ rest) h.0 below.0, each_second p.1 rest h.1 below.1) refl

-- the others are picked too
later_picked : (names : List (List ℕ)) (one : List ℕ) (picked : List (List ℕ)) → ArePicked names (one ∷ picked) → ArePicked names picked
later_picked [] one picked h = absurd cc
later_picked (name ∷ names) one picked (inl h) = inl (later_picked names one picked h)
later_picked (name ∷ names) one picked (inr (others, e, h)) =
    let same : picked ≡ others = cc in
    inl (subst (ArePicked names) (sym same) h)

-- the names behind the first that is picked, of which the others are picked
record Behind (names : List (List ℕ)) (one : List ℕ) (picked : List (List ℕ)) (found : Option (List (List ℕ))) : Type 0 where
  pub later : List (List ℕ)
  pub found_is : found ≡ Some later
  pub others : ArePicked later picked

behind_by : (b : Bool) (names : List (List ℕ)) (one : List ℕ) (picked : List (List ℕ)) (found : Option (List (List ℕ))) → ArePicked names picked → Behind names one picked found → Behind names one picked (cond b (Some names) found)
behind_by true names one picked found h behind = record { later = names; found_is = refl; others = h }
behind_by false names one picked found h behind = record { later = behind.later; found_is = behind.found_is; others = behind.others }

behind_picked : (names : List (List ℕ)) (one : List ℕ) (picked : List (List ℕ)) → ArePicked names (one ∷ picked) → Behind names one picked (names_behind names one)
behind_picked [] one picked h = absurd cc
behind_picked (name ∷ names) one picked (inl h) =
    let more = behind_by (bytes_eq one name) names one picked (names_behind names one) (later_picked names one picked h) (behind_picked names one picked h) in
    record { later = more.later; found_is = more.found_is; others = more.others }
behind_picked (name ∷ names) one picked (inr (others, e, h)) =
    let same : one ≡ name = cc in
    let more : picked ≡ others = cc in
    record {
      later = names;
      found_is = ap (λ (b : Bool). cond b (Some names) (names_behind names one)) ((bytes_eq-Decides one name).1 same);
      others = subst (ArePicked names) (sym more) h;
    }

flags_again : (names picked : List (List ℕ)) (rest : List ℕ) → ArePicked names picked → length (flat_map text_bytes picked ++ rest) < 2 ^ 64 → flags_at names (length picked) (flat_map text_bytes picked ++ rest) ≡ Ok (picked, rest)
flags_again names [] rest h lt = refl
flags_again names (one ∷ picked) rest h lt =
    let below = behind_below (text_bytes one) (flat_map text_bytes picked) rest lt in
    let small : length one < 2 ^ 64 = omega (arith, below.0, length-append one (flat_map text_bytes picked ++ rest)) in
    let b = behind_picked names one picked h in
    ap (flags_at names (suc (length picked))) (append_assoc (text_bytes one) (flat_map text_bytes picked) rest)
    ∙ rw (name_again one (flat_map text_bytes picked ++ rest) small, b.found_is, flags_again b.later picked rest b.others below.1) refl

-- ---- a value

-- a count and the parts behind it
pub record Counted (n : ℕ) (bytes rest : List ℕ) : Type 0 where
  pub small : n < 2 ^ 64
  pub below : length (bytes ++ rest) < 2 ^ 64

pub counted : (n : ℕ) (bytes rest : List ℕ) → n ≤ length bytes → length (count_bytes n ++ (bytes ++ rest)) < 2 ^ 64 → Counted n bytes rest
counted n bytes rest le lt = record { small = omega (arith, le, lt, length-append bytes rest); below = omega (arith, lt) }

as_value : (T : TypeTree) (v w : Value) (rest : List ℕ) → v ≡ w → length (bytes_of v ++ rest) < 2 ^ 64 → (length (bytes_of w ++ rest) < 2 ^ 64 → value_at T (bytes_of w ++ rest) ≡ Ok (w, rest)) → value_at T (bytes_of v ++ rest) ≡ Ok (v, rest)
as_value T v w rest e lt f =
    subst (λ (x : Value). value_at T (bytes_of x ++ rest) ≡ Ok (x, rest)) (sym e) (f (subst (λ (x : Value). length (bytes_of x ++ rest) < 2 ^ 64) e lt))

-- bytes of parts behind a count, in other words
regrouped : (n : ℕ) (whole bytes rest : List ℕ) → count_bytes n ++ bytes ≡ whole → whole ++ rest ≡ count_bytes n ++ (bytes ++ rest)
regrouped n whole bytes rest e = ap (λ (s : List ℕ). s ++ rest) (sym e) ∙ append_assoc (count_bytes n) bytes rest

list_again : (E : TypeTree) → Again (value_at E) bytes_of (HasType E) → (vs : List Value) (rest : List ℕ) → AllOf (HasType E) vs → length (bytes_of (value.list (values vs)) ++ rest) < 2 ^ 64 → value_at (type.list E) (bytes_of (value.list (values vs)) ++ rest) ≡ Ok (value.list (values vs), rest)
list_again E each vs rest all lt =
    let e = regrouped (length vs) (bytes_of (value.list (values vs))) (flat_map bytes_of vs) rest (list_bytes vs (length vs) refl) in
    let c = counted (length vs) (flat_map bytes_of vs) rest (rows_long bytes_of (HasType E) (value_some E) vs all) (subst (λ (s : List ℕ). length s < 2 ^ 64) e lt) in
    ap (value_at (type.list E)) e
    ∙ rw (number_again w64 (2 ^ 64) wide64 (length vs) (flat_map bytes_of vs ++ rest) c.small, times_again (value_at E) bytes_of (HasType E) each vs rest all c.below) refl

map_again : (K : Simple) (V : TypeTree) → Again (value_at V) bytes_of (HasType V) → (es : List (Leaf × Value)) (rest : List ℕ) → AllOf (λ e. IsLeafOf K e.0 × HasType V e.1) es → length (bytes_of (value.map (entries es)) ++ rest) < 2 ^ 64 → value_at (type.map K V) (bytes_of (value.map (entries es)) ++ rest) ≡ Ok (value.map (entries es), rest)
map_again K V each es rest all lt =
    let e = regrouped (length es) (bytes_of (value.map (entries es))) (flat_map pair_bytes es) rest (map_bytes es (length es) refl) in
    let long = rows_long pair_bytes (λ (p : Leaf × Value). IsLeafOf K p.0 × HasType V p.1) (λ p h. first_some (leaf_bytes p.0) (bytes_of p.1) (leaf_some p.0)) es all in
    let c = counted (length es) (flat_map pair_bytes es) rest long (subst (λ (s : List ℕ). length s < 2 ^ 64) e lt) in
    let both = pair_again (leaf_at K) (value_at V) leaf_bytes bytes_of (IsLeafOf K) (HasType V) (leaf_again K) each in
    ap (value_at (type.map K V)) e
    ∙ rw (number_again w64 (2 ^ 64) wide64 (length es) (flat_map pair_bytes es ++ rest) c.small, times_again (pair_at (leaf_at K) (value_at V)) pair_bytes (λ (p : Leaf × Value). IsLeafOf K p.0 × HasType V p.1) both es rest all c.below) refl

named_again : (names picked : List (List ℕ)) (rest : List ℕ) → ArePicked names picked → length (bytes_of (value.flags picked) ++ rest) < 2 ^ 64 → value_at (type.flags names) (bytes_of (value.flags picked) ++ rest) ≡ Ok (value.flags picked, rest)
named_again names picked rest h lt =
    let e = regrouped (length picked) (bytes_of (value.flags picked)) (flat_map text_bytes picked) rest (ap (λ (s : List ℕ). count_bytes (length picked) ++ s) (name_rows picked)) in
    let c = counted (length picked) (flat_map text_bytes picked) rest (names_long picked) (subst (λ (s : List ℕ). length s < 2 ^ 64) e lt) in
    ap (value_at (type.flags names)) e
    ∙ rw (number_again w64 (2 ^ 64) wide64 (length picked) (flat_map text_bytes picked ++ rest) c.small, flags_again names picked rest h c.below) refl

-- the case of another name
case_apart : (cs : Cases) (name : List ℕ) (payload : MaybeValue) (other : List ℕ) → HasCase cs name payload → IsNoneOf (case_names cs) other → name ≢ other
case_apart no_cases name payload other h none same = absurd h
case_apart (case_of first P more) name payload other (inl h) none same = none.0 (sym same ∙ h.0)
case_apart (case_of first P more) name payload other (inr h) none same = case_apart more name payload other h none.1 same

name_small : (name bytes : List ℕ) → length (text_bytes name ++ bytes) < 2 ^ 64 → (length name < 2 ^ 64) × (length bytes < 2 ^ 64)
name_small name bytes lt = (omega (arith, lt, length-append name bytes), omega (arith, lt, length-append name bytes))

mutual
  pub value_again : (T : TypeTree) → HasDistinctNames T → (v : Value) (rest : List ℕ) → HasType T v → length (bytes_of v ++ rest) < 2 ^ 64 → value_at T (bytes_of v ++ rest) ≡ Ok (v, rest)
  value_again (type.simple S) distinct v rest (one, h, e) lt = as_value (type.simple S) v (value.leaf one) rest e lt (λ below. rw (leaf_again S one rest h below) refl)
  value_again (type.unreadable kind) distinct v rest h lt = absurd h
  value_again (type.list E) distinct v rest (vs, h, e) lt = as_value (type.list E) v (value.list (values vs)) rest e lt (list_again E (value_again E distinct) vs rest h)
  value_again (type.fixed E n) distinct v rest (vs, h, counted, e) lt =
      as_value (type.fixed E n) v (value.fixed (values vs)) rest e lt (λ below.
      ap (λ (s : List ℕ). value_at (type.fixed E n) (s ++ rest)) (sym (row_rows vs))
      ∙ rw (row_again (value_at E) (HasType E) (value_again E distinct) n vs rest counted h (subst (λ (s : List ℕ). length (s ++ rest) < 2 ^ 64) (sym (row_rows vs)) below)) refl)
  value_again (type.record_type fs) distinct v rest (all, h, e) lt =
      as_value (type.record_type fs) v (value.record_value all) rest e lt (λ below. rw (field_row_again fs distinct.1 all rest h below) refl)
  value_again (type.tuple Ts) distinct v rest (vs, h, e) lt =
      as_value (type.tuple Ts) v (value.tuple (values vs)) rest e lt (λ below.
      ap (λ (s : List ℕ). value_at (type.tuple Ts) (s ++ rest)) (sym (row_rows vs))
      ∙ rw (type_row_again Ts distinct vs rest h (subst (λ (s : List ℕ). length (s ++ rest) < 2 ^ 64) (sym (row_rows vs)) below)) refl)
  value_again (type.variant cs) distinct v rest (name, payload, h, e) lt =
      as_value (type.variant cs) v (value.variant name payload) rest e lt (λ below.
      let whole : length (text_bytes name ++ (payload_bytes payload ++ rest)) < 2 ^ 64 = subst (λ (s : List ℕ). length s < 2 ^ 64) (append_assoc (text_bytes name) (payload_bytes payload) rest) below in
      let small = name_small name (payload_bytes payload ++ rest) whole in
      let start = text_bytes name ++ (payload_bytes payload ++ rest) in
      ap (value_at (type.variant cs)) (append_assoc (text_bytes name) (payload_bytes payload) rest)
      ∙ rw (name_again name (payload_bytes payload ++ rest) small.0, case_again cs distinct.0 distinct.1 start name payload rest h small.1) refl)
  value_again (type.enum names) distinct v rest (name, h, e) lt =
      as_value (type.enum names) v (value.enum name) rest e lt (λ below.
      let small = name_small name rest below in
      rw (name_again name rest small.0, passes names name h) refl)
  value_again (type.option P) distinct v rest (inl e) lt = as_value (type.option P) v (value.option no_value) rest e lt (λ below. rw (choice_again false rest) refl)
  value_again (type.option P) distinct v rest (inr (w, h, e)) lt =
      as_value (type.option P) v (value.option (a_value w)) rest e lt (λ below. rw (choice_again true (bytes_of w ++ rest), value_again P distinct w rest h (omega (arith, below))) refl)
  value_again (type.result A B) distinct v rest (inl (payload, h, e)) lt =
      as_value (type.result A B) v (value.ok payload) rest e lt (λ below. rw (choice_again false (payload_bytes payload ++ rest), payload_again A distinct.0 payload rest h (omega (arith, below))) refl)
  value_again (type.result A B) distinct v rest (inr (payload, h, e)) lt =
      as_value (type.result A B) v (value.err payload) rest e lt (λ below. rw (choice_again true (payload_bytes payload ++ rest), payload_again B distinct.1 payload rest h (omega (arith, below))) refl)
  value_again (type.flags names) distinct v rest (picked, h, e) lt = as_value (type.flags names) v (value.flags picked) rest e lt (named_again names picked rest h)
  value_again (type.map K V) distinct v rest (es, h, e) lt = as_value (type.map K V) v (value.map (entries es)) rest e lt (map_again K V (value_again V distinct) es rest h)

  payload_again : (P : MaybeType) → EachNamesOfMaybe AreDistinct P → (p : MaybeValue) (rest : List ℕ) → HasPayload P p → length (payload_bytes p ++ rest) < 2 ^ 64 → payload_at P (payload_bytes p ++ rest) ≡ Ok (p, rest)
  payload_again no_type distinct p rest h lt = subst (λ (q : MaybeValue). payload_at no_type (payload_bytes q ++ rest) ≡ Ok (q, rest)) (sym h) refl
  payload_again (a_type T) distinct p rest (w, h, e) lt =
      subst (λ (q : MaybeValue). payload_at (a_type T) (payload_bytes q ++ rest) ≡ Ok (q, rest)) (sym e)
      (rw (value_again T distinct w rest h (subst (λ (q : MaybeValue). length (payload_bytes q ++ rest) < 2 ^ 64) e lt)) refl)

  types_again : (Ts : Types) → EachNamesOfTypes AreDistinct Ts → (vs : List Value) (rest : List ℕ) → HasTypes Ts vs → length (flat_map bytes_of vs ++ rest) < 2 ^ 64 → types_at Ts (flat_map bytes_of vs ++ rest) ≡ Ok (vs, rest)
  types_again no_types distinct vs rest h lt = subst (λ (ws : List Value). types_at no_types (flat_map bytes_of ws ++ rest) ≡ Ok (ws, rest)) (sym h) refl
  types_again (type_and T more) distinct vs rest (w, others, h, hs, e) lt =
      let below = behind_below (bytes_of w) (flat_map bytes_of others) rest (subst (λ (ws : List Value). length (flat_map bytes_of ws ++ rest) < 2 ^ 64) e lt) in
      subst (λ (ws : List Value). types_at (type_and T more) (flat_map bytes_of ws ++ rest) ≡ Ok (ws, rest)) (sym e)
      (ap (types_at (type_and T more)) (append_assoc (bytes_of w) (flat_map bytes_of others) rest)
      ∙ rw (value_again T distinct.0 w (flat_map bytes_of others ++ rest) h below.0, types_again more distinct.1 others rest hs below.1) refl)

  type_row_again : (Ts : Types) → EachNamesOfTypes AreDistinct Ts → (vs : List Value) (rest : List ℕ) → HasTypes Ts vs → length (row_or_zero bytes_of vs ++ rest) < 2 ^ 64 → type_row_at Ts (row_or_zero bytes_of vs ++ rest) ≡ Ok (vs, rest)
  type_row_again no_types distinct vs rest h lt =
      subst (λ (ws : List Value). type_row_at no_types (row_or_zero bytes_of ws ++ rest) ≡ Ok (ws, rest)) (sym h) (rw (zero_again rest) refl)
  type_row_again (type_and T more) distinct vs rest (w, others, h, hs, e) lt =
      let below = behind_below (bytes_of w) (flat_map bytes_of others) rest (subst (λ (ws : List Value). length (row_or_zero bytes_of ws ++ rest) < 2 ^ 64) e lt) in
      subst (λ (ws : List Value). type_row_at (type_and T more) (row_or_zero bytes_of ws ++ rest) ≡ Ok (ws, rest)) (sym e)
      (ap (type_row_at (type_and T more)) (append_assoc (bytes_of w) (flat_map bytes_of others) rest)
      ∙ rw (value_again T distinct.0 w (flat_map bytes_of others ++ rest) h below.0, types_again more distinct.1 others rest hs below.1) refl)

  fields_again : (fs : Fields) → EachNamesOfFields AreDistinct fs → (all : FieldValues) (rest : List ℕ) → HasFields fs all → length (field_bytes all ++ rest) < 2 ^ 64 → fields_at fs (field_bytes all ++ rest) ≡ Ok (all, rest)
  fields_again type.no_fields distinct all rest h lt = subst (λ (xs : FieldValues). fields_at type.no_fields (field_bytes xs ++ rest) ≡ Ok (xs, rest)) (sym h) refl
  fields_again (type.field name T more) distinct all rest (w, others, h, hs, e) lt =
      let below = behind_below (bytes_of w) (field_bytes others) rest (subst (λ (xs : FieldValues). length (field_bytes xs ++ rest) < 2 ^ 64) e lt) in
      subst (λ (xs : FieldValues). fields_at (type.field name T more) (field_bytes xs ++ rest) ≡ Ok (xs, rest)) (sym e)
      (ap (fields_at (type.field name T more)) (append_assoc (bytes_of w) (field_bytes others) rest)
      ∙ rw (value_again T distinct.0 w (field_bytes others ++ rest) h below.0, fields_again more distinct.1 others rest hs below.1) refl)

  field_row_again : (fs : Fields) → EachNamesOfFields AreDistinct fs → (all : FieldValues) (rest : List ℕ) → HasFields fs all → length (field_row_bytes all ++ rest) < 2 ^ 64 → field_row_at fs (field_row_bytes all ++ rest) ≡ Ok (all, rest)
  field_row_again type.no_fields distinct all rest h lt =
      subst (λ (xs : FieldValues). field_row_at type.no_fields (field_row_bytes xs ++ rest) ≡ Ok (xs, rest)) (sym h) (rw (zero_again rest) refl)
  field_row_again (type.field name T more) distinct all rest (w, others, h, hs, e) lt =
      let below = behind_below (bytes_of w) (field_bytes others) rest (subst (λ (xs : FieldValues). length (field_row_bytes xs ++ rest) < 2 ^ 64) e lt) in
      subst (λ (xs : FieldValues). field_row_at (type.field name T more) (field_row_bytes xs ++ rest) ≡ Ok (xs, rest)) (sym e)
      (ap (field_row_at (type.field name T more)) (append_assoc (bytes_of w) (field_bytes others) rest)
      ∙ rw (value_again T distinct.0 w (field_bytes others ++ rest) h below.0, fields_again more distinct.1 others rest hs below.1) refl)

  case_again : (cs : Cases) → AreDistinct (case_names cs) → EachNamesOfCases AreDistinct cs → (start name : List ℕ) (payload : MaybeValue) (rest : List ℕ) → HasCase cs name payload → length (payload_bytes payload ++ rest) < 2 ^ 64 → case_at cs start name (payload_bytes payload ++ rest) ≡ Ok (value.variant name payload, rest)
  case_again no_cases distinct each start name payload rest h lt = absurd h
  case_again (case_of other P more) distinct each start name payload rest (inl h) lt =
      rw ((bytes_eq-Decides name other).1 h.0, payload_again P each.0 payload rest h.1 lt) refl
  case_again (case_of other P more) distinct each start name payload rest (inr h) lt =
      rw (unlike name other (case_apart more name payload other h distinct.0)) (case_again more distinct.1 each.1 start name payload rest h lt)

-- ---- a whole tape

-- the tape of a value is read as this value
pub tape_again : (T : TypeTree) (v : Value) → HasDistinctNames T → HasType T v → length (tape v) < 2 ^ 64 → tape_at T (tape v) ≡ Ok v
tape_again T v distinct h lt =
    let nothing = append-nil (bytes_of v) in
    let e : value_at T (bytes_of v) ≡ Ok (v, []) = ap (value_at T) (sym nothing) ∙ value_again T distinct v [] h (subst (λ (s : List ℕ). length s < 2 ^ 64) (sym nothing) (omega (arith, lt))) in
    let version : number_at w8 (1 ∷ bytes_of v) ≡ Ok (1, bytes_of v) = number_again w8 (2 ^ 8) wide8 1 (bytes_of v) (omega arith) in
    rw (version, e) refl

-- what is read of the same bytes is the same
pub one_start : {A : Type 0} (a b : A) (r s : List ℕ) → done {A = A × List ℕ} (a, r) ≡ done (b, s) → (a ≡ b) × (r ≡ s)
one_start {A = A} a b r s e =
    let same = ok_is (a, r) (b, s) e in
    (ap (λ (x : A × List ℕ). x.0) same, ap (λ (x : A × List ℕ). x.1) same)

pub one_tape : OneTapeEach
one_tape T v w r s distinct hv hw lt e =
    let rows : bytes_of v ++ r ≡ bytes_of w ++ s = ap (drop 1) e in
    let small : length (bytes_of v ++ r) < 2 ^ 64 = omega (arith, lt) in
    one_start v w r s (sym (value_again T distinct v r hv small) ∙ (ap (value_at T) rows ∙ value_again T distinct w s hw (subst (λ (x : List ℕ). length x < 2 ^ 64) rows small)))

-- the bytes of a call behind its version
abbrev rest_of : List ℕ → List Value → List ℕ → List ℕ
rest_of name vs r = text_bytes name ++ (flat_map bytes_of vs ++ r)

pub one_call_tape : OneCallTapeEach
one_call_tape Ts name other vs ws r s distinct hv hw lt e =
    let first : (text_bytes name ++ flat_map bytes_of vs) ++ r ≡ rest_of name vs r = append_assoc (text_bytes name) (flat_map bytes_of vs) r in
    let second : (text_bytes other ++ flat_map bytes_of ws) ++ s ≡ rest_of other ws s = append_assoc (text_bytes other) (flat_map bytes_of ws) s in
    let rows : rest_of name vs r ≡ rest_of other ws s = sym first ∙ (ap (drop 1) e ∙ second) in
    let whole : length (rest_of name vs r) < 2 ^ 64 = subst (λ (x : List ℕ). length x < 2 ^ 64) first (omega (arith, lt)) in
    let small = name_small name (flat_map bytes_of vs ++ r) whole in
    let small_other = name_small other (flat_map bytes_of ws ++ s) (subst (λ (x : List ℕ). length x < 2 ^ 64) rows whole) in
    let names = one_start name other (flat_map bytes_of vs ++ r) (flat_map bytes_of ws ++ s) (sym (name_again name (flat_map bytes_of vs ++ r) small.0) ∙ (ap name_at rows ∙ name_again other (flat_map bytes_of ws ++ s) small_other.0)) in
    let args = one_start vs ws r s (sym (types_again Ts distinct vs r hv small.1) ∙ (ap (types_at Ts) names.1 ∙ types_again Ts distinct ws s hw small_other.1)) in
    (names.0, args.0, args.1)
