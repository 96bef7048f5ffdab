-- A value that is read at a type is of the type.
use Rattle.std.proofs.Common.{◌≡◌, ℕ, zero, suc, ◌^◌, ◌<◌, Bool, true, false, cond, eqb, List, [], ◌∷◌, length, Result, Ok, Err, refl, sym, ap, subst, arith, inl, inr}
use Rattle.std.specs.Int.{w8, w32, w64}
use Rattle.std.specs.Str.{IsUtf8, bytes_eq, is_utf8}
use Rattle.std.specs.Char.{IsScalar}
use Rattle.std.proofs.lemmas.Int.{ints}
use Rattle.std.proofs.lemmas.Str.{IsUtf8-from_is_utf8}
use Rattle.std.proofs.lemmas.Slice.Eq.{bytes_eq-Decides}
use lib.Utf8.{scalar}
use Rattle.wave_wasm.specs.Lists.{AllOf}
use Rattle.wave_wasm.specs.Names.{is_one_of}
use Rattle.wave_wasm.specs.Numbers.{IsInRange}
use Rattle.wave_wasm.specs.Types as type
use Rattle.wave_wasm.specs.Types.{TypeTree, MaybeType, Types, Fields, Cases, Simple, Whole, no_type, a_type, no_types, type_and, no_cases, case_of}
use Rattle.wave_wasm.specs.Values as value
use Rattle.wave_wasm.specs.Values.{Value, MaybeValue, FieldValues, Leaf, no_value, a_value, values, entries}
use Rattle.wave_wasm.specs.HasType.{IsLeafOf, HasType, HasPayload, HasTypes, HasFields, HasCase}
use Rattle.wave_wasm.proofs.Names.NameTests.{is_one}
use Rattle.wave_tape.specs.declared.error.TapeErrorKind.TheVariants as kinds
use Rattle.wave_tape.specs.Tape.{width_of}
use Rattle.wave_tape.specs.Reading.{Fault, Reading, fault, ◌>>=◌, number_at, choice_at, zero_at, name_at, text_at, char_at, whole_of, leaf_at, times, row_at, flags_at, pair_at, value_at, payload_at, types_at, type_row_at, fields_at, field_row_at, case_at, end_at, tape_at}
use Rattle.wave_tape.proofs.Fields.{IsBytes, bind_ok, passed_ok, done, ok_is, wide8, number_takes, name_takes, choice_takes}
use Rattle.wave_tape.proofs.Taken.{limit_of, wide, leaf_takes, value_takes, end_is, passed}
use Rattle.wave_tape.proofs.Cases.{flags_picked}

-- ---- values of one token

in_range : (kind : Whole) (n : ℕ) → n < limit_of kind → IsInRange kind (whole_of kind n)
in_range type.s8 n lt = (omega (arith, ints), omega (arith, ints))
in_range type.s16 n lt = (omega (arith, ints), omega (arith, ints))
in_range type.s32 n lt = (omega (arith, ints), omega (arith, ints))
in_range type.s64 n lt = (omega (arith, ints), omega (arith, ints))
in_range type.u8 n lt = (omega (arith, ints), omega (arith, ints))
in_range type.u16 n lt = (omega (arith, ints), omega (arith, ints))
in_range type.u32 n lt = (omega (arith, ints), omega (arith, ints))
in_range type.u64 n lt = (omega (arith, ints), omega (arith, ints))

leaf_moved : (S : Simple) (one other : Leaf) (r s : List ℕ) → done {A = Leaf × List ℕ} (one, r) ≡ done (other, s) → IsLeafOf S one → IsLeafOf S other
leaf_moved S one other r s e h = subst (λ (x : Leaf × List ℕ). IsLeafOf S x.0) (ok_is (one, r) (other, s) e) h

text_is : (bytes text rest : List ℕ) → text_at bytes ≡ Ok (text, rest) → IsUtf8 text
unfolding text_at
text_is bytes text rest e =
    let b = bind_ok (name_at bytes) (λ s. cond (is_utf8 s.0) (Ok s) (Err (fault kinds.Utf8 bytes))) (text, rest) e in
    let g = passed_ok (is_utf8 b.0.0) (fault kinds.Utf8 bytes) b.0 (text, rest) b.2 in
    subst (λ (p : List ℕ × List ℕ). IsUtf8 p.0) g.1 (IsUtf8-from_is_utf8 b.0.0 g.0)

char_is : (bytes : List ℕ) (c : ℕ) (rest : List ℕ) → char_at bytes ≡ Ok (c, rest) → IsScalar c
unfolding char_at
char_is bytes c rest e =
    let b = bind_ok (number_at w32 bytes) (λ n. cond (scalar n.0) (Ok n) (Err (fault kinds.Char bytes))) (c, rest) e in
    let g = passed_ok (scalar b.0.0) (fault kinds.Char bytes) b.0 (c, rest) b.2 in
    subst (λ (p : ℕ × List ℕ). IsScalar p.0) g.1 g.0

leaf_typed : (S : Simple) (bytes : List ℕ) (one : Leaf) (rest : List ℕ) → IsBytes bytes → leaf_at S bytes ≡ Ok (one, rest) → IsLeafOf S one
leaf_typed type.bool bytes one rest fits e =
    let a = bind_ok (choice_at bytes) (λ x. Ok (value.bool x.0, x.1)) (one, rest) e in
    leaf_moved type.bool (value.bool a.0.0) one a.0.1 rest a.2 (refl, tt)
leaf_typed (type.whole kind) bytes one rest fits e =
    let a = bind_ok (number_at (width_of kind) bytes) (λ x. Ok (value.whole kind (whole_of kind x.0), x.1)) (one, rest) e in
    let t = number_takes (width_of kind) (limit_of kind) (wide kind) bytes a.0.0 a.0.1 fits a.1 in
    leaf_moved (type.whole kind) (value.whole kind (whole_of kind a.0.0)) one a.0.1 rest a.2 (refl, in_range kind a.0.0 t.1)
leaf_typed type.char bytes one rest fits e =
    let a = bind_ok (char_at bytes) (λ x. Ok (value.char x.0, x.1)) (one, rest) e in
    leaf_moved type.char (value.char a.0.0) one a.0.1 rest a.2 (refl, char_is bytes a.0.0 a.0.1 a.1)
leaf_typed type.string bytes one rest fits e =
    let a = bind_ok (text_at bytes) (λ x. Ok (value.string x.0, x.1)) (one, rest) e in
    leaf_moved type.string (value.string a.0.0) one a.0.1 rest a.2 (refl, text_is bytes a.0.0 a.0.1 a.1)

-- ---- parts in turn

-- each part that is read passes, and bytes are left behind it
abbrev Passes : {A : Type 0} → (List ℕ → Reading A) → (A → Type 0) → Type 0
Passes {A = A} read P = (bytes : List ℕ) (x : A) (rest : List ℕ) → IsBytes bytes → read bytes ≡ Ok (x, rest) → P x × IsBytes rest

times_typed : {A : Type 0} (read : List ℕ → Reading A) (P : A → Type 0) → Passes read P → (n : ℕ) (bytes : List ℕ) (xs : List A) (rest : List ℕ) → IsBytes bytes → times read n bytes ≡ Ok (xs, rest) → AllOf P xs × (length xs ≡ n)
times_typed {A = A} read P each zero bytes xs rest fits e = subst (λ (y : List A × List ℕ). AllOf P y.0 × (length y.0 ≡ 0)) (ok_is ([], bytes) (xs, rest) e) (tt, refl)
times_typed {A = A} read P each (suc n) bytes xs rest fits e =
    let a = bind_ok (read bytes) (λ first. times read n first.1 >>= λ others. Ok (first.0 ∷ others.0, others.1)) (xs, rest) e in
    let b = bind_ok (times read n a.0.1) (λ others. Ok (a.0.0 ∷ others.0, others.1)) (xs, rest) a.2 in
    let t = each bytes a.0.0 a.0.1 fits a.1 in
    let u = times_typed read P each n a.0.1 b.0.0 b.0.1 t.1 b.1 in
    subst (λ (y : List A × List ℕ). AllOf P y.0 × (length y.0 ≡ suc n)) (ok_is (a.0.0 ∷ b.0.0, b.0.1) (xs, rest) b.2) ((t.0, u.0), ap suc u.1)

row_typed : (read : List ℕ → Reading Value) (P : Value → Type 0) → Passes read P → (n : ℕ) (bytes : List ℕ) (vs : List Value) (rest : List ℕ) → IsBytes bytes → row_at read n bytes ≡ Ok (vs, rest) → AllOf P vs × (length vs ≡ n)
row_typed read P each zero bytes vs rest fits e =
    let a = bind_ok (zero_at bytes) (λ r. Ok ([], r)) (vs, rest) e in
    subst (λ (y : List Value × List ℕ). AllOf P y.0 × (length y.0 ≡ 0)) (ok_is ([], a.0) (vs, rest) a.2) (tt, refl)
row_typed read P each (suc n) bytes vs rest fits e = times_typed read P each (suc n) bytes vs rest fits e

pair_passes : {A B : Type 0} (first : List ℕ → Reading A) (second : List ℕ → Reading B) (P : A → Type 0) (Q : B → Type 0) → Passes first P → Passes second Q → Passes (pair_at first second) (λ (p : A × B). P p.0 × Q p.1)
pair_passes {A} {B} first second P Q each_first each_second bytes x rest fits e =
    let a = bind_ok (first bytes) (λ a. second a.1 >>= λ b. Ok ((a.0, b.0), b.1)) (x, rest) e in
    let b = bind_ok (second a.0.1) (λ b. Ok ((a.0.0, b.0), b.1)) (x, rest) a.2 in
    let t = each_first bytes a.0.0 a.0.1 fits a.1 in
    let u = each_second a.0.1 b.0.0 b.0.1 t.1 b.1 in
    subst (λ (y : (A × B) × List ℕ). (P y.0.0 × Q y.0.1) × IsBytes y.1) (ok_is ((a.0.0, b.0.0), b.0.1) (x, rest) b.2) ((t.0, u.0), u.1)

leaf_passes : (S : Simple) → Passes (leaf_at S) (IsLeafOf S)
leaf_passes S bytes one rest fits e = (leaf_typed S bytes one rest fits e, (leaf_takes S bytes one rest fits e).rest_fits)

-- ---- a value

moved : (T : TypeTree) (v w : Value) (r s : List ℕ) → done {A = Value × List ℕ} (v, r) ≡ done (w, s) → HasType T v → HasType T w
moved T v w r s e h = subst (λ (x : Value × List ℕ). HasType T x.0) (ok_is (v, r) (w, s) e) h

-- the value of a case
record CaseTyped (cs : Cases) (name : List ℕ) (v : Value) : Type 0 where
  pub payload : MaybeValue
  pub is : v ≡ value.variant name payload
  pub typed : HasCase cs name payload

later_case : (other name : List ℕ) (P : MaybeType) (more : Cases) (v : Value) → CaseTyped more name v → CaseTyped (case_of other P more) name v
later_case other name P more v c = record { payload = c.payload; is = c.is; typed = inr c.typed }

case_typed : (other name : List ℕ) (P : MaybeType) (more : Cases) (bytes : List ℕ) (v : Value) (rest : List ℕ) → bytes_eq name other ≡ true → ((p : MaybeValue) (s : List ℕ) → payload_at P bytes ≡ Ok (p, s) → HasPayload P p) → (◌>>=◌ {B = Value × List ℕ} (payload_at P bytes) (λ x. Ok (value.variant name x.0, x.1))) ≡ Ok (v, rest) → CaseTyped (case_of other P more) name v
case_typed other name P more bytes v rest same each e =
    let a = bind_ok (payload_at P bytes) (λ x. Ok (value.variant name x.0, x.1)) (v, rest) e in
    record {
      payload = a.0.0;
      is = sym (ap (λ (x : Value × List ℕ). x.0) (ok_is (value.variant name a.0.0, a.0.1) (v, rest) a.2));
      typed = inl ((bytes_eq-Decides name other).0 same, each a.0.0 a.0.1 a.1);
    }

by_test : {A : Type 0} (b : Bool) (x y : Result A Fault) (z : A) (P : Type 0) → (b ≡ true → x ≡ Ok z → P) → (y ≡ Ok z → P) → cond b x y ≡ Ok z → P
by_test true x y z P f g e = f refl e
by_test false x y z P f g e = g e

option_typed : (P : TypeTree) (b : Bool) (r : List ℕ) (v : Value) (rest : List ℕ) → ((w : Value) (s : List ℕ) → value_at P r ≡ Ok (w, s) → HasType P w)
    → cond b (◌>>=◌ {B = Value × List ℕ} (value_at P r) (λ x. Ok (value.option (a_value x.0), x.1))) (Ok (value.option no_value, r)) ≡ Ok (v, rest) → HasType (type.option P) v
option_typed P true r v rest each e =
    let a = bind_ok (value_at P r) (λ x. Ok (value.option (a_value x.0), x.1)) (v, rest) e in
    moved (type.option P) (value.option (a_value a.0.0)) v a.0.1 rest a.2 (inr (a.0.0, each a.0.0 a.0.1 a.1, refl))
option_typed P false r v rest each e = moved (type.option P) (value.option no_value) v r rest e (inl refl)

result_typed : (A B : MaybeType) (b : Bool) (r : List ℕ) (v : Value) (rest : List ℕ) → ((p : MaybeValue) (s : List ℕ) → payload_at A r ≡ Ok (p, s) → HasPayload A p) → ((p : MaybeValue) (s : List ℕ) → payload_at B r ≡ Ok (p, s) → HasPayload B p)
    → cond b (◌>>=◌ {B = Value × List ℕ} (payload_at B r) (λ x. Ok (value.err x.0, x.1))) (◌>>=◌ {B = Value × List ℕ} (payload_at A r) (λ x. Ok (value.ok x.0, x.1))) ≡ Ok (v, rest) → HasType (type.result A B) v
result_typed A B true r v rest each_ok each_err e =
    let a = bind_ok (payload_at B r) (λ x. Ok (value.err x.0, x.1)) (v, rest) e in
    moved (type.result A B) (value.err a.0.0) v a.0.1 rest a.2 (inr (a.0.0, each_err a.0.0 a.0.1 a.1, refl))
result_typed A B false r v rest each_ok each_err e =
    let a = bind_ok (payload_at A r) (λ x. Ok (value.ok x.0, x.1)) (v, rest) e in
    moved (type.result A B) (value.ok a.0.0) v a.0.1 rest a.2 (inl (a.0.0, each_ok a.0.0 a.0.1 a.1, refl))

mutual
  pub value_typed : (T : TypeTree) (bytes : List ℕ) (v : Value) (rest : List ℕ) → IsBytes bytes → value_at T bytes ≡ Ok (v, rest) → HasType T v
  value_typed (type.simple S) bytes v rest fits e =
      let a = bind_ok (leaf_at S bytes) (λ x. Ok (value.leaf x.0, x.1)) (v, rest) e in
      moved (type.simple S) (value.leaf a.0.0) v a.0.1 rest a.2 (a.0.0, leaf_typed S bytes a.0.0 a.0.1 fits a.1, refl)
  value_typed (type.unreadable kind) bytes v rest fits e = absurd cc
  value_typed (type.list E) bytes v rest fits e =
      let a = bind_ok (number_at w64 bytes) (λ n. times (value_at E) n.0 n.1 >>= λ x. Ok (value.list (values x.0), x.1)) (v, rest) e in
      let b = bind_ok (times (value_at E) a.0.0 a.0.1) (λ x. Ok (value.list (values x.0), x.1)) (v, rest) a.2 in
      let t = number_takes w64 (2 ^ 64) (wide type.u64) bytes a.0.0 a.0.1 fits a.1 in
      let u = times_typed (value_at E) (HasType E) (λ s w r f h. (value_typed E s w r f h, (value_takes E s w r f h).rest_fits)) a.0.0 a.0.1 b.0.0 b.0.1 t.0.rest_fits b.1 in
      moved (type.list E) (value.list (values b.0.0)) v b.0.1 rest b.2 (b.0.0, u.0, refl)
  value_typed (type.fixed E n) bytes v rest fits e =
      let a = bind_ok (row_at (value_at E) n bytes) (λ x. Ok (value.fixed (values x.0), x.1)) (v, rest) e in
      let u = row_typed (value_at E) (HasType E) (λ s w r f h. (value_typed E s w r f h, (value_takes E s w r f h).rest_fits)) n bytes a.0.0 a.0.1 fits a.1 in
      moved (type.fixed E n) (value.fixed (values a.0.0)) v a.0.1 rest a.2 (a.0.0, u.0, u.1, refl)
  value_typed (type.record_type fs) bytes v rest fits e =
      let a = bind_ok (field_row_at fs bytes) (λ x. Ok (value.record_value x.0, x.1)) (v, rest) e in
      moved (type.record_type fs) (value.record_value a.0.0) v a.0.1 rest a.2 (a.0.0, field_row_typed fs bytes a.0.0 a.0.1 fits a.1, refl)
  value_typed (type.tuple Ts) bytes v rest fits e =
      let a = bind_ok (type_row_at Ts bytes) (λ x. Ok (value.tuple (values x.0), x.1)) (v, rest) e in
      moved (type.tuple Ts) (value.tuple (values a.0.0)) v a.0.1 rest a.2 (a.0.0, type_row_typed Ts bytes a.0.0 a.0.1 fits a.1, refl)
  value_typed (type.variant cs) bytes v rest fits e =
      let a = bind_ok (name_at bytes) (λ name. case_at cs bytes name.0 name.1) (v, rest) e in
      let t = name_takes bytes a.0.0 a.0.1 fits a.1 in
      let c = cases_typed cs bytes a.0.0 a.0.1 v rest t.rest_fits a.2 in
      (a.0.0, c.payload, c.typed, c.is)
  value_typed (type.enum names) bytes v rest fits e =
      let a = bind_ok (name_at bytes) (λ name. cond (is_one_of names name.0) (Ok (value.enum name.0, name.1)) (Err (fault kinds.Name bytes))) (v, rest) e in
      let g = passed_ok (is_one_of names a.0.0) (fault kinds.Name bytes) (value.enum a.0.0, a.0.1) (v, rest) a.2 in
      (a.0.0, is_one names a.0.0 g.0, sym (ap (λ (x : Value × List ℕ). x.0) g.1))
  value_typed (type.option P) bytes v rest fits e =
      let a = bind_ok (choice_at bytes) (λ some. cond some.0 (value_at P some.1 >>= λ x. Ok (value.option (a_value x.0), x.1)) (Ok (value.option no_value, some.1))) (v, rest) e in
      let t = choice_takes bytes a.0.0 a.0.1 fits a.1 in
      option_typed P a.0.0 a.0.1 v rest (λ w s h. value_typed P a.0.1 w s t.rest_fits h) a.2
  value_typed (type.result A B) bytes v rest fits e =
      let a = bind_ok (choice_at bytes) (λ err. cond err.0 (payload_at B err.1 >>= λ x. Ok (value.err x.0, x.1)) (payload_at A err.1 >>= λ x. Ok (value.ok x.0, x.1))) (v, rest) e in
      let t = choice_takes bytes a.0.0 a.0.1 fits a.1 in
      result_typed A B a.0.0 a.0.1 v rest (λ p s h. payload_typed A a.0.1 p s t.rest_fits h) (λ p s h. payload_typed B a.0.1 p s t.rest_fits h) a.2
  value_typed (type.flags names) bytes v rest fits e =
      let a = bind_ok (number_at w64 bytes) (λ n. flags_at names n.0 n.1 >>= λ x. Ok (value.flags x.0, x.1)) (v, rest) e in
      let b = bind_ok (flags_at names a.0.0 a.0.1) (λ x. Ok (value.flags x.0, x.1)) (v, rest) a.2 in
      moved (type.flags names) (value.flags b.0.0) v b.0.1 rest b.2 (b.0.0, flags_picked names a.0.0 a.0.1 b.0.0 b.0.1 b.1, refl)
  value_typed (type.map K V) bytes v rest fits e =
      let a = bind_ok (number_at w64 bytes) (λ n. times (pair_at (leaf_at K) (value_at V)) n.0 n.1 >>= λ x. Ok (value.map (entries x.0), x.1)) (v, rest) e in
      let b = bind_ok (times (pair_at (leaf_at K) (value_at V)) a.0.0 a.0.1) (λ x. Ok (value.map (entries x.0), x.1)) (v, rest) a.2 in
      let t = number_takes w64 (2 ^ 64) (wide type.u64) bytes a.0.0 a.0.1 fits a.1 in
      let each = pair_passes (leaf_at K) (value_at V) (IsLeafOf K) (HasType V) (leaf_passes K) (λ s w r f h. (value_typed V s w r f h, (value_takes V s w r f h).rest_fits)) in
      let u = times_typed (pair_at (leaf_at K) (value_at V)) (λ (p : Leaf × Value). IsLeafOf K p.0 × HasType V p.1) each a.0.0 a.0.1 b.0.0 b.0.1 t.0.rest_fits b.1 in
      moved (type.map K V) (value.map (entries b.0.0)) v b.0.1 rest b.2 (b.0.0, u.0, refl)

  payload_typed : (P : MaybeType) (bytes : List ℕ) (p : MaybeValue) (rest : List ℕ) → IsBytes bytes → payload_at P bytes ≡ Ok (p, rest) → HasPayload P p
  payload_typed no_type bytes p rest fits e = sym (ap (λ (x : MaybeValue × List ℕ). x.0) (ok_is (no_value, bytes) (p, rest) e))
  payload_typed (a_type T) bytes p rest fits e =
      let a = bind_ok (value_at T bytes) (λ x. Ok (a_value x.0, x.1)) (p, rest) e in
      (a.0.0, value_typed T bytes a.0.0 a.0.1 fits a.1, sym (ap (λ (x : MaybeValue × List ℕ). x.0) (ok_is (a_value a.0.0, a.0.1) (p, rest) a.2)))

  types_typed : (Ts : Types) (bytes : List ℕ) (vs : List Value) (rest : List ℕ) → IsBytes bytes → types_at Ts bytes ≡ Ok (vs, rest) → HasTypes Ts vs
  types_typed no_types bytes vs rest fits e = sym (ap (λ (x : List Value × List ℕ). x.0) (ok_is ([], bytes) (vs, rest) e))
  types_typed (type_and T more) bytes vs rest fits e =
      let a = bind_ok (value_at T bytes) (λ first. types_at more first.1 >>= λ others. Ok (first.0 ∷ others.0, others.1)) (vs, rest) e in
      let b = bind_ok (types_at more a.0.1) (λ others. Ok (a.0.0 ∷ others.0, others.1)) (vs, rest) a.2 in
      let t = value_takes T bytes a.0.0 a.0.1 fits a.1 in
      (a.0.0, b.0.0, value_typed T bytes a.0.0 a.0.1 fits a.1, types_typed more a.0.1 b.0.0 b.0.1 t.rest_fits b.1, sym (ap (λ (x : List Value × List ℕ). x.0) (ok_is (a.0.0 ∷ b.0.0, b.0.1) (vs, rest) b.2)))

  type_row_typed : (Ts : Types) (bytes : List ℕ) (vs : List Value) (rest : List ℕ) → IsBytes bytes → type_row_at Ts bytes ≡ Ok (vs, rest) → HasTypes Ts vs
  type_row_typed no_types bytes vs rest fits e =
      let a = bind_ok (zero_at bytes) (λ r. Ok ([], r)) (vs, rest) e in
      sym (ap (λ (x : List Value × List ℕ). x.0) (ok_is ([], a.0) (vs, rest) a.2))
  type_row_typed (type_and T more) bytes vs rest fits e =
      let a = bind_ok (value_at T bytes) (λ first. types_at more first.1 >>= λ others. Ok (first.0 ∷ others.0, others.1)) (vs, rest) e in
      let b = bind_ok (types_at more a.0.1) (λ others. Ok (a.0.0 ∷ others.0, others.1)) (vs, rest) a.2 in
      let t = value_takes T bytes a.0.0 a.0.1 fits a.1 in
      (a.0.0, b.0.0, value_typed T bytes a.0.0 a.0.1 fits a.1, types_typed more a.0.1 b.0.0 b.0.1 t.rest_fits b.1, sym (ap (λ (x : List Value × List ℕ). x.0) (ok_is (a.0.0 ∷ b.0.0, b.0.1) (vs, rest) b.2)))

  fields_typed : (fs : Fields) (bytes : List ℕ) (all : FieldValues) (rest : List ℕ) → IsBytes bytes → fields_at fs bytes ≡ Ok (all, rest) → HasFields fs all
  fields_typed type.no_fields bytes all rest fits e = sym (ap (λ (x : FieldValues × List ℕ). x.0) (ok_is (value.no_fields, bytes) (all, rest) e))
  fields_typed (type.field name T more) bytes all rest fits e =
      let a = bind_ok (value_at T bytes) (λ first. fields_at more first.1 >>= λ others. Ok (value.field name first.0 others.0, others.1)) (all, rest) e in
      let b = bind_ok (fields_at more a.0.1) (λ others. Ok (value.field name a.0.0 others.0, others.1)) (all, rest) a.2 in
      let t = value_takes T bytes a.0.0 a.0.1 fits a.1 in
      (a.0.0, b.0.0, value_typed T bytes a.0.0 a.0.1 fits a.1, fields_typed more a.0.1 b.0.0 b.0.1 t.rest_fits b.1, sym (ap (λ (x : FieldValues × List ℕ). x.0) (ok_is (value.field name a.0.0 b.0.0, b.0.1) (all, rest) b.2)))

  field_row_typed : (fs : Fields) (bytes : List ℕ) (all : FieldValues) (rest : List ℕ) → IsBytes bytes → field_row_at fs bytes ≡ Ok (all, rest) → HasFields fs all
  field_row_typed type.no_fields bytes all rest fits e =
      let a = bind_ok (zero_at bytes) (λ r. Ok (value.no_fields, r)) (all, rest) e in
      sym (ap (λ (x : FieldValues × List ℕ). x.0) (ok_is (value.no_fields, a.0) (all, rest) a.2))
  field_row_typed (type.field name T more) bytes all rest fits e =
      let a = bind_ok (value_at T bytes) (λ first. fields_at more first.1 >>= λ others. Ok (value.field name first.0 others.0, others.1)) (all, rest) e in
      let b = bind_ok (fields_at more a.0.1) (λ others. Ok (value.field name a.0.0 others.0, others.1)) (all, rest) a.2 in
      let t = value_takes T bytes a.0.0 a.0.1 fits a.1 in
      (a.0.0, b.0.0, value_typed T bytes a.0.0 a.0.1 fits a.1, fields_typed more a.0.1 b.0.0 b.0.1 t.rest_fits b.1, sym (ap (λ (x : FieldValues × List ℕ). x.0) (ok_is (value.field name a.0.0 b.0.0, b.0.1) (all, rest) b.2)))

  cases_typed : (cs : Cases) (start name bytes : List ℕ) (v : Value) (rest : List ℕ) → IsBytes bytes → case_at cs start name bytes ≡ Ok (v, rest) → CaseTyped cs name v
  cases_typed no_cases start name bytes v rest fits e = absurd cc
  cases_typed (case_of other P more) start name bytes v rest fits e =
      by_test (bytes_eq name other) (◌>>=◌ {B = Value × List ℕ} (payload_at P bytes) (λ x. Ok (value.variant name x.0, x.1))) (case_at more start name bytes) (v, rest) (CaseTyped (case_of other P more) name v)
      (λ same h. case_typed other name P more bytes v rest same (λ p s k. payload_typed P bytes p s fits k) h)
      (λ h. later_case other name P more v (cases_typed more start name bytes v rest fits h)) e

-- ---- a whole tape

pub tape_typed : (T : TypeTree) (bytes : List ℕ) (v : Value) → IsBytes bytes → tape_at T bytes ≡ Ok v → HasType T v
tape_typed T bytes v fits e =
    let a = bind_ok (number_at w8 bytes) (λ version. cond (eqb version.0 1) (value_at T version.1 >>= λ x. end_at x.0 x.1) (Err (fault kinds.Version bytes))) v e in
    let g = passed (eqb a.0.0 1) (value_at T a.0.1 >>= λ x. end_at x.0 x.1) (fault kinds.Version bytes) v a.2 in
    let t = number_takes w8 (2 ^ 8) wide8 bytes a.0.0 a.0.1 fits a.1 in
    let b = bind_ok (value_at T a.0.1) (λ x. end_at x.0 x.1) v g.1 in
    subst (HasType T) (end_is b.0.0 v b.0.1 b.2).1 (value_typed T a.0.1 b.0.0 b.0.1 t.0.rest_fits b.1)
