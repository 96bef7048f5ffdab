-- A value that is read is the value whose bytes stand there.
use Rattle.std.proofs.Common.{◌≡◌, ℕ, zero, suc, ◌^◌, ◌<◌, Bool, true, false, cond, eqb, List, [], ◌∷◌, ◌++◌, length, Option, Some, None, Result, Ok, Err, refl, sym, ap, subst, ◌∙◌, arith}
use Rattle.std.specs.Int.{w8, w16, w32, w64, to_le_bytes, cast_unsigned, from_bool}
use Rattle.std.specs.List.{flat_map}
use Rattle.std.specs.Str.{bytes_eq}
use Rattle.std.proofs.lemmas.Int.{of_z-to_z}
use Rattle.std.proofs.lemmas.Bool.{eqb-true}
use Rattle.std.proofs.lemmas.List.{append-nil}
use Rattle.wave_wasm.specs.Names.{is_one_of}
use Rattle.wave_wasm.specs.Types as type
use Rattle.wave_wasm.specs.Types.{TypeTree, MaybeType, Types, Fields, Cases, Simple, Whole, no_type, a_type, no_types, type_and, no_cases, case_of}
use Rattle.wave_wasm.specs.Values as value
use Rattle.wave_wasm.specs.Values.{Value, MaybeValue, FieldValues, Leaf, no_value, a_value, values, entries}
use Rattle.wave_tape.specs.declared.error.TapeErrorKind.TheVariants as kinds
use Rattle.wave_tape.specs.Tape.{bytes_of, payload_bytes, field_bytes, field_row_bytes, leaf_bytes, text_bytes, count_bytes, width_of, tape}
use Rattle.wave_tape.specs.Reading.{Fault, Reading, fault, ◌>>=◌, number_at, choice_at, zero_at, name_at, text_at, char_at, whole_of, leaf_at, times, row_at, names_behind, or_fault, flags_at, pair_at, value_at, payload_at, types_at, type_row_at, fields_at, field_row_at, case_at, end_at, tape_at}
use Rattle.wave_tape.specs.Private.Rows.{row_or_zero}
use Rattle.wave_tape.proofs.Fields.{IsBytes, bind_ok, passed_ok, done, ok_is, Takes, Takes-then, IsWide, wide8, wide16, wide32, wide64, number_takes, name_takes, text_takes, char_takes, choice_takes, zero_takes}
use Rattle.wave_tape.proofs.Parts.{row_rows, list_bytes, pair_bytes, map_bytes, name_rows}

-- ---- whole numbers

-- the bits of a type are fewer than this
abbrev pub limit_of : Whole → ℕ
limit_of type.s8 = 2 ^ 8
limit_of type.s16 = 2 ^ 16
limit_of type.s32 = 2 ^ 32
limit_of type.s64 = 2 ^ 64
limit_of type.u8 = 2 ^ 8
limit_of type.u16 = 2 ^ 16
limit_of type.u32 = 2 ^ 32
limit_of type.u64 = 2 ^ 64

pub wide : (kind : Whole) → IsWide (width_of kind) (limit_of kind)
wide type.s8 = wide8
wide type.s16 = wide16
wide type.s32 = wide32
wide type.s64 = wide64
wide type.u8 = wide8
wide type.u16 = wide16
wide type.u32 = wide32
wide type.u64 = wide64

-- the bits of the number that bits stand for
bits_back : (kind : Whole) (n : ℕ) → n < limit_of kind → cast_unsigned (width_of kind) (whole_of kind n) ≡ n
bits_back type.s8 n lt = of_z-to_z w8 n lt
bits_back type.s16 n lt = of_z-to_z w16 n lt
bits_back type.s32 n lt = of_z-to_z w32 n lt
bits_back type.s64 n lt = of_z-to_z w64 n lt
bits_back type.u8 n lt = refl
bits_back type.u16 n lt = refl
bits_back type.u32 n lt = refl
bits_back type.u64 n lt = refl

-- ---- values of one token

leaf_moved : (bytes : List ℕ) (one other : Leaf) (r s : List ℕ) → done {A = Leaf × List ℕ} (one, r) ≡ done (other, s) → Takes bytes (leaf_bytes one) r → Takes bytes (leaf_bytes other) s
leaf_moved bytes one other r s e t = subst (λ (x : Leaf × List ℕ). Takes bytes (leaf_bytes x.0) x.1) (ok_is (one, r) (other, s) e) t

pub leaf_takes : (S : Simple) (bytes : List ℕ) (one : Leaf) (rest : List ℕ) → IsBytes bytes → leaf_at S bytes ≡ Ok (one, rest) → Takes bytes (leaf_bytes one) rest
leaf_takes type.bool bytes one rest fits e =
    let a = bind_ok (choice_at bytes) (λ x. Ok (value.bool x.0, x.1)) (one, rest) e in
    leaf_moved bytes (value.bool a.0.0) one a.0.1 rest a.2 (choice_takes bytes a.0.0 a.0.1 fits a.1)
leaf_takes (type.whole kind) bytes one rest fits e =
    let a = bind_ok (number_at (width_of kind) bytes) (λ x. Ok (value.whole kind (whole_of kind x.0), x.1)) (one, rest) e in
    let t = number_takes (width_of kind) (limit_of kind) (wide kind) bytes a.0.0 a.0.1 fits a.1 in
    leaf_moved bytes (value.whole kind (whole_of kind a.0.0)) one a.0.1 rest a.2
    (subst (λ (n : ℕ). Takes bytes (to_le_bytes (width_of kind) n) a.0.1) (sym (bits_back kind a.0.0 t.1)) t.0)
leaf_takes type.char bytes one rest fits e =
    let a = bind_ok (char_at bytes) (λ x. Ok (value.char x.0, x.1)) (one, rest) e in
    leaf_moved bytes (value.char a.0.0) one a.0.1 rest a.2 (char_takes bytes a.0.0 a.0.1 fits a.1)
leaf_takes type.string bytes one rest fits e =
    let a = bind_ok (text_at bytes) (λ x. Ok (value.string x.0, x.1)) (one, rest) e in
    leaf_moved bytes (value.string a.0.0) one a.0.1 rest a.2 (text_takes bytes a.0.0 a.0.1 fits a.1)

-- ---- parts in turn

-- what is read of a part takes its bytes
abbrev Each : {A : Type 0} → (List ℕ → Reading A) → (A → List ℕ) → Type 0
Each {A = A} read f = (bytes : List ℕ) (x : A) (rest : List ℕ) → IsBytes bytes → read bytes ≡ Ok (x, rest) → Takes bytes (f x) rest

times_take : {A : Type 0} (read : List ℕ → Reading A) (f : A → List ℕ) → Each read f → (n : ℕ) (bytes : List ℕ) (xs : List A) (rest : List ℕ) → IsBytes bytes → times read n bytes ≡ Ok (xs, rest) → Takes bytes (flat_map f xs) rest × (length xs ≡ n)
times_take {A = A} read f each zero bytes xs rest fits e =
    subst (λ (y : List A × List ℕ). Takes bytes (flat_map f y.0) y.1 × (length y.0 ≡ 0)) (ok_is ([], bytes) (xs, rest) e) (record { parts = refl; rest_fits = fits }, refl)
times_take {A = A} read f each (suc n) bytes xs rest fits e =
    let a = bind_ok (read bytes) (λ first. times read n first.1 >>= λ others. Ok (first.0 ∷ others.0, others.1)) (xs, rest) e in
    let b = bind_ok (times read n a.0.1) (λ others. Ok (a.0.0 ∷ others.0, others.1)) (xs, rest) a.2 in
    let first = each bytes a.0.0 a.0.1 fits a.1 in
    let more = times_take read f each n a.0.1 b.0.0 b.0.1 first.rest_fits b.1 in
    subst (λ (y : List A × List ℕ). Takes bytes (flat_map f y.0) y.1 × (length y.0 ≡ suc n)) (ok_is (a.0.0 ∷ b.0.0, b.0.1) (xs, rest) b.2)
    (Takes-then bytes (f a.0.0) a.0.1 (flat_map f b.0.0) b.0.1 first more.0, ap suc more.1)

row_takes : (read : List ℕ → Reading Value) → Each read bytes_of → (n : ℕ) (bytes : List ℕ) (vs : List Value) (rest : List ℕ) → IsBytes bytes → row_at read n bytes ≡ Ok (vs, rest) → Takes bytes (row_or_zero bytes_of vs) rest
row_takes read each zero bytes vs rest fits e =
    let a = bind_ok (zero_at bytes) (λ r. Ok ([], r)) (vs, rest) e in
    subst (λ (y : List Value × List ℕ). Takes bytes (row_or_zero bytes_of y.0) y.1) (ok_is ([], a.0) (vs, rest) a.2) (zero_takes bytes a.0 fits a.1)
row_takes read each (suc n) bytes [] rest fits e =
    let t = times_take read bytes_of each (suc n) bytes [] rest fits e in
    absurd (omega (arith, t.1))
row_takes read each (suc n) bytes (v ∷ vs) rest fits e =
    let t = times_take read bytes_of each (suc n) bytes (v ∷ vs) rest fits e in
    t.0

pair_takes : {A B : Type 0} (first : List ℕ → Reading A) (second : List ℕ → Reading B) (f : A → List ℕ) (g : B → List ℕ) → Each first f → Each second g → Each (pair_at first second) (λ (p : A × B). f p.0 ++ g p.1)
pair_takes {A = A} {B = B} first second f g each_first each_second bytes x rest fits e =
    let a = bind_ok (first bytes) (λ l. second l.1 >>= λ r. Ok ((l.0, r.0), r.1)) (x, rest) e in
    let b = bind_ok (second a.0.1) (λ r. Ok ((a.0.0, r.0), r.1)) (x, rest) a.2 in
    let t = each_first bytes a.0.0 a.0.1 fits a.1 in
    let u = each_second a.0.1 b.0.0 b.0.1 t.rest_fits b.1 in
    subst (λ (y : (A × B) × List ℕ). Takes bytes (f y.0.0 ++ g y.0.1) y.1) (ok_is ((a.0.0, b.0.0), b.0.1) (x, rest) b.2) (Takes-then bytes (f a.0.0) a.0.1 (g b.0.0) b.0.1 t u)

found_ok : {A : Type 0} (o : Option A) (f : Fault) (x : A) → or_fault o f ≡ Ok x → o ≡ Some x
found_ok None f x e = absurd cc
found_ok (Some y) f x e = ap Some (ok_is y x e)

flags_take : (names : List (List ℕ)) (n : ℕ) (bytes : List ℕ) (picked : List (List ℕ)) (rest : List ℕ) → IsBytes bytes → flags_at names n bytes ≡ Ok (picked, rest) → Takes bytes (flat_map text_bytes picked) rest × (length picked ≡ n)
flags_take names zero bytes picked rest fits e =
    subst (λ (y : List (List ℕ) × List ℕ). Takes bytes (flat_map text_bytes y.0) y.1 × (length y.0 ≡ 0)) (ok_is ([], bytes) (picked, rest) e) (record { parts = refl; rest_fits = fits }, refl)
flags_take names (suc n) bytes picked rest fits e =
    let a = bind_ok (name_at bytes) (λ name. or_fault (names_behind names name.0) (fault kinds.Name bytes) >>= λ later. flags_at later n name.1 >>= λ others. Ok (name.0 ∷ others.0, others.1)) (picked, rest) e in
    let b = bind_ok (or_fault (names_behind names a.0.0) (fault kinds.Name bytes)) (λ later. flags_at later n a.0.1 >>= λ others. Ok (a.0.0 ∷ others.0, others.1)) (picked, rest) a.2 in
    let c = bind_ok (flags_at b.0 n a.0.1) (λ others. Ok (a.0.0 ∷ others.0, others.1)) (picked, rest) b.2 in
    let t = name_takes bytes a.0.0 a.0.1 fits a.1 in
    let more = flags_take b.0 n a.0.1 c.0.0 c.0.1 t.rest_fits c.1 in
    subst (λ (y : List (List ℕ) × List ℕ). Takes bytes (flat_map text_bytes y.0) y.1 × (length y.0 ≡ suc n)) (ok_is (a.0.0 ∷ c.0.0, c.0.1) (picked, rest) c.2)
    (Takes-then bytes (text_bytes a.0.0) a.0.1 (flat_map text_bytes c.0.0) c.0.1 t more.0, ap suc more.1)

-- ---- a value

moved : (bytes : List ℕ) (v w : Value) (r s : List ℕ) → done {A = Value × List ℕ} (v, r) ≡ done (w, s) → Takes bytes (bytes_of v) r → Takes bytes (bytes_of w) s
moved bytes v w r s e t = subst (λ (x : Value × List ℕ). Takes bytes (bytes_of x.0) x.1) (ok_is (v, r) (w, s) e) t

-- the value of a case
record CaseTaken (name bytes : List ℕ) (v : Value) (rest : List ℕ) : Type 0 where
  pub payload : MaybeValue
  pub is : value.variant name payload ≡ v
  pub takes : Takes bytes (payload_bytes payload) rest

case_taken : (P : MaybeType) (name bytes : List ℕ) (v : Value) (rest : List ℕ) → ((p : MaybeValue) (s : List ℕ) → payload_at P bytes ≡ Ok (p, s) → Takes bytes (payload_bytes p) s) → (◌>>=◌ {B = Value × List ℕ} (payload_at P bytes) (λ x. Ok (value.variant name x.0, x.1))) ≡ Ok (v, rest) → CaseTaken name bytes v rest
case_taken P name bytes v rest each e =
    let a = bind_ok (payload_at P bytes) (λ x. Ok (value.variant name x.0, x.1)) (v, rest) e in
    let same = ok_is (value.variant name a.0.0, a.0.1) (v, rest) a.2 in
    record {
      payload = a.0.0;
      is = ap (λ (x : Value × List ℕ). x.0) same;
      takes = subst (λ (s : List ℕ). Takes bytes (payload_bytes a.0.0) s) (ap (λ (x : Value × List ℕ). x.1) same) (each a.0.0 a.0.1 a.1);
    }

chosen : {A : Type 0} (b : Bool) (x y : Result A Fault) (z : A) (P : Type 0) → (x ≡ Ok z → P) → (y ≡ Ok z → P) → cond b x y ≡ Ok z → P
chosen true x y z P f g e = f e
chosen false x y z P f g e = g e

option_taken : (P : TypeTree) (b : Bool) (bytes r : List ℕ) (v : Value) (rest : List ℕ) → ((w : Value) (s : List ℕ) → value_at P r ≡ Ok (w, s) → Takes r (bytes_of w) s) → Takes bytes (from_bool b ∷ []) r
    → cond b (◌>>=◌ {B = Value × List ℕ} (value_at P r) (λ x. Ok (value.option (a_value x.0), x.1))) (Ok (value.option no_value, r)) ≡ Ok (v, rest) → Takes bytes (bytes_of v) rest
option_taken P true bytes r v rest each t e =
    let a = bind_ok (value_at P r) (λ x. Ok (value.option (a_value x.0), x.1)) (v, rest) e in
    moved bytes (value.option (a_value a.0.0)) v a.0.1 rest a.2 (Takes-then bytes (1 ∷ []) r (bytes_of a.0.0) a.0.1 t (each a.0.0 a.0.1 a.1))
option_taken P false bytes r v rest each t e = moved bytes (value.option no_value) v r rest e t

result_taken : (A B : MaybeType) (b : Bool) (bytes r : List ℕ) (v : Value) (rest : List ℕ) → ((p : MaybeValue) (s : List ℕ) → payload_at A r ≡ Ok (p, s) → Takes r (payload_bytes p) s) → ((p : MaybeValue) (s : List ℕ) → payload_at B r ≡ Ok (p, s) → Takes r (payload_bytes p) s) → Takes bytes (from_bool b ∷ []) r
    → cond b (◌>>=◌ {B = Value × List ℕ} (payload_at B r) (λ x. Ok (value.err x.0, x.1))) (◌>>=◌ {B = Value × List ℕ} (payload_at A r) (λ x. Ok (value.ok x.0, x.1))) ≡ Ok (v, rest) → Takes bytes (bytes_of v) rest
result_taken A B true bytes r v rest each_ok each_err t e =
    let a = bind_ok (payload_at B r) (λ x. Ok (value.err x.0, x.1)) (v, rest) e in
    moved bytes (value.err a.0.0) v a.0.1 rest a.2 (Takes-then bytes (1 ∷ []) r (payload_bytes a.0.0) a.0.1 t (each_err a.0.0 a.0.1 a.1))
result_taken A B false bytes r v rest each_ok each_err t e =
    let a = bind_ok (payload_at A r) (λ x. Ok (value.ok x.0, x.1)) (v, rest) e in
    moved bytes (value.ok a.0.0) v a.0.1 rest a.2 (Takes-then bytes (0 ∷ []) r (payload_bytes a.0.0) a.0.1 t (each_ok a.0.0 a.0.1 a.1))

mutual
  pub value_takes : (T : TypeTree) (bytes : List ℕ) (v : Value) (rest : List ℕ) → IsBytes bytes → value_at T bytes ≡ Ok (v, rest) → Takes bytes (bytes_of v) rest
  value_takes (type.simple S) bytes v rest fits e =
      let a = bind_ok (leaf_at S bytes) (λ x. Ok (value.leaf x.0, x.1)) (v, rest) e in
      moved bytes (value.leaf a.0.0) v a.0.1 rest a.2 (leaf_takes S bytes a.0.0 a.0.1 fits a.1)
  value_takes (type.unreadable kind) bytes v rest fits e = absurd cc
  value_takes (type.list E) bytes v rest fits e =
      let a = bind_ok (number_at w64 bytes) (λ n. times (value_at E) n.0 n.1 >>= λ x. Ok (value.list (values x.0), x.1)) (v, rest) e in
      let b = bind_ok (times (value_at E) a.0.0 a.0.1) (λ x. Ok (value.list (values x.0), x.1)) (v, rest) a.2 in
      let t = number_takes w64 (2 ^ 64) wide64 bytes a.0.0 a.0.1 fits a.1 in
      let u = times_take (value_at E) bytes_of (value_takes E) a.0.0 a.0.1 b.0.0 b.0.1 t.0.rest_fits b.1 in
      let both = Takes-then bytes (count_bytes a.0.0) a.0.1 (flat_map bytes_of b.0.0) b.0.1 t.0 u.0 in
      moved bytes (value.list (values b.0.0)) v b.0.1 rest b.2 (subst (λ (s : List ℕ). Takes bytes s b.0.1) (list_bytes b.0.0 a.0.0 u.1) both)
  value_takes (type.fixed E n) bytes v rest fits e =
      let a = bind_ok (row_at (value_at E) n bytes) (λ x. Ok (value.fixed (values x.0), x.1)) (v, rest) e in
      let t = row_takes (value_at E) (value_takes E) n bytes a.0.0 a.0.1 fits a.1 in
      moved bytes (value.fixed (values a.0.0)) v a.0.1 rest a.2 (subst (λ (s : List ℕ). Takes bytes s a.0.1) (row_rows a.0.0) t)
  value_takes (type.record_type fs) bytes v rest fits e =
      let a = bind_ok (field_row_at fs bytes) (λ x. Ok (value.record_value x.0, x.1)) (v, rest) e in
      moved bytes (value.record_value a.0.0) v a.0.1 rest a.2 (field_row_takes fs bytes a.0.0 a.0.1 fits a.1)
  value_takes (type.tuple Ts) bytes v rest fits e =
      let a = bind_ok (type_row_at Ts bytes) (λ x. Ok (value.tuple (values x.0), x.1)) (v, rest) e in
      let t = type_row_takes Ts bytes a.0.0 a.0.1 fits a.1 in
      moved bytes (value.tuple (values a.0.0)) v a.0.1 rest a.2 (subst (λ (s : List ℕ). Takes bytes s a.0.1) (row_rows a.0.0) t)
  value_takes (type.variant cs) bytes v rest fits e =
      let a = bind_ok (name_at bytes) (λ name. case_at cs bytes name.0 name.1) (v, rest) e in
      let t = name_takes bytes a.0.0 a.0.1 fits a.1 in
      let c = case_takes cs bytes a.0.0 a.0.1 v rest t.rest_fits a.2 in
      subst (λ (w : Value). Takes bytes (bytes_of w) rest) c.is (Takes-then bytes (text_bytes a.0.0) a.0.1 (payload_bytes c.payload) rest t c.takes)
  value_takes (type.enum names) bytes v rest fits e =
      let a = bind_ok (name_at bytes) (λ name. cond (is_one_of names name.0) (Ok (value.enum name.0, name.1)) (Err (fault kinds.Name bytes))) (v, rest) e in
      let g = passed_ok (is_one_of names a.0.0) (fault kinds.Name bytes) (value.enum a.0.0, a.0.1) (v, rest) a.2 in
      subst (λ (x : Value × List ℕ). Takes bytes (bytes_of x.0) x.1) g.1 (name_takes bytes a.0.0 a.0.1 fits a.1)
  value_takes (type.option P) bytes v rest fits e =
      let a = bind_ok (choice_at bytes) (λ some. cond some.0 (value_at P some.1 >>= λ x. Ok (value.option (a_value x.0), x.1)) (Ok (value.option no_value, some.1))) (v, rest) e in
      let t = choice_takes bytes a.0.0 a.0.1 fits a.1 in
      option_taken P a.0.0 bytes a.0.1 v rest (λ w s h. value_takes P a.0.1 w s t.rest_fits h) t a.2
  value_takes (type.result A B) bytes v rest fits e =
      let a = bind_ok (choice_at bytes) (λ err. cond err.0 (payload_at B err.1 >>= λ x. Ok (value.err x.0, x.1)) (payload_at A err.1 >>= λ x. Ok (value.ok x.0, x.1))) (v, rest) e in
      let t = choice_takes bytes a.0.0 a.0.1 fits a.1 in
      result_taken A B a.0.0 bytes a.0.1 v rest (λ p s h. payload_takes A a.0.1 p s t.rest_fits h) (λ p s h. payload_takes B a.0.1 p s t.rest_fits h) t a.2
  value_takes (type.flags names) bytes v rest fits e =
      let a = bind_ok (number_at w64 bytes) (λ n. flags_at names n.0 n.1 >>= λ x. Ok (value.flags x.0, x.1)) (v, rest) e in
      let b = bind_ok (flags_at names a.0.0 a.0.1) (λ x. Ok (value.flags x.0, x.1)) (v, rest) a.2 in
      let t = number_takes w64 (2 ^ 64) wide64 bytes a.0.0 a.0.1 fits a.1 in
      let u = flags_take names a.0.0 a.0.1 b.0.0 b.0.1 t.0.rest_fits b.1 in
      let both = Takes-then bytes (count_bytes a.0.0) a.0.1 (flat_map text_bytes b.0.0) b.0.1 t.0 u.0 in
      moved bytes (value.flags b.0.0) v b.0.1 rest b.2
      (subst (λ (s : List ℕ). Takes bytes s b.0.1) (ap (λ (k : ℕ). count_bytes k ++ flat_map text_bytes b.0.0) (sym u.1) ∙ ap (λ (s : List ℕ). count_bytes (length b.0.0) ++ s) (name_rows b.0.0)) both)
  value_takes (type.map K V) bytes v rest fits e =
      let a = bind_ok (number_at w64 bytes) (λ n. times (pair_at (leaf_at K) (value_at V)) n.0 n.1 >>= λ x. Ok (value.map (entries x.0), x.1)) (v, rest) e in
      let b = bind_ok (times (pair_at (leaf_at K) (value_at V)) a.0.0 a.0.1) (λ x. Ok (value.map (entries x.0), x.1)) (v, rest) a.2 in
      let t = number_takes w64 (2 ^ 64) wide64 bytes a.0.0 a.0.1 fits a.1 in
      let u = times_take (pair_at (leaf_at K) (value_at V)) pair_bytes (pair_takes (leaf_at K) (value_at V) leaf_bytes bytes_of (leaf_takes K) (value_takes V)) a.0.0 a.0.1 b.0.0 b.0.1 t.0.rest_fits b.1 in
      let both = Takes-then bytes (count_bytes a.0.0) a.0.1 (flat_map pair_bytes b.0.0) b.0.1 t.0 u.0 in
      moved bytes (value.map (entries b.0.0)) v b.0.1 rest b.2 (subst (λ (s : List ℕ). Takes bytes s b.0.1) (map_bytes b.0.0 a.0.0 u.1) both)

  payload_takes : (P : MaybeType) (bytes : List ℕ) (p : MaybeValue) (rest : List ℕ) → IsBytes bytes → payload_at P bytes ≡ Ok (p, rest) → Takes bytes (payload_bytes p) rest
  payload_takes no_type bytes p rest fits e =
      subst (λ (y : MaybeValue × List ℕ). Takes bytes (payload_bytes y.0) y.1) (ok_is (no_value, bytes) (p, rest) e) (record { parts = refl; rest_fits = fits })
  payload_takes (a_type T) bytes p rest fits e =
      let a = bind_ok (value_at T bytes) (λ x. Ok (a_value x.0, x.1)) (p, rest) e in
      subst (λ (y : MaybeValue × List ℕ). Takes bytes (payload_bytes y.0) y.1) (ok_is (a_value a.0.0, a.0.1) (p, rest) a.2) (value_takes T bytes a.0.0 a.0.1 fits a.1)

  types_take : (Ts : Types) (bytes : List ℕ) (vs : List Value) (rest : List ℕ) → IsBytes bytes → types_at Ts bytes ≡ Ok (vs, rest) → Takes bytes (flat_map bytes_of vs) rest
  types_take no_types bytes vs rest fits e =
      subst (λ (y : List Value × List ℕ). Takes bytes (flat_map bytes_of y.0) y.1) (ok_is ([], bytes) (vs, rest) e) (record { parts = refl; rest_fits = fits })
  types_take (type_and T more) bytes vs rest fits e =
      let a = bind_ok (value_at T bytes) (λ first. types_at more first.1 >>= λ others. Ok (first.0 ∷ others.0, others.1)) (vs, rest) e in
      let b = bind_ok (types_at more a.0.1) (λ others. Ok (a.0.0 ∷ others.0, others.1)) (vs, rest) a.2 in
      let t = value_takes T bytes a.0.0 a.0.1 fits a.1 in
      subst (λ (y : List Value × List ℕ). Takes bytes (flat_map bytes_of y.0) y.1) (ok_is (a.0.0 ∷ b.0.0, b.0.1) (vs, rest) b.2)
      (Takes-then bytes (bytes_of a.0.0) a.0.1 (flat_map bytes_of b.0.0) b.0.1 t (types_take more a.0.1 b.0.0 b.0.1 t.rest_fits b.1))

  type_row_takes : (Ts : Types) (bytes : List ℕ) (vs : List Value) (rest : List ℕ) → IsBytes bytes → type_row_at Ts bytes ≡ Ok (vs, rest) → Takes bytes (row_or_zero bytes_of vs) rest
  type_row_takes no_types bytes vs rest fits e =
      let a = bind_ok (zero_at bytes) (λ r. Ok ([], r)) (vs, rest) e in
      subst (λ (y : List Value × List ℕ). Takes bytes (row_or_zero bytes_of y.0) y.1) (ok_is ([], a.0) (vs, rest) a.2) (zero_takes bytes a.0 fits a.1)
  type_row_takes (type_and T more) bytes vs rest fits e =
      let a = bind_ok (value_at T bytes) (λ first. types_at more first.1 >>= λ others. Ok (first.0 ∷ others.0, others.1)) (vs, rest) e in
      let b = bind_ok (types_at more a.0.1) (λ others. Ok (a.0.0 ∷ others.0, others.1)) (vs, rest) a.2 in
      let t = value_takes T bytes a.0.0 a.0.1 fits a.1 in
      subst (λ (y : List Value × List ℕ). Takes bytes (row_or_zero bytes_of y.0) y.1) (ok_is (a.0.0 ∷ b.0.0, b.0.1) (vs, rest) b.2)
      (Takes-then bytes (bytes_of a.0.0) a.0.1 (flat_map bytes_of b.0.0) b.0.1 t (types_take more a.0.1 b.0.0 b.0.1 t.rest_fits b.1))

  fields_take : (fs : Fields) (bytes : List ℕ) (all : FieldValues) (rest : List ℕ) → IsBytes bytes → fields_at fs bytes ≡ Ok (all, rest) → Takes bytes (field_bytes all) rest
  fields_take type.no_fields bytes all rest fits e =
      subst (λ (y : FieldValues × List ℕ). Takes bytes (field_bytes y.0) y.1) (ok_is (value.no_fields, bytes) (all, rest) e) (record { parts = refl; rest_fits = fits })
  fields_take (type.field name T more) bytes all rest fits e =
      let a = bind_ok (value_at T bytes) (λ first. fields_at more first.1 >>= λ others. Ok (value.field name first.0 others.0, others.1)) (all, rest) e in
      let b = bind_ok (fields_at more a.0.1) (λ others. Ok (value.field name a.0.0 others.0, others.1)) (all, rest) a.2 in
      let t = value_takes T bytes a.0.0 a.0.1 fits a.1 in
      subst (λ (y : FieldValues × List ℕ). Takes bytes (field_bytes y.0) y.1) (ok_is (value.field name a.0.0 b.0.0, b.0.1) (all, rest) b.2)
      (Takes-then bytes (bytes_of a.0.0) a.0.1 (field_bytes b.0.0) b.0.1 t (fields_take more a.0.1 b.0.0 b.0.1 t.rest_fits b.1))

  field_row_takes : (fs : Fields) (bytes : List ℕ) (all : FieldValues) (rest : List ℕ) → IsBytes bytes → field_row_at fs bytes ≡ Ok (all, rest) → Takes bytes (field_row_bytes all) rest
  field_row_takes type.no_fields bytes all rest fits e =
      let a = bind_ok (zero_at bytes) (λ r. Ok (value.no_fields, r)) (all, rest) e in
      subst (λ (y : FieldValues × List ℕ). Takes bytes (field_row_bytes y.0) y.1) (ok_is (value.no_fields, a.0) (all, rest) a.2) (zero_takes bytes a.0 fits a.1)
  field_row_takes (type.field name T more) bytes all rest fits e =
      let a = bind_ok (value_at T bytes) (λ first. fields_at more first.1 >>= λ others. Ok (value.field name first.0 others.0, others.1)) (all, rest) e in
      let b = bind_ok (fields_at more a.0.1) (λ others. Ok (value.field name a.0.0 others.0, others.1)) (all, rest) a.2 in
      let t = value_takes T bytes a.0.0 a.0.1 fits a.1 in
      subst (λ (y : FieldValues × List ℕ). Takes bytes (field_row_bytes y.0) y.1) (ok_is (value.field name a.0.0 b.0.0, b.0.1) (all, rest) b.2)
      (Takes-then bytes (bytes_of a.0.0) a.0.1 (field_bytes b.0.0) b.0.1 t (fields_take more a.0.1 b.0.0 b.0.1 t.rest_fits b.1))

  case_takes : (cs : Cases) (start name bytes : List ℕ) (v : Value) (rest : List ℕ) → IsBytes bytes → case_at cs start name bytes ≡ Ok (v, rest) → CaseTaken name bytes v rest
  case_takes no_cases start name bytes v rest fits e = absurd cc
  case_takes (case_of other P more) start name bytes v rest fits e =
      chosen (bytes_eq name other) (◌>>=◌ {B = Value × List ℕ} (payload_at P bytes) (λ x. Ok (value.variant name x.0, x.1))) (case_at more start name bytes) (v, rest) (CaseTaken name bytes v rest)
      (case_taken P name bytes v rest (λ p s h. payload_takes P bytes p s fits h))
      (case_takes more start name bytes v rest fits) e

-- ---- a whole tape

pub end_is : (v w : Value) (rest : List ℕ) → end_at v rest ≡ Ok w → (rest ≡ []) × (v ≡ w)
end_is v w [] e = (refl, ok_is v w e)
end_is v w (b ∷ rest) e = absurd cc

pub passed : {A : Type 0} (b : Bool) (r : Result A Fault) (f : Fault) (v : A) → cond b r (Err f) ≡ Ok v → (b ≡ true) × (r ≡ Ok v)
passed true r f v e = (refl, e)
passed false r f v e = absurd cc

-- what is read is the value of which the bytes are the tape
pub tape_taken : (T : TypeTree) (bytes : List ℕ) (v : Value) → IsBytes bytes → tape_at T bytes ≡ Ok v → bytes ≡ tape v
tape_taken T bytes v fits e =
    let a = bind_ok (number_at w8 bytes) (λ version. cond (eqb version.0 1) (value_at T version.1 >>= λ x. end_at x.0 x.1) (Err (fault kinds.Version bytes))) v e in
    let g = passed (eqb a.0.0 1) (value_at T a.0.1 >>= λ x. end_at x.0 x.1) (fault kinds.Version bytes) v a.2 in
    let t = number_takes w8 (2 ^ 8) wide8 bytes a.0.0 a.0.1 fits a.1 in
    let front : bytes ≡ 1 ∷ a.0.1 = subst (λ (n : ℕ). bytes ≡ to_le_bytes w8 n ++ a.0.1) (eqb-true a.0.0 1 g.0) t.0.parts in
    let b = bind_ok (value_at T a.0.1) (λ x. end_at x.0 x.1) v g.1 in
    let ended = end_is b.0.0 v b.0.1 b.2 in
    let u = value_takes T a.0.1 b.0.0 b.0.1 t.0.rest_fits b.1 in
    let whole : a.0.1 ≡ bytes_of b.0.0 = u.parts ∙ (ap (λ (s : List ℕ). bytes_of b.0.0 ++ s) ended.0 ∙ append-nil (bytes_of b.0.0)) in
    front ∙ ap (λ (s : List ℕ). 1 ∷ s) (whole ∙ ap bytes_of ended.1)
