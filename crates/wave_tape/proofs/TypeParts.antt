-- A type of a kind is made of the parts that it answers.
use Rattle.std.proofs.Common.{◌≡◌, ◌≢◌, ℕ, List, Bool, true, false, Err, ◌⊎◌, inl, inr, Option, Some, None, refl, sym, ap, ◌∙◌}
use Rattle.wave_wasm.specs.declared.wasm.WasmTypeKind.{WasmTypeKind}
use Rattle.wave_wasm.specs.declared.wasm.WasmTypeKind.TheVariants as kinds
use Rattle.wave_wasm.specs.Types as type
use Rattle.wave_wasm.specs.Types.{TypeTree, MaybeType, Types, Fields, Simple, no_type, a_type, kind_of, simple_kind, list_part, list_length, record_parts, tuple_parts, option_part, result_parts, map_parts, field_list, type_list, type_option, maybe_type}
use Rattle.wave_wasm.proofs.TypesOfValues.TypeOfKind.{not_simple, simple_is}
use Rattle.wave_tape.specs.declared.error.TapeErrorKind.TheVariants as errors
use Rattle.wave_tape.specs.Private.Kinds.{IsNoText, IsNotUnsigned}
use Rattle.wave_tape.specs.Reading.{fault, value_at}

pub list_type : (T E : TypeTree) → kind_of T ≡ kinds.List → Some E ≡ list_part T → T ≡ type.list E
list_type (type.list D) E k e = cc
list_type (type.simple S) E k e = absurd (not_simple kinds.List S (sym k) refl)
list_type (type.unreadable type.f32) E k e = absurd (cc)
list_type (type.unreadable type.f64) E k e = absurd (cc)
list_type (type.unreadable type.unsupported) E k e = absurd (cc)
list_type _ E k e = absurd (cc)

pub list_some : (T : TypeTree) → kind_of T ≡ kinds.List → None ≡ list_part T → ⊥
list_some (type.list D) k e = absurd (cc)
list_some (type.simple S) k e = absurd (not_simple kinds.List S (sym k) refl)
list_some (type.unreadable type.f32) k e = absurd (cc)
list_some (type.unreadable type.f64) k e = absurd (cc)
list_some (type.unreadable type.unsupported) k e = absurd (cc)
list_some _ k e = absurd (cc)

pub fixed_type : (T E : TypeTree) (n : ℕ) → kind_of T ≡ kinds.FixedLengthList → Some E ≡ list_part T → Some n ≡ list_length T → T ≡ type.fixed E n
fixed_type (type.fixed D m) E n k e f = cc
fixed_type (type.simple S) E n k e f = absurd (not_simple kinds.FixedLengthList S (sym k) refl)
fixed_type (type.unreadable type.f32) E n k e f = absurd (cc)
fixed_type (type.unreadable type.f64) E n k e f = absurd (cc)
fixed_type (type.unreadable type.unsupported) E n k e f = absurd (cc)
fixed_type _ E n k e f = absurd (cc)

pub fixed_some : (T : TypeTree) → kind_of T ≡ kinds.FixedLengthList → None ≡ list_part T → ⊥
fixed_some (type.fixed D m) k e = absurd (cc)
fixed_some (type.simple S) k e = absurd (not_simple kinds.FixedLengthList S (sym k) refl)
fixed_some (type.unreadable type.f32) k e = absurd (cc)
fixed_some (type.unreadable type.f64) k e = absurd (cc)
fixed_some (type.unreadable type.unsupported) k e = absurd (cc)
fixed_some _ k e = absurd (cc)

pub length_some : (T : TypeTree) → kind_of T ≡ kinds.FixedLengthList → None ≡ list_length T → ⊥
length_some (type.fixed D m) k e = absurd (cc)
length_some (type.simple S) k e = absurd (not_simple kinds.FixedLengthList S (sym k) refl)
length_some (type.unreadable type.f32) k e = absurd (cc)
length_some (type.unreadable type.f64) k e = absurd (cc)
length_some (type.unreadable type.unsupported) k e = absurd (cc)
length_some _ k e = absurd (cc)

-- a tuple of these types
pub record IsTuple (T : TypeTree) (parts : List TypeTree) : Type 0 where
  pub types : Types
  pub is : T ≡ type.tuple types
  pub parts_are : parts ≡ type_list types

pub tuple_type : (T : TypeTree) (parts : List TypeTree) → kind_of T ≡ kinds.Tuple → parts ≡ tuple_parts T → IsTuple T parts
tuple_type (type.tuple Ts) parts k e = record { types = Ts; is = refl; parts_are = e }
tuple_type (type.simple S) parts k e = absurd (not_simple kinds.Tuple S (sym k) refl)
tuple_type (type.unreadable type.f32) parts k e = absurd (cc)
tuple_type (type.unreadable type.f64) parts k e = absurd (cc)
tuple_type (type.unreadable type.unsupported) parts k e = absurd (cc)
tuple_type _ parts k e = absurd (cc)

-- a record of these fields
pub record IsRecordType (T : TypeTree) (parts : List (List ℕ × TypeTree)) : Type 0 where
  pub fields : Fields
  pub is : T ≡ type.record_type fields
  pub parts_are : parts ≡ field_list fields

pub record_type : (T : TypeTree) (parts : List (List ℕ × TypeTree)) → kind_of T ≡ kinds.Record → parts ≡ record_parts T → IsRecordType T parts
record_type (type.record_type fs) parts k e = record { fields = fs; is = refl; parts_are = e }
record_type (type.simple S) parts k e = absurd (not_simple kinds.Record S (sym k) refl)
record_type (type.unreadable type.f32) parts k e = absurd (cc)
record_type (type.unreadable type.f64) parts k e = absurd (cc)
record_type (type.unreadable type.unsupported) parts k e = absurd (cc)
record_type _ parts k e = absurd (cc)

pub option_type : (T P : TypeTree) → kind_of T ≡ kinds.Option → Some P ≡ option_part T → T ≡ type.option P
option_type (type.option Q) P k e = cc
option_type (type.simple S) P k e = absurd (not_simple kinds.Option S (sym k) refl)
option_type (type.unreadable type.f32) P k e = absurd (cc)
option_type (type.unreadable type.f64) P k e = absurd (cc)
option_type (type.unreadable type.unsupported) P k e = absurd (cc)
option_type _ P k e = absurd (cc)

pub option_some : (T : TypeTree) → kind_of T ≡ kinds.Option → None ≡ option_part T → ⊥
option_some (type.option Q) k e = absurd (cc)
option_some (type.simple S) k e = absurd (not_simple kinds.Option S (sym k) refl)
option_some (type.unreadable type.f32) k e = absurd (cc)
option_some (type.unreadable type.f64) k e = absurd (cc)
option_some (type.unreadable type.unsupported) k e = absurd (cc)
option_some _ k e = absurd (cc)

payload_back : (P : MaybeType) (o : Option TypeTree) → o ≡ type_option P → P ≡ maybe_type o
payload_back no_type None e = refl
payload_back no_type (Some Q) e = absurd (cc)
payload_back (a_type T) None e = absurd (cc)
payload_back (a_type T) (Some Q) e = cc

some_is : {A : Type 0} (x y : A) → Some x ≡ Some y → x ≡ y
some_is x y e = cc

results : (A B C D : MaybeType) → A ≡ C → B ≡ D → type.result A B ≡ type.result C D
results A B C D e f = ap (λ (X : MaybeType). type.result X B) e ∙ ap (λ (X : MaybeType). type.result C X) f

pub result_type : (T : TypeTree) (a b : Option TypeTree) → kind_of T ≡ kinds.Result → Some (a, b) ≡ result_parts T → T ≡ type.result (maybe_type a) (maybe_type b)
result_type (type.result A B) a b k e =
    let same = some_is (a, b) (type_option A, type_option B) e in
    results A B (maybe_type a) (maybe_type b) (payload_back A a (ap (λ (p : Option TypeTree × Option TypeTree). p.0) same)) (payload_back B b (ap (λ (p : Option TypeTree × Option TypeTree). p.1) same))
result_type (type.simple S) a b k e = absurd (not_simple kinds.Result S (sym k) refl)
result_type (type.unreadable type.f32) a b k e = absurd (cc)
result_type (type.unreadable type.f64) a b k e = absurd (cc)
result_type (type.unreadable type.unsupported) a b k e = absurd (cc)
result_type _ a b k e = absurd (cc)

pub result_some : (T : TypeTree) → kind_of T ≡ kinds.Result → None ≡ result_parts T → ⊥
result_some (type.result A B) k e = absurd (cc)
result_some (type.simple S) k e = absurd (not_simple kinds.Result S (sym k) refl)
result_some (type.unreadable type.f32) k e = absurd (cc)
result_some (type.unreadable type.f64) k e = absurd (cc)
result_some (type.unreadable type.unsupported) k e = absurd (cc)
result_some _ k e = absurd (cc)

-- a map of these types
pub record IsMapType (T K V : TypeTree) : Type 0 where
  pub key : Simple
  pub is : T ≡ type.map key V
  pub key_is : K ≡ type.simple key

pub map_type : (T K V : TypeTree) → kind_of T ≡ kinds.Map → Some (K, V) ≡ map_parts T → IsMapType T K V
map_type (type.map L W) K V k e =
    let same = some_is (K, V) (type.simple L, W) e in
    record { key = L; is = ap (λ (U : TypeTree). type.map L U) (sym (ap (λ (p : TypeTree × TypeTree). p.1) same)); key_is = ap (λ (p : TypeTree × TypeTree). p.0) same }
map_type (type.simple S) K V k e = absurd (not_simple kinds.Map S (sym k) refl)
map_type (type.unreadable type.f32) K V k e = absurd (cc)
map_type (type.unreadable type.f64) K V k e = absurd (cc)
map_type (type.unreadable type.unsupported) K V k e = absurd (cc)
map_type _ K V k e = absurd (cc)

pub map_some : (T : TypeTree) → kind_of T ≡ kinds.Map → None ≡ map_parts T → ⊥
map_some (type.map L W) k e = absurd (cc)
map_some (type.simple S) k e = absurd (not_simple kinds.Map S (sym k) refl)
map_some (type.unreadable type.f32) k e = absurd (cc)
map_some (type.unreadable type.f64) k e = absurd (cc)
map_some (type.unreadable type.unsupported) k e = absurd (cc)
map_some _ k e = absurd (cc)

-- ---- kinds of one token, and kinds without values

abbrev is_unreadable : WasmTypeKind → Bool
is_unreadable kinds.F32 = true
is_unreadable kinds.F64 = true
is_unreadable kinds.Unsupported = true
is_unreadable _ = false

which_of : (k : WasmTypeKind) → (k ≡ kinds.F32) ⊎ ((k ≡ kinds.F64) ⊎ (k ≡ kinds.Unsupported)) → (j : WasmTypeKind) → k ≡ j → is_unreadable j ≡ true
which_of k (inl is) j e = ap is_unreadable (sym e ∙ is)
which_of k (inr (inl is)) j e = ap is_unreadable (sym e ∙ is)
which_of k (inr (inr is)) j e = ap is_unreadable (sym e ∙ is)

simple_apart : (S : Simple) → is_unreadable (simple_kind S) ≡ true → ⊥
simple_apart type.bool h = absurd (cc)
simple_apart (type.whole type.s8) h = absurd (cc)
simple_apart (type.whole type.s16) h = absurd (cc)
simple_apart (type.whole type.s32) h = absurd (cc)
simple_apart (type.whole type.s64) h = absurd (cc)
simple_apart (type.whole type.u8) h = absurd (cc)
simple_apart (type.whole type.u16) h = absurd (cc)
simple_apart (type.whole type.u32) h = absurd (cc)
simple_apart (type.whole type.u64) h = absurd (cc)
simple_apart type.char h = absurd (cc)
simple_apart type.string h = absurd (cc)

of_simple : (T : TypeTree) (k : WasmTypeKind) → k ≡ kind_of T → (S : Simple) → k ≡ simple_kind S → (R : Simple) × (T ≡ type.simple R) × (k ≡ simple_kind R)
of_simple T k e S is = (S, simple_is S T (sym is ∙ e), is)

-- a type of a kind without values
pub unreadable_at : (T : TypeTree) (bytes : List ℕ) (k : WasmTypeKind) → k ≡ kind_of T → (k ≡ kinds.F32) ⊎ ((k ≡ kinds.F64) ⊎ (k ≡ kinds.Unsupported)) → value_at T bytes ≡ Err (fault errors.Unsupported bytes)
unreadable_at T bytes k e which = without T (which_of k which (kind_of T) e)
  where
    without : (T : TypeTree) → is_unreadable (kind_of T) ≡ true → value_at T bytes ≡ Err (fault errors.Unsupported bytes)
    without (type.unreadable u) h = refl
    without (type.simple S) h = absurd (simple_apart S h)
    without _ h = absurd (cc)

-- a type of a kind of one token
pub simple_of_kind : (T : TypeTree) (k : WasmTypeKind) → k ≡ kind_of T
    → (k ≡ kinds.Bool) ⊎ ((k ≡ kinds.S8) ⊎ ((k ≡ kinds.S16) ⊎ ((k ≡ kinds.S32) ⊎ ((k ≡ kinds.S64) ⊎ ((k ≡ kinds.U8) ⊎ ((k ≡ kinds.U16) ⊎ ((k ≡ kinds.U32) ⊎ ((k ≡ kinds.U64) ⊎ ((k ≡ kinds.Char) ⊎ (k ≡ kinds.String))))))))))
    → (S : Simple) × (T ≡ type.simple S) × (k ≡ simple_kind S)
simple_of_kind T k e (inl is) = of_simple T k e type.bool is
simple_of_kind T k e (inr (inl is)) = of_simple T k e (type.whole type.s8) is
simple_of_kind T k e (inr (inr (inl is))) = of_simple T k e (type.whole type.s16) is
simple_of_kind T k e (inr (inr (inr (inl is)))) = of_simple T k e (type.whole type.s32) is
simple_of_kind T k e (inr (inr (inr (inr (inl is))))) = of_simple T k e (type.whole type.s64) is
simple_of_kind T k e (inr (inr (inr (inr (inr (inl is)))))) = of_simple T k e (type.whole type.u8) is
simple_of_kind T k e (inr (inr (inr (inr (inr (inr (inl is))))))) = of_simple T k e (type.whole type.u16) is
simple_of_kind T k e (inr (inr (inr (inr (inr (inr (inr (inl is)))))))) = of_simple T k e (type.whole type.u32) is
simple_of_kind T k e (inr (inr (inr (inr (inr (inr (inr (inr (inl is))))))))) = of_simple T k e (type.whole type.u64) is
simple_of_kind T k e (inr (inr (inr (inr (inr (inr (inr (inr (inr (inl is)))))))))) = of_simple T k e type.char is
simple_of_kind T k e (inr (inr (inr (inr (inr (inr (inr (inr (inr (inr is)))))))))) = of_simple T k e type.string is

-- a kind that is none of one token
pub no_whole : (k : WasmTypeKind) → IsNoText k → IsNotUnsigned k → k ≢ kinds.S8 → k ≢ kinds.S16 → k ≢ kinds.S32 → k ≢ kinds.S64 → (R : Simple) → k ≡ simple_kind R → ⊥
no_whole k text unsigned s8 s16 s32 s64 type.bool e = text.0 e
no_whole k text unsigned s8 s16 s32 s64 (type.whole type.s8) e = s8 e
no_whole k text unsigned s8 s16 s32 s64 (type.whole type.s16) e = s16 e
no_whole k text unsigned s8 s16 s32 s64 (type.whole type.s32) e = s32 e
no_whole k text unsigned s8 s16 s32 s64 (type.whole type.s64) e = s64 e
no_whole k text unsigned s8 s16 s32 s64 (type.whole type.u8) e = unsigned.0 e
no_whole k text unsigned s8 s16 s32 s64 (type.whole type.u16) e = unsigned.1 e
no_whole k text unsigned s8 s16 s32 s64 (type.whole type.u32) e = unsigned.2 e
no_whole k text unsigned s8 s16 s32 s64 (type.whole type.u64) e = unsigned.3 e
no_whole k text unsigned s8 s16 s32 s64 type.char e = text.1 e
no_whole k text unsigned s8 s16 s32 s64 type.string e = text.2 e
