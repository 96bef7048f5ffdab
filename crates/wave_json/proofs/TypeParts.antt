-- A type of a kind is made of the parts that it answers.
use Rattle.std.proofs.Common.{◌≡◌, ◌≢◌, rules, false, true, Bool, ◌⊎◌, inl, inr, ℕ, List, Option, Some, None, refl, sym, ap, ◌∙◌}
use denote.Enum.Bare.{sameb, same_true, same_false}
use Rattle.wave_wasm.specs.contracts.wasm.WasmTypeKind.{the_type}
use Rattle.wave_wasm.specs.declared.wasm.WasmTypeKind.{WasmTypeKind}
use Rattle.wave_wasm.specs.declared.wasm.WasmTypeKind.TheVariants as kinds
use Rattle.wave_wasm.specs.ConstructorContracts.{IsOfListKind}
use Rattle.wave_wasm.specs.Types as type
use Rattle.wave_wasm.specs.Types.{TypeTree, MaybeType, Types, Fields, Simple, no_type, a_type, kind_of, simple_kind, list_part, record_parts, tuple_parts, option_part, result_parts, map_parts, field_list, type_list, type_option, maybe_type}
use Rattle.wave_wasm.proofs.TypesOfValues.TypeOfKind.{not_simple}

-- no simple type is a list
no_list_kind : (S : Simple) → IsOfListKind (simple_kind S) → ⊥
no_list_kind type.bool h = h
no_list_kind (type.whole type.s8) h = h
no_list_kind (type.whole type.s16) h = h
no_list_kind (type.whole type.s32) h = h
no_list_kind (type.whole type.s64) h = h
no_list_kind (type.whole type.u8) h = h
no_list_kind (type.whole type.u16) h = h
no_list_kind (type.whole type.u32) h = h
no_list_kind (type.whole type.u64) h = h
no_list_kind type.char h = h
no_list_kind type.string h = h

-- a list of this element type, or one of a fixed length
abbrev pub IsListType : TypeTree → TypeTree → Type 0
IsListType T E = (T ≡ type.list E) ⊎ ((n : ℕ) × (T ≡ type.fixed E n))

pub list_type : (T E : TypeTree) → IsOfListKind (kind_of T) → Some E ≡ list_part T → IsListType T E
list_type (type.list D) E k e = inl (cc)
list_type (type.fixed D n) E k e = let same : E ≡ D = cc in inr (n, ap (λ (X : TypeTree). type.fixed X n) (sym same))
list_type (type.simple S) E k e = absurd (no_list_kind S k)
list_type (type.unreadable type.f32) E k e = absurd k
list_type (type.unreadable type.f64) E k e = absurd k
list_type (type.unreadable type.unsupported) E k e = absurd k
list_type _ E k e = absurd k

pub list_some : (T : TypeTree) → IsOfListKind (kind_of T) → None ≡ list_part T → ⊥
list_some (type.list D) k e = absurd (cc)
list_some (type.fixed D n) k e = absurd (cc)
list_some (type.simple S) k e = absurd (no_list_kind S k)
list_some (type.unreadable type.f32) k e = k
list_some (type.unreadable type.f64) k e = k
list_some (type.unreadable type.unsupported) k e = k
list_some _ k e = k

-- a tuple of these types
pub record IsTuple (T : TypeTree) (parts : List TypeTree) : Type 0 where
  pub types : Types
  pub is : T ≡ type.tuple types
  pub parts_are : parts ≡ type_list types

pub tuple_type : (T : TypeTree) (parts : List TypeTree) → kind_of T ≡ kinds.Tuple → parts ≡ tuple_parts T → IsTuple T parts
tuple_type (type.tuple Ts) parts k e = record { types = Ts; is = refl; parts_are = e }
tuple_type (type.simple S) parts k e = absurd (not_simple kinds.Tuple S (sym k) refl)
tuple_type (type.unreadable type.f32) parts k e = absurd (cc)
tuple_type (type.unreadable type.f64) parts k e = absurd (cc)
tuple_type (type.unreadable type.unsupported) parts k e = absurd (cc)
tuple_type _ parts k e = absurd (cc)

-- a record of these fields
pub record IsRecordType (T : TypeTree) (parts : List (List ℕ × TypeTree)) : Type 0 where
  pub fields : Fields
  pub is : T ≡ type.record_type fields
  pub parts_are : parts ≡ field_list fields

pub record_type : (T : TypeTree) (parts : List (List ℕ × TypeTree)) → kind_of T ≡ kinds.Record → parts ≡ record_parts T → IsRecordType T parts
record_type (type.record_type fs) parts k e = record { fields = fs; is = refl; parts_are = e }
record_type (type.simple S) parts k e = absurd (not_simple kinds.Record S (sym k) refl)
record_type (type.unreadable type.f32) parts k e = absurd (cc)
record_type (type.unreadable type.f64) parts k e = absurd (cc)
record_type (type.unreadable type.unsupported) parts k e = absurd (cc)
record_type _ parts k e = absurd (cc)

pub option_type : (T P : TypeTree) → kind_of T ≡ kinds.Option → Some P ≡ option_part T → T ≡ type.option P
option_type (type.option Q) P k e = cc
option_type (type.simple S) P k e = absurd (not_simple kinds.Option S (sym k) refl)
option_type (type.unreadable type.f32) P k e = absurd (cc)
option_type (type.unreadable type.f64) P k e = absurd (cc)
option_type (type.unreadable type.unsupported) P k e = absurd (cc)
option_type _ P k e = absurd (cc)

pub option_some : (T : TypeTree) → kind_of T ≡ kinds.Option → None ≡ option_part T → ⊥
option_some (type.option Q) k e = absurd (cc)
option_some (type.simple S) k e = absurd (not_simple kinds.Option S (sym k) refl)
option_some (type.unreadable type.f32) k e = absurd (cc)
option_some (type.unreadable type.f64) k e = absurd (cc)
option_some (type.unreadable type.unsupported) k e = absurd (cc)
option_some _ k e = absurd (cc)

payload_back : (P : MaybeType) (o : Option TypeTree) → o ≡ type_option P → P ≡ maybe_type o
payload_back no_type None e = refl
payload_back no_type (Some Q) e = absurd (cc)
payload_back (a_type T) None e = absurd (cc)
payload_back (a_type T) (Some Q) e = cc

some_is : {A : Type 0} (x y : A) → Some x ≡ Some y → x ≡ y
some_is x y e = cc

results : (A B C D : MaybeType) → A ≡ C → B ≡ D → type.result A B ≡ type.result C D
results A B C D e f = ap (λ (X : MaybeType). type.result X B) e ∙ ap (λ (X : MaybeType). type.result C X) f

pub result_type : (T : TypeTree) (a b : Option TypeTree) → kind_of T ≡ kinds.Result → Some (a, b) ≡ result_parts T → T ≡ type.result (maybe_type a) (maybe_type b)
result_type (type.result A B) a b k e =
    let same = some_is (a, b) (type_option A, type_option B) e in
    results A B (maybe_type a) (maybe_type b) (payload_back A a (ap (λ (p : Option TypeTree × Option TypeTree). p.0) same)) (payload_back B b (ap (λ (p : Option TypeTree × Option TypeTree). p.1) same))
result_type (type.simple S) a b k e = absurd (not_simple kinds.Result S (sym k) refl)
result_type (type.unreadable type.f32) a b k e = absurd (cc)
result_type (type.unreadable type.f64) a b k e = absurd (cc)
result_type (type.unreadable type.unsupported) a b k e = absurd (cc)
result_type _ a b k e = absurd (cc)

pub result_some : (T : TypeTree) → kind_of T ≡ kinds.Result → None ≡ result_parts T → ⊥
result_some (type.result A B) k e = absurd (cc)
result_some (type.simple S) k e = absurd (not_simple kinds.Result S (sym k) refl)
result_some (type.unreadable type.f32) k e = absurd (cc)
result_some (type.unreadable type.f64) k e = absurd (cc)
result_some (type.unreadable type.unsupported) k e = absurd (cc)
result_some _ k e = absurd (cc)

-- a map of these types
pub record IsMapType (T K V : TypeTree) : Type 0 where
  pub key : Simple
  pub is : T ≡ type.map key V
  pub key_is : K ≡ type.simple key

pub map_type : (T K V : TypeTree) → kind_of T ≡ kinds.Map → Some (K, V) ≡ map_parts T → IsMapType T K V
map_type (type.map L W) K V k e =
    let same = some_is (K, V) (type.simple L, W) e in
    record { key = L; is = ap (λ (U : TypeTree). type.map L U) (sym (ap (λ (p : TypeTree × TypeTree). p.1) same)); key_is = ap (λ (p : TypeTree × TypeTree). p.0) same }
map_type (type.simple S) K V k e = absurd (not_simple kinds.Map S (sym k) refl)
map_type (type.unreadable type.f32) K V k e = absurd (cc)
map_type (type.unreadable type.f64) K V k e = absurd (cc)
map_type (type.unreadable type.unsupported) K V k e = absurd (cc)
map_type _ K V k e = absurd (cc)

pub map_some : (T : TypeTree) → kind_of T ≡ kinds.Map → None ≡ map_parts T → ⊥
map_some (type.map L W) k e = absurd (cc)
map_some (type.simple S) k e = absurd (not_simple kinds.Map S (sym k) refl)
map_some (type.unreadable type.f32) k e = absurd (cc)
map_some (type.unreadable type.f64) k e = absurd (cc)
map_some (type.unreadable type.unsupported) k e = absurd (cc)
map_some _ k e = absurd (cc)

-- a type of none of these kinds is of one token
pub simple_left : (T : TypeTree) (k : WasmTypeKind) → k ≡ kind_of T → k ≢ kinds.List → k ≢ kinds.FixedLengthList → k ≢ kinds.Tuple → k ≢ kinds.Record → k ≢ kinds.Variant → k ≢ kinds.Enum → k ≢ kinds.Option → k ≢ kinds.Result → k ≢ kinds.Flags → k ≢ kinds.Map → k ≢ kinds.F32 → k ≢ kinds.F64 → k ≢ kinds.Unsupported → (S : Simple) × (T ≡ type.simple S) × (k ≡ simple_kind S)
simple_left (type.simple S) k e l f t r v n o u g m x y z = (S, refl, e)
simple_left (type.list E) k e l f t r v n o u g m x y z = absurd (l e)
simple_left (type.fixed E i) k e l f t r v n o u g m x y z = absurd (f e)
simple_left (type.tuple Ts) k e l f t r v n o u g m x y z = absurd (t e)
simple_left (type.record_type fs) k e l f t r v n o u g m x y z = absurd (r e)
simple_left (type.variant cs) k e l f t r v n o u g m x y z = absurd (v e)
simple_left (type.enum names) k e l f t r v n o u g m x y z = absurd (n e)
simple_left (type.option P) k e l f t r v n o u g m x y z = absurd (o e)
simple_left (type.result A B) k e l f t r v n o u g m x y z = absurd (u e)
simple_left (type.flags names) k e l f t r v n o u g m x y z = absurd (g e)
simple_left (type.map K V) k e l f t r v n o u g m x y z = absurd (m e)
simple_left (type.unreadable type.f32) k e l f t r v n o u g m x y z = absurd (x e)
simple_left (type.unreadable type.f64) k e l f t r v n o u g m x y z = absurd (y e)
simple_left (type.unreadable type.unsupported) k e l f t r v n o u g m x y z = absurd (z e)

-- what a test of a kind answered
pub is_kind : (a b : WasmTypeKind) {r : Bool} → r ≡ sameb the_type a b → r ≡ true → a ≡ b
is_kind a b answer is = same_true the_type (search rules) a b (sym answer ∙ is)

pub is_other_kind : (a b : WasmTypeKind) {r : Bool} → r ≡ sameb the_type a b → r ≡ false → a ≢ b
is_other_kind a b answer is = same_false the_type a b (sym answer ∙ is)
