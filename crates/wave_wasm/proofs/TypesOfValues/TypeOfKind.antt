-- Which type has a kind.
use Rattle.std.proofs.Common.{ℕ, ◌≡◌, Bool, true, false, List, refl, sym, ap, subst, ◌∙◌}
use Rattle.wave_wasm.specs.Types as type
use Rattle.wave_wasm.specs.Types.{TypeTree, Types, Fields, Cases, Simple, Unreadable, simple_kind, unreadable_kind, kind_of}
use Rattle.wave_wasm.specs.declared.wasm.WasmTypeKind.{WasmTypeKind}
use Rattle.wave_wasm.specs.declared.wasm.WasmTypeKind.TheVariants as kind

-- the kind is that of a simple type
abbrev pub is_simple_kind : WasmTypeKind → Bool
is_simple_kind kind.Bool = true
is_simple_kind kind.S8 = true
is_simple_kind kind.S16 = true
is_simple_kind kind.S32 = true
is_simple_kind kind.S64 = true
is_simple_kind kind.U8 = true
is_simple_kind kind.U16 = true
is_simple_kind kind.U32 = true
is_simple_kind kind.U64 = true
is_simple_kind kind.Char = true
is_simple_kind kind.String = true
is_simple_kind _ = false

-- the simple type of a kind
abbrev simple_of : WasmTypeKind → Simple
simple_of kind.S8 = type.whole type.s8
simple_of kind.S16 = type.whole type.s16
simple_of kind.S32 = type.whole type.s32
simple_of kind.S64 = type.whole type.s64
simple_of kind.U8 = type.whole type.u8
simple_of kind.U16 = type.whole type.u16
simple_of kind.U32 = type.whole type.u32
simple_of kind.U64 = type.whole type.u64
simple_of kind.Char = type.char
simple_of kind.String = type.string
simple_of _ = type.bool

simple_once : (S : Simple) → simple_of (simple_kind S) ≡ S
simple_once type.bool = refl
simple_once (type.whole type.s8) = refl
simple_once (type.whole type.s16) = refl
simple_once (type.whole type.s32) = refl
simple_once (type.whole type.s64) = refl
simple_once (type.whole type.u8) = refl
simple_once (type.whole type.u16) = refl
simple_once (type.whole type.u32) = refl
simple_once (type.whole type.u64) = refl
simple_once type.char = refl
simple_once type.string = refl

kind_is_simple : (S : Simple) → is_simple_kind (simple_kind S) ≡ true
kind_is_simple type.bool = refl
kind_is_simple (type.whole type.s8) = refl
kind_is_simple (type.whole type.s16) = refl
kind_is_simple (type.whole type.s32) = refl
kind_is_simple (type.whole type.s64) = refl
kind_is_simple (type.whole type.u8) = refl
kind_is_simple (type.whole type.u16) = refl
kind_is_simple (type.whole type.u32) = refl
kind_is_simple (type.whole type.u64) = refl
kind_is_simple type.char = refl
kind_is_simple type.string = refl

-- a simple type is of no other kind
pub not_simple : (k : WasmTypeKind) (S : Simple) → k ≡ simple_kind S → is_simple_kind k ≡ false → ⊥
not_simple k S e f = absurd (cc (sym (ap is_simple_kind e ∙ kind_is_simple S) ∙ f))

unreadable_is_not : (u : Unreadable) → is_simple_kind (unreadable_kind u) ≡ false
unreadable_is_not type.f32 = refl
unreadable_is_not type.f64 = refl
unreadable_is_not type.unsupported = refl

-- the type of the kind of a simple type is that type
pub simple_is : (S : Simple) (T : TypeTree) → simple_kind S ≡ kind_of T → T ≡ type.simple S
simple_is S (type.simple R) e = ap type.simple (sym (simple_once R) ∙ (ap simple_of (sym e) ∙ simple_once S))
simple_is S (type.unreadable u) e = absurd (not_simple (unreadable_kind u) S (sym e) (unreadable_is_not u))
simple_is S (type.list E) e = absurd (not_simple kind.List S (sym e) refl)
simple_is S (type.fixed E n) e = absurd (not_simple kind.FixedLengthList S (sym e) refl)
simple_is S (type.record_type fs) e = absurd (not_simple kind.Record S (sym e) refl)
simple_is S (type.tuple Ts) e = absurd (not_simple kind.Tuple S (sym e) refl)
simple_is S (type.variant cs) e = absurd (not_simple kind.Variant S (sym e) refl)
simple_is S (type.enum names) e = absurd (not_simple kind.Enum S (sym e) refl)
simple_is S (type.option P) e = absurd (not_simple kind.Option S (sym e) refl)
simple_is S (type.result A B) e = absurd (not_simple kind.Result S (sym e) refl)
simple_is S (type.flags names) e = absurd (not_simple kind.Flags S (sym e) refl)
simple_is S (type.map K V) e = absurd (not_simple kind.Map S (sym e) refl)

-- ---- types of parts and names

-- what a type of this kind is
abbrev pub IsFormed : WasmTypeKind → TypeTree → Type 0
IsFormed kind.Record T = (fs : Fields) × (T ≡ type.record_type fs)
IsFormed kind.Tuple T = (Ts : Types) × (T ≡ type.tuple Ts)
IsFormed kind.Variant T = (cs : Cases) × (T ≡ type.variant cs)
IsFormed kind.Enum T = (names : List (List ℕ)) × (T ≡ type.enum names)
IsFormed kind.Option T = (P : TypeTree) × (T ≡ type.option P)
IsFormed kind.Flags T = (names : List (List ℕ)) × (T ≡ type.flags names)
IsFormed _ T = Unit {0}

formed : (T : TypeTree) → IsFormed (kind_of T) T
formed (type.record_type fs) = (fs, refl)
formed (type.tuple Ts) = (Ts, refl)
formed (type.variant cs) = (cs, refl)
formed (type.enum names) = (names, refl)
formed (type.option P) = (P, refl)
formed (type.flags names) = (names, refl)
formed (type.simple type.bool) = tt
formed (type.simple (type.whole type.s8)) = tt
formed (type.simple (type.whole type.s16)) = tt
formed (type.simple (type.whole type.s32)) = tt
formed (type.simple (type.whole type.s64)) = tt
formed (type.simple (type.whole type.u8)) = tt
formed (type.simple (type.whole type.u16)) = tt
formed (type.simple (type.whole type.u32)) = tt
formed (type.simple (type.whole type.u64)) = tt
formed (type.simple type.char) = tt
formed (type.simple type.string) = tt
formed (type.unreadable type.f32) = tt
formed (type.unreadable type.f64) = tt
formed (type.unreadable type.unsupported) = tt
formed _ = tt

-- a type is what its kind says
pub formed_as : (k : WasmTypeKind) (T : TypeTree) → k ≡ kind_of T → IsFormed k T
formed_as k T e = subst (λ (kind : WasmTypeKind). IsFormed kind T) (sym e) (formed T)
