-- Whether two simple types, or two types without values, are one, as a test.
use Rattle.std.specs.Prelude.{◌≡◌, Bool, true, false, refl}
use Rattle.std.proofs.Common.{ap}
use Rattle.std.proofs.lemmas.Bool.{false≢true}
use Rattle.wave_wasm.specs.Types.{Whole, s8, s16, s32, s64, u8, u16, u32, u64, Simple, bool, whole, char, string, Unreadable, f32, f64, unsupported}

-- they are one whole-number type
abbrev pub same_whole : Whole → Whole → Bool
same_whole s8 s8 = true
same_whole s16 s16 = true
same_whole s32 s32 = true
same_whole s64 s64 = true
same_whole u8 u8 = true
same_whole u16 u16 = true
same_whole u32 u32 = true
same_whole u64 u64 = true
same_whole _ _ = false

-- they are one simple type
abbrev pub same_simple : Simple → Simple → Bool
same_simple bool bool = true
same_simple (whole kind) (whole other) = same_whole kind other
same_simple char char = true
same_simple string string = true
same_simple _ _ = false

-- they are one type without values
abbrev pub same_unreadable : Unreadable → Unreadable → Bool
same_unreadable f32 f32 = true
same_unreadable f64 f64 = true
same_unreadable unsupported unsupported = true
same_unreadable _ _ = false

-- ---- the tests say true exactly at one type and itself

pub one_whole : (p q : Whole) → same_whole p q ≡ true → p ≡ q
one_whole s8 s8 e = refl
one_whole s16 s16 e = refl
one_whole s32 s32 e = refl
one_whole s64 s64 e = refl
one_whole u8 u8 e = refl
one_whole u16 u16 e = refl
one_whole u32 u32 e = refl
one_whole u64 u64 e = refl
one_whole _ _ e = absurd (false≢true e)

pub whole_itself : (p : Whole) → same_whole p p ≡ true
whole_itself s8 = refl
whole_itself s16 = refl
whole_itself s32 = refl
whole_itself s64 = refl
whole_itself u8 = refl
whole_itself u16 = refl
whole_itself u32 = refl
whole_itself u64 = refl

pub one_simple : (p q : Simple) → same_simple p q ≡ true → p ≡ q
one_simple bool bool e = refl
one_simple (whole kind) (whole other) e = ap whole (one_whole kind other e)
one_simple char char e = refl
one_simple string string e = refl
one_simple _ _ e = absurd (false≢true e)

pub simple_itself : (p : Simple) → same_simple p p ≡ true
simple_itself bool = refl
simple_itself (whole kind) = whole_itself kind
simple_itself char = refl
simple_itself string = refl

pub one_unreadable : (u v : Unreadable) → same_unreadable u v ≡ true → u ≡ v
one_unreadable f32 f32 e = refl
one_unreadable f64 f64 e = refl
one_unreadable unsupported unsupported e = refl
one_unreadable _ _ e = absurd (false≢true e)

pub unreadable_itself : (u : Unreadable) → same_unreadable u u ≡ true
unreadable_itself f32 = refl
unreadable_itself f64 = refl
unreadable_itself unsupported = refl
