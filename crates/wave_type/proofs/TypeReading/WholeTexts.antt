-- A text as a whole: what is read of it is its type, and what is refused has none.
use Rattle.std.proofs.Common.{◌≡◌, ℕ, [], ◌∷◌, Some, refl, subst, arith, length}
use Rattle.wave_wasm.specs.Types.{TypeTree}
use Rattle.wave_type.specs.TypeSpelling.{Tokens, Spells}
use Rattle.wave_type.specs.Private.TypeReading.{type_read}
use Rattle.wave_type.proofs.TypeReading.Sound.{read_sound}

pub none_left : (r : Tokens) → length r ≡ 0 → r ≡ []
none_left [] e = refl
none_left (t ∷ r) e = absurd (omega (arith, e))

pub whole_sound : (n : ℕ) (ts r : Tokens) (T : TypeTree) → type_read n ts ≡ Some (T, r) → length r ≡ 0 → Spells T ts []
whole_sound n ts r T e none = subst (Spells T ts) (none_left r none) (read_sound n ts (T, r) e)
