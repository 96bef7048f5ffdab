-- Types made of types that `Type` has, which it has too.
use Rattle.std.specs.Prelude.{◌≡◌, true, List, [], ◌∷◌, refl}
use Rattle.std.specs.Cmp.Derive.{both_true}
use Rattle.wave_wasm.specs.Lists.{AllOf}
use Rattle.wave_wasm.specs.Types.{TypeTree, a_type, types_of, IsRepresentable, every_type, can_be_built, result, tuple}

-- a result of two types
pub result_is_representable : (A B : TypeTree) → IsRepresentable A → IsRepresentable B → IsRepresentable (result (a_type A) (a_type B))
result_is_representable A B ok err = both_true ok err

types_are_representable : (Ts : List TypeTree) → AllOf IsRepresentable Ts → every_type can_be_built (types_of Ts) ≡ true
types_are_representable [] h = refl
types_are_representable (T ∷ Ts) h = both_true h.0 (types_are_representable Ts h.1)

-- a tuple of one type or more
pub tuple_is_representable : (T : TypeTree) (Ts : List TypeTree) → AllOf IsRepresentable (T ∷ Ts) → IsRepresentable (tuple (types_of (T ∷ Ts)))
tuple_is_representable T Ts h = types_are_representable (T ∷ Ts) h
