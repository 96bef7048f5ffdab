-- What a value's content means at its type, and what holds of it.
use Rattle.std.specs.Prelude.{ℕ, pos, List, [], ◌∷◌, map, get_or, Option, option_map}
use Rattle.std.specs.declared.alloc.Global.{Global}
use Rattle.std.specs.declared.boxed.Box.{Box}
use Rattle.wave_wasm.specs.Types as type
use Rattle.wave_wasm.specs.Values as value
use Rattle.wave_wasm.specs.Values.{Leaf, Value, values}
use Rattle.wave_value.specs.declared.value.Scalar.{Scalar}
use Rattle.wave_value.specs.declared.value.Scalar.TheVariants as scalars
use Rattle.wave_value.specs.TypedValue.{TypedValue}

-- the value of one token but a string
abbrev pub scalar_leaf : Scalar → Leaf
scalar_leaf (scalars.Bool b) = value.bool b
scalar_leaf (scalars.S8 z) = value.whole type.s8 z
scalar_leaf (scalars.S16 z) = value.whole type.s16 z
scalar_leaf (scalars.S32 z) = value.whole type.s32 z
scalar_leaf (scalars.S64 z) = value.whole type.s64 z
scalar_leaf (scalars.U8 n) = value.whole type.u8 (pos n)
scalar_leaf (scalars.U16 n) = value.whole type.u16 (pos n)
scalar_leaf (scalars.U32 n) = value.whole type.u32 (pos n)
scalar_leaf (scalars.U64 n) = value.whole type.u64 (pos n)
scalar_leaf (scalars.Char c) = value.char c

-- the name at a place
abbrev pub name_at : List (List ℕ) → ℕ → List ℕ
name_at names i = get_or names i []

-- the names of fields or cases
abbrev pub first_names : {A : Type 0} → List (List ℕ × A) → List (List ℕ)
first_names parts = map (λ p. p.0) parts

-- what the values mean
abbrev pub trees : List TypedValue → List Value
trees vs = map (λ v. v.tree) vs

-- values after names, in order
abbrev pub beside : List (List ℕ) → List Value → List (List ℕ × Value)
beside names [] = []
beside [] (v ∷ vs) = ([], v) ∷ beside [] vs
beside (n ∷ names) (v ∷ vs) = (n, v) ∷ beside names vs

-- the payload in the box
abbrev pub boxed : Option (Box TypedValue Global) → Option TypedValue
boxed p = option_map (λ b. b.value) p

-- what the payload means
abbrev pub payload_tree : Option TypedValue → Option Value
payload_tree p = option_map (λ v. v.tree) p
