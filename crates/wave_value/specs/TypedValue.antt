-- A value beside the type that it has as its own.
use Rattle.std.specs.Prelude.{◌≡◌, Result, Ok, Err}
use Rattle.wave_wasm.specs.Types as type
use Rattle.wave_wasm.specs.Types.{TypeTree}
use Rattle.wave_wasm.specs.Values as value
use Rattle.wave_wasm.specs.Values.{Value, Leaf, leaf_type, IsSound}
use Rattle.wave_wasm.specs.HasType.{HasType}

-- what a `Value` means
pub record TypedValue : Type 0 where
  pub own : TypeTree
  pub tree : Value

-- the value's own type is this one, and it is a value there
pub record IsAt (T : TypeTree) (v : TypedValue) : Type 0 where
  pub own : v.own ≡ T
  pub fits : HasType T v.tree

-- the value of one token, of its simple type
abbrev pub typed_leaf : Leaf → TypedValue
typed_leaf one = record { own = type.simple (leaf_type one); tree = value.leaf one }

-- what was asked for was made: the value of one token, which is sound
abbrev pub MakesOnly : {E : Type 0} → Leaf → Result TypedValue E → Type 0
MakesOnly one (Ok v) = (v ≡ typed_leaf one) × IsSound one
MakesOnly one (Err e) = ⊥

-- the value is one of its own type
abbrev pub IsTyped : TypedValue → Type 0
IsTyped v = HasType v.own v.tree
