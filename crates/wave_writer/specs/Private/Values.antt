-- Values of one token.
use Rattle.std.specs.Prelude.{◌≡◌}
use Rattle.wave_wasm.specs.Values.{Leaf, Value, leaf}

-- the value is of one token
abbrev pub IsLeaf : Value → Type 0
IsLeaf v = (one : Leaf) × (v ≡ leaf one)
