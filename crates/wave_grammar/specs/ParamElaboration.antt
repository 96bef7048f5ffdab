-- The values that types give the parameters of a call, by their trees.
use Rattle.std.specs.Prelude.{◌≡◌, List, [], ◌∷◌}
use Rattle.wave_wasm.specs.Types.{TypeTree}
use Rattle.wave_wasm.specs.Values.{Value}
use Rattle.wave_grammar.specs.Params.{Omitted}
use Rattle.wave_grammar.specs.Tree.{Tree}
use Rattle.wave_grammar.specs.Elaborates.{TreeReads}

-- each tree has its value at the type in its place; the types that are left are options, each `none`
abbrev pub TreeParams : List TypeTree → List Tree → List Value → Type 0
TreeParams Ts [] vs = Omitted Ts vs
TreeParams [] (t ∷ ts) vs = ⊥
TreeParams (T ∷ Ts) (t ∷ ts) vs = (v : Value) × (others : List Value) × TreeReads T t v × TreeParams Ts ts others × (vs ≡ v ∷ others)
