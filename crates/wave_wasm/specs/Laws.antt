-- Laws of the definitions.
use Rattle.std.specs.Prelude.{◌≡◌, ◌↔◌, true, List}
use Rattle.wave_wasm.specs.Types.{Simple}
use Rattle.wave_wasm.specs.Values.{Leaf, Value}
use Rattle.wave_wasm.specs.HasType.{IsLeafOf}
use Rattle.wave_wasm.specs.Merge.{merge, leaf_eq, IsMergeOf}
use Rattle.wave_wasm.specs.Text.{leaf_text}

-- keys of one type that have one text are equal
abbrev pub KeyTextInjective : Type 0
KeyTextInjective = (S : Simple) (a b : Leaf) → IsLeafOf S a → IsLeafOf S b → leaf_text a ≡ leaf_text b → a ≡ b

-- the test of keys by which values are merged is equality
abbrev pub ComparesKeys : Type 0
ComparesKeys = (a b : Leaf) → (leaf_eq a b ≡ true) ↔ (a ≡ b)

-- merging leaves the distinct keys in the order of their first places, each with the value of its last place
abbrev pub MergesToLastValues : Type 0
MergesToLastValues = (es : List (Leaf × Value)) → IsMergeOf leaf_eq es (merge leaf_eq es)
