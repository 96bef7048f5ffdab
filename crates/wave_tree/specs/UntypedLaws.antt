-- How reading a text agrees with reading its untyped value.
use Rattle.std.specs.Prelude.{ℕ, ◌↔◌, List}
use Rattle.wave_wasm.specs.Types.{TypeTree}
use Rattle.wave_wasm.specs.Values.{Value}
use Rattle.wave_grammar.specs.SpannedTree.{SpannedTree}
use Rattle.wave_grammar.specs.Nodes.{IsNodeOf}
use Rattle.wave_grammar.specs.Denotes.{Means, MeansNone, SpellsNoTree}
use Rattle.wave_grammar.specs.TypedReading.{IsTypedValue, ReadsNone}
use Rattle.wave_tree.specs.Untyped.{Untyped, IsUntypedOf}

-- the untyped value is that of the text within n levels, and its node means the tree
abbrev pub IsTreeOfText : ℕ → List ℕ → SpannedTree → Type 0
IsTreeOfText n s t = (u : Untyped) × IsUntypedOf n s u × IsNodeOf u.source u.node t

module _ {V : Type 0} (tree : V → Value) (of : V → TypeTree → Type 0) where
  -- a value is read from a text at a type within n levels exactly where it is read from the text's untyped value
  abbrev pub ReadAlike : Type 0
  ReadAlike = (n : ℕ) (s : List ℕ) (t : SpannedTree) → IsTreeOfText n s t → (T : TypeTree) (v : V) → (Means T n s (tree v) × of v T) ↔ IsTypedValue tree of T t v

-- within n levels a text means nothing at a type where it spells no tree; and where it has an untyped value, exactly where the type gives that none
abbrev pub RefusedAlike : Type 0
RefusedAlike =
    (n : ℕ) (s : List ℕ) (T : TypeTree) → (SpellsNoTree n s → MeansNone T n s) × ((t : SpannedTree) → IsTreeOfText n s t → MeansNone T n s ↔ ReadsNone T t)
