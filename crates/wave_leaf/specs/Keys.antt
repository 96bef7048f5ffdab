-- What is answered on a key, and what a refusal says of a label that is none of the type.
use Rattle.std.specs.Prelude.{ℕ, List, Result, IfErr}
use Rattle.wave_wasm.specs.Types.{TypeTree}
use Rattle.wave_wasm.specs.Values.{Value}
use Rattle.wave_lex.specs.Errors.{Diagnostic}
use Rattle.wave_grammar.specs.TypedReading.{IsKeyOf, AnswersKey}
use Rattle.wave_grammar.specs.PartReading.{AnswersMapKey}
use Rattle.wave_grammar.specs.ErrorSpans.{RefusesIn}
use Rattle.wave_leaf.specs.Leaves.{leaf_node, IsLeafIn}
use Rattle.wave_leaf.specs.declared.leaf.LeafToken.{LeafToken}

module _ {V : Type 0} (tree : V → Value) (of : V → TypeTree → Type 0) (Full : TypeTree → Type 0) where
  -- this is answered for the leaf as a key of the type, in any text that has the leaf
  abbrev pub IsKeyReadOf : TypeTree → LeafToken → Result V Diagnostic → Type 0
  IsKeyReadOf T l r = (source : List ℕ) → IsLeafIn source l → AnswersKey tree of Full T source (leaf_node l) r

  -- so of a key of a map
  abbrev pub IsMapKeyReadOf : TypeTree → LeafToken → Result V Diagnostic → Type 0
  IsMapKeyReadOf T l r = (source : List ℕ) → IsLeafIn source l → AnswersMapKey tree of Full T source (leaf_node l) r

-- where the leaf is a key of a text, its refusal stands in it
abbrev pub RefusesInKey : {V : Type 0} → LeafToken → Result V Diagnostic → Type 0
RefusesInKey l r = (source : List ℕ) → IsLeafIn source l → IsKeyOf source (leaf_node l) → IfErr r (RefusesIn (leaf_node l))
