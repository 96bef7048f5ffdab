-- Types whose values are one token and hold no text: parts of values of these are kept nowhere.
use Rattle.std.specs.Prelude.{ℕ, ◌≡◌, ◌≢◌, ◌⊎◌, List, Option, Some, None, Result, IfErr}
use Rattle.wave_wasm.specs.Types as type
use Rattle.wave_wasm.specs.Types.{TypeTree}
use Rattle.wave_wasm.specs.Values.{Value}
use Rattle.wave_lex.specs.Errors.{Diagnostic}
use Rattle.wave_lex.specs.declared.error.ParserErrorKind.TheVariants.{OutOfMemory}
use Rattle.wave_grammar.specs.FaultOrder.{Order}
use Rattle.wave_grammar.specs.NodeTree.{NodeTree, type_of}
use Rattle.wave_grammar.specs.declared.form.NodeType.TheVariants as kind
use Rattle.wave_leaf.specs.Reading.{IsReadWhereExpected}

-- bool, a whole-number type or char
abbrev pub IsPlain : TypeTree → Type 0
IsPlain (type.simple type.bool) = Unit {0}
IsPlain (type.simple (type.whole which)) = Unit {0}
IsPlain (type.simple type.char) = Unit {0}
IsPlain _ = ⊥

-- memory is taken only where a type is expected that is none of these
abbrev pub TakesMemory : Option TypeTree → Type 0
TakesMemory None = ⊥
TakesMemory (Some T) = IsPlain T → ⊥

-- a node of a tuple or a list isn't refused for memory
abbrev pub SparesRows : {V : Type 0} → NodeTree → Result V Diagnostic → Type 0
SparesRows n r = (type_of n ≡ kind.Tuple) ⊎ (type_of n ≡ kind.List) → IfErr r (λ e. e.kind ≢ OutOfMemory)

-- so where one of these types is expected
abbrev pub SparesWhereExpected : {V : Type 0} → Option TypeTree → NodeTree → Result V Diagnostic → Type 0
SparesWhereExpected None n r = Unit {0}
SparesWhereExpected (Some T) n r = IsPlain T → SparesRows n r

module _ {V : Type 0} (tree : V → Value) (of : V → TypeTree → Type 0) (Full : TypeTree → Type 0) (o w : Order) where
  -- what is read at the type that is expected, without memory of a tuple or a list at one of these
  abbrev pub IsReadSparing : Option TypeTree → List ℕ → NodeTree → Result V Diagnostic → Type 0
  IsReadSparing expected source n r = IsReadWhereExpected tree of Full o w expected source n r × SparesWhereExpected expected n r
