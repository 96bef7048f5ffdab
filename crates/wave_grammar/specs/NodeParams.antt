-- What reading the parameters of a call answers.
use Rattle.std.specs.Prelude.{ℕ, ◌≡◌, ◌≢◌, ◌⊎◌, List, [], ◌∷◌, Some, length, ◌-◌}
use Rattle.wave_wasm.specs.Lists.{AllOf, SomeOf}
use Rattle.wave_wasm.specs.Types.{TypeTree, HasDistinctNames}
use Rattle.wave_wasm.specs.Values.{Value, option, no_value}
use Rattle.wave_wasm.specs.ConstructorContracts.{Makes}
use Rattle.std.specs.declared.ops.Range.{Range}
use Rattle.wave_lex.specs.Errors.{Diagnostic, no_params, Says, refusal_of, too_many_params, too_few_params}
use Rattle.wave_lex.specs.declared.error.ParserErrorKind.TheVariants.{InvalidParams, OutOfMemory, WasmValueError, InvalidType}
use Rattle.wave_grammar.specs.TypedGrammar.{IsOption}
use Rattle.wave_lex.specs.Tokenization.{span}
use Rattle.wave_grammar.specs.Elaborates.{TreeReads}
use Rattle.wave_grammar.specs.SpannedTree.{SpannedTree, tuple, placed_trees, shape_of, span_of, tree_of, LiesIn}
use Rattle.wave_grammar.specs.FaultOrder.{by_type, FirstFault}
use Rattle.wave_grammar.specs.NodeTree.{NodeTree, type_of, place_of}
use Rattle.wave_grammar.specs.NodeAccessors.{RefusedAs}
use Rattle.wave_grammar.specs.ErrorSpans.{HasTypeKind}
use Rattle.wave_grammar.specs.TypedReading.{IsTypedValue, IsTypeError}
use Rattle.wave_grammar.specs.declared.form.NodeType.TheVariants as kind

-- the type is none of an option
abbrev pub IsNoOption : TypeTree → Type 0
IsNoOption T = IsOption T → ⊥

-- what is wrong with the items, where the names of the types are distinct: read in turn, a fault of one at its type; the first that is too many;
-- or a type that is left and is no option
abbrev pub ParamsFault : List TypeTree → List SpannedTree → Range ℕ → Diagnostic → Type 0
ParamsFault Ts [] close e = SomeOf IsNoOption Ts × Says e InvalidParams close (Some too_few_params)
ParamsFault [] (t ∷ ts) close e = Says e InvalidParams (span_of t) (Some too_many_params)
ParamsFault (T ∷ Ts) (t ∷ ts) close e =
    FirstFault by_type by_type T t (refusal_of e) e.span × ((v : Value) → TreeReads T (tree_of t) v → ⊥)
    ⊎ ((v : Value) × TreeReads T (tree_of t) v × ParamsFault Ts ts close e)

-- the last byte of a node: the close of a tuple
abbrev pub close_of : NodeTree → Range ℕ
close_of n = span ((place_of n).end - 1) (place_of n).end

module _ {V : Type 0} (tree : V → Value) (of : V → TypeTree → Type 0) where
  -- a value for each of the types, which are options: `none` of its type, where the names of that type are distinct
  abbrev pub AreOmitted : List TypeTree → List V → Type 0
  AreOmitted [] [] = Unit {0}
  AreOmitted (T ∷ Ts) (v ∷ vs) = IsOption T × (HasDistinctNames T → Makes tree of (option no_value) T v) × AreOmitted Ts vs
  AreOmitted _ _ = ⊥

  -- a value for each of the types: that of the item in its place, at its type, where the names of that type are distinct; those that are left are omitted
  abbrev pub AreRead : List TypeTree → List SpannedTree → List V → Type 0
  AreRead Ts [] vs = AreOmitted Ts vs
  AreRead (T ∷ Ts) (t ∷ ts) (v ∷ vs) = (HasDistinctNames T → IsTypedValue tree of T t v) × AreRead Ts ts vs
  AreRead _ _ _ = ⊥

  -- the node is a tuple of items that have these values
  abbrev pub GivesParams : List TypeTree → NodeTree → SpannedTree → List V → Type 0
  GivesParams Ts n t vs = (items : List SpannedTree) × (shape_of t ≡ tuple (placed_trees items)) × AreRead Ts items vs

-- the refusal of a constructor of `none`, at this place: the types are options, whose constructors do not serve all their values
abbrev pub RefusesNoValue : (TypeTree → Type 0) → List TypeTree → Range ℕ → Diagnostic → Type 0
RefusesNoValue Full Ts at e = (e.kind ≡ WasmValueError) × (e.span ≡ at) × AllOf IsOption Ts × (AllOf Full Ts → ⊥)

-- the refusal of an item, which lies in it; where the names of its type are distinct, it is one of the item's tree at that type
pub record RefusesItem (Full : TypeTree → Type 0) (T : TypeTree) (t : SpannedTree) (e : Diagnostic) : Type 0 where
  pub kind : HasTypeKind e
  pub lies : LiesIn e.span (span_of t).start (span_of t).end
  pub blames : HasDistinctNames T → IsTypeError Full by_type T t e

-- the type gives the item a value, where its names are distinct
abbrev pub HasItemValue : TypeTree → SpannedTree → Type 0
HasItemValue T t = HasDistinctNames T → (v : Value) × TreeReads T (tree_of t) v

-- the refusal of the items of the node, read in turn: of one at its type; of the first that is too many; of a type left that is no option; or of a `none`
abbrev pub RefusesInTurn : (TypeTree → Type 0) → List TypeTree → List SpannedTree → NodeTree → Diagnostic → Type 0
RefusesInTurn Full Ts [] n e = SomeOf IsNoOption Ts × Says e InvalidParams (close_of n) (Some too_few_params) ⊎ RefusesNoValue Full Ts (place_of n) e
RefusesInTurn Full [] (t ∷ ts) n e = Says e InvalidParams (span_of t) (Some too_many_params)
RefusesInTurn Full (T ∷ Ts) (t ∷ ts) n e = RefusesItem Full T t e ⊎ HasItemValue T t × RefusesInTurn Full Ts ts n e

-- so of the items of a tuple, or out of memory; or `InvalidType` at another node
abbrev pub RefusesParams : (TypeTree → Type 0) → List TypeTree → NodeTree → SpannedTree → Diagnostic → Type 0
RefusesParams Full Ts n t e =
    (type_of n ≢ kind.Tuple) × RefusedAs InvalidType n e
    ⊎ ((items : List SpannedTree) × (shape_of t ≡ tuple (placed_trees items)) × ((e.kind ≡ OutOfMemory) ⊎ RefusesInTurn Full Ts items n e))

-- out of memory; or a type is no option; or, where all are, the refusal of a `none`; at the name
abbrev pub RefusesNone : (TypeTree → Type 0) → List TypeTree → Range ℕ → Diagnostic → Type 0
RefusesNone Full Ts at e =
    (e.kind ≡ OutOfMemory)
    ⊎ SomeOf IsNoOption Ts × Says e InvalidParams at (Some (no_params (length Ts)))
    ⊎ RefusesNoValue Full Ts at e

-- out of memory, or the refusal of a `none`
abbrev pub RefusesOmitted : (TypeTree → Type 0) → List TypeTree → Range ℕ → Diagnostic → Type 0
RefusesOmitted Full Ts at e = (e.kind ≡ OutOfMemory) ⊎ RefusesNoValue Full Ts at e
