-- What a node answers about the fields of a record.
use Rattle.std.specs.Prelude.{ℕ, ◌≡◌, ◌≢◌, ◌⊎◌, ◌++◌, List, ◌∷◌, map, Some, Result, MatchResult, Option, None, option_map, Ok, Err}
use Rattle.std.specs.Borrow.{Bor}
use Rattle.wave_wasm.specs.Lists.{AllOf}
use Rattle.wave_wasm.specs.Names.{IsOneOf, AreDistinct}
use Rattle.wave_lex.specs.Errors.{Diagnostic, field_label_expected, repeated_name, Says, refusal_of}
use Rattle.wave_lex.specs.declared.error.ParserErrorKind.TheVariants.{InvalidType, DuplicateField, OutOfMemory, WasmValueError}
use Rattle.wave_grammar.specs.LeafTokens.{name_of}
use Rattle.wave_grammar.specs.TypedGrammar.{names_of, IsOption, look_up}
use Rattle.wave_grammar.specs.NodeTree.{NodeTree, type_of, place_of, children_of}
use Rattle.wave_grammar.specs.NodeAccessors.{node_text, RefusedAs, node_pairs}
use Rattle.wave_grammar.specs.declared.form.NodeType.TheVariants as kind
use Rattle.std.specs.BTreeMap.{BTreeMap, get_by}
use Rattle.std.specs.Cmp.Lexicographic.{slice_cmp}
use Rattle.std.specs.Ordering.{nat_cmp}
use Rattle.wave_wasm.specs.Types.{TypeTree, HasDistinctNames}
use Rattle.wave_wasm.specs.Values as value
use Rattle.wave_wasm.specs.Values.{Value, no_value}
use Rattle.wave_wasm.specs.ValueErrors.{missing_field}
use Rattle.wave_grammar.specs.TypeErrors.{RefusesFor}
use Rattle.wave_grammar.specs.FaultOrder.{Order}
use Rattle.wave_grammar.specs.TypedReading.{Answers, IsValueOf}

-- the key of the entry is a label
abbrev pub IsLabelled : NodeTree × NodeTree → Type 0
IsLabelled entry = type_of entry.0 ≡ kind.Label

-- the name and the value of an entry
abbrev pub field_of : List ℕ → NodeTree × NodeTree → List ℕ × NodeTree
field_of source entry = (name_of (node_text source entry.0), entry.1)

-- the fields of a record's node, in the order of the source: its keys are labels, of distinct names
pub record IsFieldsOf (source : List ℕ) (n : NodeTree) (fields : List (List ℕ × NodeTree)) : Type 0 where
  pub is_set : type_of n ≡ kind.TupleSet
  pub labels : AllOf IsLabelled (node_pairs (children_of n))
  pub given : fields ≡ map (field_of source) (node_pairs (children_of n))
  pub distinct : AreDistinct (names_of fields)

-- a refusal of a key after these names: no label, or a label of one of them
abbrev pub RefusesKey : List ℕ → List (List ℕ) → NodeTree → Diagnostic → Type 0
RefusesKey source names key e =
    (type_of key ≢ kind.Label) × Says e InvalidType (place_of key) (Some field_label_expected)
    ⊎ (type_of key ≡ kind.Label) × IsOneOf names (name_of (node_text source key))
    × Says e DuplicateField (place_of key) (Some (repeated_name (name_of (node_text source key))))

-- the refusal of the first key that is no label or has the name of an earlier one
pub record RefusesEntry (source : List ℕ) (n : NodeTree) (e : Diagnostic) : Type 0 where
  pub is_set : type_of n ≡ kind.TupleSet
  pub before : List (NodeTree × NodeTree)
  pub entry : NodeTree × NodeTree
  pub behind : List (NodeTree × NodeTree)
  pub entries : node_pairs (children_of n) ≡ before ++ entry ∷ behind
  pub labels : AllOf IsLabelled before
  pub distinct : AreDistinct (names_of (map (field_of source) before))
  pub refused : RefusesKey source (names_of (map (field_of source) before)) entry.0 e

-- out of memory; or `InvalidType` at another node than that of entries or of `{:}`; or a refusal of a key
abbrev pub RefusesFields : List ℕ → NodeTree → Diagnostic → Type 0
RefusesFields source n e = (e.kind ≡ OutOfMemory) ⊎ (type_of n ≢ kind.TupleSet) × RefusedAs InvalidType n e ⊎ RefusesEntry source n e

-- the fields of a record's node; or a refusal
abbrev pub GivesRecord : List ℕ → NodeTree → Result (List (List ℕ × NodeTree)) Diagnostic → Type 0
GivesRecord source n r = MatchResult r (IsFieldsOf source n) (RefusesFields source n)

-- a name and a node, behind two references
abbrev pub denoted_field : Bor (List ℕ) × Bor NodeTree → List ℕ × NodeTree
denoted_field f = (f.0.now, f.1.now)

-- the name of a key that is a label; or its refusal
abbrev pub GivesName : List ℕ → NodeTree → Result (Bor (List ℕ)) Diagnostic → Type 0
GivesName source key (Ok name) = (type_of key ≡ kind.Label) × (name.now ≡ name_of (node_text source key))
GivesName source key (Err e) = (type_of key ≢ kind.Label) × Says e InvalidType (place_of key) (Some field_label_expected)

-- the names and the values of keys and values that stand in turn
abbrev pub fields_at : List ℕ → List NodeTree → List (List ℕ × NodeTree)
fields_at source ns = map (field_of source) (node_pairs ns)

-- what the map holds at a name
abbrev pub held_at : {X : Type 0} → BTreeMap (Bor (List ℕ)) X → List ℕ → Option X
held_at m name = get_by (λ k. slice_cmp nat_cmp name k.now) m

-- the map holds the value of each field at its name, and no other
abbrev pub HoldsFields : BTreeMap (Bor (List ℕ)) (Bor NodeTree) → List (List ℕ × NodeTree) → Type 0
HoldsFields m fields = (name : List ℕ) → option_map (λ n. n.now) (held_at m name) ≡ look_up fields name

-- the node of a field's value, where there is one
abbrev pub IsFieldNode : List ℕ → Option NodeTree → Type 0
IsFieldNode source None = Unit {0}
IsFieldNode source (Some n) = IsValueOf source n

-- `none`, for an option that is left out
pub record IsLeftOut {V : Type 0} (tree : V → Value) (of : V → TypeTree → Type 0) (T : TypeTree) (v : V) : Type 0 where
  pub option : IsOption T
  pub means : tree v ≡ value.option no_value
  pub is_of : of v T

-- out of memory; or `MissingField` at the record, for a type that is no option; or, where constructors do not serve all values of the type, the refusal of one
abbrev pub IsMissing : (TypeTree → Type 0) → TypeTree → List ℕ → NodeTree → Diagnostic → Type 0
IsMissing Full T name n e =
    (e.kind ≡ OutOfMemory) ⊎ (IsOption T → ⊥) × RefusesFor (missing_field name) (place_of n) (refusal_of e) e.span ⊎ (e.kind ≡ WasmValueError) × (Full T → ⊥)

module _ {V : Type 0} (tree : V → Value) (of : V → TypeTree → Type 0) (Full : TypeTree → Type 0) (w : Order) where
  -- the value of the field of this name of the record's node, which has this node or none; or a refusal of it
  abbrev pub AnswersField : TypeTree → List ℕ → List ℕ → NodeTree → Option NodeTree → Result V Diagnostic → Type 0
  AnswersField T source name n None r = HasDistinctNames T → MatchResult r (IsLeftOut tree of T) (IsMissing Full T name n)
  AnswersField T source name n (Some m) r = Answers tree of Full w w T source m r
