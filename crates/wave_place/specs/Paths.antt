-- The way from a whole value to a part of it, and the type that is expected there.
use Rattle.std.specs.Prelude.{ℕ, ◌≡◌, ◌≢◌, ◌⊎◌, ◌-◌, List, [], ◌∷◌, ◌++◌, length, take, chars, codes, Option, Some, option_map, slice_get}
use Rattle.std.specs.Fmt.{decimal}
use Rattle.std.specs.List.{find, flat_map}
use Rattle.std.specs.Str.{bytes_eq}
use Rattle.std.specs.declared.ops.Range.{Range}
use Rattle.wave_wasm.specs.Lists.{SomeOf}
use Rattle.wave_wasm.specs.Types.{TypeTree, kind_of, list_part, record_parts, tuple_parts, variant_parts, option_part, result_parts, map_parts}
use Rattle.wave_wasm.specs.declared.wasm.WasmTypeKind.TheVariants as kinds
use Rattle.wave_grammar.specs.LeafTokens.{name_of}
use Rattle.wave_grammar.specs.NodeTree.{NodeTree, type_of, children_of}
use Rattle.wave_grammar.specs.NodeAccessors.{node_text, node_pairs, first_of}
use Rattle.wave_grammar.specs.ErrorSpans.{LiesInNode}
use Rattle.wave_grammar.specs.declared.form.NodeType.TheVariants as form
use Rattle.wave_place.specs.Shown.{shown_text, ellipsis}

-- a step from a value to a part of it
pub data Step : Type 0 where
  -- to the value of the field, or the payload of the case, of this name
  field case : List ℕ → Step
  -- to the value, or to the key, of an entry whose key has this text
  entry key : List ℕ → Step
  -- to the item before which so many stand
  item : ℕ → Step
  -- to the payload of the word
  some ok err : Step
  -- to the payload that stands alone, as `1` for `some(1)` or `ok(1)`
  alone : Step

-- ---- types of parts

-- the type of the first field of this name
abbrev pub field_type : List ℕ → TypeTree → Option TypeTree
field_type name T = option_map (λ f. f.1) (find (λ f. bytes_eq name f.0) (record_parts T))

-- the payload's type of the first case of this name, where there is one
abbrev pub case_type : List ℕ → TypeTree → Option (Option TypeTree)
case_type name T = option_map (λ c. c.1) (find (λ c. bytes_eq name c.0) (variant_parts T))

-- T is an option, or a result with a payload of `ok`, of values of U, which is neither an option nor a result
abbrev pub HoldsAlone : TypeTree → TypeTree → Type 0
HoldsAlone T U =
    ((option_part T ≡ Some U) ⊎ ((B : Option TypeTree) × (result_parts T ≡ Some (Some U, B))))
    × (kind_of U ≢ kinds.Option) × (kind_of U ≢ kinds.Result)

-- none of the words `some`, `none`, `ok` and `err` stands around the node's value
abbrev pub StandsAlone : NodeTree → Type 0
StandsAlone n = (type_of n ≢ form.OptionSome) × (type_of n ≢ form.OptionNone) × (type_of n ≢ form.ResultOk) × (type_of n ≢ form.ResultErr)

-- ---- steps

-- the node has an entry of this key and this value
abbrev pub HasEntry : NodeTree → NodeTree → NodeTree → Type 0
HasEntry n k v =
    ((type_of n ≡ form.TupleSet) ⊎ (type_of n ≡ form.EmptySet)) × SomeOf (λ e. e ≡ (k, v)) (node_pairs (children_of n))

-- the step leads from the node, where a value of type T is expected, to the part m, where one of U is
abbrev pub StepsTo : List ℕ → Step → NodeTree → TypeTree → NodeTree → TypeTree → Type 0
StepsTo source (field name) n T m U =
    (k : NodeTree) × HasEntry n k m × (type_of k ≡ form.Label) × (name_of (node_text source k) ≡ name) × (field_type name T ≡ Some U)
StepsTo source (case name) n T m U =
    (c : NodeTree) × (type_of n ≡ form.VariantWithPayload) × (children_of n ≡ c ∷ m ∷ [])
    × (name_of (node_text source c) ≡ name) × (case_type name T ≡ Some (Some U))
StepsTo source (entry text) n T m U =
    (k : NodeTree) × HasEntry n k m × (node_text source k ≡ text) × ((K : TypeTree) × (map_parts T ≡ Some (K, U)))
StepsTo source (key text) n T m U =
    (v : NodeTree) × HasEntry n m v × (node_text source m ≡ text) × ((V : TypeTree) × (map_parts T ≡ Some (U, V)))
StepsTo source (item i) n T m U =
    (slice_get (children_of n) i ≡ Some m)
    × ((type_of n ≡ form.List) × (list_part T ≡ Some U) ⊎ (type_of n ≡ form.Tuple) × (slice_get (tuple_parts T) i ≡ Some U))
StepsTo source some n T m U = (type_of n ≡ form.OptionSome) × (first_of (children_of n) ≡ Some m) × (option_part T ≡ Some U)
StepsTo source ok n T m U =
    (type_of n ≡ form.ResultOk) × (first_of (children_of n) ≡ Some m) × ((B : Option TypeTree) × (result_parts T ≡ Some (Some U, B)))
StepsTo source err n T m U =
    (type_of n ≡ form.ResultErr) × (first_of (children_of n) ≡ Some m) × ((A : Option TypeTree) × (result_parts T ≡ Some (A, Some U)))
StepsTo source alone n T m U = (m ≡ n) × StandsAlone n × HoldsAlone T U

-- so the steps do, one after the other
abbrev pub LeadsTo : List ℕ → List Step → NodeTree → TypeTree → NodeTree → TypeTree → Type 0
LeadsTo source [] n T m U = (m ≡ n) × (U ≡ T)
LeadsTo source (step ∷ more) n T m U = (k : NodeTree) × (E : TypeTree) × StepsTo source step n T k E × LeadsTo source more k E m U

-- no step leads to a part that holds the span
abbrev pub IsDeepest : List ℕ → Range ℕ → NodeTree → TypeTree → Type 0
IsDeepest source span n T = (step : Step) (m : NodeTree) (U : TypeTree) → StepsTo source step n T m U → LiesInNode m span → ⊥

-- the path leads from the node, where a value of type T is expected, to the deepest part that holds the span, where one of U is expected; the
-- path is empty where the node doesn't hold the span
pub record IsPartAt (source : List ℕ) (span : Range ℕ) (n : NodeTree) (T : TypeTree) (path : List Step) (m : NodeTree) (U : TypeTree) : Type 0 where
  pub leads : LeadsTo source path n T m U
  pub holds : (path ≢ []) ⊎ LiesInNode n span → LiesInNode m span
  pub deepest : IsDeepest source span m U

-- ---- the text of a path

-- the first scalars of the text, as they are shown, and `…` where there are more
abbrev pub shown_first : ℕ → List ℕ → List ℕ
shown_first n text = shown_text (take n (chars text)) ++ ellipsis (length (chars text) - n)

-- the text of a step: `.name`, `["key"]`, `[0]`, `.some`; nothing for a payload that stands alone
abbrev pub step_text : Step → List ℕ
step_text (field name) = codes "." ++ name
step_text (case name) = codes "." ++ name
step_text (entry text) = codes "[" ++ (shown_first 24 text ++ codes "]")
step_text (key text) = codes "[" ++ (shown_first 24 text ++ codes "]")
step_text (item i) = codes "[" ++ (decimal i ++ codes "]")
step_text some = codes ".some"
step_text ok = codes ".ok"
step_text err = codes ".err"
step_text alone = []

-- the text of a path
abbrev pub path_text : List Step → List ℕ
path_text steps = flat_map step_text steps
