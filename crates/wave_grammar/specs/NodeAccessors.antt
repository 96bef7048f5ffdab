-- What a node answers about itself.
use Rattle.std.specs.Prelude.{ℕ, ℤ, ◌≡◌, ◌≢◌, ◌⊎◌, ◌+◌, ◌++◌, Bool, true, false, List, [], ◌∷◌, Option, Some, None, option_map, Result, Ok, Err}
use Rattle.std.specs.Borrow.{Bor}
use Rattle.wave_grammar.specs.LeafTokens.{name_of}
use Rattle.wave_wasm.specs.Lists.{AllOf}
use Rattle.wave_wasm.specs.Types.{Whole}
use Rattle.wave_lex.specs.declared.error.ParserErrorKind.{ParserErrorKind}
use Rattle.wave_lex.specs.declared.error.ParserErrorKind.TheVariants.{InvalidType, InvalidValue, InvalidEscape}
use Rattle.wave_lex.specs.Tokens.{single_quote, double_quote}
use Rattle.wave_lex.specs.Tokenization.{three_quotes}
use Rattle.wave_lex.specs.Strings.{CharMeans}
use Rattle.wave_lex.specs.Remaining.{one_line}
use Rattle.wave_lex.specs.Parts.{left_of, OpensTo, OpeningRefused}
use Rattle.wave_lex.specs.declared.strings.StringPartsIter.{StringPartsIter}
use Rattle.wave_grammar.specs.NumberText.{IsNumberOf}
use Rattle.wave_grammar.specs.SpannedTree.{slice}
use Rattle.wave_grammar.specs.NodeTree.{NodeTree, type_of, place_of, children_of}
use Rattle.wave_lex.specs.Errors.{Diagnostic, Says}
use Rattle.wave_grammar.specs.TypedReading.{IsValueOf, IsKeyOf}
use Rattle.wave_grammar.specs.declared.form.NodeType.{NodeType}
use Rattle.wave_grammar.specs.declared.form.NodeType.TheVariants as kind
use Rattle.wave_wasm.specs.Text.{bool_text}

-- the text at a node
abbrev pub node_text : List ℕ → NodeTree → List ℕ
node_text source n = slice source (place_of n)

-- a refusal of this kind, at the node, without a detail
abbrev pub RefusedAs : ParserErrorKind → NodeTree → Diagnostic → Type 0
RefusedAs why n e = Says e why (place_of n) None

-- the type of the nodes of this bool
abbrev pub bool_type : Bool → NodeType
bool_type true = kind.BoolTrue
bool_type false = kind.BoolFalse

-- the bool of a node; or `InvalidType` where it is none
abbrev pub GivesBool : NodeTree → Result Bool Diagnostic → Type 0
GivesBool n (Ok b) = type_of n ≡ bool_type b
GivesBool n (Err e) = ((b : Bool) → type_of n ≢ bool_type b) × RefusedAs InvalidType n e

-- the nodes behind a reference, where there is one
abbrev pub denoted_node : Option (Bor NodeTree) → Option NodeTree
denoted_node o = option_map (λ n. n.now) o

-- the first of the nodes, where there is one
abbrev pub first_of : List NodeTree → Option NodeTree
first_of [] = None
first_of (n ∷ ns) = Some n

-- where the node was parsed as a value, so was each of these
abbrev pub AreValuesWithin : NodeTree → List NodeTree → Type 0
AreValuesWithin n ns = (source : List ℕ) → IsValueOf source n → AllOf (IsValueOf source) ns

-- so was this one, where there is one
abbrev pub IsValueWithin : NodeTree → Option NodeTree → Type 0
IsValueWithin n None = Unit {0}
IsValueWithin n (Some m) = (source : List ℕ) → IsValueOf source n → IsValueOf source m

-- the children of a node of this type, each a value; or `InvalidType` at another node
abbrev pub GivesNodes : NodeType → NodeTree → Result (Bor (List NodeTree)) Diagnostic → Type 0
GivesNodes ty n (Ok nodes) = (type_of n ≡ ty) × (nodes.now ≡ children_of n) × AreValuesWithin n nodes.now
GivesNodes ty n (Err e) = (type_of n ≢ ty) × RefusedAs InvalidType n e

-- the payload of `some`, or nothing at `none`; or `InvalidType` at another node
abbrev pub GivesOption : NodeTree → Result (Option (Bor NodeTree)) Diagnostic → Type 0
GivesOption n (Ok o) =
    (type_of n ≡ kind.OptionSome) × (denoted_node o ≡ first_of (children_of n)) × IsValueWithin n (denoted_node o)
    ⊎ (type_of n ≡ kind.OptionNone) × (denoted_node o ≡ None)
GivesOption n (Err e) = (type_of n ≢ kind.OptionSome) × (type_of n ≢ kind.OptionNone) × RefusedAs InvalidType n e

-- the payload of `ok` or of `err`, where it has one; or `InvalidType` at another node
abbrev pub GivesResult : NodeTree → Result (Result (Option (Bor NodeTree)) (Option (Bor NodeTree))) Diagnostic → Type 0
GivesResult n (Ok (Ok o)) = (type_of n ≡ kind.ResultOk) × (denoted_node o ≡ first_of (children_of n)) × IsValueWithin n (denoted_node o)
GivesResult n (Ok (Err o)) = (type_of n ≡ kind.ResultErr) × (denoted_node o ≡ first_of (children_of n)) × IsValueWithin n (denoted_node o)
GivesResult n (Err e) = (type_of n ≢ kind.ResultOk) × (type_of n ≢ kind.ResultErr) × RefusedAs InvalidType n e

-- the name of a label alone; or `InvalidType` at another node
abbrev pub GivesLabel : List ℕ → NodeTree → Result (Bor (List ℕ)) Diagnostic → Type 0
GivesLabel source n (Ok name) = (type_of n ≡ kind.Label) × (name.now ≡ name_of (node_text source n))
GivesLabel source n (Err e) = (type_of n ≢ kind.Label) × RefusedAs InvalidType n e

-- the name and the payload of a case, which is a value; or `InvalidType` at another node
abbrev pub GivesVariant : List ℕ → NodeTree → Result (Bor (List ℕ) × Option (Bor NodeTree)) Diagnostic → Type 0
GivesVariant source n (Ok (name, payload)) =
    (type_of n ≡ kind.Label) × (name.now ≡ name_of (node_text source n)) × (denoted_node payload ≡ None)
    ⊎ ((c : NodeTree) × (t : NodeTree) × (type_of n ≡ kind.VariantWithPayload) × (children_of n ≡ c ∷ t ∷ [])
    × (name.now ≡ name_of (node_text source c)) × (denoted_node payload ≡ Some t) × IsValueOf source t)
GivesVariant source n (Err e) = (type_of n ≢ kind.Label) × (type_of n ≢ kind.VariantWithPayload) × RefusedAs InvalidType n e

-- the nodes two by two
abbrev pub node_pairs : List NodeTree → List (NodeTree × NodeTree)
node_pairs (key ∷ value ∷ more) = (key, value) ∷ node_pairs more
node_pairs _ = []

-- the nodes behind two references
abbrev pub denoted_nodes : Bor NodeTree × Bor NodeTree → NodeTree × NodeTree
denoted_nodes e = (e.0.now, e.1.now)

-- a key and a value
abbrev pub IsEntryOf : List ℕ → NodeTree × NodeTree → Type 0
IsEntryOf source e = IsKeyOf source e.0 × IsValueOf source e.1

-- where the node was parsed as a value, each of these is a key and a value
abbrev pub AreEntriesWithin : NodeTree → List (NodeTree × NodeTree) → Type 0
AreEntriesWithin n entries = (source : List ℕ) → IsValueOf source n → AllOf (IsEntryOf source) entries

-- the keys and the values of a node of entries, of `{:}` or of `{}`; or `InvalidType` at another node
abbrev pub GivesEntries : NodeTree → Result (List (NodeTree × NodeTree)) Diagnostic → Type 0
GivesEntries n (Ok entries) = ((type_of n ≡ kind.TupleSet) ⊎ (type_of n ≡ kind.EmptySet)) × (entries ≡ node_pairs (children_of n)) × AreEntriesWithin n entries
GivesEntries n (Err e) = (type_of n ≢ kind.TupleSet) × (type_of n ≢ kind.EmptySet) × RefusedAs InvalidType n e

module _ {N : Type 0} (which : Whole) (number : N → ℤ) where
  -- the number of a node; or `InvalidValue` where it is none of this type, and `InvalidType` where the node is no number
  abbrev pub GivesNumber : List ℕ → NodeTree → Result N Diagnostic → Type 0
  GivesNumber source n (Ok x) = (type_of n ≡ kind.Number) × IsNumberOf which (node_text source n) (Some (number x))
  GivesNumber source n (Err e) =
      (type_of n ≢ kind.Number) × RefusedAs InvalidType n e
      ⊎ (type_of n ≡ kind.Number) × IsNumberOf which (node_text source n) None × RefusedAs InvalidValue n e

-- the quotes around the text of a node of this type
abbrev pub quotes_of : NodeType → List ℕ
quotes_of kind.Char = single_quote ∷ []
quotes_of kind.String = double_quote ∷ []
quotes_of kind.MultilineString = three_quotes
quotes_of _ = []

-- what stands between the quotes of a node
abbrev pub IsInside : List ℕ → NodeTree → List ℕ → Type 0
IsInside source n inside = node_text source n ≡ quotes_of (type_of n) ++ (inside ++ quotes_of (type_of n))

-- the scalar of a char; or `InvalidEscape` where it is that of none, and `InvalidType` at another node
abbrev pub GivesChar : List ℕ → NodeTree → Result ℕ Diagnostic → Type 0
GivesChar source n (Ok c) = (type_of n ≡ kind.Char) × CharMeans (node_text source n) c
GivesChar source n (Err e) =
    (type_of n ≢ kind.Char) × RefusedAs InvalidType n e
    ⊎ (type_of n ≡ kind.Char) × ((c : ℕ) → CharMeans (node_text source n) c → ⊥) × RefusedAs InvalidEscape n e

-- the parts of a string before the first of them; or of a multiline string, which may refuse its opening; or `InvalidType` at another node
abbrev pub GivesParts : List ℕ → NodeTree → Result StringPartsIter Diagnostic → Type 0
GivesParts source n (Ok parts) =
    (inside : List ℕ) × IsInside source n inside
    × ((type_of n ≡ kind.String) × (left_of parts ≡ one_line (record { rest = inside; pos = (place_of n).start + 1 }))
    ⊎ (type_of n ≡ kind.MultilineString) × OpensTo inside ((place_of n).start + 3) (left_of parts))
GivesParts source n (Err e) =
    (type_of n ≢ kind.String) × (type_of n ≢ kind.MultilineString) × RefusedAs InvalidType n e
    ⊎ (type_of n ≡ kind.MultilineString) × (inside : List ℕ) × IsInside source n inside × OpeningRefused inside ((place_of n).start + 3) e

-- the node is of this type; or `InvalidType` at the node
abbrev pub OfType : NodeType → NodeTree → Result Unit Diagnostic → Type 0
OfType ty n (Ok done) = type_of n ≡ ty
OfType ty n (Err e) = (type_of n ≢ ty) × RefusedAs InvalidType n e

-- the bool of a key, whose label is its word; or `InvalidType` where it is none
abbrev pub GivesBoolKey : List ℕ → NodeTree → Result Bool Diagnostic → Type 0
GivesBoolKey source n (Ok b) = (type_of n ≡ kind.Label) × (node_text source n ≡ bool_text b)
GivesBoolKey source n (Err e) = ((b : Bool) → type_of n ≡ kind.Label → node_text source n ≢ bool_text b) × RefusedAs InvalidType n e
