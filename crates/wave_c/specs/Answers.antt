-- What stands in the buffer.
use Rattle.std.specs.Prelude.{ℕ, List, [], Option, Some, map, ◌≡◌, ◌⊎◌, true}
use Rattle.wave_wasm.specs.HasType.{HasType}
use Rattle.wave_wasm.specs.Types.{TypeTree, HasDistinctNames}
use Rattle.wave_wasm.specs.TypeText.{type_text, function_text}
use Rattle.wave_wasm.specs.Values.{Value}
use Rattle.wave_wasm.specs.Text.{text, has_text}
use Rattle.wave_lex.specs.Errors.{Diagnostic}
use Rattle.wave_lex.specs.Labels.{HasDistinctLabels}
use Rattle.wave_type.specs.DistinctLabels.{FunctionHasDistinctLabels}
use Rattle.wave_type.specs.FunctionSpelling.{IsFunctionOf}
use Rattle.wave_type.specs.FunctionType.{FunctionType, func_of, types_of}
use Rattle.wave_type.specs.TypeErrors.{TypeRefusal}
use Rattle.wave_type.specs.TypeSpelling.{IsTypeOf}
use Rattle.wave_value.specs.TypedValue.{TypedValue, IsAt}
use Rattle.wave_grammar.specs.Denotes.{Means, SpellsText}
use Rattle.wave_grammar.specs.SpannedTree.{slice}
use Rattle.wave_grammar.specs.Tree.{Tree, display}
use Rattle.wave_tree.specs.FromStr.{IsRead}
use Rattle.wave_tree.specs.UntypedCall.{Called, IsCalledWithin, GivesParamsAt}
use Rattle.wave_tape.specs.Tape.{tape, call_tape}
use Rattle.wave_tape.specs.TypeTape.{type_tape, func_tape}
use Rattle.wave_type_explain.specs.TypeExplained as explained
use Rattle.wave_explain.specs.CallExplained.{IsCallExplained}
use Rattle.wave_explain.specs.ValueExplained.{IsValueExplained, IsUntypedExplained}
use Rattle.wave_c.specs.declared.ended.Failure.{Failure}
use Rattle.wave_c.specs.Failures.{IsNoTypeFor, IsNoFunctionFor, IsRefusedAt, IsRefusedUntyped, IsRefusedCall, FailsToExplain, FailsToExplainType}

-- ---- which type a call is made at

-- the text spells the type; its names are distinct labels
abbrev pub IsSpelledBy : List ℕ → TypeTree → Type 0
IsSpelledBy ty T = IsTypeOf ty T × HasDistinctLabels T

-- so a function's type
abbrev pub IsFunctionSpelledBy : List ℕ → FunctionType → Type 0
IsFunctionSpelledBy func f = IsFunctionOf func f × FunctionHasDistinctLabels f

-- what a handle holds is this
abbrev pub IsHeldBy : {X : Type 0} → Option X → X → Type 0
IsHeldBy held x = held ≡ Some x

module _ {X : Type 0} (IsOf : X → Type 0) where
  -- there is a type, and the bytes say this of it
  abbrev pub SaysAt : (X → List ℕ → Type 0) → List ℕ → Type 0
  SaysAt Says bytes = (x : X) × IsOf x × Says x bytes

  -- there is none, for this reason, or there is one, and this fails at it
  abbrev pub FailsAt : (Failure → Type 0) → (X → Failure → Type 0) → Failure → Type 0
  FailsAt HasNone Fails f = HasNone f ⊎ ((x : X) × IsOf x × Fails x f)

-- ---- values at a type; names of types have to be distinct labels

-- the text means the value within n levels at the type
abbrev pub IsMeantAt : ℕ → List ℕ → TypeTree → Value → Type 0
IsMeantAt n s T v = HasDistinctLabels T → Means T n s v

-- the canonical text of the value that the text means
abbrev pub IsCanonicalAt : ℕ → List ℕ → TypeTree → List ℕ → Type 0
IsCanonicalAt n s T bytes = (v : Value) × IsMeantAt n s T v × (has_text v ≡ true) × (bytes ≡ text v)

-- its tape
abbrev pub IsTapeAt : ℕ → List ℕ → TypeTree → List ℕ → Type 0
IsTapeAt n s T bytes = (v : Value) × IsMeantAt n s T v × (bytes ≡ tape v)

-- the canonical text of the value of which the bytes are the tape
abbrev pub IsWrittenAt : List ℕ → TypeTree → List ℕ → Type 0
IsWrittenAt taped T bytes = (v : Value) × (HasDistinctNames T → HasType T v × (taped ≡ tape v)) × (has_text v ≡ true) × (bytes ≡ text v)

-- what explains the refusal of the text; nothing where it means a value
abbrev pub IsExplanationAt : ℕ → List ℕ → TypeTree → List ℕ → Type 0
IsExplanationAt n s T bytes =
    ((e : Diagnostic) × IsRefusedAt n s T e × IsValueExplained s T e bytes) ⊎ ((v : Value) × IsMeantAt n s T v × (bytes ≡ []))

-- ---- types

-- what explains the refusal of a text that spells no type
abbrev pub IsTypeExplained : ℕ → List ℕ → List ℕ → Type 0
IsTypeExplained n ty bytes = (e : TypeRefusal) × IsNoTypeFor n ty e × explained.IsTypeExplained ty e bytes

-- so of a function's type; nothing where the text spells one
abbrev pub IsFunctionExplained : ℕ → List ℕ → List ℕ → Type 0
IsFunctionExplained n func bytes =
    ((e : TypeRefusal) × IsNoFunctionFor n func e × explained.IsFunctionExplained func e bytes)
    ⊎ ((f : FunctionType) × IsFunctionSpelledBy func f × (bytes ≡ []))

-- the canonical text of the type, and its tape
abbrev pub IsTypeTextAt : TypeTree → List ℕ → Type 0
IsTypeTextAt T bytes = bytes ≡ type_text T

abbrev pub IsTypeTapeAt : TypeTree → List ℕ → Type 0
IsTypeTapeAt T bytes = bytes ≡ type_tape T

-- so of a function's type
abbrev pub IsFunctionTextAt : FunctionType → List ℕ → Type 0
IsFunctionTextAt f bytes = bytes ≡ function_text (func_of f)

abbrev pub IsFunctionTapeAt : FunctionType → List ℕ → Type 0
IsFunctionTapeAt f bytes = bytes ≡ func_tape (func_of f)

-- what explains the refusal of the type's text, or of the text at the type
abbrev pub IsExplanationBy : ℕ → List ℕ → List ℕ → List ℕ → Type 0
IsExplanationBy n ty s bytes = IsTypeExplained n ty bytes ⊎ SaysAt (IsSpelledBy ty) (IsExplanationAt n s) bytes

-- why it can't be made
abbrev pub FailsToExplainBy : List ℕ → List ℕ → Failure → Type 0
FailsToExplainBy ty s f = FailsToExplainType ty f ⊎ FailsToExplain s f

-- ---- calls of a function

-- the text is this call within n levels, which gives the function's parameters these values
abbrev pub IsCalledAt : ℕ → List ℕ → FunctionType → Called → List TypedValue → Type 0
IsCalledAt n s f call vs = IsCalledWithin n s call × GivesParamsAt (λ (v : TypedValue). v.tree) (λ v T. IsAt T v) (types_of f.params) s call.params vs

-- the text is the call of the name, with these values
abbrev pub IsCallOf : ℕ → List ℕ → FunctionType → List ℕ → List TypedValue → Type 0
IsCallOf n s f name vs = (call : Called) × IsCalledAt n s f call vs × (name ≡ slice s call.name)

-- the tape of the call that the text is
abbrev pub IsCallTapeAt : ℕ → List ℕ → FunctionType → List ℕ → Type 0
IsCallTapeAt n s f bytes = (name : List ℕ) × (vs : List TypedValue) × IsCallOf n s f name vs × (bytes ≡ call_tape name (map (λ (v : TypedValue). v.tree) vs))

-- what explains the refusal of the call; nothing where it is one
abbrev pub IsCallExplanationAt : ℕ → List ℕ → FunctionType → List ℕ → Type 0
IsCallExplanationAt n s f bytes =
    ((e : Diagnostic) × IsRefusedCall n s f e × IsCallExplained s (func_of f) e bytes)
    ⊎ ((name : List ℕ) × (vs : List TypedValue) × IsCallOf n s f name vs × (bytes ≡ []))

-- ---- without a type

-- the display of the tree that the text spells within n levels
abbrev pub IsDisplayOf : ℕ → List ℕ → List ℕ → Type 0
IsDisplayOf n s bytes = (t : Tree) × SpellsText n s t × (bytes ≡ display t)

-- what explains the refusal of the text; nothing where it spells a tree
abbrev pub IsUntypedExplanationOf : ℕ → List ℕ → List ℕ → Type 0
IsUntypedExplanationOf n s bytes =
    ((e : Diagnostic) × IsRefusedUntyped n s e × IsUntypedExplained s e bytes) ⊎ ((t : Tree) × SpellsText n s t × (bytes ≡ []))

-- ---- reading at a type

-- the whole text was read as the value, within n levels
abbrev pub IsReadAt : ℕ → List ℕ → TypeTree → TypedValue → Type 0
IsReadAt n s T v = IsRead (λ (v : TypedValue). v.tree) (λ v T. IsAt T v) T n s v
