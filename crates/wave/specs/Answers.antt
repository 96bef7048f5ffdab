-- What the program answers.
use Rattle.std.specs.Prelude.{ℕ, List, ◌≡◌, ◌⊎◌, ◌++◌, IfSome, IsUtf8, codes}
use Rattle.std.specs.Str.{IsValidUpTo}
use Rattle.std.specs.declared.option.Option.{Option}
use Rattle.wave_wasm.specs.Values.{Value}
use Rattle.wave_wasm.specs.Text.{text, arguments_text}
use Rattle.wave_type.specs.FunctionType.{types_of}
use Rattle.wave_lex.specs.Errors.{Diagnostic}
use Rattle.wave_grammar.specs.Tree.{Tree, MaybeTree, display}
use Rattle.wave_grammar.specs.Calls.{IsCall, display_call}
use Rattle.wave_grammar.specs.Denotes.{Means, SpellsText}
use Rattle.wave_tree.specs.FromStr.{TextFault}
use Rattle.wave_tree.specs.Untyped.{SyntaxFault}
use Rattle.wave_tree.specs.UntypedCall.{CallFault}
use Rattle.wave.specs.declared.request.Request.{Request}
use Rattle.wave.specs.declared.request.Request.TheVariants as request
use Rattle.wave.specs.declared.input.Input.{Input}
use Rattle.wave.specs.declared.input.RunError.{RunError}
use Rattle.wave.specs.declared.input.RunError.TheVariants.{NotUtf8, InputFailed, OutOfMemory}
use Rattle.wave.specs.Lines.{line}
use Rattle.wave.specs.TypedCalls.{IsCallAt, CallFaultAt}
use Rattle.wave.specs.ReadFaults.{IsReadToEnd, IsUnread}

-- the request on the text has the answer: the display of the tree that the text spells within n levels, that of the call that it is,
-- the call's name and the canonical parameters at the function's types, or the canonical text of the value that it means at the type within n levels
abbrev pub Answers : Request → List ℕ → List ℕ → Type 0
Answers (request.Value n) whole answer = (t : Tree) × SpellsText n whole t × (answer ≡ display t)
Answers request.Call whole answer = (name : List ℕ) × (params : MaybeTree) × IsCall whole name params × (answer ≡ display_call name params)
Answers (request.CallAt f) whole answer =
    (name : List ℕ) × (vs : List Value) × IsCallAt (types_of f.params) whole name vs × (answer ≡ name ++ arguments_text vs)
Answers (request.Read T n) whole answer = (v : Value) × Means T n whole v × (answer ≡ text v)

-- the refusal states a fault of the text: its kind, detail, cause and place
abbrev pub ReportsFaultOf : Request → List ℕ → Diagnostic → Type 0
ReportsFaultOf (request.Value n) whole e = SyntaxFault n whole e
ReportsFaultOf request.Call whole e = CallFault whole e
ReportsFaultOf (request.CallAt f) whole e = CallFault whole e ⊎ CallFaultAt (types_of f.params) whole e
ReportsFaultOf (request.Read T n) whole e = TextFault T n whole e

-- the request on the text has no answer, and the refusal says why
abbrev pub IsRefused : Request → List ℕ → Diagnostic → Type 0
IsRefused request whole e = ReportsFaultOf request whole e × ((answer : List ℕ) → Answers request whole answer → ⊥)

-- the bytes left are the text, where they are known
abbrev pub IsInput : Option (List ℕ) → List ℕ → Type 0
IsInput left whole = IfSome left (λ bytes. whole ≡ bytes) × IsUtf8 whole

-- the bytes are no text, and the longest beginning of them that is one has so many
abbrev pub IsTextUpTo : List ℕ → ℕ → Type 0
IsTextUpTo bytes place = (IsUtf8 bytes → ⊥) × IsValidUpTo bytes place

-- the input is no text, and its longest beginning that is one has so many bytes
abbrev pub IsNoText : Option (List ℕ) → ℕ → Type 0
IsNoText left place = (bytes : List ℕ) × IfSome left (λ known. bytes ≡ known) × IsTextUpTo bytes place

-- the words of a fault
abbrev pub words_of_fault : RunError → List ℕ
words_of_fault (NotUtf8 place) = codes "input is not UTF-8"
words_of_fault InputFailed = codes "input failed"
words_of_fault OutOfMemory = codes "out of memory"

module _ {R : Type 0} where
  -- the fault is there: the input was read to its end and is no text, or was not read to its end; or there was no memory, and no read failed
  abbrev pub IsFaultOf : Option (List ℕ) → Input R → Input R → RunError → Type 0
  IsFaultOf left old new (NotUtf8 place) = IsNoText left place × IsReadToEnd old new
  IsFaultOf left old new InputFailed = IsUnread old new
  IsFaultOf left old new OutOfMemory = new.failures ≡ old.failures

-- what is written for arguments that make no request
abbrev pub usage : List ℕ
usage = line (codes "usage: wave value [N] | wave call | wave read NAME [N]")
