-- What a node of one token answers at a simple type.
use Rattle.std.specs.Prelude.{ℕ, ℤ, ◌≢◌, Bool, List, [], ◌∷◌, Option, Some, None, Ok, Err}
use Rattle.wave_wasm.specs.Types as type
use Rattle.wave_wasm.specs.Types.{Simple}
use Rattle.wave_lex.specs.Errors.{Diagnostic}
use Rattle.wave_lex.specs.declared.error.ParserErrorKind.TheVariants.{OutOfMemory}
use Rattle.wave_grammar.specs.NodeTree.{NodeTree}
use Rattle.wave_grammar.specs.NodeAccessors.{GivesBool, GivesNumber, GivesChar}
use Rattle.wave_grammar.specs.NodeStrings.{StandsFor, RefusesString}

-- nothing where it gives a value of the type, or why it gives none
abbrev pub AnswersLeaf : Simple → List ℕ → NodeTree → Option Diagnostic → Type 0
AnswersLeaf type.bool source n None = (b : Bool) × GivesBool n (Ok b)
AnswersLeaf type.bool source n (Some e) = GivesBool n (Err e)
AnswersLeaf (type.whole which) source n None = (z : ℤ) × GivesNumber which (λ (x : ℤ). x) source n (Ok z)
AnswersLeaf (type.whole which) source n (Some e) = GivesNumber which (λ (x : ℤ). x) source n (Err e)
AnswersLeaf type.char source n None = (c : ℕ) × GivesChar source n (Ok c)
AnswersLeaf type.char source n (Some e) = GivesChar source n (Err e)
AnswersLeaf type.string source n None = (s : List ℕ) × StandsFor source n s
AnswersLeaf type.string source n (Some e) = RefusesString source n e × (e.kind ≢ OutOfMemory)

-- the error, where there is one
abbrev pub errors_in : Option Diagnostic → List Diagnostic
errors_in None = []
errors_in (Some e) = e ∷ []
