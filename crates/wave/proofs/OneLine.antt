-- What is written of one line.
use Rattle.std.proofs.Common.{ℕ, ◌≡◌, ◌≢◌, Bool, true, false, List, [], Result, Ok, Err, refl, subst, inr}
use Rattle.std.specs.Prelude.{MatchBool, is_ok, IsUtf8}
use Rattle.wave_lex.specs.Errors.{Diagnostic}
use Rattle.wave_lex.specs.declared.error.ParserErrorKind.TheVariants as kind
use Rattle.wave_tree.specs.ParserState.{Finishes, start_of}
use Rattle.wave.specs.declared.request.Request.{Request}
use Rattle.wave.specs.Answers.{IsRefused}
use Rattle.wave.specs.ByLines.{IsBlank, HasItem, IsLineExplained, IsLineAnswer}
use Rattle.wave.specs.Lines.{line}

-- whether anything stands in the text
pub blank_or_not : (text : List ℕ) (r : Result (Unit {0}) Diagnostic) → Finishes r (start_of text) → MatchBool (is_ok r) (IsBlank text) (HasItem text)
blank_or_not text (Ok u) ends = ends
blank_or_not text (Err e) (behind, any, says) = (behind, any)

module _ (request : Request) (number : ℕ) (bytes text : List ℕ) (is : text ≡ bytes) (utf8 : IsUtf8 bytes) (printed shown : List ℕ) where
  -- a line that was refused
  pub refused_line : (e : Diagnostic) (b : Bool) → b ≡ false → MatchBool b (IsBlank text) (HasItem text) → (e.kind ≢ kind.OutOfMemory → IsRefused request text e) → e.kind ≢ kind.OutOfMemory
      → IsLineExplained request number text e shown → printed ≡ line [] → (said : List ℕ) × IsLineAnswer request number bytes said shown × (printed ≡ line said)
  refused_line e true f item refused other explained prints = absurd (cc f)
  refused_line e false f item refused other explained prints =
      ([], (utf8, inr (inr (e, subst HasItem is item, subst (λ t. IsRefused request t e) is (refused other), refl, subst (λ t. IsLineExplained request number t e shown) is explained))), prints)
