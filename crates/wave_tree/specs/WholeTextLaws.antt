-- What reading a value at the start of a text, and then looking whether something follows, says of the whole text.
use Rattle.std.specs.Prelude.{ℕ, List, [], Ok, Err}
use Rattle.wave_wasm.specs.Types.{TypeTree, HasDistinctNames}
use Rattle.wave_wasm.specs.Values.{Value}
use Rattle.wave_lex.specs.Errors.{Diagnostic}
use Rattle.wave_grammar.specs.ParserPosition.{Place}
use Rattle.wave_grammar.specs.PrefixAutomaton.{value}
use Rattle.wave_grammar.specs.SyntaxErrors.{LeadsBehindValue, FailsBySyntax}
use Rattle.wave_tree.specs.ParserState.{Finishes, start_of}
use Rattle.wave_tree.specs.FromStr.{IsValueTaken, RefusesValue, IsRead, RefusesStart, BlamesText, RefusesText}
use Rattle.wave_tree.specs.Untyped.{Untyped, IsUntypedTaken, IsUntypedOf, RefusesTree}

module _ {V : Type 0} (tree : V → Value) (of : V → TypeTree → Type 0) (Full : TypeTree → Type 0) where
  -- within n levels: a value that nothing follows is that of the text; one that something follows, and a refusal, show a fault of the text
  pub record ReadsWholeText (T : TypeTree) (n : ℕ) (s : List ℕ) : Type 0 where
    pub ends : (p : Place) (v : V) → IsValueTaken tree of T n (start_of s) p v → Finishes (Ok tt) p → IsRead tree of T n s v
    pub trails : (p : Place) (v : V) (e : Diagnostic) → IsValueTaken tree of T n (start_of s) p v → Finishes (Err e) p → RefusesText Full T n s e
    pub refused : (p : Place) (e : Diagnostic) → RefusesValue Full T n e (start_of s) p → RefusesStart n s e × (HasDistinctNames T → BlamesText Full T n s e)

-- the same of untyped values
pub record ReadsWholeTree (n : ℕ) (s : List ℕ) : Type 0 where
  pub ends : (p : Place) (u : Untyped) → IsUntypedTaken n (start_of s) p u → Finishes (Ok tt) p → IsUntypedOf n s u
  pub trails : (p : Place) (u : Untyped) (e : Diagnostic) → LeadsBehindValue n value [] (start_of s) p [] → IsUntypedTaken n (start_of s) p u
      → Finishes (Err e) p → RefusesTree n s e
  pub refused : (p : Place) (e : Diagnostic) → FailsBySyntax e n value [] (start_of s) p → RefusesTree n s e
