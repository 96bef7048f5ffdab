-- What reading without a type says of a request.
use Rattle.std.proofs.Common.{ℕ, ◌≡◌, ◌≢◌, ◌++◌, List, [], Ok, Err, ap, subst, ◌∙◌}
use Rattle.wave_lex.specs.Errors.{Diagnostic}
use Rattle.wave_lex.specs.declared.error.ParserErrorKind.TheVariants as kind
use Rattle.wave_grammar.specs.SpannedTree.{tree_of, slice}
use Rattle.wave_tree.specs.NodeDisplay.{display_at}
use Rattle.wave_tree.specs.ParserState.{Parsing, Finishes, first_at, limited, start_of}
use Rattle.wave_tree.specs.Untyped.{Untyped, IsUntypedTaken, IsUntypedOf, RefusesTree}
use Rattle.wave_tree.proofs.TextReading.TypedTexts.{whole_tree}
use Rattle.wave_tree.proofs.Displays.Nodes.{display_known}
use Rattle.wave_tree.proofs.Displays.Meaning.{params_display}
use Rattle.wave_grammar.specs.ParserPosition.{Place}
use Rattle.wave_grammar.specs.PrefixAutomaton.{value}
use Rattle.wave_grammar.specs.SyntaxErrors.{LeadsBehindValue, FailsBySyntax}
use Rattle.wave_tree.specs.UntypedCall.{Called, IsCalledOf, RefusesCall, params_at, call_display}
use Rattle.wave.specs.declared.request.Request.TheVariants.{Value, Call}
use Rattle.wave.specs.Answers.{Answers, IsRefused}

-- the display of the tree is the answer
pub displayed : (n : ℕ) (s : List ℕ) (u : Untyped) (answer : List ℕ) → IsUntypedOf n s u → answer ≡ display_at u.source u.node → Answers (Value n) s answer
displayed n s u answer of same =
    (tree_of of.placed, of.spelled, same ∙ (ap (λ source. display_at source u.node) of.source ∙ display_known s u.node of.placed of.is_node.0))

-- the display of the call is the answer
pub call_displayed : (s : List ℕ) (u : Called) (answer : List ℕ) → IsCalledOf s u → answer ≡ call_display u → Answers Call s answer
call_displayed s u answer of same = (
  slice s u.name,
  of.params,
  of.call,
  same ∙ (ap (λ source. slice source u.name ++ params_at source u.params) of.source ∙ params_display s (slice s u.name) u.params of.params of.means),
)

-- a refusal states a fault of the text, which spells no tree; or it is out of memory
pub spells_none : (n : ℕ) (s : List ℕ) (e : Diagnostic) → RefusesTree n s e → e.kind ≢ kind.OutOfMemory → IsRefused (Value n) s e
spells_none n s e fault other = ((fault other).0, λ answer found. (fault other).1 found.0 found.1)

-- a refusal states a fault of the text, which is no call; or it is out of memory
pub is_no_call : (s : List ℕ) (e : Diagnostic) → RefusesCall s e → e.kind ≢ kind.OutOfMemory → IsRefused Call s e
is_no_call s e fault other = ((fault other).0, λ answer found. (fault other).1 found.0 found.1 found.2)

-- ---- a parser before the text

-- a tree that was read there, with nothing after it
pub tree_whole : (n : ℕ) (s : List ℕ) (old : Parsing) (p : Place) (u : Untyped) → old ≡ limited (first_at (start_of s).lexer) n → IsUntypedTaken old.limit old.place p u → Finishes (Ok tt) p → IsUntypedOf n s u
tree_whole n s old p u first taken ends = (whole_tree n s).ends p u (subst (λ (z : Parsing). IsUntypedTaken z.limit z.place p u) first taken) ends

-- a tree with something after it
pub tree_trails : (n : ℕ) (s : List ℕ) (old : Parsing) (p : Place) (u : Untyped) (e : Diagnostic) → old ≡ limited (first_at (start_of s).lexer) n →
    LeadsBehindValue old.limit value [] old.place p [] → IsUntypedTaken old.limit old.place p u → Finishes (Err e) p → RefusesTree n s e
tree_trails n s old p u e first read taken ends =
    (whole_tree n s).trails p u e (subst (λ (z : Parsing). LeadsBehindValue z.limit value [] z.place p []) first read) (subst (λ (z : Parsing). IsUntypedTaken z.limit z.place p u) first taken) ends

-- a tree that was refused
pub tree_refused : (n : ℕ) (s : List ℕ) (old : Parsing) (p : Place) (e : Diagnostic) → old ≡ limited (first_at (start_of s).lexer) n → FailsBySyntax e old.limit value [] old.place p → RefusesTree n s e
tree_refused n s old p e first refused = (whole_tree n s).refused p e (subst (λ (z : Parsing). FailsBySyntax e z.limit value [] z.place p) first refused)
