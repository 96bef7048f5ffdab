-- What reading a value at a type answers, from a place and from a whole text.
use Rattle.std.specs.Prelude.{ℕ, ◌≡◌, ◌≤◌, ◌*◌, ◌⊎◌, ◌≢◌, List, [], None}
use Rattle.wave_lex.specs.declared.error.ParserErrorKind.TheVariants.{WasmValueError, OutOfMemory}
use Rattle.wave_lex.specs.Errors.{Diagnostic, Says, LiesInText, refusal_of}
use Rattle.wave_lex.specs.Tokenization.{span}
use Rattle.wave_grammar.specs.NodeTree.{NodeTree}
use Rattle.wave_grammar.specs.ParserPosition.{Place}
use Rattle.wave_tree.specs.ParsedNodes.{IsNodeTaken, IsTaken, StandsBetween}
use Rattle.wave_grammar.specs.ErrorSpans.{IsCausedIn, HasTypeKind}
use Rattle.wave_wasm.specs.Types.{TypeTree, HasDistinctNames}
use Rattle.wave_wasm.specs.Values.{Value}
use Rattle.wave_wasm.specs.Merge.{merged}
use Rattle.wave_grammar.specs.PrefixAutomaton.{value}
use Rattle.wave_grammar.specs.SyntaxErrors.{LeadsBehindValue, IsSyntaxError}
use Rattle.wave_grammar.specs.SpannedTree.{SpannedTree, tree_of, SpellsEach}
use Rattle.wave_grammar.specs.Elaborates.{TreeReads}
use Rattle.wave_grammar.specs.FaultOrder.{in_text, FirstFault}
use Rattle.wave_grammar.specs.Denotes.{Means, MeansNone}
use Rattle.wave_grammar.specs.Tree.{levels}
use Rattle.wave_grammar.specs.RoundTripLaws.{ReadBack}
use Rattle.wave_tree.specs.ParserState.{IsTrailing, start_of}
use Rattle.wave_tree.specs.Untyped.{SpellsTree, RefusesTree}
use Rattle.wave_grammar.specs.TypedReading as typed

-- a tree within n levels was read; it stands there, and each part of it spells its slice of the source
pub record IsTreeRead (n : ℕ) (old new : Place) (t : SpannedTree) : Type 0 where
  pub read : LeadsBehindValue n value [] old new []
  pub taken : IsTaken n old new (tree_of t)
  pub stands : StandsBetween old new t
  pub spelled : SpellsEach old.lexer.source t

-- ---- values

module _ {V : Type 0} (tree : V → Value) (of : V → TypeTree → Type 0) where
  -- a tree within n levels was read; where the type's names are distinct it gives the tree the value
  pub record IsValueTaken (T : TypeTree) (n : ℕ) (old new : Place) (v : V) : Type 0 where
    pub placed : SpannedTree
    pub read : IsTreeRead n old new placed
    pub means : HasDistinctNames T → typed.IsTypedValue tree of T placed v

  -- the text means the value within n levels; the value is of the type and merged
  abbrev pub IsMeant : TypeTree → ℕ → List ℕ → V → Type 0
  IsMeant T n s v = Means T n s (tree v) × of v T × (merged (tree v) ≡ tree v)

  -- the whole text spells a tree within n levels; where the type's names are distinct it means the value
  pub record IsRead (T : TypeTree) (n : ℕ) (s : List ℕ) (v : V) : Type 0 where
    pub spelled : SpellsTree n s
    pub meant : HasDistinctNames T → IsMeant T n s v

-- the canonical text of the value reads back, and has at most twice n levels
abbrev pub PrintsWithinTwice : TypeTree → ℕ → Value → Type 0
PrintsWithinTwice T n v = (back : ReadBack T v) × (levels back.tree ≤ 2 * n)

-- ---- refusals

module _ (Full : TypeTree → Type 0) where
  -- a tree was read, and the refusal is of a kind that reading one at a type answers; where the type's names are distinct it gives the tree no value, or a
  -- constructor refused its value
  pub record IsTypeRefused (T : TypeTree) (n : ℕ) (e : Diagnostic) (old new : Place) : Type 0 where
    pub placed : SpannedTree
    pub read : IsTreeRead n old new placed
    pub kind : HasTypeKind e
    pub blames : HasDistinctNames T → FirstFault in_text in_text T placed (refusal_of e) e.span × typed.ReadsNone T placed ⊎ (e.kind ≡ WasmValueError) × (Full T → ⊥)

  -- no value was read: for lack of memory, or no tree within n levels stands there, or one that is refused at the type
  abbrev pub RefusesValue : TypeTree → ℕ → Diagnostic → Place → Place → Type 0
  RefusesValue T n e old new = (e.kind ≢ OutOfMemory) → IsSyntaxError e n value [] old new ⊎ IsTypeRefused T n e old new

-- a `WasmValueError` stands, with a cause, at a node of the tree whose tokens the parser took
abbrev pub IsCausedBetween : ℕ → Place → Place → Diagnostic → Type 0
IsCausedBetween n old new e = e.kind ≡ WasmValueError → (node : NodeTree) × IsNodeTaken n old new node × IsCausedIn node e

-- at any type: the text spells no tree within n levels, or there is no memory; or a tree begins the text, and the refusal is of a kind that reading one at
-- a type answers
abbrev pub RefusesStart : ℕ → List ℕ → Diagnostic → Type 0
RefusesStart n s e =
    RefusesTree n s e ⊎ ((p : Place) × (t : SpannedTree) × IsTreeRead n (start_of s) p t × HasTypeKind e)

-- what is wrong with the text: no tree within n levels begins it; or the type gives the tree that does no value; or something follows that tree, which has one
abbrev pub TextFault : TypeTree → ℕ → List ℕ → Diagnostic → Type 0
TextFault T n s e =
    ((p : Place) × IsSyntaxError e n value [] (start_of s) p)
    ⊎ ((p : Place) × (t : SpannedTree) × IsTreeRead n (start_of s) p t × FirstFault in_text in_text T t (refusal_of e) e.span)
    ⊎ ((p : Place) × (t : SpannedTree) × (v : Value) × IsTreeRead n (start_of s) p t × TreeReads T (tree_of t) v × IsTrailing e p)

-- out of memory; or a fault of the text, which within n levels means no value of the type; or, where constructors do not serve all values of the type, the
-- refusal of one
abbrev pub BlamesText : (TypeTree → Type 0) → TypeTree → ℕ → List ℕ → Diagnostic → Type 0
BlamesText Full T n s e =
    (e.kind ≡ OutOfMemory) ⊎ TextFault T n s e × MeansNone T n s ⊎ (e.kind ≡ WasmValueError) × (Full T → ⊥)

-- what the refusal of a text within n levels says: at any type of its tree, where the type's names are distinct of its meaning; its span lies in the text;
-- a `WasmValueError` has a cause, and stands at a node of what was read; out of memory stands at 0..0
pub record RefusesText (Full : TypeTree → Type 0) (T : TypeTree) (n : ℕ) (s : List ℕ) (e : Diagnostic) : Type 0 where
  pub prefix : RefusesStart n s e
  pub blames : HasDistinctNames T → BlamesText Full T n s e
  pub within : LiesInText s e.span
  pub caused : (p : Place) × IsCausedBetween n (start_of s) p e
  pub memory : e.kind ≡ OutOfMemory → Says e OutOfMemory (span 0 0) None
