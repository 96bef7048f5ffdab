-- What is kept while the faults of a record are told.
use Rattle.std.specs.Prelude.{ℕ, ◌≡◌, ◌++◌, List, [], ◌∷◌, Option, Some, None, MatchOption}
use Rattle.std.specs.Borrow.{Bor}
use Rattle.std.specs.BTreeMap.{BTreeMap}
use Rattle.wave_wasm.specs.Names.{IsOneOf, IsNoneOf}
use Rattle.wave_wasm.specs.Types.{TypeTree, Fields, field_names}
use Rattle.wave_wasm.specs.Borrowed.{denoted}
use Rattle.wave_lex.specs.Errors.{Diagnostic}
use Rattle.wave_grammar.specs.SpannedTree.{SpannedTree, PlacedEntry, span_of, shape_of}
use Rattle.wave_grammar.specs.TypedGrammar.{look_up}
use Rattle.wave_grammar.specs.TypeErrors.{names_in, record_in}
use Rattle.wave_grammar.specs.FaultOrder.{FaultOfKey}
use Rattle.wave_grammar.specs.NodeFields.{held_at}
use Rattle.wave_faults.specs.AllFaults.{Alone, OfEntries, AreFaultsOfValue}
use Rattle.wave_faults.specs.Private.Told.{Adds}

-- the map has the first field of each name
abbrev pub LooksUp : {S : Type 0} → (S → TypeTree) → BTreeMap (Bor (List ℕ)) (Bor S) → List (List ℕ × TypeTree) → Type 0
LooksUp tree m fields = (name : List ℕ) → denoted tree (held_at m name) ≡ look_up fields name

-- the map has these names, and no other
abbrev pub HasNames : {X : Type 0} → BTreeMap (Bor (List ℕ)) X → List (List ℕ) → Type 0
HasNames m names = (name : List ℕ) → MatchOption (held_at m name) (IsNoneOf names name) (λ _. IsOneOf names name)

-- the names of these keys before the others, the last first
abbrev pub names_behind : List (List ℕ) → List PlacedEntry → List (List ℕ)
names_behind earlier [] = earlier
names_behind earlier (e ∷ more) = names_behind (names_in e.key ++ earlier) more

-- the name, where there is one
abbrev pub name_list : Option (Bor (List ℕ)) → List (List ℕ)
name_list None = []
name_list (Some name) = name.now ∷ []

-- a key was told, behind keys of these names
pub record KeyTold {X : Type 0} (earlier : List (List ℕ)) (e : PlacedEntry) (name : Option (Bor (List ℕ))) (seen : BTreeMap (Bor (List ℕ)) X) (old new : List Diagnostic) : Type 0 where
  pub told : Adds (Alone (FaultOfKey earlier e)) old new
  pub has : HasNames seen (names_in e.key ++ earlier)
  pub named : names_in e.key ≡ name_list name

-- the entries of the tree were told, at these fields
pub record EntriesTold {X : Type 0} (fs : Fields) (t : SpannedTree) (seen : BTreeMap (Bor (List ℕ)) X) (old new : List Diagnostic) : Type 0 where
  pub entries : List PlacedEntry
  pub form : record_in (shape_of t) ≡ Some entries
  pub told : Adds (OfEntries (field_names fs) (λ e. AreFaultsOfValue fs e) [] entries (span_of t)) old new
  pub has : HasNames seen (names_behind [] entries)
