-- The faults that are told of a text, and what reading it answers.
use Rattle.std.proofs.Common.{ℕ, ◌≡◌, ◌≤◌, inl, inr, List, [], ◌∷◌, ◌++◌, sym, subst, arith}
use Rattle.wave_wasm.specs.Types.{TypeTree, HasDistinctNames}
use Rattle.wave_lex.specs.Errors.{Diagnostic}
use Rattle.wave_grammar.specs.ParserPosition.{Place}
use Rattle.wave_grammar.specs.PrefixAutomaton.{value}
use Rattle.wave_grammar.specs.SpannedTree.{SpannedTree, tree_of}
use Rattle.wave_grammar.specs.SyntaxErrors.{LeadsBehindValue}
use Rattle.wave_grammar.specs.Tree.{levels}
use Rattle.wave_grammar.proofs.Unambiguity.Levels.{takes-levels, takes-within}
use Rattle.wave_faults.specs.AllFaults.{AreFaults}
use Rattle.wave_faults.specs.FaultsOfText as node
use Rattle.wave_faults.proofs.EachTold.Table.{first_answered}
use Rattle.wave_faults.proofs.EachTold.Values.{no_fault_value, value_no_fault}
use Rattle.wave_tree.specs.FromStr.{IsTreeRead}
use Rattle.wave_tree.specs.ParsedNodes.{IsNodeTaken}
use Rattle.wave_tree.specs.ParserState.{start_of}
use Rattle.wave_tree.specs.Untyped.{Untyped, IsUntypedTaken}
use Rattle.wave_tree.proofs.TextReading.Meaning.{means_of, whole_read, refused_means_none, nothing_there}
use Rattle.wave_explain.specs.ValueExplained.{IsPrefix}
use Rattle.wave_commands.specs.Checked.{AreBehind, AreFaultsOf, AgreesWithReading}

-- a value within 100 levels is one within 1000
pub prefix_of : (s : List ℕ) (p : Place) (u : Untyped) → IsUntypedTaken 100 (start_of s) p u → IsPrefix s u
prefix_of s p u (same, h) =
    let fits : levels (tree_of h.placed) ≤ 1000 = omega (arith, takes-levels 100 h.taken.tokens (tree_of h.placed) [] h.taken.takes) in
    let within : IsNodeTaken 1000 (start_of s) p u.node = record {
      placed = h.placed;
      is_node = h.is_node;
      taken = record { tokens = h.taken.tokens; taken = h.taken.taken; takes = takes-within 100 1000 h.taken.tokens (tree_of h.placed) [] fits h.taken.takes };
      stands = h.stands;
    } in
    (p, (same, within))

-- the faults of the value's node are those of the text
pub node_faults : (T : TypeTree) (s : List ℕ) (p : Place) (u : Untyped) (faults others errors : List Diagnostic) → LeadsBehindValue 100 value [] (start_of s) p []
    → IsUntypedTaken 100 (start_of s) p u → node.AreFaultsOf T s u.node faults → AreBehind p others → errors ≡ faults ++ others → AreFaultsOf T s errors
node_faults T s p u faults others errors read (same, h) are behind is = inr (record {
  end = p;
  tree = h.placed;
  read = record { read = read; taken = h.taken; stands = h.stands; spelled = h.is_node.1 };
  faults = faults;
  are_faults = are h.placed h.is_node;
  others = others;
  are_behind = behind;
  errors_are = is;
})

-- those of a tree, and what stands behind it
tree_agrees : (T : TypeTree) (s : List ℕ) (p : Place) (t : SpannedTree) (faults others : List Diagnostic) → IsTreeRead 100 (start_of s) p t → AreFaults T t faults
    → AreBehind p others → HasDistinctNames T → AgreesWithReading T s (faults ++ others)
tree_agrees T s p t (e ∷ more) others read are behind distinct =
    (inr (inl (p, t, read, first_answered T t e more are)), λ v means. some_fault (value_no_fault T t (e ∷ more) v distinct are (whole_read T 100 s p (tree_of t) v read.read read.taken means).reads))
  where
    some_fault : e ∷ more ≡ [] → ⊥
    some_fault same = absurd (cc)
tree_agrees T s p t [] [] read are behind distinct =
    let (v, reads) = no_fault_value s T t read.spelled distinct are in
    (v, means_of T 100 s p (tree_of t) v read.taken behind reads)
tree_agrees T s p t [] (e ∷ []) read are (behind, any, says) distinct =
    let (v, reads) = no_fault_value s T t read.spelled distinct are in (
      inr (inr (p, t, v, read, reads, (behind, any, says))),
      λ w means. let ends = (whole_read T 100 s p (tree_of t) w read.read read.taken means).ends in nothing_there p ends.0 behind ends.1 any,
    )
tree_agrees T s p t [] (e ∷ f ∷ more) read are behind distinct = absurd behind

-- where none is told the text means a value; else the first is the one that reading the text answers
pub agrees : (T : TypeTree) (s : List ℕ) (errors : List Diagnostic) → AreFaultsOf T s errors → HasDistinctNames T → AgreesWithReading T s errors
agrees T s errors (inl (e, p, wrong, is)) distinct = subst (AgreesWithReading T s) (sym is) (inl (p, wrong), refused_means_none T 100 s e p wrong)
agrees T s errors (inr h) distinct =
    subst (AgreesWithReading T s) (sym h.errors_are) (tree_agrees T s h.end h.tree h.faults h.others h.read h.are_faults h.are_behind distinct)
