-- What tree a text spells, by what a parser takes of it.
use Rattle.std.proofs.Common.{◌≡◌, ℕ, inl, inr, List, [], sym, subst, Result, Ok, Err, None}
use Rattle.std.specs.Prelude.{IfErr, IsErrAnd}
use Rattle.wave_lex.specs.Errors.{Diagnostic}
use Rattle.wave_grammar.specs.Tree.{Tree}
use Rattle.wave_grammar.specs.ParserPosition.{Place, TakesItem}
use Rattle.wave_grammar.specs.PrefixAutomaton.{value}
use Rattle.wave_grammar.specs.SyntaxErrors.{LeadsBehindValue, FailsBySyntax}
use Rattle.wave_tree.specs.ParserLaws.{AreNext}
use Rattle.wave_tree.specs.ParsedNodes.{IsTaken}
use Rattle.wave_tree.specs.ParserState.{IsTrailing, start_of}
use Rattle.wave_tree.specs.Untyped.{Untyped, IsUntypedTaken, IsUntypedOf, RefusesTree}
use Rattle.wave_grammar.specs.Denotes.{SpellsText}
use Rattle.wave_grammar.proofs.Unambiguity.Trees.{one_tree}
use Rattle.wave_tree.proofs.ParserCorrectness.Sound.{read_have_tree, refused_have_none}
use Rattle.wave_tree.proofs.TextReading.Meaning.{all_of, all_cut, all_are_next, all_taken, nothing_there}

-- what the parser read of a text that spells a tree is all of it
pub ends_there : (n : ℕ) (s : List ℕ) (p : Place) (t u : Tree) → LeadsBehindValue n value [] (start_of s) p [] → IsTaken n (start_of s) p t → SpellsText n s u → (behind : Place) × TakesItem p None behind
ends_there n s p t u read h (tokens, cut, takes) =
    let all = all_of s tokens cut in
    let (w, rest, others, next) = read_have_tree n (start_of s) p tokens read (all_are_next (start_of s) tokens all) in
    let same = one_tree n n tokens u w [] rest takes others in
    let (tokens_are, place_is) = all_taken (start_of s) p h.tokens tokens h.taken (subst (AreNext p) (sym same.1) next) all in
    subst (λ z. (behind : Place) × TakesItem z None behind) (sym place_is) all.ends

-- a value after which nothing follows is that of the text
pub untyped_of : (n : ℕ) (s : List ℕ) (p : Place) (u : Untyped) → IsUntypedTaken n (start_of s) p u → ((behind : Place) × TakesItem p None behind) → IsUntypedOf n s u
untyped_of n s p u (same, h) ends = record {
  source = same;
  placed = h.placed;
  is_node = h.is_node;
  spelled = (h.taken.tokens, all_cut s p h.taken.tokens h.taken.taken ends, h.taken.takes);
  last = p;
  taken = h.taken;
  stands = h.stands;
  ends = ends;
}

-- where no tree stands a text spells none
pub refused_spells_none : (n : ℕ) (s : List ℕ) (e : Diagnostic) (p : Place) → FailsBySyntax e n value [] (start_of s) p → RefusesTree n s e
refused_spells_none n s e p h apart =
    let k = h apart in (
      inl (p, k),
      λ u (tokens, cut, takes). refused_have_none n e (start_of s) p tokens k (all_are_next (start_of s) tokens (all_of s tokens cut)) u [] takes,
    )

-- nor does one where something follows the tree
pub trailing_spells_none : (n : ℕ) (s : List ℕ) (e : Diagnostic) (p : Place) (t : Tree) → LeadsBehindValue n value [] (start_of s) p [] → IsTaken n (start_of s) p t → IsTrailing e p → RefusesTree n s e
trailing_spells_none n s e p t read taken trails apart =
    let (behind, any, says) = trails in (
      inr (p, t, read, taken, trails),
      λ u spelled. let ends = ends_there n s p t u read taken spelled in nothing_there p ends.0 behind ends.1 any,
    )

-- a refusal that is handed on
pub tree_refusal_handed : {X : Type 0} (n : ℕ) (s : List ℕ) (r : Result X Diagnostic) (e : Diagnostic) → IsErrAnd r (λ f. f ≡ e) → RefusesTree n s e → IfErr r (RefusesTree n s)
tree_refusal_handed n s (Ok x) e k h = tt
tree_refusal_handed n s (Err f) e k h = subst (RefusesTree n s) (sym k) h
