-- A text means what the tree that it spells means.
use Rattle.std.proofs.Common.{ℕ, ◌≡◌, ◌≤◌, List, [], subst}
use Rattle.wave_wasm.specs.Types.{TypeTree}
use Rattle.wave_wasm.specs.Values.{Value}
use Rattle.wave_grammar.specs.Token.{Token, TokenizesTo}
use Rattle.wave_grammar.specs.Tree.{Tree, Takes, levels}
use Rattle.wave_grammar.specs.TypedGrammar.{Reads}
use Rattle.wave_grammar.specs.Elaborates.{TreeReads}
use Rattle.wave_grammar.specs.Denotes.{Means, SpellsText}
use Rattle.wave_grammar.specs.EquivalenceLaws.{MeansByTree, SameTokensMeanTheSame, SameTreeMeansTheSame}
use Rattle.wave_grammar.proofs.Elaboration.GrammarToTree.{through}
use Rattle.wave_grammar.proofs.Elaboration.TreeToGrammar.{back}
use Rattle.wave_grammar.proofs.Unambiguity.Levels.{takes-levels, takes-within}
use Rattle.wave_grammar.proofs.Unambiguity.Trees.{one_tree}
use Rattle.wave_grammar.proofs.RoundTrip.Leaves.{one_cut_into}

-- what a text means a tree means that it spells
pub means_tree : (T : TypeTree) (n : ℕ) (s : List ℕ) (v : Value) → Means T n s v → (t : Tree) × SpellsText n s t × TreeReads T t v
means_tree T n s v (tokens, cut, read) =
    let (t, takes, means) = through T n tokens v [] read (λ more e. cc) in
    (t, (tokens, cut, takes), means)

pub tree_means : (T : TypeTree) (n : ℕ) (s : List ℕ) (v : Value) (t : Tree) → SpellsText n s t → TreeReads T t v → Means T n s v
tree_means T n s v t (tokens, cut, takes) means = (tokens, cut, back T n tokens t v [] takes means)

pub means_by_tree : MeansByTree
means_by_tree T n s v = (means_tree T n s v, λ h. tree_means T n s v h.0 h.1 h.2)

-- a text spells one tree
one_spelled : (n : ℕ) (s : List ℕ) (t u : Tree) → SpellsText n s t → SpellsText n s u → t ≡ u
one_spelled n s t u (tokens, cut, takes) (others, other_cut, other_takes) =
    let same : tokens ≡ others = one_cut_into s tokens others cut other_cut in
    (one_tree n n others t u [] [] (subst (λ (z : List Token). Takes n z t []) same takes) other_takes).0

-- what a text means, the tree that it spells means
pub spelled_means : (T : TypeTree) (n : ℕ) (s : List ℕ) (v : Value) (t : Tree) → SpellsText n s t → Means T n s v → TreeReads T t v
spelled_means T n s v t spelled means =
    let (u, other, read) = means_tree T n s v means in
    subst (λ (z : Tree). TreeReads T z v) (one_spelled n s u t other spelled) read

pub same_tokens : SameTokensMeanTheSame
same_tokens s d tokens cut other T n v = (across s d cut other, across d s other cut)
  where
    across : (s d : List ℕ) → TokenizesTo s tokens → TokenizesTo d tokens → Means T n s v → Means T n d v
    across s d cut other (us, c, read) = (tokens, other, subst (λ (z : List Token). Reads T n z v []) (one_cut_into s us tokens c cut) read)

-- what a text means that spells a tree, another text means that spells it
pub carried_over : (T : TypeTree) (limit : ℕ) (s d : List ℕ) (n m : ℕ) (tokens others : List Token) (t : Tree) (v : Value) → TokenizesTo s tokens → TokenizesTo d others → Takes n tokens t [] → Takes m others t [] → Means T limit s v → Means T limit d v
carried_over T limit s d n m tokens others t v cut other_cut takes other_takes means =
    let (w, (us, c, here), read) = means_tree T limit s v means in
    let same : us ≡ tokens = one_cut_into s us tokens c cut in
    let fits : Takes limit tokens w [] = subst (λ (z : List Token). Takes limit z w []) same here in
    let is : w ≡ t = (one_tree limit n tokens w t [] [] fits takes).0 in
    let low : levels t ≤ limit = subst (λ (z : Tree). levels z ≤ limit) is (takes-levels limit tokens w [] fits) in
    tree_means T limit d v t (others, other_cut, takes-within m limit others t [] low other_takes) (subst (λ (z : Tree). TreeReads T z v) is read)

pub same_tree : SameTreeMeansTheSame
same_tree s d t (tokens, cut, (n, takes)) (others, other_cut, (m, other_takes)) T limit v = (
  carried_over T limit s d n m tokens others t v cut other_cut takes other_takes,
  carried_over T limit d s m n others tokens t v other_cut cut other_takes takes,
)
