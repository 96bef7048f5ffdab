-- Reading a text, and reading its untyped value, agree.
use Rattle.std.proofs.Common.{ℕ, ◌≡◌, List, sym, ◌∙◌, subst}
use Rattle.wave_wasm.specs.Types.{TypeTree}
use Rattle.wave_wasm.specs.Values.{Value}
use Rattle.wave_grammar.specs.SpannedTree.{SpannedTree, tree_of}
use Rattle.wave_grammar.specs.Nodes.{IsNodeOf}
use Rattle.wave_grammar.specs.Denotes.{SpellsText}
use Rattle.wave_tree.specs.UntypedLaws.{IsTreeOfText, ReadAlike, RefusedAlike}
use Rattle.wave_grammar.proofs.ChildNodes.Inside.{some_is}
use Rattle.wave_grammar.proofs.Equivalence.ByTree.{means_tree, spelled_means, tree_means}

-- the tree of a text's untyped value is the one that the text spells
text_spells : (n : ℕ) (s : List ℕ) (t : SpannedTree) → IsTreeOfText n s t → SpellsText n s (tree_of t)
text_spells n s t (u, h, node) =
    let here : IsNodeOf s u.node t = subst (λ (z : List ℕ). IsNodeOf z u.node t) h.source node in
    let same : h.placed ≡ t = some_is _ _ (sym h.is_node.0 ∙ here.0) in
    subst (λ (p : SpannedTree). SpellsText n s (tree_of p)) same h.spelled

pub read_alike : {V : Type 0} (tree : V → Value) (of : V → TypeTree → Type 0) → ReadAlike tree of
read_alike tree of n s t text T v =
    let spelled : SpellsText n s (tree_of t) = text_spells n s t text in (
      λ h. record { reads = spelled_means T n s (tree v) (tree_of t) spelled h.0; is_of = h.1 },
      λ h. (tree_means T n s (tree v) (tree_of t) spelled h.reads, h.is_of),
    )

pub refused_alike : RefusedAlike
refused_alike n s T = (
  λ none v means. let (t, spelled, read) = means_tree T n s v means in none t spelled,
  λ t text.
      let spelled : SpellsText n s (tree_of t) = text_spells n s t text in (
        λ none v read. none v (tree_means T n s v (tree_of t) spelled read),
        λ none v means. none v (spelled_means T n s v (tree_of t) spelled means),
      ),
)
