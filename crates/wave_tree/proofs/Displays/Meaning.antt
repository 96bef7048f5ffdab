-- The display of a node, and of a call, keeps what it means.
use Rattle.std.proofs.Common.{ℕ, ◌≡◌, ◌++◌, List, Option, Some, None, sym, ap, subst, ◌∙◌}
use Rattle.wave_grammar.specs.Tree.{MaybeTree, display}
use Rattle.wave_grammar.specs.Calls.{display_call}
use Rattle.wave_grammar.specs.SpannedTree.{slice, tree_of, at}
use Rattle.wave_grammar.specs.NodeTree.{NodeTree, place_of}
use Rattle.wave_tree.specs.NodeDisplay.{display_at}
use Rattle.wave_grammar.specs.DisplayLaws.{MeanTheSame}
use Rattle.wave_tree.specs.DisplayKeeps.{IsKeptByDisplay, IsCallKeptByDisplay}
use Rattle.wave_tree.specs.UntypedCall.{Called, MeansParams, call_display, params_at}
use Rattle.wave_grammar.proofs.ChildNodes.Inside.{inside}
use Rattle.wave_tree.proofs.Displays.Nodes.{display_known}
use Rattle.wave_grammar.proofs.NodeMeaning.AsTokens.{filled}
use Rattle.wave_grammar.proofs.Display.Meaning.{display_keeps}
use Rattle.wave_grammar.proofs.Display.Calls.{display_call_keeps}

pub kept_by_display : (source : List ℕ) (n : NodeTree) → IsKeptByDisplay source n (display_at source n)
kept_by_display source n (at p s) node =
    let place : p ≡ place_of n = (inside source n (at p s) node.0).place in
    let (tokens, held, spelled) = node.1.0 in
    let is = display_known source n (at p s) node.0 in
    let (again, same) = display_keeps (slice source p) (tree_of (at p s)) (tokens, filled source p tokens held, spelled) in
    (is, again, subst (λ (z : List ℕ). MeanTheSame (slice source (place_of n)) z) (sym is) (subst (λ q. MeanTheSame (slice source q) (display (tree_of (at p s)))) place same))

-- what is displayed of a call's parameters is the display of their tuple
pub params_display : (source name : List ℕ) (o : Option NodeTree) (params : MaybeTree) → MeansParams source o params → name ++ params_at source o ≡ display_call name params
params_display source name None params is = sym (ap (display_call name) is)
params_display source name (Some n) params (t, node, is) = ap (λ (z : List ℕ). name ++ z) (display_known source n t node.0) ∙ sym (ap (display_call name) is)

pub call_kept_by_display : (u : Called) → IsCallKeptByDisplay u (call_display u)
call_kept_by_display u c =
    (params_display u.source (slice u.source u.name) u.params c.params c.means, display_call_keeps u.source (slice u.source u.name) c.params c.call)
