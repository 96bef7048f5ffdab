-- What is kept where untyped values and calls are displayed.
use Rattle.std.specs.Prelude.{ℕ, ◌≡◌, ◌↔◌, List, Some}
use Rattle.wave_wasm.specs.Types.{TypeTree}
use Rattle.wave_wasm.specs.Values.{Value}
use Rattle.wave_grammar.specs.Tree.{display}
use Rattle.wave_grammar.specs.Calls.{display_call}
use Rattle.wave_grammar.specs.Params.{Params}
use Rattle.wave_grammar.specs.SpannedTree.{SpannedTree, slice, tree_of}
use Rattle.wave_grammar.specs.NodeTree.{NodeTree, place_of}
use Rattle.wave_grammar.specs.Nodes.{IsNodeOf}
use Rattle.wave_grammar.specs.DisplayLaws.{ShowsAgain, ShowsCallAgain, MeanTheSame}
use Rattle.wave_tree.specs.NodeDisplay.{display_at}
use Rattle.wave_tree.specs.UntypedCall.{Called, IsCalledOf}

-- the text is the display of the node's tree, spells a tree of as many levels and of the same display, and means what the node's slice means
abbrev pub IsKeptByDisplay : List ℕ → NodeTree → List ℕ → Type 0
IsKeptByDisplay source n text =
    (t : SpannedTree) → IsNodeOf source n t
    → (text ≡ display (tree_of t)) × ShowsAgain (tree_of t) × MeanTheSame (slice source (place_of n)) text

-- of a call that is its whole source, the text is its display, a call of the same name and the same display, with the same parameters at all types
abbrev pub IsCallKeptByDisplay : Called → List ℕ → Type 0
IsCallKeptByDisplay u text =
    (c : IsCalledOf u.source u)
    → (text ≡ display_call (slice u.source u.name) c.params)
    × ((again : ShowsCallAgain (slice u.source u.name) c.params)
    × ((Ts : List TypeTree) (vs : List Value) → Params Ts c.call.tokens vs ↔ Params Ts again.call.tokens vs))

-- the display of the parameters of a call of any levels is kept, as that of their tuple
abbrev pub AreParamsKeptByDisplay : Called → Type 0
AreParamsKeptByDisplay u = (n : NodeTree) → u.params ≡ Some n → IsKeptByDisplay u.source n (display_at u.source n)
