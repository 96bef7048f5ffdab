-- What a node answers as its leaf does.
use Rattle.std.proofs.Common.{ℕ, ◌≡◌, ◌⊎◌, inl, inr, ◌<◌, ◌≤◌, ◌^◌, Result, Ok, Err, subst, arith}
use Rattle.wave_lex.specs.Errors.{Diagnostic}
use Rattle.wave_grammar.specs.NodeTree.{NodeTree, node, no_nodes, type_of, place_of}

-- an answer about a node's type and place is one about the node
pub node_gives : {A : Type 0} (Gives : NodeTree → Result A Diagnostic → Type 0) (m n : NodeTree) (r : Result A Diagnostic) → m ≡ node (type_of n) (place_of n) no_nodes → ((a : A) → Gives (node (type_of n) (place_of n) no_nodes) (Ok a) → Gives n (Ok a))
    → ((e : Diagnostic) → Gives (node (type_of n) (place_of n) no_nodes) (Err e) → Gives n (Err e)) → Gives m r → Gives n r
node_gives Gives m n (Ok a) same given refused h = given a (subst (λ (k : NodeTree). Gives k (Ok a)) same h)
node_gives Gives m n (Err e) same given refused h = refused e (subst (λ (k : NodeTree). Gives k (Err e)) same h)

-- a place in memory is not too far
pub not_far : {P Q : Type 0} (n : ℕ) → n < 2 ^ 64 → P ⊎ Q × (2 ^ 64 ≤ n) → P
not_far n fits (inl h) = h
not_far n fits (inr far) = absurd (omega (arith, fits, far.1))
