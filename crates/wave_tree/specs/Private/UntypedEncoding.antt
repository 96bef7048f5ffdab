-- An untyped value as one that can be stored, by which two are told apart.
use Rattle.std.specs.Prelude.{ℕ, List, refl}
use Rattle.std.specs.Coded.{Coded, code_by, coded×, coded_ℕ, coded_list}
use Rattle.wave_grammar.specs.NodeTree.{NodeTree}
use Rattle.wave_node.specs.NodeEncoding.{node_code}
use Rattle.wave_tree.specs.Untyped.{Untyped}

-- an untyped value is stored as the pair of its source and its node
abbrev pub untyped_code : Coded Untyped
untyped_code =
    code_by (List ℕ × NodeTree) (coded× (coded_list coded_ℕ) node_code) (λ u. (u.source, u.node)) (λ p. record { source = p.0; node = p.1 }) (λ _. refl)
