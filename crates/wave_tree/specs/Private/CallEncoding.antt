-- An untyped call as one that can be stored, by which two are told apart.
use Rattle.std.specs.Prelude.{ℕ, List, Option, refl}
use Rattle.std.specs.Coded.{Coded, code_by, coded×, coded_ℕ, coded_list, coded_option}
use Rattle.wave_grammar.specs.NodeTree.{NodeTree}
use Rattle.wave_node.specs.NodeEncoding.{node_code}
use Rattle.wave_tree.specs.UntypedCall.{Called}

-- an untyped call is stored as the tuple of its source, the two ends of its name and its parameters
abbrev pub called_code : Coded Called
called_code =
    code_by (List ℕ × (ℕ × (ℕ × Option NodeTree))) (coded× (coded_list coded_ℕ) (coded× coded_ℕ (coded× coded_ℕ (coded_option node_code))))
    (λ u. (u.source, (u.name.start, (u.name.end, u.params))))
    (λ p. record { source = p.0; name = record { start = p.1.0; end = p.1.1.0 }; params = p.1.1.1 }) (λ _. refl)
