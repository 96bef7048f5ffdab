-- Texts that call `join`.
use Rattle.std.proofs.Common.{ℕ, ◌≡◌, ◌∙◌, Bool, true, false, not, List, refl, sym, subst}
use Rattle.std.specs.Prelude.{codes}
use Rattle.std.specs.Str.{bytes_eq}
use Rattle.std.proofs.lemmas.Slice.Eq.{bytes_eq-Decides}
use Rattle.wave_grammar.specs.SpannedTree.{slice}
use Rattle.wave_tree.specs.UntypedCall.{Called, IsCalledOf}
use Rattle.wave_example_settings.specs.Joins.{CallsJoin}

pub calls_join : (s : List ℕ) (call : Called) (name : List ℕ) (other : Bool) → IsCalledOf s call → name ≡ slice call.source call.name → other ≡ not (bytes_eq name (codes "join")) → other ≡ false → CallsJoin s call
calls_join s call name other is named tested same = record {
  is_call = is;
  name = subst (λ source. slice source call.name ≡ codes "join") is.source (sym named ∙ (bytes_eq-Decides name (codes "join")).0 (by (bytes_eq name (codes "join")) (sym tested ∙ same)));
}
  where
    by : (b : Bool) → not b ≡ false → b ≡ true
    by true e = refl
    by false e = sym e
