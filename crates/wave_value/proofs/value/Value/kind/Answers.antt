use Rattle.std.proofs.Common.{ap, ◌∙◌}
use Rattle.wave_wasm.specs.Values.{kind_of}
use Rattle.wave_value.specs.TypedValue.{TypedValue}
use Rattle.wave_value.proofs.ValueModel.ContentMeaning.{means, same_kind}
use Rattle.wave_value.proofs.value.Value.kind.Goals as goal

pub returns : goal.returns
returns c =
    c.kind.ensures ∙ (same_kind c.self.inside.own _ (means c.self.inside.own c.self.inside.content c.self.invariant) ∙ ap (λ (v : TypedValue). kind_of v.tree) c.self.view_is)
