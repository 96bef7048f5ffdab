use Rattle.std.proofs.Common.{rules, subst}
use Rattle.wave_writer.proofs.CanonicalText.Writable.{only_memory, writes}
use Rattle.wave_value.specs.TypedValue.{IsTyped}
use Rattle.wave_value.proofs.ValueModel.ContentMeaning.{means}
use Rattle.wave_value.proofs.value.refusals.ByTextShowsValue.show.Goals as goal

pub unreachable-requires : goal.unreachable-requires
unreachable-requires c =
    let typed = subst IsTyped c.val.view_is (means c.val.inside.own c.val.inside.content c.val.invariant) in
    search (rules, only_memory c.in-Err.field-0 _ (writes _ _ typed) c.in-Err.ensures.err)
