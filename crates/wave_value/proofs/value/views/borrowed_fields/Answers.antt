use Rattle.std.proofs.Common.{arith, ◌∙◌, ap, sym, List, [], ◌∷◌, ◌++◌, ℕ, ◌<◌, length, take, map}
use Rattle.std.specs.Prelude.{get_or}
use Rattle.std.proofs.lemmas.List.{map-append, take_more}
use Rattle.wave_wasm.specs.Types.{record_parts}
use Rattle.wave_wasm.specs.Values.{Value}
use Rattle.wave_value.specs.TypedValue.{TypedValue}
use Rattle.wave_value.specs.ValueModel.{first_names}
use Rattle.wave_value.proofs.ValueModel.Lists.{fields_turn}
use Rattle.wave_value.proofs.value.views.borrowed_fields.Goals as goal

pub loop-i-preserved : goal.loop-i-preserved
loop-i-preserved c =
    let vals = c.args.values.now.items in
    let below : c.loop-i.i < length c.args.values.now.items = omega (arith, c.loop-i-test.true, c.len-i-end.ensures, c.args.values.now.ok.0) in
    let one : List ℕ × Value = (c.part_name.result.now, c.index.result.now.tree) in
    let val : TypedValue = c.index.result.now in
    let named = c.part_name.ensures ∙ ap (λ ps. get_or (map (λ p. p.0) ps) c.loop-i.i []) c.fields_in-fields.ensures in
    let turned = map-append _ c.loop-i.answer.items (_ ∷ []) ∙ (ap (λ ps. ps ++ one ∷ []) c.loop-i.invariant.0 ∙ fields_turn (first_names (record_parts c.args.own.now)) vals c.loop-i.i c.index.result.now c.part_name.result.now below c.index.ensures named) in
    let longer = map-append _ c.loop-i.answer.items (_ ∷ []) ∙ (ap (λ vs. vs ++ val ∷ []) c.loop-i.invariant.1 ∙ sym (take_more vals c.loop-i.i val below ∙ ap (λ v. take c.loop-i.i vals ++ v ∷ []) (sym c.index.ensures))) in
    rw c.in_ok-push.ensures.items (turned, longer)
