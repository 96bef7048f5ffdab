use Rattle.std.proofs.Common.{arith, map, true, refl, sym, ap, ◌∙◌}
use Rattle.std.proofs.lemmas.List.{take_all}
use Rattle.std.proofs.lemmas.Bool.{OnTrue_at}
use Rattle.wave_wasm.specs.Borrowed.{named}
use Rattle.wave_type.specs.TypeModel.{by_bytes}
use Rattle.wave_value.specs.ValueModel.{first_names}
use Rattle.wave_value.proofs.TypedParts.RecordsFit.{fields_in_turn}
use Rattle.wave_value.proofs.value.checked.stand_in_order.Goals as goal

pub returns-clause-turn : goal.returns-clause-turn
returns-clause-turn g c =
    let fields = take_all c.loop-i.i c.args.fields.now.items (omega (arith, c.args.fields.now.ok.0, c.args.stated.now.ok.0)) in
    let stated = take_all c.loop-i.i c.args.stated.now.items (omega (arith, c.args.stated.now.ok.0)) in
    let same = ap (λ fs. first_names (named fs)) (sym fields) ∙ (c.loop-i.invariant ∙ ap (λ ss. first_names (map by_bytes ss)) stated) in
    OnTrue_at c.if-not-has_distinct_names.false (fields_in_turn c.args.ty.now c.args.stated.now.items c.args.fields.now.items true c.has_distinct_names.result c.requires refl same c.has_distinct_names.ensures)

pub returns-clause-distinct : goal.returns-clause-distinct
returns-clause-distinct g c = c.has_distinct_names.ensures.0 c.if-not-has_distinct_names.false
