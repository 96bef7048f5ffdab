use Rattle.std.proofs.Common.{◌≡◌, sym, subst, ◌∙◌, arith, map, length}
use Rattle.std.proofs.lemmas.List.{length-map, take_all}
use Rattle.wave_type.proofs.DistinctNames.LabelTest.{AreTested, tested_pass, tests_more, fails_label, fails_place, same_place, other_place}
use Rattle.wave_type.proofs.ty.labels.are_label_names.Goals as goal
use Rattle.wave_type.proofs.ty.labels.are_label_names.Goals.{then-not-is_label-via-then-not-is_label, then-not-is_label-via-else-not-is_label+then-ne}

pub returns-then-not-is_label : goal.returns-then-not-is_label
returns-then-not-is_label g c =
    let xs = c.args.items.now.items in
    elim c.then-not-is_label.branch [
      | then-not-is_label-via-then-not-is_label w ↦
          sym (fails_label g.N.Named.name_of xs c.loop-i.i c.index.result.now c.name-name.result.now (omega (arith, c.args.items.now.ok.0)) c.index.ensures c.name-name.ensures (sym w.if-not-is_label.ensures))
      | then-not-is_label-via-else-not-is_label+then-ne w ↦
          sym (fails_place g.N.Named.name_of xs c.loop-i.i c.index.result.now c.name-name.result.now (omega (arith, c.args.items.now.ok.0)) c.index.ensures c.name-name.ensures
          (λ e. other_place w.first_place.result c.loop-i.i w.if-ne.ensures (w.first_place.ensures ∙ (c.requires c.name-name.result.now ∙ e))))
    ]

pub loop-i-preserved : goal.loop-i-preserved
loop-i-preserved g c =
    tests_more g.N.Named.name_of c.args.items.now.items c.loop-i.i c.index.result.now c.name-name.result.now (omega (arith, c.args.items.now.ok.0)) c.index.ensures c.name-name.ensures
    (sym c.if-not-is_label.ensures) (sym (c.requires c.name-name.result.now) ∙ (sym c.first_place.ensures ∙ same_place c.first_place.result c.loop-i.i c.if-ne.ensures)) c.loop-i.invariant

pub returns : goal.returns
returns g c =
    let ns = map g.N.Named.name_of c.args.items.now.items in
    let long : length ns ≡ length c.args.items.now.items = length-map c.args.items.now.items g.N.Named.name_of in
    sym (tested_pass ns (subst AreTested (take_all c.loop-i.i ns (omega (arith, long, c.args.items.now.ok.0))) c.loop-i.invariant))
