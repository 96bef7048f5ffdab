use Rattle.std.proofs.Common.{[], ◌∷◌, ◌++◌, get_or, sym, ap, ◌∙◌, arith, Vec, Global}
use Rattle.std.specs.Prelude.{if◌then◌else◌}
use Rattle.std.proofs.lemmas.List.{append-nil}
use Rattle.wave_type_explain.specs.declared.expected.Class.{Class}
use Rattle.wave_type_explain.specs.declared.expected.Class.TheVariants.{AnyType}
use Rattle.wave_type_explain.specs.Expected.{every_class}
use Rattle.wave_type_explain.proofs.Tried.{class_tried, all_tried}
use Rattle.wave_type_explain.proofs.expected.expected_after.Goals as goal
use Rattle.wave_type_explain.proofs.expected.expected_after.Goals.{then-may+in_ok-push, else-may}

pub loop-class-preserved : goal.loop-class-preserved
loop-class-preserved c =
    let i = c.loop-class.class-index in
    let class = get_or every_class i AnyType in
    let old = c.loop-class.classes.items in
    class_tried c.args.reading c.args.before.now every_class i AnyType c.in_ok-may.may old c.if-may.classes.items c.loop-class-test.true c.in_ok-may.ensures c.loop-class.invariant
    (elim c.if-may.branch [
      | then-may+in_ok-push w ↦ ap (λ (v : Vec Class Global). v.items) w.classes-is ∙ (w.in_ok-push.ensures.items ∙ ap (λ b. old ++ (if b then class ∷ [] else [])) (sym w.if-may.true))
      | else-may w ↦ ap (λ (v : Vec Class Global). v.items) w.classes-is ∙ (sym (append-nil old) ∙ ap (λ b. old ++ (if b then class ∷ [] else [])) (sym w.if-may.false))
    ])

pub returns : goal.returns
returns c = record {
  classes = all_tried c.args.reading c.args.before.now every_class c.loop-class.class-index c.loop-class.classes.items (omega arith) c.loop-class.invariant;
  end = c.in_ok-may_end.ensures;
}
