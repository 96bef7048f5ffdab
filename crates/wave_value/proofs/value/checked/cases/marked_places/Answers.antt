use Rattle.std.proofs.Common.{take, subst, sym}
use Rattle.std.proofs.lemmas.List.{take_all}
use Rattle.std.proofs.lemmas.Result.{err_from_is_err_and}
use Rattle.wave_wasm.specs.Names.{AreAllOf}
use Rattle.wave_wasm.specs.Borrowed.{texts}
use Rattle.wave_value.specs.CaseRules.{RefusesNames}
use Rattle.wave_value.proofs.ConstructorAnswers.Flags.{PlacesSoFar, marks_more, place_found, place_passed, places_end}
use Rattle.wave_value.proofs.value.checked.cases.marked_places.Goals as goal

pub loop-i-preserved : goal.loop-i-preserved
loop-i-preserved c =
    let reported = c.mark.ensures (texts c.args.names.now) (texts (take c.loop-i.i c.args.all.now)) c.loop-i.invariant.marks in
    record {
      marks = marks_more c.mark.new.marks (texts c.args.names.now) c.args.all.now c.loop-i.i _ c.loop-i-test.true reported.0;
      places = subst (PlacesSoFar (texts c.args.names.now) c.args.all.now _) (sym c.in_ok-push.ensures.items) (place_found (texts c.args.names.now) c.args.all.now c.loop-i.i _ _ _ c.loop-i-test.true reported.1 c.if-not-mark.false c.loop-i.invariant.places);
    }

pub loop-i-preserved-then-not-mark : goal.loop-i-preserved-then-not-mark
loop-i-preserved-then-not-mark c =
    let reported = c.mark.ensures (texts c.args.names.now) (texts (take c.loop-i.i c.args.all.now)) c.loop-i.invariant.marks in
    record {
      marks = marks_more c.mark.new.marks (texts c.args.names.now) c.args.all.now c.loop-i.i _ c.loop-i-test.true reported.0;
      places = place_passed (texts c.args.names.now) c.args.all.now c.loop-i.i _ _ _ c.loop-i-test.true reported.1 c.if-not-mark.true c.loop-i.invariant.places;
    }

pub returns-in_err-check_marked-clause-refused : goal.returns-in_err-check_marked-clause-refused
returns-in_err-check_marked-clause-refused c =
    let p = err_from_is_err_and c.from_residual-in_err-check_marked.result c.from_residual-in_err-check_marked.ensures.1 in
    rw (p.1, p.2) (subst (λ xs. RefusesNames (texts xs) (texts c.args.names.now) c.in_err-check_marked.field-0.0) (take_all c.loop-i.i c.args.all.now c.loop-i-test.false) (c.in_err-check_marked.ensures (texts (take c.loop-i.i c.args.all.now)) c.loop-i.invariant.marks))

pub returns-clause-known : goal.returns-clause-known
returns-clause-known c =
    subst (λ xs. AreAllOf (texts xs) (texts c.args.names.now)) (take_all c.loop-i.i c.args.all.now c.loop-i-test.false) (c.in_ok-check_marked.ensures (texts (take c.loop-i.i c.args.all.now)) c.loop-i.invariant.marks)

pub returns-clause-found : goal.returns-clause-found
returns-clause-found c = (places_end (texts c.args.names.now) c.args.all.now c.loop-i.i _ c.loop-i.auto.i-end c.loop-i-test.false c.loop-i.invariant.places).1
