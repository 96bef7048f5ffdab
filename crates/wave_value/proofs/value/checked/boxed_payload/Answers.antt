use Rattle.wave_value.proofs.ConstructorAnswers.Results.{unexpected_refused}
use Rattle.wave_value.proofs.value.checked.boxed_payload.Goals as goal

pub returns-in-None-stated-2-clause-refused : goal.returns-in-None-stated-2-clause-refused
returns-in-None-stated-2-clause-refused g c =
    unexpected_refused g.S.ShowsValue.words _ c.args.stated c.args.val c.in-Some.val _ c.in-None-stated-2.is c.in-Some.is c.named-in-None-stated-2.ensures
