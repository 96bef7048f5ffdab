use Rattle.wave_faults.proofs.Walk.Adding.{adds_none, adds_error, ok_so}
use Rattle.wave_faults.proofs.leaves.tell_map_key.Goals as goal

pub returns-in-Some : goal.returns-in-Some
returns-in-Some g c =
    ok_so c.tell_error.result (λ u is K p key simple token. adds_error c.args.told.now.items c.tell_error.new.told.items c.in-Some.error is ((rw c.in-Some.is at c.in_ok-error.ensures) K p key simple token)) c.tell_error.ensures

pub returns-in-None : goal.returns-in-None
returns-in-None g c = λ K p key simple token. adds_none c.args.told.now.items ((rw c.in-None.is at c.in_ok-error.ensures) K p key simple token)
