use Rattle.std.proofs.Common.{[], ◌∷◌, sym}
use Rattle.std.proofs.lemmas.List.{append-nil}
use Rattle.wave_commands.proofs.check.push_trailing.Goals as goal

pub returns-in-Ok : goal.returns-in-Ok
returns-in-Ok c = ([], c.in-Ok.ensures.answer, sym (append-nil c.args.errors.now.items))

pub returns-in_ok-push-in-Err : goal.returns-in_ok-push-in-Err
returns-in_ok-push-in-Err c = (c.in-Err.error ∷ [], c.in-Err.ensures.answer, c.in_ok-push-in-Err.ensures.items)
