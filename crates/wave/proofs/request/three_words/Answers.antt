use Rattle.std.proofs.Common.{rules, ◌≡◌, codes}
use Rattle.wave.proofs.Requested.{asks_three}
use Rattle.wave.proofs.request.three_words.Goals as goal

pub returns-in_err-ty-clause-memory : goal.returns-in_err-ty-clause-memory
returns-in_err-ty-clause-memory c =
    let read : c.args.first.now ≡ codes "read" = search rules in
    asks_three c.from_residual.result c.args.first.now c.args.second.now c.args.third.now c.in-Some.levels read c.in-Some.ensures
