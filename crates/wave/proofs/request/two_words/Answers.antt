use Rattle.std.proofs.Common.{MatchOption, subst}
use Rattle.wave_type.specs.FunctionType.{FunctionType}
use Rattle.wave.specs.Types.{NamesFunction}
use Rattle.wave.proofs.Requested.{asks_two, asks_call, unknown_call}
use Rattle.wave.proofs.request.two_words.Goals as goal

pub returns-in_err-ty-in-read-clause-memory : goal.returns-in_err-ty-in-read-clause-memory
returns-in_err-ty-in-read-clause-memory c = asks_two c.from_residual-in_err-ty-in-read.result c.args.first.now c.args.second.now c.in-read.is

pub returns-in_err-function-in-call-clause-memory : goal.returns-in_err-function-in-call-clause-memory
returns-in_err-function-in-call-clause-memory c = asks_call c.from_residual.result c.args.first.now c.args.second.now c.in-call.is

pub returns-in-None-2-clause-built : goal.returns-in-None-2-clause-built
returns-in-None-2-clause-built c =
    unknown_call c.args.first.now c.args.second.now c.in-call.is
    (subst (λ found. MatchOption found ((f : FunctionType) → NamesFunction c.args.second.now f → ⊥) (NamesFunction c.args.second.now)) c.in-None-2.is c.in_ok-function-in-call.ensures)
