use Rattle.std.proofs.Common.{subst, string_bytes}
use Rattle.wave_explain.specs.Private.Readings.{MayStandAs}
use Rattle.wave_place.proofs.Steps.{ok_so}
use Rattle.wave_explain.proofs.Expecting.{said_as, unnamed_as}
use Rattle.wave_explain.proofs.syntax.expected_line.Goals as goal

pub returns-in-Some : goal.returns-in-Some
returns-in-Some c =
    ok_so c.line_of.result
    (λ lines said. said_as c.args.reading c.args.source.now c.args.at c.in-Some.expected (string_bytes lines) (subst (MayStandAs c.args.reading c.args.source.now c.args.at) c.in-Some.is c.in_ok-expected.ensures) said) c.line_of.ensures

pub returns-in-None : goal.returns-in-None
returns-in-None c =
    unnamed_as c.args.reading c.args.source.now c.args.at _ (subst (MayStandAs c.args.reading c.args.source.now c.args.at) c.in-None.is c.in_ok-expected.ensures) c.new.ensures.bytes
