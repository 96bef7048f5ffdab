use Rattle.wave_tree.specs.UntypedCall.{IsCalledWithin, IsCalledOf, RefusesCallWithin, RefusesCall}
use Rattle.wave_read.proofs.PartByPart.OneMore.{where_ok, where_err}
use Rattle.wave_tree.proofs.TextReading.Calls.{called_of, call_refused}
use Rattle.wave_tree.proofs.untyped.call.parse_raw_func_call.Goals as goal

pub returns-clause-value : goal.returns-clause-value
returns-clause-value c =
    let s = c.args.source.now in
    where_ok (IsCalledWithin 100 s) (IsCalledOf s) c.parse_within.result (called_of s) c.parse_within.ensures.value

pub returns-clause-refused : goal.returns-clause-refused
returns-clause-refused c =
    let s = c.args.source.now in
    where_err (RefusesCallWithin 100 s) (RefusesCall s) c.parse_within.result (call_refused s) c.parse_within.ensures.refused
