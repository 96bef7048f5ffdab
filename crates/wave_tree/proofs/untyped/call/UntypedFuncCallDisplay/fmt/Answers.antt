use Rattle.wave_tree.proofs.Displays.Meaning.{kept_by_display, call_kept_by_display}
use Rattle.wave_tree.proofs.untyped.call.UntypedFuncCallDisplay.fmt.Goals as goal

pub returns-in_err-write_str-clause-kept : goal.returns-in_err-write_str-clause-kept
returns-in_err-write_str-clause-kept g c = call_kept_by_display c.args.self.now

pub returns-in_err-write_str-clause-params : goal.returns-in_err-write_str-clause-params
returns-in_err-write_str-clause-params g c = λ n is. kept_by_display c.args.self.now.source n

pub returns-in-Some-clause-kept : goal.returns-in-Some-clause-kept
returns-in-Some-clause-kept g c = call_kept_by_display c.args.self.now

pub returns-in-Some-clause-params : goal.returns-in-Some-clause-params
returns-in-Some-clause-params g c = λ n is. kept_by_display c.args.self.now.source n

pub returns-in-None-clause-kept : goal.returns-in-None-clause-kept
returns-in-None-clause-kept g c = call_kept_by_display c.args.self.now

pub returns-in-None-clause-params : goal.returns-in-None-clause-params
returns-in-None-clause-params g c = λ n is. kept_by_display c.args.self.now.source n
