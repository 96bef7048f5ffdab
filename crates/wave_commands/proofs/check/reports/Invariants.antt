-- The faults so far are told.
use Rattle.std.proofs.Common.{◌-◌, take, length, string_bytes}
use Rattle.wave_commands.specs.Checked.{TellsFaults}
use Rattle.wave_commands.proofs.check.reports.Given as goal

abbrev pub invariant-loop-place : goal.invariant-loop-place
invariant-loop-place l = TellsFaults l.style l.name l.text l.ty (take l.place l.found.errors.items) (string_bytes l.told)

abbrev pub decreases-loop-place : goal.decreases-loop-place
decreases-loop-place l = length l.found.errors.items - l.place
