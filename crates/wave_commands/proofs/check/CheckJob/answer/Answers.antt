use Rattle.std.proofs.Common.{rules, refl}
use Rattle.wave_commands.proofs.Agreement.{agrees}
use Rattle.wave_commands.proofs.check.CheckJob.answer.Goals as goal

pub returns : goal.returns
returns c = record {
  errors = c.in_ok-found.found.errors.items;
  are_faults = c.in_ok-found.ensures.faults;
  agrees = agrees c.args.self.now.ty c.args.text.now c.in_ok-found.found.errors.items c.in_ok-found.ensures.faults;
  nothing = search rules;
  told = search rules;
  kept = refl;
  counted = search rules;
}
