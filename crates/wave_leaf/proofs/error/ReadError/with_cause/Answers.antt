use Rattle.wave_leaf.proofs.ReadErrors.HandedOn.{refused_or_memory}
use Rattle.wave_leaf.proofs.error.ReadError.with_cause.Goals as goal

pub returns-clause-refusal : goal.returns-clause-refusal
returns-clause-refusal c = (refused_or_memory c.args.cause c.args.span _ (c.caused.ensures c.args.span)).0
