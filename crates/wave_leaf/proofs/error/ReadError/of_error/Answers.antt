use Rattle.wave_leaf.proofs.ReadErrors.ByParts.{kept_or_memory}
use Rattle.wave_leaf.proofs.error.ReadError.of_error.Goals as goal

pub returns : goal.returns
returns c =
    let parts = c.parts_of_error-kind in
    kept_or_memory c.args.error _ parts.result.0 parts.result.1 parts.result.2 parts.ensures.kind parts.ensures.span parts.ensures.detail parts.ensures.cause parts.ensures.memory (c.new.ensures parts.result.1)
