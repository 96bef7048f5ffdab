use Rattle.std.proofs.Common.{◌∙◌}
use Rattle.wave_place.proofs.Steps.{ok_so}
use Rattle.wave_explain.proofs.Reported.{block_again}
use Rattle.wave_explain.proofs.value.explained.Goals as goal

pub returns : goal.returns
returns c =
    ok_so c.block.result
    (λ text block. block_again _ _ _ _ _ _ _ _ _ (c.as_str.ensures.value ∙ c.in_ok-message.ensures.ok) c.as_str-2.ensures.value c.as_str-3.ensures.value block)
    c.block.ensures
