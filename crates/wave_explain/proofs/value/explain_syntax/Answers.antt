use Rattle.std.proofs.Common.{string_bytes, refl}
use Rattle.wave_place.proofs.Steps.{ok_so}
use Rattle.wave_explain.proofs.Reported.{block_again}
use Rattle.wave_explain.proofs.value.explain_syntax.Goals as goal

pub returns : goal.returns
returns c =
    let parts = c.in_ok-parts.ensures in
    ok_so c.explained.result (λ text block. record {
      mark = c.in_ok-parts.parts.mark;
      is_mark = parts.is_mark;
      lines = string_bytes c.in_ok-parts.parts.lines;
      reported = parts.reported;
      block = block_again _ _ _ _ _ _ _ _ _ refl parts.no_path refl block;
    }) c.explained.ensures
