use Rattle.std.proofs.Common.{string_bytes}
use Rattle.wave_place.proofs.Steps.{ok_so}
use Rattle.wave_explain.proofs.call.explain_call.Goals as goal

pub returns : goal.returns
returns g c =
    ok_so c.explained.result (λ text block. record {
      mark = c.in_ok-parts.parts.mark;
      path = string_bytes c.in_ok-parts.parts.path;
      lines = string_bytes c.in_ok-parts.parts.lines;
      reported = c.in_ok-parts.ensures;
      block = block;
    }) c.explained.ensures
