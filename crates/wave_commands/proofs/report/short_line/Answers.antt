use Rattle.wave_place.proofs.Steps.{ok_so}
use Rattle.wave_commands.proofs.report.short_line.Goals as goal

pub returns : goal.returns
returns c =
    let place = c.place_of-place.result in
    ok_so c.line_in_file.result (λ text is. record {
      there = place.at;
      line = place.line;
      column = place.column;
      prefix = place.prefix.now;
      rest = place.rest.now;
      place = c.place_of-place.ensures;
      text_is = is;
    }) c.line_in_file.ensures
