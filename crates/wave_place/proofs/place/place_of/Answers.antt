use Rattle.std.proofs.Common.{◌+◌, arith, sym, ◌∙◌}
use Rattle.wave_place.proofs.Lines.{is_place}
use Rattle.wave_place.proofs.place.place_of.Goals as goal

pub returns : goal.returns
returns c =
    let near = c.last_place-there.ensures in
    let ends = c.first_line.ensures.split in
    record {
      nearest = near;
      place = is_place c.args.source.now c.last_line.result.0.now c.last_line.result.1.now c.first_line.result.now ends.0 c.split_at.result.1.now c.last_place-there.result (c.line_feeds.result + 1) (c.scalars.result + 1)
          near.holds.0.0 near.holds.1 (sym c.split_at.ensures.front ∙ c.last_line.ensures.split) c.split_at.ensures.back ends.1
          c.last_line.ensures.lines c.last_line.ensures.line c.first_line.ensures.line ends.2 (omega (arith, c.line_feeds.ensures.count)) (omega (arith, c.scalars.ensures.count));
    }
