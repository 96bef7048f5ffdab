use Rattle.std.proofs.Common.{◌++◌, string_bytes, subst, ap, ◌∙◌, append_assoc}
use Rattle.wave_place.specs.Places.{IsMarked}
use Rattle.wave_place.specs.Shown.{shown_lines}
use Rattle.wave_commands.specs.Reports.{heading_in_file}
use Rattle.wave_commands.proofs.report.block_in.Goals as goal

pub returns : goal.returns
returns c =
    let place = c.place_of-place.result in
    let path = string_bytes c.args.parts.now.path in
    let head = heading_in_file c.args.name.now c.args.message.now place.line place.column path in
    let lines = shown_lines place.prefix.now place.rest.now c.marked_of-marked.result.now in
    record {
      there = place.at;
      line = place.line;
      column = place.column;
      prefix = place.prefix.now;
      rest = place.rest.now;
      marked = c.marked_of-marked.result.now;
      place = c.place_of-place.ensures;
      is_marked = subst (λ n. IsMarked place.rest.now n c.marked_of-marked.result.now) c.saturating_sub.ensures c.marked_of-marked.ensures;
      text_is =
          c.in_ok-push_str-2.ensures.bytes
          ∙ (ap (λ x. x ++ c.as_str-3.result.now) (c.in_ok-push_str.ensures.bytes
          ∙ (ap (λ x. x ++ c.as_str-2.result.now) (c.in_ok-text.ensures ∙ ap (heading_in_file c.args.name.now c.args.message.now place.line place.column) c.as_str.ensures.value)
          ∙ ap (λ x. head ++ x) (c.as_str-2.ensures.value ∙ c.in_ok-shown.ensures)))
          ∙ (append_assoc head lines c.as_str-3.result.now ∙ ap (λ x. head ++ (lines ++ x)) c.as_str-3.ensures.value));
    }
