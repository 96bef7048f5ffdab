use Rattle.std.proofs.Common.{◌++◌, subst, ap, ◌∙◌}
use Rattle.wave_place.specs.Places.{heading, IsMarked}
use Rattle.wave_place.proofs.explain.explain_at.Goals as goal

pub returns : goal.returns
returns c =
    let place = c.place_of-place.result in
    record {
      there = place.at;
      line = place.line;
      column = place.column;
      prefix = place.prefix.now;
      rest = place.rest.now;
      marked = c.marked_of-marked.result.now;
      place = c.place_of-place.ensures;
      is_marked = subst (λ n. IsMarked place.rest.now n c.marked_of-marked.result.now) c.saturating_sub.ensures c.marked_of-marked.ensures;
      text_is =
          c.in_ok-push_str.ensures.bytes
          ∙ (ap (λ x. x ++ c.as_str.result.now) c.in_ok-text.ensures
          ∙ ap (λ x. heading c.args.message.now place.line place.column ++ x) (c.as_str.ensures.value ∙ c.in_ok-lines.ensures));
    }
