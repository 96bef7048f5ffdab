use Rattle.std.proofs.Common.{string_bytes, subst, sym, ap, ◌∙◌}
use Rattle.wave_place.specs.Places.{IsExplained}
use Rattle.wave_type_explain.specs.TypeExplained.{is_misplaced, SayFirst}
use Rattle.wave_type_explain.proofs.explain.explain_as.Goals as goal

pub returns : goal.returns
returns c =
    let text = c.args.text.now in
    let mark = c.mark_of-mark.result in
    record {
      mark = mark;
      is_mark = c.mark_of-mark.ensures;
      block = string_bytes c.in_ok-shown.shown;
      is_block = subst (λ m. IsExplained text m mark (string_bytes c.in_ok-shown.shown)) (c.as_str.ensures.value ∙ c.in_ok-message.ensures.ok) c.in_ok-shown.ensures;
      lines = c.as_str-2.result.now;
      say = λ misplaced. subst (SayFirst c.args.reading text mark.start) (sym c.as_str-2.ensures.value) (c.in_ok-lines.ensures (ap is_misplaced c.kind.ensures ∙ misplaced));
      shown_is = c.in_ok-push_str.ensures.bytes;
    }
