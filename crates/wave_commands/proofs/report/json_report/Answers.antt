use Rattle.std.proofs.Common.{string_bytes, ap, ◌∙◌}
use Rattle.wave_lex.specs.Errors.{kind_words, error_text}
use Rattle.wave_place.proofs.Steps.{ok_so}
use Rattle.wave_commands.proofs.Objects.{line_again}
use Rattle.wave_commands.proofs.report.json_report.Goals as goal

pub returns : goal.returns
returns c =
    let place = c.place_of-place.result in
    let e = c.args.error.now in
    let parts = c.args.parts.now in
    ok_so c.json_line.result
    (λ text is. record {
      there = place.at;
      line = place.line;
      column = place.column;
      prefix = place.prefix.now;
      rest = place.rest.now;
      place = c.place_of-place.ensures;
      text_is =
          is
          ∙ line_again c.args.name.now (kind_words e.kind) (error_text e) (string_bytes parts.path) (string_bytes parts.lines) _ _ _ _ place.line place.column e.span _
          (c.as_str.ensures.value ∙ (c.in_ok-kind.ensures.ok ∙ ap kind_words c.kind.ensures)) (c.as_str-2.ensures.value ∙ c.in_ok-message.ensures.ok)
          c.as_str-3.ensures.value c.as_str-4.ensures.value c.span-span.ensures;
    })
    c.json_line.ensures
