use Rattle.std.proofs.Common.{rules, string_bytes}
use Rattle.wave_explain.specs.Private.Readings.{TellsAs}
use Rattle.wave_explain.proofs.Expecting.{more_lines}
use Rattle.wave_explain.proofs.value.syntax_explanation.Goals as goal

pub returns : goal.returns
returns c = record {
  is_mark = c.syntax_mark.ensures;
  no_path = search rules;
  reported = λ unexpected.
      more_lines (TellsAs c.args.reading) c.args.source.now c.args.error.now.span.start (string_bytes c.in_ok-lines.lines) c.args.more.now _
      c.in_ok-push_str.ensures.bytes (c.in_ok-lines.ensures unexpected);
}
