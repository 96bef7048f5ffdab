use Rattle.std.proofs.Common.{string_bytes}
use Rattle.wave_explain.proofs.Expecting.{said_first}
use Rattle.wave_explain.proofs.syntax.syntax_lines.Goals as goal

pub returns : goal.returns
returns c = λ unexpected.
    said_first c.args.reading c.args.source.now c.args.error.now.span.start (string_bytes c.in_ok-lines.lines) c.as_str.result.now (string_bytes c.push_str.new.self) c.in_ok-push_str.ensures.bytes (c.in_ok-lines.ensures unexpected)
