use Rattle.std.proofs.Common.{◌≤◌}
use Rattle.std.proofs.Math.Utf8.{encodes}
use Rattle.std.specs.Char.Iter.{escape_rest, escape_end}
use Rattle.wave_wasm.specs.TextParts.{number_escape}
use Rattle.wave_writer.proofs.CanonicalText.WrittenParts.{Writing}
use Rattle.wave_writer.proofs.writer.Writer.write_number_escape.Given as goal

abbrev pub invariant-loop-part : goal.invariant-loop-part
invariant-loop-part g l =
    record {
      bound : escape_end l.part-iterator ≤ 10;
      writing : Writing (number_escape l.fn.c) (encodes (escape_rest l.part-iterator)) (g.W.TextWrite.output l.fn.self) (g.W.TextWrite.output l.self);
    }
