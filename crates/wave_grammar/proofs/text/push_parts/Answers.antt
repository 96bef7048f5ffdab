use Rattle.std.specs.String.{string_bytes}
use Rattle.wave_lex.specs.Parts.{left_of}
use Rattle.wave_grammar.proofs.Strings.Assembly.{one_more}
use Rattle.wave_grammar.proofs.text.push_parts.Goals as goal

pub loop-part-preserved : goal.loop-part-preserved
loop-part-preserved c =
    one_more (left_of c.args.parts.now) (left_of c.loop-part.parts) (left_of c.part.new.self) (string_bytes c.args.text.now) (string_bytes c.loop-part.text) (string_bytes c.push_part.new.text)
    c.in-Some.part c.loop-part.invariant c.in-Some.ensures c.in_ok-push_part.ensures
