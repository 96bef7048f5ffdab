use Rattle.std.specs.String.{string_bytes}
use Rattle.wave_lex.specs.Remaining.{size_of}
use Rattle.wave_lex.specs.Parts.{left_of}
use Rattle.wave_grammar.specs.Private.StringAssembly.{CameSoFar}
use Rattle.wave_grammar.proofs.text.push_parts.Given as goal

abbrev pub invariant-loop-part : goal.invariant-loop-part
invariant-loop-part l = CameSoFar (left_of l.initial.parts) (left_of l.parts) (string_bytes l.initial.text) (string_bytes l.text)

abbrev pub decreases-loop-part : goal.decreases-loop-part
decreases-loop-part l = size_of (left_of l.parts)
