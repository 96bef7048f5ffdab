use Rattle.std.proofs.Common.{◌++◌, List, Bor, ℕ, refl, codes}
use Rattle.std.specs.String.{string_bytes}
use Rattle.wave_tape.proofs.WrittenReadings.{braces_closed}
use Rattle.wave_tape.proofs.write.put_in_braces.Goals as goal

pub returns : goal.returns
returns c =
    braces_closed (λ (n : Bor (List ℕ)). n.now) (string_bytes c.args.out.now) (string_bytes c.args.out.now ++ codes "{") c.args.parts.now c.loop-part.part-index c.loop-part.later (string_bytes c.loop-part.out) (string_bytes c.push_str-2.new.self) c.push_str-2.result c.loop-part-test.false refl c.loop-part.invariant c.push_str-2.ensures.bytes
