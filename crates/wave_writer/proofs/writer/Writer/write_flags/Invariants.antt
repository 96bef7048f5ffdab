use Rattle.std.proofs.Common.{◌++◌, map, drop, codes}
use Rattle.wave_wasm.specs.Text.{text}
use Rattle.wave_writer.proofs.CanonicalText.WrittenParts.{Writing}
use Rattle.wave_wasm.proofs.CanonicalText.Sequences.{parted}
use Rattle.wave_writer.proofs.writer.Writer.write_flags.Given as goal

abbrev pub invariant-loop-name : goal.invariant-loop-name
invariant-loop-name g l =
    Writing (text (g.V.WasmValue.tree l.val)) (l.gathered ++ (parted l.later (map (λ n. n.now) (drop l.name-index l.name-items)) ++ codes "}")) (g.W.TextWrite.output l.fn.self) (g.W.TextWrite.output l.self-inside.out)
