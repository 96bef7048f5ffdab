use Rattle.std.proofs.Common.{◌≡◌, ◌++◌, [], map, drop, codes}
use Rattle.std.specs.List.{list_all}
use Rattle.std.specs.String.{string_bytes}
use Rattle.wave_wasm.specs.Text.{text, has_text, arguments_text}
use Rattle.wave_wasm.proofs.Displays.TextAppend.{Adding}
use Rattle.wave_wasm.proofs.CanonicalText.Sequences.{parted}
use Rattle.wave_writer.proofs.writer.arguments_to_string.Given as goal

abbrev pub invariant-loop-val : goal.invariant-loop-val
invariant-loop-val g l =
    let left = drop l.val-index l.vals in
    record {
      adding : Adding (arguments_text (map g.V.WasmValue.tree l.vals)) (parted l.later (map (λ v. text (g.V.WasmValue.tree v)) left) ++ codes ")") [] (string_bytes l.writer);
      writable : list_all (λ v. has_text (g.V.WasmValue.tree v)) left ≡ list_all has_text (map g.V.WasmValue.tree l.vals);
    }
