use Rattle.std.proofs.Common.{◌++◌, drop, codes}
use Rattle.std.specs.String.{string_bytes}
use Rattle.wave_wasm.specs.Borrowed.{texts, denoted_all}
use Rattle.wave_wasm.specs.Commas.{joined, in_parens}
use Rattle.wave_wasm.specs.TypeText.{typed_names}
use Rattle.wave_wasm.proofs.Displays.TextAppend.{Adding}
use Rattle.wave_wasm.proofs.CanonicalText.Sequences.{parted}
use Rattle.wave_wasm.proofs.wasm.display.push_typed_names.Given as goal

abbrev pub invariant-loop-i : goal.invariant-loop-i
invariant-loop-i g l =
    Adding (in_parens (joined (typed_names (texts l.names.items) (denoted_all g.T.WasmType.tree l.types.items)))) (parted l.later (typed_names (drop l.i (texts l.names.items)) (drop l.i (denoted_all g.T.WasmType.tree l.types.items))) ++ codes ")") (string_bytes l.fn.text) (string_bytes l.text)
