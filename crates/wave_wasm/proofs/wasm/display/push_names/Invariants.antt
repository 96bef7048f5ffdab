use Rattle.std.proofs.Common.{◌++◌, map, drop, codes}
use Rattle.std.specs.String.{string_bytes}
use Rattle.wave_wasm.specs.Borrowed.{texts}
use Rattle.wave_wasm.specs.TypeText.{braced}
use Rattle.wave_wasm.proofs.Displays.TextAppend.{Adding}
use Rattle.wave_wasm.proofs.CanonicalText.Sequences.{parted}
use Rattle.wave_wasm.proofs.wasm.display.push_names.Given as goal

abbrev pub invariant-loop-name : goal.invariant-loop-name
invariant-loop-name l =
    Adding (braced l.word (texts l.names.items)) (parted l.later (map (λ n. n.now) (drop l.name-index l.name-items)) ++ codes " }") (string_bytes l.fn.text) (string_bytes l.text)
