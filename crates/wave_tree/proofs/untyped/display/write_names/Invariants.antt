use Rattle.std.proofs.Common.{◌≡◌, map, take}
use Rattle.std.specs.Fmt.{HasWritten, IsPlainFormatter}
use Rattle.wave_wasm.specs.Commas.{joined}
use Rattle.wave_tree.specs.Private.NodeDisplay.{name_at}
use Rattle.wave_wasm.proofs.Displays.JoinedTexts.{separator}
use Rattle.wave_tree.proofs.untyped.display.write_names.Given as goal

abbrev pub invariant-loop-node : goal.invariant-loop-node
invariant-loop-node g l =
    (l.separator ≡ separator (map (name_at l.src) (take l.node-index l.nodes))) × (IsPlainFormatter l.initial.f → HasWritten g.W.Write.write_str_gives l.initial.f (joined (map (name_at l.src) (take l.node-index l.nodes))) l.f)
