use Rattle.std.proofs.Common.{◌≡◌, map, take, string_bytes}
use Rattle.std.specs.Fmt.{HasWritten, IsPlainFormatter}
use Rattle.wave_wasm.specs.Commas.{joined}
use Rattle.wave_wasm.proofs.Displays.JoinedTexts.{separator}
use Rattle.wave_type.proofs.ty.display.write_names.Given as goal

abbrev pub invariant-loop-name : goal.invariant-loop-name
invariant-loop-name g l =
    (l.separator ≡ separator (map string_bytes (take l.name-index l.name-items))) × (IsPlainFormatter l.initial.f → HasWritten g.W.Write.write_str_gives l.initial.f (joined (map string_bytes (take l.name-index l.name-items))) l.f)
