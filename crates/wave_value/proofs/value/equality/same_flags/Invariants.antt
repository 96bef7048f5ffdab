use Rattle.std.proofs.Common.{◌≡◌, map, drop}
use Rattle.std.specs.Str.{bytes_eq}
use Rattle.std.specs.Cmp.Lexicographic.{pointwise}
use Rattle.wave_wasm.specs.Types.{flags_names}
use Rattle.wave_value.specs.ValueModel.{name_at}
use Rattle.wave_value.proofs.value.equality.same_flags.Given as goal

abbrev pub invariant-loop-i : goal.invariant-loop-i
invariant-loop-i l =
    pointwise bytes_eq (map (name_at (flags_names l.own)) (drop l.i l.a.items)) (map (name_at (flags_names l.own)) (drop l.i l.b.items))
    ≡ pointwise bytes_eq (map (name_at (flags_names l.own)) l.a.items) (map (name_at (flags_names l.own)) l.b.items)
