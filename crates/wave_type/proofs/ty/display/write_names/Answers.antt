use Rattle.std.proofs.Common.{rules, string_bytes}
use Rattle.wave_wasm.proofs.Displays.JoinedTexts.{separator_more}
use Rattle.wave_type.proofs.ty.display.write_names.Goals as goal
use Rattle.wave_type.proofs.TypeTexts.JoinedTexts.{turn_written}

pub loop-name-preserved : goal.loop-name-preserved
loop-name-preserved g c =
    let next = turn_written g.W.Write.write_str_gives string_bytes c.deref-name-items.result.now c.loop-name.name-index c.loop-name.separator.now c.name-item.result c.loop-name-test.true c.name-item.is c.loop-name.invariant.0 in
    (separator_more string_bytes c.deref-name-items.result.now c.loop-name.name-index c.name-item.result c.loop-name-test.true, λ p. next _ c.loop-name.f c.write.new.self c.write-in-loop-name.new.self (c.loop-name.invariant.1 p) (search rules) (search rules))
