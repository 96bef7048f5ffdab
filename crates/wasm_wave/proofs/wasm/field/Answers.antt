use Rattle.std.proofs.Common.{◌∙◌}
use Rattle.std.proofs.lemmas.Iterator.Adapters.{YieldsList-from_vec}
use Rattle.std.proofs.lemmas.Iterator.Consumers.{YieldsList-so_far, YieldsList-turn, YieldsList-end}
use Rattle.wasm_wave.proofs.FieldByName.{found, none_more, none_of_all}
use Rattle.wasm_wave.proofs.wasm.field.Goals as goal

pub returns-then-eq : goal.returns-then-eq
returns-then-eq g c =
    let from = c.into_iter-own-iterator.ensures.into_iter_gives in
    let all = YieldsList-from_vec {s = c.into_iter-own-iterator.result} c.in_ok-items.items.items from.0 (from.1 ∙ c.in_ok-items.items.ok.0) in
    let so = YieldsList-so_far all c.loop-own.yielded c.loop-own.own-iterator c.loop-own.yielded_by in
    let turn = YieldsList-turn all c.loop-own.yielded c.loop-own.own-iterator c.loop-own.yielded_by _ c.next.new.self (c.in-Some.own, c.in-Some.part) c.in-Some.is c.next.ensures.steps in
    found g.V.WasmValue.tree c.loop-own.yielded c.in_ok-items.items.items (c.in-Some.own, c.in-Some.part) c.args.name.now c.eq.result _ c.loop-own.invariant c.in_ok-items.ensures so turn c.eq.ensures c.if-eq.true

pub loop-own-preserved : goal.loop-own-preserved
loop-own-preserved g c = none_more g.V.WasmValue.tree c.loop-own.yielded (c.in-Some.own, c.in-Some.part) c.args.name.now c.eq.result c.loop-own.invariant c.eq.ensures c.if-eq.false
