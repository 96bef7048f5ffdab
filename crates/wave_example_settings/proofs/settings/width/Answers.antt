use Rattle.std.proofs.Common.{◌∙◌, sym, ap}
use Rattle.std.proofs.lemmas.Bool.{false≢true}
use Rattle.wave_wasm.specs.Values.{kind_of}
use Rattle.std.proofs.lemmas.Iterator.Adapters.{YieldsList-from_vec}
use Rattle.std.proofs.lemmas.Iterator.Consumers.{YieldsList-turn, YieldsList-end}
use Rattle.wave_example_settings.proofs.WidthFields.{found, none_more, other_name, none_of_all}
use Rattle.wave_example_settings.proofs.settings.width.Goals as goal
use Rattle.wave_example_settings.proofs.settings.width.Goals.{else-eq-via-then-eq+else-eq-2, else-eq-via-else-eq}

pub returns-then-eq-2 : goal.returns-then-eq-2
returns-then-eq-2 c =
    let from = c.into_iter-name-iterator.ensures.into_iter_gives in
    let turn = YieldsList-turn (YieldsList-from_vec {s = c.into_iter-name-iterator.result} c.in_ok-items.items.items from.0 (from.1 ∙ c.in_ok-items.items.ok.0)) c.loop-name.yielded c.loop-name.name-iterator c.loop-name.yielded_by _ c.next.new.self (c.in-Some.name, c.in-Some.val) c.in-Some.is c.next.ensures.steps in
    found c.in_ok-items.items.items c.args.settings.now.tree _ c.unwrap_u32.result (c.in-Some.name, c.in-Some.val) c.eq.result c.in_ok-items.ensures.trees turn c.eq.ensures c.if-eq.true c.unwrap_u32.ensures

pub loop-name-preserved : goal.loop-name-preserved
loop-name-preserved c = λ n. none_more n c.loop-name.yielded (c.in-Some.name, c.in-Some.val) (c.loop-name.invariant n) (elim c.else-eq.branch [
  | else-eq-via-then-eq+else-eq-2 w ↦ (λ is. false≢true (sym w.if-eq-2.false ∙ (rw (w.kind.ensures, ap (λ f. kind_of f.1) is) at w.eq-then-eq.ensures)))
  | else-eq-via-else-eq w ↦ other_name n (c.in-Some.name, c.in-Some.val) c.eq.result c.eq.ensures w.if-eq.false
])

pub returns : goal.returns
returns c = λ n.
    let from = c.into_iter-name-iterator.ensures.into_iter_gives in
    let end = YieldsList-end (YieldsList-from_vec {s = c.into_iter-name-iterator.result} c.in_ok-items.items.items from.0 (from.1 ∙ c.in_ok-items.items.ok.0)) c.loop-name.yielded c.loop-name.name-iterator c.loop-name.yielded_by _ c.next.new.self c.in-None.is c.next.ensures.steps in
    none_of_all n c.loop-name.yielded c.in_ok-items.items.items c.args.settings.now.tree (c.loop-name.invariant n) end.0 c.in_ok-items.ensures.trees
