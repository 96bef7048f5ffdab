use Rattle.std.proofs.Common.{ℕ, ◌≡◌, List, map, ap, sym, subst, ◌∙◌}
use Rattle.std.specs.Result.{IfOk}
use Rattle.std.proofs.lemmas.List.{map-id}
use Rattle.std.proofs.lemmas.Iterator.Adapters.{YieldsList-from_vec}
use Rattle.std.proofs.lemmas.Iterator.Consumers.{YieldsList-end}
use Rattle.wave_wasm.specs.Merge.{merge_by_text}
use Rattle.wave_wasm.specs.Text.{text}
use Rattle.wave_writer.proofs.Merging.Congruence.{merge_keyed}
use Rattle.wave_grammar.proofs.typed.merge_by_texts.Goals as goal

pub returns : goal.returns
returns g c =
    let t : g.row.V.Denot → List ℕ = λ a. text (g.V.WasmValue.tree a) in
    let f : g.row.V.Denot × g.row.V.Denot → (List ℕ × g.row.V.Denot) × g.row.V.Denot = λ e. ((t e.0, e.0), e.1) in
    let from = c.into_iter-key-iterator.ensures.into_iter_gives in
    let end = YieldsList-end (YieldsList-from_vec {s = c.into_iter-key-iterator.result} c.args.entries.items from.0 (from.1 ∙ c.args.entries.ok.0)) c.loop-key.yielded c.loop-key.key-iterator c.loop-key.yielded_by _ c.next.new.self c.in-None.is c.next.ensures.steps in
    let all = ap merge_by_text (c.loop-key.invariant ∙ ap (map f) (sym (map-id c.loop-key.yielded) ∙ end.0)) ∙ merge_keyed t c.args.entries.items in
    subst (λ items. IfOk c.merge_map_entries.result (λ m. m.items ≡ items)) all c.merge_map_entries.ensures
