use Rattle.std.proofs.Common.{ℕ, List, Bor, map, ap, ◌∙◌, arith}
use Rattle.std.proofs.lemmas.List.{take_all}
use Rattle.wave_wasm.specs.Merge.{merge_by_text}
use Rattle.wave_wasm.specs.Text.{text}
use Rattle.wave_writer.proofs.Merging.Congruence.{merge_keyed}
use Rattle.wave_json.proofs.encode.merge_entries.Goals as goal

pub returns-clause-ok : goal.returns-clause-ok
returns-clause-ok g c =
    let t : Bor g.row.V.Denot → List ℕ = λ a. text (g.V.WasmValue.tree a.now) in
    let f : Bor g.row.V.Denot × Bor g.row.V.Denot → (List ℕ × Bor g.row.V.Denot) × Bor g.row.V.Denot = λ e. ((t e.0, e.0), e.1) in
    let all = take_all c.loop-entry.entry-index c.deref-entry-items.result.now (omega arith) ∙ c.deref-entry-items.ensures.value in
    c.in_ok-merge_map_entries.ensures ∙ (ap merge_by_text (c.loop-entry.invariant ∙ ap (map f) all) ∙ merge_keyed t c.args.entries.items)
