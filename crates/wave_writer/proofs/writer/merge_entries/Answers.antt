use Rattle.std.proofs.Common.{ℕ, List, Bor, map, ap, sym, ◌∙◌, arith}
use Rattle.std.proofs.lemmas.List.{take_all}
use Rattle.wave_wasm.specs.Merge.{merge_by_text}
use Rattle.wave_writer.specs.Private.Values.{IsLeaf}
use Rattle.wave_wasm.specs.Text.{text}
use Rattle.std.proofs.lemmas.Bool.{OnTrue_at}
use Rattle.wave_writer.proofs.Merging.DistinctKeys.{merge_distinct}
use Rattle.wave_writer.proofs.Merging.Congruence.{merge_keyed}
use Rattle.wave_wasm.proofs.CanonicalText.Sequences.{all_at}
use Rattle.wave_writer.proofs.writer.merge_entries.Goals as goal

pub returns-then-have_distinct_keys-clause-ok : goal.returns-then-have_distinct_keys-clause-ok
returns-then-have_distinct_keys-clause-ok g c =
    let t : Bor g.row.V.Denot → List ℕ = λ a. text (g.V.WasmValue.tree a.now) in
    sym (merge_distinct t c.args.entries.items (OnTrue_at c.if-have_distinct_keys.true c.have_distinct_keys.ensures))

pub leaf_text-requires : goal.leaf_text-requires
leaf_text-requires g c =
    let P : Bor g.row.V.Denot × Bor g.row.V.Denot → Type 0 = λ e. IsLeaf (g.V.WasmValue.tree e.0.now) in
    all_at P c.deref-entry-items.result.now _ c.loop-entry.entry-index c.entry-item.result c.deref-entry-items.ensures.value c.loop-entry-test.true c.entry-item.is c.requires

pub returns-clause-ok : goal.returns-clause-ok
returns-clause-ok g c =
    let t : Bor g.row.V.Denot → List ℕ = λ a. text (g.V.WasmValue.tree a.now) in
    let f : Bor g.row.V.Denot × Bor g.row.V.Denot → (List ℕ × Bor g.row.V.Denot) × Bor g.row.V.Denot = λ e. ((t e.0, e.0), e.1) in
    let all = take_all c.loop-entry.entry-index c.deref-entry-items.result.now (omega arith) ∙ c.deref-entry-items.ensures.value in
    c.in_ok-merge_map_entries.ensures ∙ (ap merge_by_text (c.loop-entry.invariant ∙ ap (map f) all) ∙ merge_keyed t c.args.entries.items)
