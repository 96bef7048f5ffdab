use Rattle.std.proofs.Common.{ℕ, List, sym}
use Rattle.wave_wasm.specs.Text.{text}
use Rattle.std.proofs.lemmas.Bool.{OnTrue_at}
use Rattle.wave_writer.proofs.Merging.DistinctKeys.{merge_distinct}
use Rattle.wave_grammar.proofs.typed.merged.Goals as goal

pub returns-then-have_distinct_keys : goal.returns-then-have_distinct_keys
returns-then-have_distinct_keys g c =
    let t : g.row.V.Denot → List ℕ = λ a. text (g.V.WasmValue.tree a) in
    sym (merge_distinct t c.args.entries.items (OnTrue_at c.if-have_distinct_keys.true c.have_distinct_keys.ensures))
