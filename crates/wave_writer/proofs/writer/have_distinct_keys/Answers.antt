use Rattle.std.proofs.Common.{ℕ, List, Bor, map, sym, ◌∙◌}
use Rattle.wave_wasm.specs.Fingerprints.{fingerprint}
use Rattle.wave_wasm.specs.Text.{text}
use Rattle.wave_wasm.proofs.Merging.DistinctTexts.{distinct_texts}
use Rattle.wave_wasm.proofs.CanonicalText.ValueParts.{map_map}
use Rattle.wave_writer.proofs.writer.have_distinct_keys.Goals as goal

pub returns-in-Ok : goal.returns-in-Ok
returns-in-Ok g c =
    let key : Bor g.row.V.Denot × Bor g.row.V.Denot → List ℕ = λ e. text (g.V.WasmValue.tree e.0.now) in
    distinct_texts fingerprint (map key c.args.entries.now.items) c.in-Ok.numbers.items c.all_differ.result (c.in-Ok.ensures ∙ sym (map_map fingerprint key c.args.entries.now.items)) c.all_differ.ensures
