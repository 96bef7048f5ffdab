use Rattle.std.proofs.Common.{ℕ, List, String, Global, map, sym, ◌∙◌}
use Rattle.std.specs.String.{string_bytes}
use Rattle.wave_wasm.specs.Fingerprints.{fingerprint}
use Rattle.wave_wasm.proofs.Merging.DistinctTexts.{distinct_texts}
use Rattle.wave_wasm.proofs.CanonicalText.ValueParts.{map_map}
use Rattle.wave_writer.proofs.writer.have_distinct_texts.Goals as goal

pub returns-in-Ok : goal.returns-in-Ok
returns-in-Ok g c =
    let text : String Global × g.row.K.Denot × g.row.V.Denot → List ℕ = λ e. string_bytes e.0 in
    distinct_texts fingerprint (map text c.args.entries.now.items) c.in-Ok.numbers.items c.all_differ.result (c.in-Ok.ensures ∙ sym (map_map fingerprint text c.args.entries.now.items)) c.all_differ.ensures
