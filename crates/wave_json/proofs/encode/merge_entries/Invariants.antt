use Rattle.std.proofs.Common.{◌≡◌, ℕ, List, map, take, Bor}
use Rattle.std.specs.String.{string_bytes}
use Rattle.wave_wasm.specs.Text.{text}
use Rattle.wave_json.proofs.encode.merge_entries.Given as goal

abbrev pub invariant-loop-entry : goal.invariant-loop-entry
invariant-loop-entry g l =
    map {B = (List ℕ × Bor g.row.V.Denot) × Bor g.row.V.Denot} (λ e. ((string_bytes e.0, e.1), e.2)) l.with_texts.items ≡ map (λ e. ((text (g.V.WasmValue.tree e.0.now), e.0), e.1)) (take l.entry-index l.entry-items)
