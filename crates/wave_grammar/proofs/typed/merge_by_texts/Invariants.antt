use Rattle.std.proofs.Common.{◌≡◌, ℕ, List, map}
use Rattle.std.specs.String.{string_bytes}
use Rattle.wave_wasm.specs.Text.{text}
use Rattle.wave_grammar.proofs.typed.merge_by_texts.Given as goal

abbrev pub invariant-loop-key : goal.invariant-loop-key
invariant-loop-key g l =
    map {B = (List ℕ × g.row.V.Denot) × g.row.V.Denot} (λ e. ((string_bytes e.0, e.1), e.2)) l.with_texts.items ≡ map (λ e. ((text (g.V.WasmValue.tree e.0), e.0), e.1)) l.yielded
