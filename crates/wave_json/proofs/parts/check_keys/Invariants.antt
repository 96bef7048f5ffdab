use Rattle.std.proofs.Common.{◌≡◌, ℕ, List, drop, map, is_some}
use Rattle.std.specs.BTreeMap.{get_by_text}
use Rattle.wave_wasm.specs.Names.{is_one_of}
use Rattle.wave_wasm.specs.Text.{text}
use Rattle.wave_json.specs.Reading.{first_repeated, repeated_behind}
use Rattle.wave_json.proofs.parts.check_keys.Given as goal

abbrev pub invariant-loop-i : goal.invariant-loop-i
invariant-loop-i g l =
    let key : g.row.V.Denot × g.row.V.Denot → List ℕ = λ e. text (g.V.WasmValue.tree e.0) in
    record {
      seen : List (List ℕ);
      has : (q : List ℕ) → is_some (get_by_text l.before q) ≡ is_one_of seen q;
      left : repeated_behind seen l.i (map key (drop l.i l.entries)) ≡ first_repeated (map key l.entries);
    }
