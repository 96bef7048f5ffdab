use Rattle.std.proofs.Common.{rules, tests, ap, sym, ◌∙◌, Bool, List, ℕ}
use Rattle.std.specs.List.{find}
use Rattle.std.specs.Option.{option_map}
use Rattle.std.specs.Str.{bytes_eq}
use Rattle.std.proofs.lemmas.Iterator.{YieldsList-from_slice}
use Rattle.std.proofs.lemmas.Iterator.Search.{find_from_yields_List}
use Rattle.wave_wasm.specs.Borrowed.{denoted_case, denoted_cases}
use Rattle.wave_wasm.proofs.Names.MappedSearch.{find-map}
use Rattle.wave_wasm.proofs.wasm.WasmType.variant_case.Goals as goal

-- the case has the name
abbrev has_name : {A : Type 0} → List ℕ → List ℕ × A → Bool
has_name name c = bytes_eq name c.0

pub returns : goal.returns
returns g c =
    let tree = g.Self.WasmType.tree in
    let name = c.args.name.now in
    let cases = c.deref.result.now in
    ap (option_map (denoted_case tree)) (c.copied.ensures ∙ find_from_yields_List (λ d. bytes_eq name d.0.now) _ _ c.find.result c.find.ensures.ran (YieldsList-from_slice cases (cc)) (λ x b q k. search (rules, tests)))
    ∙ (sym (find-map (has_name name) (denoted_case tree) cases) ∙ ap (find (has_name name)) (ap (denoted_cases tree) c.deref.ensures.value ∙ c.in_ok-cases.ensures))
