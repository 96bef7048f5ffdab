use Rattle.std.proofs.Common.{rules, tests, ap, sym, ◌∙◌, Bor, List, ℕ}
use Rattle.std.specs.List.{position}
use Rattle.std.specs.Str.{bytes_eq}
use Rattle.std.proofs.lemmas.Iterator.{YieldsList-from_slice}
use Rattle.std.proofs.lemmas.Iterator.Search.{position_from_yields_List}
use Rattle.wave_wasm.specs.Borrowed.{texts}
use Rattle.wave_wasm.proofs.Names.MappedSearch.{position-map}
use Rattle.wave_wasm.proofs.wasm.WasmType.flag_place.Goals as goal

pub returns : goal.returns
returns g c =
    let name = c.args.name.now in
    let names = c.deref.result.now in
    position_from_yields_List (λ (n : Bor (List ℕ)). bytes_eq name n.now) _ _ c.position.result c.position.ensures.ran (YieldsList-from_slice names (cc)) (λ x b q k. search (rules, tests))
    ∙ (sym (position-map (bytes_eq name) (λ (n : Bor (List ℕ)). n.now) names) ∙ ap (position (bytes_eq name)) (ap texts c.deref.ensures.value ∙ c.in_ok-names.ensures))
