use Rattle.std.proofs.Common.{rules, tests, ap, sym, ◌∙◌, Bor, List, ℕ}
use Rattle.std.specs.List.{list_any}
use Rattle.std.specs.Str.{bytes_eq}
use Rattle.std.proofs.lemmas.Iterator.{YieldsList-from_slice}
use Rattle.std.proofs.lemmas.Iterator.Search.{any_from_yields_List}
use Rattle.wave_wasm.specs.Borrowed.{texts}
use Rattle.wave_wasm.proofs.Names.MappedSearch.{list_any-map}
use Rattle.wave_wasm.proofs.wasm.WasmType.has_enum_case.Goals as goal

pub returns : goal.returns
returns g c =
    let name = c.args.name.now in
    let cases = c.deref.result.now in
    any_from_yields_List (λ (n : Bor (List ℕ)). bytes_eq name n.now) _ _ c.any.result c.any.ensures.ran (YieldsList-from_slice cases (cc)) (λ x b q k. search (rules, tests))
    ∙ (sym (list_any-map (bytes_eq name) (λ (n : Bor (List ℕ)). n.now) cases) ∙ ap (list_any (bytes_eq name)) (ap texts c.deref.ensures.value ∙ c.in_ok-cases.ensures))
