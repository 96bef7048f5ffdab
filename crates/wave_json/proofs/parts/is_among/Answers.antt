use Rattle.std.proofs.Common.{rules, tests, sym, ◌∙◌, Bor, List, ℕ}
use Rattle.std.specs.Str.{bytes_eq}
use Rattle.std.proofs.lemmas.Iterator.{YieldsList-from_slice}
use Rattle.std.proofs.lemmas.Iterator.Search.{any_from_yields_List}
use Rattle.wave_wasm.proofs.Names.MappedSearch.{list_any-map}
use Rattle.wave_json.proofs.parts.is_among.Goals as goal

pub returns : goal.returns
returns c =
    let name = c.args.name.now in
    any_from_yields_List (λ (n : Bor (List ℕ)). bytes_eq name n.now) _ _ c.any.result c.any.ensures.ran (YieldsList-from_slice c.args.names.now (cc)) (λ x b q k. search (rules, tests))
    ∙ sym (list_any-map (bytes_eq name) (λ (n : Bor (List ℕ)). n.now) c.args.names.now)
