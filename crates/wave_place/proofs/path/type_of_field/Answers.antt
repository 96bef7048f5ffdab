use Rattle.std.proofs.Common.{rules, tests, ap, sym, ◌∙◌, Bor, List, ℕ}
use Rattle.std.specs.Option.{option_map}
use Rattle.std.specs.Str.{bytes_eq}
use Rattle.std.proofs.lemmas.Iterator.{YieldsList-from_slice}
use Rattle.std.proofs.lemmas.Iterator.Search.{find_from_yields_List}
use Rattle.wave_wasm.specs.Borrowed.{denoted_fields}
use Rattle.wave_place.proofs.Steps.{field_found}
use Rattle.wave_place.proofs.path.type_of_field.Goals as goal

pub returns-in-Some : goal.returns-in-Some
returns-in-Some g c =
    let tree = g.T.WasmType.tree in
    let name = c.args.name.now in
    let fields = c.deref.result.now in
    ap (option_map (λ (d : Bor (List ℕ) × Bor g.row.T.Denot). tree d.1.now)) (sym c.in-Some.is)
    ∙ field_found tree _ name fields c.copied.result
    (c.copied.ensures ∙ find_from_yields_List (λ d. bytes_eq name d.0.now) _ _ c.find.result c.find.ensures.ran (YieldsList-from_slice fields (cc)) (λ x b q k. search (rules, tests)))
    (ap (denoted_fields tree) c.deref.ensures.value ∙ c.in_ok-fields.ensures)

pub returns : goal.returns
returns g c =
    let tree = g.T.WasmType.tree in
    let name = c.args.name.now in
    let fields = c.deref.result.now in
    ap (option_map (λ (d : Bor (List ℕ) × Bor g.row.T.Denot). tree d.1.now)) (sym c.in-None.is)
    ∙ field_found tree _ name fields c.copied.result
    (c.copied.ensures ∙ find_from_yields_List (λ d. bytes_eq name d.0.now) _ _ c.find.result c.find.ensures.ran (YieldsList-from_slice fields (cc)) (λ x b q k. search (rules, tests)))
    (ap (denoted_fields tree) c.deref.ensures.value ∙ c.in_ok-fields.ensures)
