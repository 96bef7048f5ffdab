use Rattle.std.proofs.Common.{rules, tests, arith, length, get_or, sym, ◌∙◌, Bor, List, ℕ}
use Rattle.std.specs.Str.{bytes_eq}
use Rattle.std.proofs.lemmas.Iterator.{YieldsList-from_slice}
use Rattle.std.proofs.lemmas.Iterator.Search.{any_from_yields_List}
use Rattle.wave_wasm.proofs.Names.MappedSearch.{list_any-map}
use Rattle.wave_wasm.proofs.CanonicalText.Sequences.{item_again}
use Rattle.wave_json.proofs.Names.{one_there}
use Rattle.wave_json.proofs.Numbers.{below_of}
use Rattle.wave_json.proofs.parts.has_name.Goals.{then-first-fields, else-first-fields}
use Rattle.wave_json.proofs.parts.has_name.Goals as goal

pub returns-then-eq : goal.returns-then-eq
returns-then-eq g c = c.if-eq.true ∙ elim c.if-first-fields.branch [
  | then-first-fields w ↦ sym (one_there (λ (f : Bor (List ℕ) × g.row.T.Denot). f.0.now) c.args.fields.now c.args.first (get_or c.args.fields.now c.args.first w.index-fields-first.result) c.args.name.now w.if-first-fields.true (item_again c.args.fields.now c.args.first w.index-fields-first.result w.if-first-fields.true) (sym w.eq.ensures ∙ (sym w.value-is ∙ c.if-eq.true)))
  | else-first-fields w ↦ absurd (omega (arith, below_of c.args.first (length c.args.fields.now) (sym w.value-is ∙ c.if-eq.true), w.if-first-fields.false))
]

pub returns-else-eq : goal.returns-else-eq
returns-else-eq g c =
    let name = c.args.name.now in
    any_from_yields_List (λ (f : Bor (List ℕ) × g.row.T.Denot). bytes_eq name f.0.now) _ _ c.any.result c.any.ensures.ran (YieldsList-from_slice c.args.fields.now (cc)) (λ x b q k. search (rules, tests))
    ∙ sym (list_any-map (bytes_eq name) (λ (f : Bor (List ℕ) × g.row.T.Denot). f.0.now) c.args.fields.now)
