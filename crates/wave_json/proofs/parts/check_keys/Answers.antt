use Rattle.std.proofs.Common.{◌≡◌, ℕ, List, ◌∷◌, is_some, ap, sym, subst, ◌∙◌, Some, Option, get_or, true, false}
use Rattle.std.specs.BTreeMap.{get_by_text}
use Rattle.std.specs.Prelude.{string_bytes}
use Rattle.std.proofs.lemmas.Map.Text.{btree_map_updates_text}
use Rattle.wave_wasm.proofs.CanonicalText.Sequences.{item_again}
use Rattle.wave_wasm.specs.Names.{is_one_of}
use Rattle.wave_wasm.specs.Text.{text}
use Rattle.wave_json.specs.declared.error.JsonErrorKind.TheVariants as kinds
use Rattle.wave_json.specs.Reading.{item_step, unless_found}
use Rattle.wave_json.proofs.Names.{repeated_found, repeated_next, seen_more}
use Rattle.wave_json.proofs.Stops.{at_fails}
use Rattle.wave_json.proofs.parts.check_keys.Goals as goal

pub returns-then-is_some : goal.returns-then-is_some
returns-then-is_some g c =
    let key : g.row.V.Denot × g.row.V.Denot → List ℕ = λ e. text (g.V.WasmValue.tree e.0) in
    let es = c.args.entries.now in
    let i = c.loop-i.i in
    let seen = c.loop-i.invariant.seen in
    let x = get_or es i c.index-entries-i.result in
    let found : is_one_of seen (string_bytes c.in-Ok.text) ≡ true = sym (c.loop-i.invariant.has (string_bytes c.in-Ok.text)) ∙ (ap is_some (sym c.in_ok-insert.ensures.old) ∙ sym c.if-is_some.ensures) in
    let here = subst (λ n. is_one_of seen n ≡ true) c.in-Ok.ensures.ok found in
    let first = sym c.loop-i.invariant.left ∙ repeated_found key es i seen x c.loop-i-test.true (item_again es i c.index-entries-i.result c.loop-i-test.true) here in
    at_fails (Unit {0}) (item_step i) kinds.Repeated c.at.result _ c.at.ensures (ap (λ (o : Option (ℕ × List ℕ)). unless_found kinds.Repeated (λ p. item_step p.0) o tt) first)

pub loop-i-preserved : goal.loop-i-preserved
loop-i-preserved g c =
    let key : g.row.V.Denot × g.row.V.Denot → List ℕ = λ e. text (g.V.WasmValue.tree e.0) in
    let es = c.args.entries.now in
    let i = c.loop-i.i in
    let seen = c.loop-i.invariant.seen in
    let x = get_or es i c.index-entries-i.result in
    let name = string_bytes c.in-Ok.text in
    let none : is_one_of seen name ≡ false = sym (c.loop-i.invariant.has name) ∙ (ap is_some (sym c.in_ok-insert.ensures.old) ∙ sym c.if-is_some.ensures) in
    let here = subst (λ n. is_one_of seen n ≡ false) c.in-Ok.ensures.ok none in
    record {
      seen = key x ∷ seen;
      has = λ q. subst (λ n. is_some (get_by_text c.insert.new.self q) ≡ is_one_of (n ∷ seen) q) c.in-Ok.ensures.ok (seen_more name q seen _ _ i (btree_map_updates_text name c.loop-i.before c.insert.new.self (Some i) c.in_ok-insert.ensures.updates q) (c.loop-i.invariant.has q));
      left = sym (repeated_next key es i seen x c.loop-i-test.true (item_again es i c.index-entries-i.result c.loop-i-test.true) here) ∙ c.loop-i.invariant.left;
    }
