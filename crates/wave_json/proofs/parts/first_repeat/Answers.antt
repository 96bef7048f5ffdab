use Rattle.std.proofs.Common.{ℕ, List, [], ◌∷◌, Bor, get_or, is_some, ap, sym, ◌∙◌, Some}
use Rattle.std.proofs.lemmas.Map.Text.{btree_map_updates_str}
use Rattle.wave_wasm.proofs.CanonicalText.Sequences.{item_again}
use Rattle.wave_json.proofs.Names.{repeated_found, repeated_next, seen_more}
use Rattle.wave_json.proofs.parts.first_repeat.Goals as goal

abbrev no_name : Bor (List ℕ)
no_name = record { ref_ptr = (0, 0); now = [] }

pub returns-then-is_some : goal.returns-then-is_some
returns-then-is_some c =
    let names = c.args.names.now in
    let x = get_or names c.loop-i.i no_name in
    let found = sym (c.loop-i.invariant.has x.now) ∙ (ap is_some (sym c.in_ok-insert.ensures.old) ∙ sym c.if-is_some.ensures) in
    sym (repeated_found (λ (n : Bor (List ℕ)). n.now) names c.loop-i.i c.loop-i.invariant.seen x c.loop-i-test.true (item_again names c.loop-i.i no_name c.loop-i-test.true) found) ∙ c.loop-i.invariant.left

pub loop-i-preserved : goal.loop-i-preserved
loop-i-preserved c =
    let names = c.args.names.now in
    let x = get_or names c.loop-i.i no_name in
    let new = sym (c.loop-i.invariant.has x.now) ∙ (ap is_some (sym c.in_ok-insert.ensures.old) ∙ sym c.if-is_some.ensures) in
    record {
      seen = x.now ∷ c.loop-i.invariant.seen;
      has = λ q. seen_more x.now q c.loop-i.invariant.seen _ _ c.loop-i.i (btree_map_updates_str x.now c.loop-i.before c.insert.new.self (Some c.loop-i.i) c.in_ok-insert.ensures.updates q) (c.loop-i.invariant.has q);
      left = sym (repeated_next (λ (n : Bor (List ℕ)). n.now) names c.loop-i.i c.loop-i.invariant.seen x c.loop-i-test.true (item_again names c.loop-i.i no_name c.loop-i-test.true) new) ∙ c.loop-i.invariant.left;
    }
