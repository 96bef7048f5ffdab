use Rattle.std.proofs.Common.{ℕ, List, ◌++◌, [], ap, sym, Bor, codes, map, get_or}
use Rattle.wave_wasm.specs.Commas.{joined}
use Rattle.wave_wasm.specs.CommaParts.{comma_if}
use Rattle.wave_wasm.proofs.Displays.TextAppend.{adding_none, adding_as, adding_more, adding_start, adding_item}
use Rattle.wave_wasm.proofs.CanonicalText.Sequences.{item_again}
use Rattle.wave_wasm.proofs.wasm.display.push_names.Goals as goal

pub loop-name-init : goal.loop-name-init
loop-name-init c =
    let f : Bor (List ℕ) → List ℕ = λ n. n.now in
    adding_start f c.deref-name-items.result.now (codes " { ") (codes " }") (adding_as (ap (λ z. codes " { " ++ (joined (map f z) ++ codes " }")) (sym c.deref-name-items.ensures.value)) (adding_more c.args.word.now (adding_none _ _) c.in_ok-push_str.ensures.bytes)) c.in_ok-push_str-2.ensures.bytes

pub loop-name-preserved : goal.loop-name-preserved
loop-name-preserved c =
    let f : Bor (List ℕ) → List ℕ = λ n. n.now in
    let name = get_or c.deref-name-items.result.now c.loop-name.name-index (record { ref_ptr = (0, 0); now = [] }) in
    let a = adding_item f c.deref-name-items.result.now c.loop-name.name-index name _ _ c.loop-name-test.true (item_again c.deref-name-items.result.now c.loop-name.name-index _ c.loop-name-test.true) c.loop-name.invariant in
    adding_more name.now (adding_more (comma_if c.loop-name.later) a c.in_ok-push_separator.ensures) c.in_ok-push_str-3.ensures.bytes
