use Rattle.std.proofs.Common.{rules, ap, sym, codes, ◌++◌, ◌∙◌, ℕ, List, Bool, map}
use Rattle.std.specs.String.{string_bytes}
use Rattle.wave_wasm.proofs.CanonicalText.Sequences.{at_end, parted, item_passes, items_pass}
use Rattle.wave_wasm.specs.Text.{text, has_text}
use Rattle.wave_wasm.specs.Commas.{joined}
use Rattle.wave_wasm.proofs.Displays.TextAppend.{adding_none, adding_as, adding_start, adding_more, adding_item}
use Rattle.wave_wasm.proofs.CanonicalText.ValueParts.{map_map, all_map}
use Rattle.wave_writer.proofs.writer.arguments_to_string.Goals as goal

pub loop-val-init : goal.loop-val-init
loop-val-init g c =
    let f : g.row.V.Denot → List ℕ = λ v. text (g.V.WasmValue.tree v) in
    record {
      adding = adding_start f c.args.vals.now (codes "(") (codes ")") (adding_as (ap (λ z. codes "(" ++ (joined z ++ codes ")")) (map_map text g.V.WasmValue.tree c.args.vals.now)) (adding_none _ _)) (search rules);
      writable = sym (all_map has_text g.V.WasmValue.tree c.args.vals.now);
    }

pub loop-val-preserved : goal.loop-val-preserved
loop-val-preserved g c =
    let f : g.row.V.Denot → List ℕ = λ v. text (g.V.WasmValue.tree v) in
    let ok : g.row.V.Denot → Bool = λ v. has_text (g.V.WasmValue.tree v) in
    let next = adding_item f c.args.vals.now c.loop-val.val-index c.val-item.result _ _ c.loop-val-test.true c.val-item.is c.loop-val.invariant.adding in
    record {
      adding = adding_more _ (adding_more _ next c.in_ok-write_separator.ensures.ok.written) c.in_ok-write_value.ensures.ok.written;
      writable = item_passes ok c.args.vals.now c.loop-val.val-index c.val-item.result _ c.loop-val-test.true c.val-item.is c.loop-val.invariant.writable c.in_ok-write_value.ensures.writable;
    }

pub returns-clause-ok : goal.returns-clause-ok
returns-clause-ok g c =
    let f : g.row.V.Denot → List ℕ = λ v. text (g.V.WasmValue.tree v) in
    let a = adding_as (at_end (λ l. parted c.loop-val.later (map f l) ++ codes ")") c.args.vals.now c.loop-val.val-index c.loop-val-test.false) c.loop-val.invariant.adding in
    ap string_bytes c.into_inner.ensures ∙ (c.in_ok-write_text-2.ensures.ok.written ∙ (ap (λ s. s ++ codes ")") a.added ∙ sym a.whole_is))

pub returns-clause-writable : goal.returns-clause-writable
returns-clause-writable g c =
    let ok : g.row.V.Denot → Bool = λ v. has_text (g.V.WasmValue.tree v) in
    items_pass ok c.args.vals.now c.loop-val.val-index _ c.loop-val-test.false c.loop-val.invariant.writable
