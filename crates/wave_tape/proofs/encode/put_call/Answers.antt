use Rattle.std.proofs.Common.{ℕ, List, [], ◌∷◌, ◌++◌, Bool, map, refl, ap, ◌∙◌, append_assoc}
use Rattle.std.specs.List.{flat_map, list_all}
use Rattle.std.proofs.lemmas.Result.{err_from_is_err_and}
use Rattle.wave_wasm.specs.Text.{is_writable}
use Rattle.wave_tape.specs.Tape.{bytes_of, text_bytes}
use Rattle.wave_tape.proofs.Puts.{bytes_stop, bytes_stop_in, puts_stop, kept_later, both_put, put_next, put_all, has_next, has_none, has_all}
use Rattle.wave_tape.proofs.encode.put_call.Goals as goal

pub returns-in_err-put_bytes : goal.returns-in_err-put_bytes
returns-in_err-put_bytes g c =
    let p = err_from_is_err_and c.from_residual.result c.from_residual.ensures.1 in
    rw (p.1, p.2) (bytes_stop c.in_err-put_bytes.ensures)

pub returns-in_err-put_text : goal.returns-in_err-put_text
returns-in_err-put_text g c =
    let p = err_from_is_err_and c.from_residual-in_err-put_text.result c.from_residual-in_err-put_text.ensures.1 in
    rw (p.1, p.2) (bytes_stop_in _ c.in_ok-put_bytes.ensures.kept c.in_err-put_text.ensures)

pub loop-arg-init : goal.loop-arg-init
loop-arg-init g c =
    let left = flat_map bytes_of (map g.V.WasmValue.tree c.args.args.now) in
    let name = text_bytes c.args.name.now in
    record {
      put =
          ap (λ (z : List ℕ). z ++ left) (both_put c.args.out.now.items (1 ∷ []) name c.in_ok-put_bytes.ensures.ok.0 c.in_ok-put_text.ensures.ok.0)
          ∙ append_assoc c.args.out.now.items (1 ∷ name) left;
      has = refl;
      kept = kept_later _ _ _ c.in_ok-put_bytes.ensures.kept c.in_ok-put_text.ensures.kept;
    }

pub returns-in_err-put_value : goal.returns-in_err-put_value
returns-in_err-put_value g c =
    let k : List g.row.V.Denot → Bool = λ l. list_all is_writable (map g.V.WasmValue.tree l) in
    let p = err_from_is_err_and c.from_residual-in_err-put_value.result c.from_residual-in_err-put_value.ensures.1 in
    rw (p.1, p.2) (puts_stop _ (has_none k c.args.args.now c.loop-arg.arg-index c.arg-item.result (is_writable (g.V.WasmValue.tree c.arg-item.result)) _ c.loop-arg-test.true c.arg-item.is refl c.loop-arg.invariant.has) c.loop-arg.invariant.kept c.in_err-put_value.ensures)

pub loop-arg-preserved : goal.loop-arg-preserved
loop-arg-preserved g c =
    let h : List g.row.V.Denot → List ℕ = λ l. flat_map bytes_of (map g.V.WasmValue.tree l) in
    let k : List g.row.V.Denot → Bool = λ l. list_all is_writable (map g.V.WasmValue.tree l) in
    record {
      put = put_next h c.args.args.now c.loop-arg.arg-index c.arg-item.result (bytes_of (g.V.WasmValue.tree c.arg-item.result)) _ _ _ c.loop-arg-test.true c.arg-item.is refl c.in_ok-put_value.ensures.ok.0 c.loop-arg.invariant.put;
      has = has_next k c.args.args.now c.loop-arg.arg-index c.arg-item.result (is_writable (g.V.WasmValue.tree c.arg-item.result)) _ c.loop-arg-test.true c.arg-item.is refl c.in_ok-put_value.ensures.ok.1 c.loop-arg.invariant.has;
      kept = kept_later _ _ _ c.loop-arg.invariant.kept c.in_ok-put_value.ensures.kept;
    }

pub returns : goal.returns
returns g c =
    let h : List g.row.V.Denot → List ℕ = λ l. flat_map bytes_of (map g.V.WasmValue.tree l) in
    let k : List g.row.V.Denot → Bool = λ l. list_all is_writable (map g.V.WasmValue.tree l) in
    record {
      ok = (put_all h c.args.args.now c.loop-arg.arg-index _ _ c.loop-arg-test.false refl c.loop-arg.invariant.put, has_all k c.args.args.now c.loop-arg.arg-index _ c.loop-arg-test.false refl c.loop-arg.invariant.has);
      err = tt;
      kept = c.loop-arg.invariant.kept;
    }
