use Rattle.std.proofs.Common.{◌++◌, ℕ, Bool, List, Ok, refl, ap, sym, subst, ◌∙◌}
use Rattle.std.specs.String.{string_bytes}
use Rattle.std.proofs.lemmas.Result.{err_from_is_err_and}
use Rattle.wave_wasm.specs.declared.wasm.WasmTypeKind.{WasmTypeKind}
use Rattle.wave_wasm.specs.Types as type
use Rattle.wave_wasm.specs.Values as value
use Rattle.wave_tape.specs.Reading.{Reading, ◌>>=◌, choice_at, char_at}
use Rattle.wave_tape.specs.Private.TextWriters.{IsLeafWritten}
use Rattle.wave_tape.proofs.Readings.{read_as}
use Rattle.wave_tape.proofs.WrittenLeaves.{leaf_as, leaf_stopped, made_written, whole_written, whole_stopped, bool_said}
use Rattle.wave_tape.proofs.write.write_leaf.Goals as goal

pub returns-in_err-val-in-Bool : goal.returns-in_err-val-in-Bool
returns-in_err-val-in-Bool g c =
    let p = err_from_is_err_and c.from_residual.result c.from_residual.ensures.1 in
    rw (p.1, p.2) (leaf_stopped g.V.WasmValue.is_full c.args.kind type.bool c.args.bytes.now c.in_err-val-in-Bool.field-0.0 (choice_at c.args.bytes.now) (λ x. Ok (value.bool x.0, x.1)) c.in-Bool.is refl c.in_err-val-in-Bool.ensures)

pub returns-in_err-put_either-in-Bool : goal.returns-in_err-put_either-in-Bool
returns-in_err-put_either-in-Bool g c =
    let p = err_from_is_err_and c.from_residual-in_err-put_either-in-Bool.result c.from_residual-in_err-put_either-in-Bool.ensures.1 in
    rw (p.1, p.2) (λ S e n. tt)

pub returns-in_ok-put_either-in-Bool : goal.returns-in_ok-put_either-in-Bool
returns-in_ok-put_either-in-Bool g c =
    leaf_as g.V.WasmValue.is_full c.args.kind type.bool c.args.bytes.now (string_bytes c.args.out.now) (string_bytes c.put_either.new.out) (Ok c.in_ok-val-in-Bool.rest) c.in-Bool.is (
      value.bool c.in_ok-val-in-Bool.val,
      ap (λ (q : Reading Bool). q >>= λ x. read_as (value.bool x.0) x.1) c.in_ok-val-in-Bool.ensures,
      c.in_ok-put_either-in-Bool.ensures ∙ ap (λ (s : List ℕ). string_bytes c.args.out.now ++ s) (bool_said c.in_ok-val-in-Bool.val),
    )

pub returns-in_err-val-in-Char : goal.returns-in_err-val-in-Char
returns-in_err-val-in-Char g c =
    let p = err_from_is_err_and c.from_residual-in_err-val-in-Char.result c.from_residual-in_err-val-in-Char.ensures.1 in
    rw (p.1, p.2) (leaf_stopped g.V.WasmValue.is_full c.args.kind type.char c.args.bytes.now c.in_err-val-in-Char.field-0.0 (char_at c.args.bytes.now) (λ x. Ok (value.char x.0, x.1)) c.in-Char.is refl c.in_err-val-in-Char.ensures)

pub returns-in_ok-val-in-Char : goal.returns-in_ok-val-in-Char
returns-in_ok-val-in-Char g c =
    leaf_as g.V.WasmValue.is_full c.args.kind type.char c.args.bytes.now (string_bytes c.args.out.now) (string_bytes c.put_made.new.out) c.put_made.result c.in-Char.is
    (made_written g.V.WasmValue.is_full g.V.WasmValue.tree g.V.WasmValue.is_of (value.char c.in_ok-val-in-Char.val) c.args.bytes.now c.in_ok-val-in-Char.rest.now (string_bytes c.args.out.now) (string_bytes c.put_made.new.out) c.make_char.result c.put_made.result (ap (λ (q : Reading ℕ). q >>= λ x. read_as (value.char x.0) x.1) c.in_ok-val-in-Char.ensures) c.put_made.ensures c.make_char.ensures.built c.make_char.ensures.full)

pub returns-in-String : goal.returns-in-String
returns-in-String g c = subst (λ (K : WasmTypeKind). IsLeafWritten g.V.WasmValue.is_full K c.args.bytes.now (string_bytes c.args.out.now) (string_bytes c.write_string.new.out) c.write_string.result) (sym c.in-String.is) c.write_string.ensures

pub returns-in_err-is_negative-in_default : goal.returns-in_err-is_negative-in_default
returns-in_err-is_negative-in_default g c =
    let p = err_from_is_err_and c.from_residual-in_err-is_negative-in_default.result c.from_residual-in_err-is_negative-in_default.ensures.1 in
    rw (p.1, p.2) (whole_stopped g.V.WasmValue.is_full c.args.kind c.args.bytes.now c.in_err-is_negative-in_default.field-0.0 c.in_default.not-Bool c.in_default.not-Char c.in_default.not-String c.in_err-is_negative-in_default.ensures)

pub returns-in_err-put_either-in_default : goal.returns-in_err-put_either-in_default
returns-in_err-put_either-in_default g c =
    let p = err_from_is_err_and c.from_residual-in_err-put_either-in_default.result c.from_residual-in_err-put_either-in_default.ensures.1 in
    rw (p.1, p.2) (λ S e n. tt)

pub returns-in_err-push_str-in_default : goal.returns-in_err-push_str-in_default
returns-in_err-push_str-in_default g c =
    let p = err_from_is_err_and c.from_residual-in_err-push_str-in_default.result c.from_residual-in_err-push_str-in_default.ensures.1 in
    rw (p.1, p.2) (λ S e n. tt)

pub returns-in_ok-push_str-in_default : goal.returns-in_ok-push_str-in_default
returns-in_ok-push_str-in_default g c =
    whole_written g.V.WasmValue.is_full c.args.kind c.args.bytes.now (string_bytes c.args.out.now) (string_bytes c.put_either-in_default.new.out) (string_bytes c.push_str.new.self) (c.in_ok-is_negative-in_default.is_negative, c.in_ok-is_negative-in_default.distance, c.in_ok-is_negative-in_default.rest) c.in_default.not-Bool c.in_default.not-Char c.in_default.not-String c.in_ok-is_negative-in_default.ensures c.in_ok-put_either-in_default.ensures (c.in_ok-push_str-in_default.ensures.bytes ∙ ap (λ (s : List ℕ). string_bytes c.put_either-in_default.new.out ++ s) c.format.ensures.text)
