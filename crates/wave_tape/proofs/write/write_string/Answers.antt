use Rattle.std.proofs.Common.{ℕ, List, Ok, refl, ap}
use Rattle.std.specs.String.{string_bytes}
use Rattle.std.proofs.lemmas.Result.{err_from_is_err_and}
use Rattle.wave_wasm.specs.Types as type
use Rattle.wave_wasm.specs.Values as value
use Rattle.wave_wasm.specs.declared.wasm.WasmTypeKind.TheVariants as kinds
use Rattle.wave_tape.specs.Reading.{Reading, ◌>>=◌, text_at}
use Rattle.wave_tape.proofs.Readings.{read_as}
use Rattle.wave_tape.proofs.WrittenLeaves.{leaf_as, leaf_stopped, made_written, plain_written}
use Rattle.wave_tape.proofs.write.write_string.Goals as goal

pub returns-in_err-text : goal.returns-in_err-text
returns-in_err-text g c =
    let p = err_from_is_err_and c.from_residual.result c.from_residual.ensures.1 in
    rw (p.1, p.2) (leaf_stopped g.V.WasmValue.is_full kinds.String type.string c.args.bytes.now c.in_err-text.field-0.0 (text_at c.args.bytes.now) (λ x. Ok (value.string x.0, x.1)) refl refl c.in_err-text.ensures)

pub returns-then-not-is_plain : goal.returns-then-not-is_plain
returns-then-not-is_plain g c =
    leaf_as g.V.WasmValue.is_full kinds.String type.string c.args.bytes.now (string_bytes c.args.out.now) (string_bytes c.put_made.new.out) c.put_made.result refl
    (made_written g.V.WasmValue.is_full g.V.WasmValue.tree g.V.WasmValue.is_of (value.string c.in_ok-text.text.now) c.args.bytes.now c.in_ok-text.rest.now (string_bytes c.args.out.now) (string_bytes c.put_made.new.out) c.make_string.result c.put_made.result (ap (λ (q : Reading (List ℕ)). q >>= λ x. read_as (value.string x.0) x.1) c.in_ok-text.ensures) c.put_made.ensures c.make_string.ensures.built c.make_string.ensures.full)

pub returns-in_err-push_str : goal.returns-in_err-push_str
returns-in_err-push_str g c =
    let p = err_from_is_err_and c.from_residual-in_err-push_str.result c.from_residual-in_err-push_str.ensures.1 in
    rw (p.1, p.2) (λ S e n. tt)

pub returns-in_err-push_str-2 : goal.returns-in_err-push_str-2
returns-in_err-push_str-2 g c =
    let p = err_from_is_err_and c.from_residual-in_err-push_str-2.result c.from_residual-in_err-push_str-2.ensures.1 in
    rw (p.1, p.2) (λ S e n. tt)

pub returns-in_err-push_str-3 : goal.returns-in_err-push_str-3
returns-in_err-push_str-3 g c =
    let p = err_from_is_err_and c.from_residual-in_err-push_str-3.result c.from_residual-in_err-push_str-3.ensures.1 in
    rw (p.1, p.2) (λ S e n. tt)

pub returns : goal.returns
returns g c = plain_written g.V.WasmValue.is_full c.args.bytes.now c.in_ok-text.text.now (string_bytes c.args.out.now) (string_bytes c.push_str.new.self) (string_bytes c.push_str-2.new.self) (string_bytes c.push_str-3.new.self) c.in_ok-text.rest c.in_ok-text.ensures (c.is_plain.ensures c.if-not-is_plain.false) c.in_ok-push_str.ensures.bytes c.in_ok-push_str-2.ensures.bytes c.in_ok-push_str-3.ensures.bytes
