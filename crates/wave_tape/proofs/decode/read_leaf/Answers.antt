use Rattle.std.proofs.Common.{ℕ, Bool, List, Ok, refl, ap}
use Rattle.std.proofs.lemmas.Result.{err_from_is_err_and}
use Rattle.wave_wasm.specs.Types as type
use Rattle.wave_wasm.specs.Values as value
use Rattle.wave_tape.specs.Reading.{Reading, ◌>>=◌, choice_at, char_at, text_at}
use Rattle.wave_tape.proofs.Readings.{read_as, leaf_as, leaf_fault, leaf_read}
use Rattle.wave_tape.proofs.decode.read_leaf.Goals as goal

pub returns-in_err-val-in-Bool : goal.returns-in_err-val-in-Bool
returns-in_err-val-in-Bool g c =
    let p = err_from_is_err_and c.from_residual.result c.from_residual.ensures.1 in
    rw (p.1, p.2) (leaf_fault g.V.WasmValue.tree g.V.WasmValue.is_of g.V.WasmValue.is_full c.args.kind type.bool c.args.bytes.now c.in_err-val-in-Bool.field-0.0 (choice_at c.args.bytes.now) (λ x. Ok (value.bool x.0, x.1)) c.in-Bool.is refl c.in_err-val-in-Bool.ensures)

pub returns-in_ok-val-in-Bool : goal.returns-in_ok-val-in-Bool
returns-in_ok-val-in-Bool g c =
    leaf_as g.V.WasmValue.tree g.V.WasmValue.is_of g.V.WasmValue.is_full c.args.kind type.bool c.args.bytes.now c.built.result c.in-Bool.is
    (leaf_read g.V.WasmValue.tree g.V.WasmValue.is_of g.V.WasmValue.is_full (value.bool c.in_ok-val-in-Bool.val) c.args.bytes.now c.in_ok-val-in-Bool.rest.now c.make_bool.result c.built.result (ap (λ (q : Reading Bool). q >>= λ x. read_as (value.bool x.0) x.1) c.in_ok-val-in-Bool.ensures) c.built.ensures c.make_bool.ensures.built c.make_bool.ensures.full)

pub returns-in_err-val-in-Char : goal.returns-in_err-val-in-Char
returns-in_err-val-in-Char g c =
    let p = err_from_is_err_and c.from_residual-in_err-val-in-Char.result c.from_residual-in_err-val-in-Char.ensures.1 in
    rw (p.1, p.2) (leaf_fault g.V.WasmValue.tree g.V.WasmValue.is_of g.V.WasmValue.is_full c.args.kind type.char c.args.bytes.now c.in_err-val-in-Char.field-0.0 (char_at c.args.bytes.now) (λ x. Ok (value.char x.0, x.1)) c.in-Char.is refl c.in_err-val-in-Char.ensures)

pub returns-in_ok-val-in-Char : goal.returns-in_ok-val-in-Char
returns-in_ok-val-in-Char g c =
    leaf_as g.V.WasmValue.tree g.V.WasmValue.is_of g.V.WasmValue.is_full c.args.kind type.char c.args.bytes.now c.built-in-Char.result c.in-Char.is
    (leaf_read g.V.WasmValue.tree g.V.WasmValue.is_of g.V.WasmValue.is_full (value.char c.in_ok-val-in-Char.val) c.args.bytes.now c.in_ok-val-in-Char.rest.now c.make_char.result c.built-in-Char.result (ap (λ (q : Reading ℕ). q >>= λ x. read_as (value.char x.0) x.1) c.in_ok-val-in-Char.ensures) c.built-in-Char.ensures c.make_char.ensures.built c.make_char.ensures.full)

pub returns-in_err-val-in-String : goal.returns-in_err-val-in-String
returns-in_err-val-in-String g c =
    let p = err_from_is_err_and c.from_residual-in_err-val-in-String.result c.from_residual-in_err-val-in-String.ensures.1 in
    rw (p.1, p.2) (leaf_fault g.V.WasmValue.tree g.V.WasmValue.is_of g.V.WasmValue.is_full c.args.kind type.string c.args.bytes.now c.in_err-val-in-String.field-0.0 (text_at c.args.bytes.now) (λ x. Ok (value.string x.0, x.1)) c.in-String.is refl c.in_err-val-in-String.ensures)

pub returns-in_ok-val-in-String : goal.returns-in_ok-val-in-String
returns-in_ok-val-in-String g c =
    leaf_as g.V.WasmValue.tree g.V.WasmValue.is_of g.V.WasmValue.is_full c.args.kind type.string c.args.bytes.now c.built-in-String.result c.in-String.is
    (leaf_read g.V.WasmValue.tree g.V.WasmValue.is_of g.V.WasmValue.is_full (value.string c.in_ok-val-in-String.val.now) c.args.bytes.now c.in_ok-val-in-String.rest.now c.make_string.result c.built-in-String.result (ap (λ (q : Reading (List ℕ)). q >>= λ x. read_as (value.string x.0) x.1) c.in_ok-val-in-String.ensures) c.built-in-String.ensures c.make_string.ensures.built c.make_string.ensures.full)

pub read_unsigned-requires : goal.read_unsigned-requires
read_unsigned-requires g c = (c.in_default.not-Bool, c.in_default.not-Char, c.in_default.not-String)

pub returns-in_default : goal.returns-in_default
returns-in_default g c = c.read_unsigned.ensures
