use Rattle.std.proofs.Common.{ℕ, pos, Ok, refl, ap}
use Rattle.std.specs.Int.{w8, w16, w32, w64}
use Rattle.std.proofs.lemmas.Result.{err_from_is_err_and}
use Rattle.wave_wasm.specs.Types as type
use Rattle.wave_wasm.specs.Values as value
use Rattle.wave_tape.specs.Reading.{Reading, ◌>>=◌, number_at, whole_of}
use Rattle.wave_tape.proofs.Readings.{read_as, leaf_as, leaf_fault, leaf_read}
use Rattle.wave_tape.proofs.decode.read_unsigned.Goals as goal

pub returns-in_err-val-in-U8 : goal.returns-in_err-val-in-U8
returns-in_err-val-in-U8 g c =
    let p = err_from_is_err_and c.from_residual.result c.from_residual.ensures.1 in
    rw (p.1, p.2) (leaf_fault g.V.WasmValue.tree g.V.WasmValue.is_of g.V.WasmValue.is_full c.args.kind (type.whole type.u8) c.args.bytes.now c.in_err-val-in-U8.field-0.0 (number_at w8 c.args.bytes.now) (λ x. Ok (value.whole type.u8 (whole_of type.u8 x.0), x.1)) c.in-U8.is refl c.in_err-val-in-U8.ensures)

pub returns-in_ok-val-in-U8 : goal.returns-in_ok-val-in-U8
returns-in_ok-val-in-U8 g c =
    leaf_as g.V.WasmValue.tree g.V.WasmValue.is_of g.V.WasmValue.is_full c.args.kind (type.whole type.u8) c.args.bytes.now c.built.result c.in-U8.is
    (leaf_read g.V.WasmValue.tree g.V.WasmValue.is_of g.V.WasmValue.is_full (value.whole type.u8 (pos c.in_ok-val-in-U8.val)) c.args.bytes.now c.in_ok-val-in-U8.rest.now c.make_u8.result c.built.result (ap (λ (q : Reading ℕ). q >>= λ x. read_as (value.whole type.u8 (whole_of type.u8 x.0)) x.1) c.in_ok-val-in-U8.ensures) c.built.ensures c.make_u8.ensures.built c.make_u8.ensures.full)

pub returns-in_err-val-in-U16 : goal.returns-in_err-val-in-U16
returns-in_err-val-in-U16 g c =
    let p = err_from_is_err_and c.from_residual-in_err-val-in-U16.result c.from_residual-in_err-val-in-U16.ensures.1 in
    rw (p.1, p.2) (leaf_fault g.V.WasmValue.tree g.V.WasmValue.is_of g.V.WasmValue.is_full c.args.kind (type.whole type.u16) c.args.bytes.now c.in_err-val-in-U16.field-0.0 (number_at w16 c.args.bytes.now) (λ x. Ok (value.whole type.u16 (whole_of type.u16 x.0), x.1)) c.in-U16.is refl c.in_err-val-in-U16.ensures)

pub returns-in_ok-val-in-U16 : goal.returns-in_ok-val-in-U16
returns-in_ok-val-in-U16 g c =
    leaf_as g.V.WasmValue.tree g.V.WasmValue.is_of g.V.WasmValue.is_full c.args.kind (type.whole type.u16) c.args.bytes.now c.built-in-U16.result c.in-U16.is
    (leaf_read g.V.WasmValue.tree g.V.WasmValue.is_of g.V.WasmValue.is_full (value.whole type.u16 (pos c.in_ok-val-in-U16.val)) c.args.bytes.now c.in_ok-val-in-U16.rest.now c.make_u16.result c.built-in-U16.result (ap (λ (q : Reading ℕ). q >>= λ x. read_as (value.whole type.u16 (whole_of type.u16 x.0)) x.1) c.in_ok-val-in-U16.ensures) c.built-in-U16.ensures c.make_u16.ensures.built c.make_u16.ensures.full)

pub returns-in_err-val-in-U32 : goal.returns-in_err-val-in-U32
returns-in_err-val-in-U32 g c =
    let p = err_from_is_err_and c.from_residual-in_err-val-in-U32.result c.from_residual-in_err-val-in-U32.ensures.1 in
    rw (p.1, p.2) (leaf_fault g.V.WasmValue.tree g.V.WasmValue.is_of g.V.WasmValue.is_full c.args.kind (type.whole type.u32) c.args.bytes.now c.in_err-val-in-U32.field-0.0 (number_at w32 c.args.bytes.now) (λ x. Ok (value.whole type.u32 (whole_of type.u32 x.0), x.1)) c.in-U32.is refl c.in_err-val-in-U32.ensures)

pub returns-in_ok-val-in-U32 : goal.returns-in_ok-val-in-U32
returns-in_ok-val-in-U32 g c =
    leaf_as g.V.WasmValue.tree g.V.WasmValue.is_of g.V.WasmValue.is_full c.args.kind (type.whole type.u32) c.args.bytes.now c.built-in-U32.result c.in-U32.is
    (leaf_read g.V.WasmValue.tree g.V.WasmValue.is_of g.V.WasmValue.is_full (value.whole type.u32 (pos c.in_ok-val-in-U32.val)) c.args.bytes.now c.in_ok-val-in-U32.rest.now c.make_u32.result c.built-in-U32.result (ap (λ (q : Reading ℕ). q >>= λ x. read_as (value.whole type.u32 (whole_of type.u32 x.0)) x.1) c.in_ok-val-in-U32.ensures) c.built-in-U32.ensures c.make_u32.ensures.built c.make_u32.ensures.full)

pub returns-in_err-val-in-U64 : goal.returns-in_err-val-in-U64
returns-in_err-val-in-U64 g c =
    let p = err_from_is_err_and c.from_residual-in_err-val-in-U64.result c.from_residual-in_err-val-in-U64.ensures.1 in
    rw (p.1, p.2) (leaf_fault g.V.WasmValue.tree g.V.WasmValue.is_of g.V.WasmValue.is_full c.args.kind (type.whole type.u64) c.args.bytes.now c.in_err-val-in-U64.field-0.0 (number_at w64 c.args.bytes.now) (λ x. Ok (value.whole type.u64 (whole_of type.u64 x.0), x.1)) c.in-U64.is refl c.in_err-val-in-U64.ensures)

pub returns-in_ok-val-in-U64 : goal.returns-in_ok-val-in-U64
returns-in_ok-val-in-U64 g c =
    leaf_as g.V.WasmValue.tree g.V.WasmValue.is_of g.V.WasmValue.is_full c.args.kind (type.whole type.u64) c.args.bytes.now c.built-in-U64.result c.in-U64.is
    (leaf_read g.V.WasmValue.tree g.V.WasmValue.is_of g.V.WasmValue.is_full (value.whole type.u64 (pos c.in_ok-val-in-U64.val)) c.args.bytes.now c.in_ok-val-in-U64.rest.now c.make_u64.result c.built-in-U64.result (ap (λ (q : Reading ℕ). q >>= λ x. read_as (value.whole type.u64 (whole_of type.u64 x.0)) x.1) c.in_ok-val-in-U64.ensures) c.built-in-U64.ensures c.make_u64.ensures.built c.make_u64.ensures.full)

pub read_signed-requires-clause-text : goal.read_signed-requires-clause-text
read_signed-requires-clause-text g c = c.requires

pub read_signed-requires-clause-unsigned : goal.read_signed-requires-clause-unsigned
read_signed-requires-clause-unsigned g c = (c.in_default.not-U8, c.in_default.not-U16, c.in_default.not-U32, c.in_default.not-U64)

pub returns-in_default : goal.returns-in_default
returns-in_default g c = c.read_signed.ensures
