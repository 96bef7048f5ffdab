use Rattle.std.proofs.Common.{◌^◌, ℕ, ℤ, length, Ok, Err, refl, ap, ◌∙◌, arith}
use Rattle.std.specs.Int.{w8, w16, w32, w64, cast_signed, cast_unsigned}
use Rattle.std.proofs.lemmas.Result.{err_from_is_err_and}
use Rattle.wave_wasm.specs.Types as type
use Rattle.wave_wasm.specs.Values as value
use Rattle.wave_tape.specs.Reading.{Reading, ◌>>=◌, number_at, whole_of}
use Rattle.wave_tape.proofs.Readings.{read_as, leaf_as, leaf_fault, leaf_read, no_kind}
use Rattle.wave_tape.specs.declared.error.TapeErrorKind.TheVariants as errors
use Rattle.wave_tape.specs.declared.error.Stop.TheVariants as stops
use Rattle.wave_tape.proofs.Fields.{wide8, wide16, wide32, wide64, number_takes}
use Rattle.wave_tape.proofs.Signed.{signed_read}
use Rattle.wave_tape.proofs.TypeParts.{no_whole}
use Rattle.wave_tape.proofs.decode.read_signed.Goals as goal

pub returns-in_err-val-in-S8 : goal.returns-in_err-val-in-S8
returns-in_err-val-in-S8 g c =
    let p = err_from_is_err_and c.from_residual.result c.from_residual.ensures.1 in
    rw (p.1, p.2) (leaf_fault g.V.WasmValue.tree g.V.WasmValue.is_of g.V.WasmValue.is_full c.args.kind (type.whole type.s8) c.args.bytes.now c.in_err-val-in-S8.field-0.0 (number_at w8 c.args.bytes.now) (λ x. Ok (value.whole type.s8 (whole_of type.s8 x.0), x.1)) c.in-S8.is refl c.in_err-val-in-S8.ensures)

pub returns-in_ok-val-in-S8 : goal.returns-in_ok-val-in-S8
returns-in_ok-val-in-S8 g c =
    leaf_as g.V.WasmValue.tree g.V.WasmValue.is_of g.V.WasmValue.is_full c.args.kind (type.whole type.s8) c.args.bytes.now c.built.result c.in-S8.is
    (leaf_read g.V.WasmValue.tree g.V.WasmValue.is_of g.V.WasmValue.is_full (value.whole type.s8 (cast_signed w8 (cast_unsigned w8 c.cast_signed.result))) c.args.bytes.now c.in_ok-val-in-S8.rest.now c.make_s8.result c.built.result (ap (λ (q : Reading ℕ). q >>= λ x. read_as (value.whole type.s8 (whole_of type.s8 x.0)) x.1) c.in_ok-val-in-S8.ensures ∙ ap (λ (z : ℤ). read_as (value.whole type.s8 z) c.in_ok-val-in-S8.rest.now) (signed_read w8 c.in_ok-val-in-S8.val c.cast_signed.result (number_takes w8 (2 ^ 8) wide8 c.args.bytes.now c.in_ok-val-in-S8.val c.in_ok-val-in-S8.rest.now (λ i. omega (arith, c.type_inv.bytes i)) c.in_ok-val-in-S8.ensures).1 c.cast_signed.ensures)) c.built.ensures c.make_s8.ensures.built c.make_s8.ensures.full)

pub returns-in_err-val-in-S16 : goal.returns-in_err-val-in-S16
returns-in_err-val-in-S16 g c =
    let p = err_from_is_err_and c.from_residual-in_err-val-in-S16.result c.from_residual-in_err-val-in-S16.ensures.1 in
    rw (p.1, p.2) (leaf_fault g.V.WasmValue.tree g.V.WasmValue.is_of g.V.WasmValue.is_full c.args.kind (type.whole type.s16) c.args.bytes.now c.in_err-val-in-S16.field-0.0 (number_at w16 c.args.bytes.now) (λ x. Ok (value.whole type.s16 (whole_of type.s16 x.0), x.1)) c.in-S16.is refl c.in_err-val-in-S16.ensures)

pub returns-in_ok-val-in-S16 : goal.returns-in_ok-val-in-S16
returns-in_ok-val-in-S16 g c =
    leaf_as g.V.WasmValue.tree g.V.WasmValue.is_of g.V.WasmValue.is_full c.args.kind (type.whole type.s16) c.args.bytes.now c.built-in-S16.result c.in-S16.is
    (leaf_read g.V.WasmValue.tree g.V.WasmValue.is_of g.V.WasmValue.is_full (value.whole type.s16 (cast_signed w16 (cast_unsigned w16 c.cast_signed-in-S16.result))) c.args.bytes.now c.in_ok-val-in-S16.rest.now c.make_s16.result c.built-in-S16.result (ap (λ (q : Reading ℕ). q >>= λ x. read_as (value.whole type.s16 (whole_of type.s16 x.0)) x.1) c.in_ok-val-in-S16.ensures ∙ ap (λ (z : ℤ). read_as (value.whole type.s16 z) c.in_ok-val-in-S16.rest.now) (signed_read w16 c.in_ok-val-in-S16.val c.cast_signed-in-S16.result (number_takes w16 (2 ^ 16) wide16 c.args.bytes.now c.in_ok-val-in-S16.val c.in_ok-val-in-S16.rest.now (λ i. omega (arith, c.type_inv.bytes i)) c.in_ok-val-in-S16.ensures).1 c.cast_signed-in-S16.ensures)) c.built-in-S16.ensures c.make_s16.ensures.built c.make_s16.ensures.full)

pub returns-in_err-val-in-S32 : goal.returns-in_err-val-in-S32
returns-in_err-val-in-S32 g c =
    let p = err_from_is_err_and c.from_residual-in_err-val-in-S32.result c.from_residual-in_err-val-in-S32.ensures.1 in
    rw (p.1, p.2) (leaf_fault g.V.WasmValue.tree g.V.WasmValue.is_of g.V.WasmValue.is_full c.args.kind (type.whole type.s32) c.args.bytes.now c.in_err-val-in-S32.field-0.0 (number_at w32 c.args.bytes.now) (λ x. Ok (value.whole type.s32 (whole_of type.s32 x.0), x.1)) c.in-S32.is refl c.in_err-val-in-S32.ensures)

pub returns-in_ok-val-in-S32 : goal.returns-in_ok-val-in-S32
returns-in_ok-val-in-S32 g c =
    leaf_as g.V.WasmValue.tree g.V.WasmValue.is_of g.V.WasmValue.is_full c.args.kind (type.whole type.s32) c.args.bytes.now c.built-in-S32.result c.in-S32.is
    (leaf_read g.V.WasmValue.tree g.V.WasmValue.is_of g.V.WasmValue.is_full (value.whole type.s32 (cast_signed w32 (cast_unsigned w32 c.cast_signed-in-S32.result))) c.args.bytes.now c.in_ok-val-in-S32.rest.now c.make_s32.result c.built-in-S32.result (ap (λ (q : Reading ℕ). q >>= λ x. read_as (value.whole type.s32 (whole_of type.s32 x.0)) x.1) c.in_ok-val-in-S32.ensures ∙ ap (λ (z : ℤ). read_as (value.whole type.s32 z) c.in_ok-val-in-S32.rest.now) (signed_read w32 c.in_ok-val-in-S32.val c.cast_signed-in-S32.result (number_takes w32 (2 ^ 32) wide32 c.args.bytes.now c.in_ok-val-in-S32.val c.in_ok-val-in-S32.rest.now (λ i. omega (arith, c.type_inv.bytes i)) c.in_ok-val-in-S32.ensures).1 c.cast_signed-in-S32.ensures)) c.built-in-S32.ensures c.make_s32.ensures.built c.make_s32.ensures.full)

pub returns-in_err-val-in-S64 : goal.returns-in_err-val-in-S64
returns-in_err-val-in-S64 g c =
    let p = err_from_is_err_and c.from_residual-in_err-val-in-S64.result c.from_residual-in_err-val-in-S64.ensures.1 in
    rw (p.1, p.2) (leaf_fault g.V.WasmValue.tree g.V.WasmValue.is_of g.V.WasmValue.is_full c.args.kind (type.whole type.s64) c.args.bytes.now c.in_err-val-in-S64.field-0.0 (number_at w64 c.args.bytes.now) (λ x. Ok (value.whole type.s64 (whole_of type.s64 x.0), x.1)) c.in-S64.is refl c.in_err-val-in-S64.ensures)

pub returns-in_ok-val-in-S64 : goal.returns-in_ok-val-in-S64
returns-in_ok-val-in-S64 g c =
    leaf_as g.V.WasmValue.tree g.V.WasmValue.is_of g.V.WasmValue.is_full c.args.kind (type.whole type.s64) c.args.bytes.now c.built-in-S64.result c.in-S64.is
    (leaf_read g.V.WasmValue.tree g.V.WasmValue.is_of g.V.WasmValue.is_full (value.whole type.s64 (cast_signed w64 (cast_unsigned w64 c.cast_signed-in-S64.result))) c.args.bytes.now c.in_ok-val-in-S64.rest.now c.make_s64.result c.built-in-S64.result (ap (λ (q : Reading ℕ). q >>= λ x. read_as (value.whole type.s64 (whole_of type.s64 x.0)) x.1) c.in_ok-val-in-S64.ensures ∙ ap (λ (z : ℤ). read_as (value.whole type.s64 z) c.in_ok-val-in-S64.rest.now) (signed_read w64 c.in_ok-val-in-S64.val c.cast_signed-in-S64.result (number_takes w64 (2 ^ 64) wide64 c.args.bytes.now c.in_ok-val-in-S64.val c.in_ok-val-in-S64.rest.now (λ i. omega (arith, c.type_inv.bytes i)) c.in_ok-val-in-S64.ensures).1 c.cast_signed-in-S64.ensures)) c.built-in-S64.ensures c.make_s64.ensures.built c.make_s64.ensures.full)

pub returns-in_default : goal.returns-in_default
returns-in_default g c =
    no_kind g.V.WasmValue.tree g.V.WasmValue.is_of g.V.WasmValue.is_full c.args.kind c.args.bytes.now (Err (stops.Fault errors.Unsupported (length c.args.bytes.now))) (no_whole c.args.kind c.requires.text c.requires.unsigned c.in_default.not-S8 c.in_default.not-S16 c.in_default.not-S32 c.in_default.not-S64)
