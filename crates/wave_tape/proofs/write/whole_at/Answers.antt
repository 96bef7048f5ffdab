use Rattle.std.proofs.Common.{◌∙◌, refl}
use Rattle.std.specs.Int.{w8, w16, w32, w64}
use Rattle.std.proofs.lemmas.Int.{to_z-of_z}
use Rattle.std.proofs.lemmas.Result.{err_from_is_err_and}
use Rattle.wave_wasm.specs.Types as type
use Rattle.wave_tape.proofs.WrittenLeaves.{unsigned_read, signed_read_so, whole_fault}
use Rattle.wave_tape.proofs.write.whole_at.Goals as goal

pub returns-in_err-number-in-U8 : goal.returns-in_err-number-in-U8
returns-in_err-number-in-U8 c =
    let p = err_from_is_err_and c.from_residual.result c.from_residual.ensures.1 in
    rw (p.1, p.2) (whole_fault c.args.kind type.u8 c.args.bytes.now c.in_err-number-in-U8.field-0.0 c.in-U8.is c.in_err-number-in-U8.ensures)

pub returns-in_ok-number-in-U8 : goal.returns-in_ok-number-in-U8
returns-in_ok-number-in-U8 c = unsigned_read c.args.kind type.u8 c.args.bytes.now c.in_ok-number-in-U8.number _ c.in_ok-number-in-U8.rest c.in-U8.is c.from.ensures refl c.in_ok-number-in-U8.ensures

pub returns-in_err-number-in-U16 : goal.returns-in_err-number-in-U16
returns-in_err-number-in-U16 c =
    let p = err_from_is_err_and c.from_residual-in_err-number-in-U16.result c.from_residual-in_err-number-in-U16.ensures.1 in
    rw (p.1, p.2) (whole_fault c.args.kind type.u16 c.args.bytes.now c.in_err-number-in-U16.field-0.0 c.in-U16.is c.in_err-number-in-U16.ensures)

pub returns-in_ok-number-in-U16 : goal.returns-in_ok-number-in-U16
returns-in_ok-number-in-U16 c = unsigned_read c.args.kind type.u16 c.args.bytes.now c.in_ok-number-in-U16.number _ c.in_ok-number-in-U16.rest c.in-U16.is c.from-in-U16.ensures refl c.in_ok-number-in-U16.ensures

pub returns-in_err-number-in-U32 : goal.returns-in_err-number-in-U32
returns-in_err-number-in-U32 c =
    let p = err_from_is_err_and c.from_residual-in_err-number-in-U32.result c.from_residual-in_err-number-in-U32.ensures.1 in
    rw (p.1, p.2) (whole_fault c.args.kind type.u32 c.args.bytes.now c.in_err-number-in-U32.field-0.0 c.in-U32.is c.in_err-number-in-U32.ensures)

pub returns-in_ok-number-in-U32 : goal.returns-in_ok-number-in-U32
returns-in_ok-number-in-U32 c = unsigned_read c.args.kind type.u32 c.args.bytes.now c.in_ok-number-in-U32.number _ c.in_ok-number-in-U32.rest c.in-U32.is c.from-in-U32.ensures refl c.in_ok-number-in-U32.ensures

pub returns-in_err-number-in-U64 : goal.returns-in_err-number-in-U64
returns-in_err-number-in-U64 c =
    let p = err_from_is_err_and c.from_residual-in_err-number-in-U64.result c.from_residual-in_err-number-in-U64.ensures.1 in
    rw (p.1, p.2) (whole_fault c.args.kind type.u64 c.args.bytes.now c.in_err-number-in-U64.field-0.0 c.in-U64.is c.in_err-number-in-U64.ensures)

pub returns-in_ok-number-in-U64 : goal.returns-in_ok-number-in-U64
returns-in_ok-number-in-U64 c = unsigned_read c.args.kind type.u64 c.args.bytes.now c.in_ok-number-in-U64.number _ c.in_ok-number-in-U64.rest c.in-U64.is refl refl c.in_ok-number-in-U64.ensures

pub returns-in_err-number-in-S8 : goal.returns-in_err-number-in-S8
returns-in_err-number-in-S8 c =
    let p = err_from_is_err_and c.from_residual-in_err-number-in-S8.result c.from_residual-in_err-number-in-S8.ensures.1 in
    rw (p.1, p.2) (whole_fault c.args.kind type.s8 c.args.bytes.now c.in_err-number-in-S8.field-0.0 c.in-S8.is c.in_err-number-in-S8.ensures)

pub returns-in_ok-number-in-S8 : goal.returns-in_ok-number-in-S8
returns-in_ok-number-in-S8 c = signed_read_so c.args.kind type.s8 c.args.bytes.now c.in_ok-number-in-S8.number _ c.signed.result _ c.in-S8.is (to_z-of_z w64 c.from-in-S8.result (record { sfits = c.from-in-S8.type_inv }) ∙ (c.from-in-S8.ensures ∙ (to_z-of_z w8 c.cast_signed.result (record { sfits = c.cast_signed.type_inv }) ∙ c.cast_signed.ensures))) c.signed.ensures.text c.signed.ensures.rest c.in_ok-number-in-S8.ensures

pub returns-in_err-number-in-S16 : goal.returns-in_err-number-in-S16
returns-in_err-number-in-S16 c =
    let p = err_from_is_err_and c.from_residual-in_err-number-in-S16.result c.from_residual-in_err-number-in-S16.ensures.1 in
    rw (p.1, p.2) (whole_fault c.args.kind type.s16 c.args.bytes.now c.in_err-number-in-S16.field-0.0 c.in-S16.is c.in_err-number-in-S16.ensures)

pub returns-in_ok-number-in-S16 : goal.returns-in_ok-number-in-S16
returns-in_ok-number-in-S16 c = signed_read_so c.args.kind type.s16 c.args.bytes.now c.in_ok-number-in-S16.number _ c.signed-in-S16.result _ c.in-S16.is (to_z-of_z w64 c.from-in-S16.result (record { sfits = c.from-in-S16.type_inv }) ∙ (c.from-in-S16.ensures ∙ (to_z-of_z w16 c.cast_signed-in-S16.result (record { sfits = c.cast_signed-in-S16.type_inv }) ∙ c.cast_signed-in-S16.ensures))) c.signed-in-S16.ensures.text c.signed-in-S16.ensures.rest c.in_ok-number-in-S16.ensures

pub returns-in_err-number-in-S32 : goal.returns-in_err-number-in-S32
returns-in_err-number-in-S32 c =
    let p = err_from_is_err_and c.from_residual-in_err-number-in-S32.result c.from_residual-in_err-number-in-S32.ensures.1 in
    rw (p.1, p.2) (whole_fault c.args.kind type.s32 c.args.bytes.now c.in_err-number-in-S32.field-0.0 c.in-S32.is c.in_err-number-in-S32.ensures)

pub returns-in_ok-number-in-S32 : goal.returns-in_ok-number-in-S32
returns-in_ok-number-in-S32 c = signed_read_so c.args.kind type.s32 c.args.bytes.now c.in_ok-number-in-S32.number _ c.signed-in-S32.result _ c.in-S32.is (to_z-of_z w64 c.from-in-S32.result (record { sfits = c.from-in-S32.type_inv }) ∙ (c.from-in-S32.ensures ∙ (to_z-of_z w32 c.cast_signed-in-S32.result (record { sfits = c.cast_signed-in-S32.type_inv }) ∙ c.cast_signed-in-S32.ensures))) c.signed-in-S32.ensures.text c.signed-in-S32.ensures.rest c.in_ok-number-in-S32.ensures

pub returns-in_err-number-in-S64 : goal.returns-in_err-number-in-S64
returns-in_err-number-in-S64 c =
    let p = err_from_is_err_and c.from_residual-in_err-number-in-S64.result c.from_residual-in_err-number-in-S64.ensures.1 in
    rw (p.1, p.2) (whole_fault c.args.kind type.s64 c.args.bytes.now c.in_err-number-in-S64.field-0.0 c.in-S64.is c.in_err-number-in-S64.ensures)

pub returns-in_ok-number-in-S64 : goal.returns-in_ok-number-in-S64
returns-in_ok-number-in-S64 c = signed_read_so c.args.kind type.s64 c.args.bytes.now c.in_ok-number-in-S64.number _ c.signed-in-S64.result _ c.in-S64.is (to_z-of_z w64 c.cast_signed-in-S64.result (record { sfits = c.cast_signed-in-S64.type_inv }) ∙ c.cast_signed-in-S64.ensures) c.signed-in-S64.ensures.text c.signed-in-S64.ensures.rest c.in_ok-number-in-S64.ensures
