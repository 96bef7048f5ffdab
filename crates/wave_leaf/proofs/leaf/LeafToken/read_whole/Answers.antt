use Rattle.std.proofs.Common.{pos, w8, w16, w32, w64, to_z, of_z, FitsSigned, rules, refl}
use Rattle.std.proofs.lemmas.Int.{to_z-of_z}
use Rattle.wave_wasm.specs.Types as type
use Rattle.wave_grammar.proofs.ByKind.Wholes.{whole_refused, none_whole}
use Rattle.wave_leaf.specs.Leaves.{leaf_node}
use Rattle.wave_leaf.proofs.ReadErrors.HandedOn.{whole_built}
use Rattle.wave_leaf.proofs.leaf.LeafToken.read_whole.Goals as goal

pub returns-in_err-as_number-in-S8 : goal.returns-in_err-as_number-in-S8
returns-in_err-as_number-in-S8 g c = λ source here.
    whole_refused g.V.WasmValue.tree g.V.WasmValue.is_of g.V.WasmValue.is_full c.args.kind type.s8 source (leaf_node c.args.self.now) c.in_err-as_number-in-S8.field-0.0 c.from_residual.result c.in-S8.is (c.in_err-as_number-in-S8.ensures source here) c.from_residual.ensures.1

pub returns-in_ok-as_number-in-S8 : goal.returns-in_ok-as_number-in-S8
returns-in_ok-as_number-in-S8 g c = λ source here.
    let fits : FitsSigned w8 c.in_ok-as_number-in-S8.field-0 = search rules in
    whole_built g.V.WasmValue.tree g.V.WasmValue.is_of g.V.WasmValue.is_full c.args.kind type.s8 source (leaf_node c.args.self.now) (to_z w8 (of_z w8 c.in_ok-as_number-in-S8.field-0)) c.in_ok-as_number-in-S8.field-0 c.make_s8.result c.or_error_here.result c.in-S8.is (to_z-of_z w8 c.in_ok-as_number-in-S8.field-0 fits) (c.in_ok-as_number-in-S8.ensures source here) c.make_s8.ensures.built c.make_s8.ensures.full c.or_error_here.ensures

pub returns-in_err-as_number-in-S16 : goal.returns-in_err-as_number-in-S16
returns-in_err-as_number-in-S16 g c = λ source here.
    whole_refused g.V.WasmValue.tree g.V.WasmValue.is_of g.V.WasmValue.is_full c.args.kind type.s16 source (leaf_node c.args.self.now) c.in_err-as_number-in-S16.field-0.0 c.from_residual-in_err-as_number-in-S16.result c.in-S16.is (c.in_err-as_number-in-S16.ensures source here) c.from_residual-in_err-as_number-in-S16.ensures.1

pub returns-in_ok-as_number-in-S16 : goal.returns-in_ok-as_number-in-S16
returns-in_ok-as_number-in-S16 g c = λ source here.
    let fits : FitsSigned w16 c.in_ok-as_number-in-S16.field-0 = search rules in
    whole_built g.V.WasmValue.tree g.V.WasmValue.is_of g.V.WasmValue.is_full c.args.kind type.s16 source (leaf_node c.args.self.now) (to_z w16 (of_z w16 c.in_ok-as_number-in-S16.field-0)) c.in_ok-as_number-in-S16.field-0 c.make_s16.result c.or_error_here-in-S16.result c.in-S16.is (to_z-of_z w16 c.in_ok-as_number-in-S16.field-0 fits) (c.in_ok-as_number-in-S16.ensures source here) c.make_s16.ensures.built c.make_s16.ensures.full c.or_error_here-in-S16.ensures

pub returns-in_err-as_number-in-S32 : goal.returns-in_err-as_number-in-S32
returns-in_err-as_number-in-S32 g c = λ source here.
    whole_refused g.V.WasmValue.tree g.V.WasmValue.is_of g.V.WasmValue.is_full c.args.kind type.s32 source (leaf_node c.args.self.now) c.in_err-as_number-in-S32.field-0.0 c.from_residual-in_err-as_number-in-S32.result c.in-S32.is (c.in_err-as_number-in-S32.ensures source here) c.from_residual-in_err-as_number-in-S32.ensures.1

pub returns-in_ok-as_number-in-S32 : goal.returns-in_ok-as_number-in-S32
returns-in_ok-as_number-in-S32 g c = λ source here.
    let fits : FitsSigned w32 c.in_ok-as_number-in-S32.field-0 = search rules in
    whole_built g.V.WasmValue.tree g.V.WasmValue.is_of g.V.WasmValue.is_full c.args.kind type.s32 source (leaf_node c.args.self.now) (to_z w32 (of_z w32 c.in_ok-as_number-in-S32.field-0)) c.in_ok-as_number-in-S32.field-0 c.make_s32.result c.or_error_here-in-S32.result c.in-S32.is (to_z-of_z w32 c.in_ok-as_number-in-S32.field-0 fits) (c.in_ok-as_number-in-S32.ensures source here) c.make_s32.ensures.built c.make_s32.ensures.full c.or_error_here-in-S32.ensures

pub returns-in_err-as_number-in-S64 : goal.returns-in_err-as_number-in-S64
returns-in_err-as_number-in-S64 g c = λ source here.
    whole_refused g.V.WasmValue.tree g.V.WasmValue.is_of g.V.WasmValue.is_full c.args.kind type.s64 source (leaf_node c.args.self.now) c.in_err-as_number-in-S64.field-0.0 c.from_residual-in_err-as_number-in-S64.result c.in-S64.is (c.in_err-as_number-in-S64.ensures source here) c.from_residual-in_err-as_number-in-S64.ensures.1

pub returns-in_ok-as_number-in-S64 : goal.returns-in_ok-as_number-in-S64
returns-in_ok-as_number-in-S64 g c = λ source here.
    let fits : FitsSigned w64 c.in_ok-as_number-in-S64.field-0 = search rules in
    whole_built g.V.WasmValue.tree g.V.WasmValue.is_of g.V.WasmValue.is_full c.args.kind type.s64 source (leaf_node c.args.self.now) (to_z w64 (of_z w64 c.in_ok-as_number-in-S64.field-0)) c.in_ok-as_number-in-S64.field-0 c.make_s64.result c.or_error_here-in-S64.result c.in-S64.is (to_z-of_z w64 c.in_ok-as_number-in-S64.field-0 fits) (c.in_ok-as_number-in-S64.ensures source here) c.make_s64.ensures.built c.make_s64.ensures.full c.or_error_here-in-S64.ensures

pub returns-in_err-as_number-in-U8 : goal.returns-in_err-as_number-in-U8
returns-in_err-as_number-in-U8 g c = λ source here.
    whole_refused g.V.WasmValue.tree g.V.WasmValue.is_of g.V.WasmValue.is_full c.args.kind type.u8 source (leaf_node c.args.self.now) c.in_err-as_number-in-U8.field-0.0 c.from_residual-in_err-as_number-in-U8.result c.in-U8.is (c.in_err-as_number-in-U8.ensures source here) c.from_residual-in_err-as_number-in-U8.ensures.1

pub returns-in_ok-as_number-in-U8 : goal.returns-in_ok-as_number-in-U8
returns-in_ok-as_number-in-U8 g c = λ source here.
    whole_built g.V.WasmValue.tree g.V.WasmValue.is_of g.V.WasmValue.is_full c.args.kind type.u8 source (leaf_node c.args.self.now) (pos c.in_ok-as_number-in-U8.field-0) (pos c.in_ok-as_number-in-U8.field-0) c.make_u8.result c.or_error_here-in-U8.result c.in-U8.is refl (c.in_ok-as_number-in-U8.ensures source here) c.make_u8.ensures.built c.make_u8.ensures.full c.or_error_here-in-U8.ensures

pub returns-in_err-as_number-in-U16 : goal.returns-in_err-as_number-in-U16
returns-in_err-as_number-in-U16 g c = λ source here.
    whole_refused g.V.WasmValue.tree g.V.WasmValue.is_of g.V.WasmValue.is_full c.args.kind type.u16 source (leaf_node c.args.self.now) c.in_err-as_number-in-U16.field-0.0 c.from_residual-in_err-as_number-in-U16.result c.in-U16.is (c.in_err-as_number-in-U16.ensures source here) c.from_residual-in_err-as_number-in-U16.ensures.1

pub returns-in_ok-as_number-in-U16 : goal.returns-in_ok-as_number-in-U16
returns-in_ok-as_number-in-U16 g c = λ source here.
    whole_built g.V.WasmValue.tree g.V.WasmValue.is_of g.V.WasmValue.is_full c.args.kind type.u16 source (leaf_node c.args.self.now) (pos c.in_ok-as_number-in-U16.field-0) (pos c.in_ok-as_number-in-U16.field-0) c.make_u16.result c.or_error_here-in-U16.result c.in-U16.is refl (c.in_ok-as_number-in-U16.ensures source here) c.make_u16.ensures.built c.make_u16.ensures.full c.or_error_here-in-U16.ensures

pub returns-in_err-as_number-in-U32 : goal.returns-in_err-as_number-in-U32
returns-in_err-as_number-in-U32 g c = λ source here.
    whole_refused g.V.WasmValue.tree g.V.WasmValue.is_of g.V.WasmValue.is_full c.args.kind type.u32 source (leaf_node c.args.self.now) c.in_err-as_number-in-U32.field-0.0 c.from_residual-in_err-as_number-in-U32.result c.in-U32.is (c.in_err-as_number-in-U32.ensures source here) c.from_residual-in_err-as_number-in-U32.ensures.1

pub returns-in_ok-as_number-in-U32 : goal.returns-in_ok-as_number-in-U32
returns-in_ok-as_number-in-U32 g c = λ source here.
    whole_built g.V.WasmValue.tree g.V.WasmValue.is_of g.V.WasmValue.is_full c.args.kind type.u32 source (leaf_node c.args.self.now) (pos c.in_ok-as_number-in-U32.field-0) (pos c.in_ok-as_number-in-U32.field-0) c.make_u32.result c.or_error_here-in-U32.result c.in-U32.is refl (c.in_ok-as_number-in-U32.ensures source here) c.make_u32.ensures.built c.make_u32.ensures.full c.or_error_here-in-U32.ensures

pub returns-in_err-as_number-in-U64 : goal.returns-in_err-as_number-in-U64
returns-in_err-as_number-in-U64 g c = λ source here.
    whole_refused g.V.WasmValue.tree g.V.WasmValue.is_of g.V.WasmValue.is_full c.args.kind type.u64 source (leaf_node c.args.self.now) c.in_err-as_number-in-U64.field-0.0 c.from_residual-in_err-as_number-in-U64.result c.in-U64.is (c.in_err-as_number-in-U64.ensures source here) c.from_residual-in_err-as_number-in-U64.ensures.1

pub returns-in_ok-as_number-in-U64 : goal.returns-in_ok-as_number-in-U64
returns-in_ok-as_number-in-U64 g c = λ source here.
    whole_built g.V.WasmValue.tree g.V.WasmValue.is_of g.V.WasmValue.is_full c.args.kind type.u64 source (leaf_node c.args.self.now) (pos c.in_ok-as_number-in-U64.field-0) (pos c.in_ok-as_number-in-U64.field-0) c.make_u64.result c.or_error_here-in-U64.result c.in-U64.is refl (c.in_ok-as_number-in-U64.ensures source here) c.make_u64.ensures.built c.make_u64.ensures.full c.or_error_here-in-U64.ensures

pub returns-in_default : goal.returns-in_default
returns-in_default g c = λ source here.
    none_whole g.V.WasmValue.tree g.V.WasmValue.is_of g.V.WasmValue.is_full c.args.kind source (leaf_node c.args.self.now) c.unsupported.result (record { s8 = c.in_default.not-S8; s16 = c.in_default.not-S16; s32 = c.in_default.not-S32; s64 = c.in_default.not-S64; u8 = c.in_default.not-U8; u16 = c.in_default.not-U16; u32 = c.in_default.not-U32; u64 = c.in_default.not-U64 }) c.unsupported.ensures.cause c.unsupported.ensures.span
