use Rattle.std.proofs.Common.{pos, w8, w16, w32, w64, to_z, of_z, FitsSigned, rules, refl}
use Rattle.std.proofs.lemmas.Int.{to_z-of_z}
use Rattle.wave_wasm.specs.Types as type
use Rattle.wave_leaf.specs.Leaves.{leaf_node}
use Rattle.wave_leaf.proofs.LeafReading.ReadAtOnce.{whole_soon, bool_soon, char_soon}
use Rattle.wave_leaf.proofs.leaf.LeafToken.read_fast.Goals as goal

pub returns-in_ok-number-in-S8 : goal.returns-in_ok-number-in-S8
returns-in_ok-number-in-S8 g c = λ o w source here.
    let fits : FitsSigned w8 c.in_ok-number-in-S8.field-0 = search rules in
    whole_soon g.V.WasmValue.tree g.V.WasmValue.is_of g.V.WasmValue.is_full o w (g.V.Type.WasmType.tree c.args.ty.now) type.s8 source (leaf_node c.args.self.now) (to_z w8 (of_z w8 c.in_ok-number-in-S8.field-0)) c.in_ok-number-in-S8.field-0 c.make_s8.result c.if_built.result c.in-S8.ensures (to_z-of_z w8 c.in_ok-number-in-S8.field-0 fits) (c.in_ok-number-in-S8.ensures source here) c.make_s8.ensures.built c.make_s8.ensures.full c.if_built.ensures

pub returns-in_ok-number-in-S16 : goal.returns-in_ok-number-in-S16
returns-in_ok-number-in-S16 g c = λ o w source here.
    let fits : FitsSigned w16 c.in_ok-number-in-S16.field-0 = search rules in
    whole_soon g.V.WasmValue.tree g.V.WasmValue.is_of g.V.WasmValue.is_full o w (g.V.Type.WasmType.tree c.args.ty.now) type.s16 source (leaf_node c.args.self.now) (to_z w16 (of_z w16 c.in_ok-number-in-S16.field-0)) c.in_ok-number-in-S16.field-0 c.make_s16.result c.if_built-in-S16.result c.in-S16.ensures (to_z-of_z w16 c.in_ok-number-in-S16.field-0 fits) (c.in_ok-number-in-S16.ensures source here) c.make_s16.ensures.built c.make_s16.ensures.full c.if_built-in-S16.ensures

pub returns-in_ok-number-in-S32 : goal.returns-in_ok-number-in-S32
returns-in_ok-number-in-S32 g c = λ o w source here.
    let fits : FitsSigned w32 c.in_ok-number-in-S32.field-0 = search rules in
    whole_soon g.V.WasmValue.tree g.V.WasmValue.is_of g.V.WasmValue.is_full o w (g.V.Type.WasmType.tree c.args.ty.now) type.s32 source (leaf_node c.args.self.now) (to_z w32 (of_z w32 c.in_ok-number-in-S32.field-0)) c.in_ok-number-in-S32.field-0 c.make_s32.result c.if_built-in-S32.result c.in-S32.ensures (to_z-of_z w32 c.in_ok-number-in-S32.field-0 fits) (c.in_ok-number-in-S32.ensures source here) c.make_s32.ensures.built c.make_s32.ensures.full c.if_built-in-S32.ensures

pub returns-in_ok-number-in-S64 : goal.returns-in_ok-number-in-S64
returns-in_ok-number-in-S64 g c = λ o w source here.
    let fits : FitsSigned w64 c.in_ok-number-in-S64.field-0 = search rules in
    whole_soon g.V.WasmValue.tree g.V.WasmValue.is_of g.V.WasmValue.is_full o w (g.V.Type.WasmType.tree c.args.ty.now) type.s64 source (leaf_node c.args.self.now) (to_z w64 (of_z w64 c.in_ok-number-in-S64.field-0)) c.in_ok-number-in-S64.field-0 c.make_s64.result c.if_built-in-S64.result c.in-S64.ensures (to_z-of_z w64 c.in_ok-number-in-S64.field-0 fits) (c.in_ok-number-in-S64.ensures source here) c.make_s64.ensures.built c.make_s64.ensures.full c.if_built-in-S64.ensures

pub returns-in_ok-number-in-U8 : goal.returns-in_ok-number-in-U8
returns-in_ok-number-in-U8 g c = λ o w source here.
    whole_soon g.V.WasmValue.tree g.V.WasmValue.is_of g.V.WasmValue.is_full o w (g.V.Type.WasmType.tree c.args.ty.now) type.u8 source (leaf_node c.args.self.now) (pos c.in_ok-number-in-U8.field-0) (pos c.in_ok-number-in-U8.field-0) c.make_u8.result c.if_built-in-U8.result c.in-U8.ensures refl (c.in_ok-number-in-U8.ensures source here) c.make_u8.ensures.built c.make_u8.ensures.full c.if_built-in-U8.ensures

pub returns-in_ok-number-in-U16 : goal.returns-in_ok-number-in-U16
returns-in_ok-number-in-U16 g c = λ o w source here.
    whole_soon g.V.WasmValue.tree g.V.WasmValue.is_of g.V.WasmValue.is_full o w (g.V.Type.WasmType.tree c.args.ty.now) type.u16 source (leaf_node c.args.self.now) (pos c.in_ok-number-in-U16.field-0) (pos c.in_ok-number-in-U16.field-0) c.make_u16.result c.if_built-in-U16.result c.in-U16.ensures refl (c.in_ok-number-in-U16.ensures source here) c.make_u16.ensures.built c.make_u16.ensures.full c.if_built-in-U16.ensures

pub returns-in_ok-number-in-U32 : goal.returns-in_ok-number-in-U32
returns-in_ok-number-in-U32 g c = λ o w source here.
    whole_soon g.V.WasmValue.tree g.V.WasmValue.is_of g.V.WasmValue.is_full o w (g.V.Type.WasmType.tree c.args.ty.now) type.u32 source (leaf_node c.args.self.now) (pos c.in_ok-number-in-U32.field-0) (pos c.in_ok-number-in-U32.field-0) c.make_u32.result c.if_built-in-U32.result c.in-U32.ensures refl (c.in_ok-number-in-U32.ensures source here) c.make_u32.ensures.built c.make_u32.ensures.full c.if_built-in-U32.ensures

pub returns-in_ok-number-in-U64 : goal.returns-in_ok-number-in-U64
returns-in_ok-number-in-U64 g c = λ o w source here.
    whole_soon g.V.WasmValue.tree g.V.WasmValue.is_of g.V.WasmValue.is_full o w (g.V.Type.WasmType.tree c.args.ty.now) type.u64 source (leaf_node c.args.self.now) (pos c.in_ok-number-in-U64.field-0) (pos c.in_ok-number-in-U64.field-0) c.make_u64.result c.if_built-in-U64.result c.in-U64.ensures refl (c.in_ok-number-in-U64.ensures source here) c.make_u64.ensures.built c.make_u64.ensures.full c.if_built-in-U64.ensures

pub returns-in_ok-boolean-in-Bool : goal.returns-in_ok-boolean-in-Bool
returns-in_ok-boolean-in-Bool g c = λ o w source here.
    bool_soon g.V.WasmValue.tree g.V.WasmValue.is_of g.V.WasmValue.is_full o w (g.V.Type.WasmType.tree c.args.ty.now) source (leaf_node c.args.self.now) c.in_ok-boolean-in-Bool.field-0 c.make_bool.result c.if_built-in-Bool.result c.in-Bool.ensures c.in_ok-boolean-in-Bool.ensures c.make_bool.ensures.built c.make_bool.ensures.full c.if_built-in-Bool.ensures

pub returns-in_ok-scalar-in-Char : goal.returns-in_ok-scalar-in-Char
returns-in_ok-scalar-in-Char g c = λ o w source here.
    char_soon g.V.WasmValue.tree g.V.WasmValue.is_of g.V.WasmValue.is_full o w (g.V.Type.WasmType.tree c.args.ty.now) source (leaf_node c.args.self.now) c.in_ok-scalar-in-Char.field-0 c.make_char.result c.if_built-in-Char.result c.in-Char.ensures (c.in_ok-scalar-in-Char.ensures source here) c.make_char.ensures.built c.make_char.ensures.full c.if_built-in-Char.ensures
