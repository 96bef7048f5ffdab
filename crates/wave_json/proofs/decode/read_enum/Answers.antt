use Rattle.std.proofs.Common.{sym, ap, ◌∙◌}
use Rattle.wave_wasm.specs.Names.{is_one_of}
use Rattle.wave_wasm.specs.Types.{TypeTree, enum_names}
use Rattle.wave_wasm.specs.declared.wasm.WasmTypeKind.TheVariants as kinds
use Rattle.wave_wasm.proofs.TypesOfValues.TypeOfKind.{formed_as}
use Rattle.wave_json.proofs.Cases.{enum_read}
use Rattle.wave_json.proofs.decode.read_enum.Goals as goal

pub returns : goal.returns
returns g c =
    let is = formed_as kinds.Enum (g.V.Type.WasmType.tree c.args.ty.now) (sym c.requires) in
    enum_read g.V.WasmValue.tree g.V.WasmValue.is_of g.V.WasmValue.is_full g.met.V.WasmValue.full_parts (g.V.Type.WasmType.tree c.args.ty.now) is.0 _ c.in_ok-name.name.now c.make_enum.result c.built.result is.1 c.in_ok-name.ensures (sym (c.in_ok-has_enum_case.ensures ∙ ap (λ (U : TypeTree). is_one_of (enum_names U) c.in_ok-name.name.now) is.1) ∙ c.if-not-branch.false) c.built.ensures c.make_enum.ensures.built c.make_enum.ensures.full
