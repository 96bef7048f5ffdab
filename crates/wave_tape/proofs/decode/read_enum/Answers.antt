use Rattle.std.proofs.Common.{ℕ, List, sym, ap, ◌∙◌}
use Rattle.std.proofs.lemmas.Result.{err_from_is_err_and}
use Rattle.wave_wasm.specs.Names.{is_one_of}
use Rattle.wave_wasm.specs.Types.{TypeTree, enum_names}
use Rattle.wave_wasm.specs.declared.wasm.WasmTypeKind.TheVariants as kinds
use Rattle.wave_wasm.proofs.TypesOfValues.TypeOfKind.{formed_as}
use Rattle.wave_tape.proofs.Readings.{read_as}
use Rattle.wave_tape.proofs.Cases.{enum_stopped, enum_no_text, enum_unknown, enum_read}
use Rattle.wave_tape.proofs.decode.read_enum.Goals as goal

pub returns-in_err-name : goal.returns-in_err-name
returns-in_err-name g c =
    let p = err_from_is_err_and c.from_residual.result c.from_residual.ensures.1 in
    let is = formed_as kinds.Enum (g.V.Type.WasmType.tree c.args.ty.now) (sym c.requires) in
    rw (p.1, p.2) (enum_stopped g.V.WasmValue.tree g.V.WasmValue.is_of g.V.WasmValue.is_full g.met.V.WasmValue.full_parts (g.V.Type.WasmType.tree c.args.ty.now) is.0 c.args.bytes.now c.in_err-name.field-0.0 is.1 c.in_err-name.ensures)

pub returns-in_default : goal.returns-in_default
returns-in_default g c =
    let is = formed_as kinds.Enum (g.V.Type.WasmType.tree c.args.ty.now) (sym c.requires) in
    enum_no_text g.V.WasmValue.tree g.V.WasmValue.is_of g.V.WasmValue.is_full g.met.V.WasmValue.full_parts (g.V.Type.WasmType.tree c.args.ty.now) is.0 c.args.bytes.now c.in_ok-name.name.now c.in_ok-name.rest.now is.1 c.in_ok-name.ensures c.in_default.ensures.cases.0

pub returns-in_err-has_enum_case : goal.returns-in_err-has_enum_case
returns-in_err-has_enum_case g c =
    let p = err_from_is_err_and c.from_residual-in_err-has_enum_case.result c.from_residual-in_err-has_enum_case.ensures.1 in
    rw (p.1, p.2) (λ distinct named. tt)

pub returns-then-not-branch : goal.returns-then-not-branch
returns-then-not-branch g c =
    let is = formed_as kinds.Enum (g.V.Type.WasmType.tree c.args.ty.now) (sym c.requires) in
    let name = c.in-Ok.name.now in
    let reads = c.in_ok-name.ensures ∙ ap (λ (n : List ℕ). read_as n c.in_ok-name.rest.now) (sym c.in-Ok.ensures.cases.0) in
    enum_unknown g.V.WasmValue.tree g.V.WasmValue.is_of g.V.WasmValue.is_full g.met.V.WasmValue.full_parts (g.V.Type.WasmType.tree c.args.ty.now) is.0 c.args.bytes.now name c.in_ok-name.rest.now is.1 reads (sym (c.in_ok-has_enum_case.ensures ∙ ap (λ (U : TypeTree). is_one_of (enum_names U) name) is.1) ∙ c.if-not-branch.true)

pub returns : goal.returns
returns g c =
    let is = formed_as kinds.Enum (g.V.Type.WasmType.tree c.args.ty.now) (sym c.requires) in
    let name = c.in-Ok.name.now in
    let reads = c.in_ok-name.ensures ∙ ap (λ (n : List ℕ). read_as n c.in_ok-name.rest.now) (sym c.in-Ok.ensures.cases.0) in
    enum_read g.V.WasmValue.tree g.V.WasmValue.is_of g.V.WasmValue.is_full g.met.V.WasmValue.full_parts (g.V.Type.WasmType.tree c.args.ty.now) is.0 c.args.bytes.now name c.in_ok-name.rest.now c.make_enum.result c.built.result is.1 reads (sym (c.in_ok-has_enum_case.ensures ∙ ap (λ (U : TypeTree). is_one_of (enum_names U) name) is.1) ∙ c.if-not-branch.false) c.built.ensures c.make_enum.ensures.built c.make_enum.ensures.full
