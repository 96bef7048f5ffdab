use Rattle.std.proofs.Common.{ℕ, List, sym, ap, ◌∙◌}
use Rattle.std.proofs.lemmas.Result.{err_from_is_err_and}
use Rattle.wave_wasm.specs.Names.{is_one_of}
use Rattle.wave_wasm.specs.Types.{TypeTree, enum_names}
use Rattle.wave_wasm.specs.Values as value
use Rattle.wave_wasm.specs.declared.wasm.WasmTypeKind.TheVariants as kinds
use Rattle.wave_wasm.proofs.TypesOfValues.TypeOfKind.{formed_as}
use Rattle.wave_tape.proofs.Readings.{read_as}
use Rattle.wave_tape.proofs.Cases.{no_text_name}
use Rattle.wave_tape.proofs.WrittenCases.{enum_stopped, enum_is, enum_named}
use Rattle.wave_tape.proofs.write.write_enum.Goals as goal

pub returns-in_err-name : goal.returns-in_err-name
returns-in_err-name g c =
    let p = err_from_is_err_and c.from_residual.result c.from_residual.ensures.1 in
    rw (p.1, p.2) (let is = formed_as kinds.Enum (g.V.Type.WasmType.tree c.args.ty.now) (sym c.requires) in enum_stopped g.V.WasmValue.is_full g.met.V.WasmValue.full_parts (g.V.Type.WasmType.tree c.args.ty.now) is.0 c.args.bytes.now c.in_err-name.field-0.0 is.1 c.in_err-name.ensures)

pub returns-in_default : goal.returns-in_default
returns-in_default g c = λ named.
    let is = formed_as kinds.Enum (g.V.Type.WasmType.tree c.args.ty.now) (sym c.requires) in
    enum_is g.V.WasmValue.is_full g.met.V.WasmValue.full_parts (g.V.Type.WasmType.tree c.args.ty.now) is.0 c.args.bytes.now c.in_ok-name.name.now c.in_ok-name.rest.now _ is.1 c.in_ok-name.ensures (no_text_name is.0 c.in_ok-name.name.now (enum_named g.V.WasmValue.is_full g.met.V.WasmValue.full_parts (g.V.Type.WasmType.tree c.args.ty.now) is.0 is.1 named) c.in_default.ensures.cases.0)

pub returns-in_err-has_enum_case : goal.returns-in_err-has_enum_case
returns-in_err-has_enum_case g c =
    let p = err_from_is_err_and c.from_residual-in_err-has_enum_case.result c.from_residual-in_err-has_enum_case.ensures.1 in
    rw (p.1, p.2) (λ named. tt)

pub returns-then-not-branch : goal.returns-then-not-branch
returns-then-not-branch g c = λ named.
    let is = formed_as kinds.Enum (g.V.Type.WasmType.tree c.args.ty.now) (sym c.requires) in
    let name = c.in-Ok.name.now in
    let reads = c.in_ok-name.ensures ∙ ap (λ (n : List ℕ). read_as n c.in_ok-name.rest.now) (sym c.in-Ok.ensures.cases.0) in
    enum_is g.V.WasmValue.is_full g.met.V.WasmValue.full_parts (g.V.Type.WasmType.tree c.args.ty.now) is.0 c.args.bytes.now name c.in_ok-name.rest.now _ is.1 reads (sym (c.in_ok-has_enum_case.ensures ∙ ap (λ (U : TypeTree). is_one_of (enum_names U) name) is.1) ∙ c.if-not-branch.true)

pub returns-in_err-put_case : goal.returns-in_err-put_case
returns-in_err-put_case g c =
    let p = err_from_is_err_and c.from_residual-in_err-put_case.result c.from_residual-in_err-put_case.ensures.1 in
    rw (p.1, p.2) (λ named. tt)

pub returns : goal.returns
returns g c =
    let is = formed_as kinds.Enum (g.V.Type.WasmType.tree c.args.ty.now) (sym c.requires) in
    let name = c.in-Ok.name.now in
    let reads = c.in_ok-name.ensures ∙ ap (λ (n : List ℕ). read_as n c.in_ok-name.rest.now) (sym c.in-Ok.ensures.cases.0) in
    (value.enum name, enum_is g.V.WasmValue.is_full g.met.V.WasmValue.full_parts (g.V.Type.WasmType.tree c.args.ty.now) is.0 c.args.bytes.now name c.in_ok-name.rest.now _ is.1 reads (sym (c.in_ok-has_enum_case.ensures ∙ ap (λ (U : TypeTree). is_one_of (enum_names U) name) is.1) ∙ c.if-not-branch.false), c.in_ok-put_case.ensures)
