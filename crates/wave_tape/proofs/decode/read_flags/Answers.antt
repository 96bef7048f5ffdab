use Rattle.std.proofs.Common.{ℕ, List, sym, ap, subst, ◌∙◌, Ok, Err}
use Rattle.std.proofs.lemmas.Result.{err_from_is_err_and}
use Rattle.wave_wasm.specs.Borrowed.{texts}
use Rattle.wave_wasm.specs.Types.{flags_names}
use Rattle.wave_wasm.specs.declared.wasm.WasmTypeKind.TheVariants as kinds
use Rattle.wave_wasm.proofs.TypesOfValues.TypeOfKind.{formed_as}
use Rattle.wave_tape.specs.Private.Readers.{AreNamesRead}
use Rattle.wave_tape.proofs.Cases.{flags_counted, flags_stopped, flags_read}
use Rattle.wave_tape.proofs.decode.read_flags.Goals as goal

pub returns-in_err-names : goal.returns-in_err-names
returns-in_err-names g c =
    let p = err_from_is_err_and c.from_residual.result c.from_residual.ensures.1 in
    rw (p.1, p.2) (λ distinct named. tt)

pub returns-in_err-count : goal.returns-in_err-count
returns-in_err-count g c =
    let p = err_from_is_err_and c.from_residual-in_err-count.result c.from_residual-in_err-count.ensures.1 in
    let is = formed_as kinds.Flags (g.V.Type.WasmType.tree c.args.ty.now) (sym c.requires) in
    rw (p.1, p.2) (flags_counted g.V.WasmValue.tree g.V.WasmValue.is_of g.V.WasmValue.is_full g.met.V.WasmValue.full_parts (g.V.Type.WasmType.tree c.args.ty.now) is.0 c.args.bytes.now c.in_err-count.field-0.0 is.1 c.in_err-count.ensures)

pub returns-in_err-picked : goal.returns-in_err-picked
returns-in_err-picked g c =
    let p = err_from_is_err_and c.from_residual-in_err-picked.result c.from_residual-in_err-picked.ensures.1 in
    let is = formed_as kinds.Flags (g.V.Type.WasmType.tree c.args.ty.now) (sym c.requires) in
    let same = ap texts c.deref.ensures.value ∙ (c.in_ok-names.ensures ∙ ap flags_names is.1) in
    rw (p.1, p.2) (flags_stopped g.V.WasmValue.tree g.V.WasmValue.is_of g.V.WasmValue.is_full g.met.V.WasmValue.full_parts (g.V.Type.WasmType.tree c.args.ty.now) is.0 c.args.bytes.now c.in_ok-count.count c.in_ok-count.rest.now c.in_err-picked.field-0.0 is.1 c.in_ok-count.ensures
    (subst (λ (names : List (List ℕ)). AreNamesRead names c.in_ok-count.count c.in_ok-count.rest.now (Err c.in_err-picked.field-0.0)) same c.in_err-picked.ensures))

pub returns : goal.returns
returns g c =
    let is = formed_as kinds.Flags (g.V.Type.WasmType.tree c.args.ty.now) (sym c.requires) in
    let same = ap texts c.deref.ensures.value ∙ (c.in_ok-names.ensures ∙ ap flags_names is.1) in
    flags_read g.V.WasmValue.tree g.V.WasmValue.is_of g.V.WasmValue.is_full g.met.V.WasmValue.full_parts (g.V.Type.WasmType.tree c.args.ty.now) is.0 c.args.bytes.now c.in_ok-count.count c.in_ok-count.rest.now (c.in_ok-picked.picked, c.in_ok-picked.rest) c.deref-2.result.now c.make_flags.result c.built.result is.1 c.in_ok-count.ensures
    (subst (λ (names : List (List ℕ)). AreNamesRead names c.in_ok-count.count c.in_ok-count.rest.now (Ok (c.in_ok-picked.picked, c.in_ok-picked.rest))) same c.in_ok-picked.ensures)
    c.deref-2.ensures.value c.built.ensures c.make_flags.ensures.built c.make_flags.ensures.full
