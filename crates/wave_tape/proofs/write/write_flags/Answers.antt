use Rattle.std.proofs.Common.{◌++◌, ℕ, List, sym, ap, subst, ◌∙◌, Ok, Err}
use Rattle.std.specs.String.{string_bytes}
use Rattle.std.proofs.lemmas.Result.{err_from_is_err_and}
use Rattle.wave_wasm.specs.Borrowed.{texts}
use Rattle.wave_wasm.specs.Commas.{in_braces, joined}
use Rattle.wave_wasm.specs.Types.{flags_names}
use Rattle.wave_wasm.specs.Values as value
use Rattle.wave_wasm.specs.declared.wasm.WasmTypeKind.TheVariants as kinds
use Rattle.wave_wasm.proofs.TypesOfValues.TypeOfKind.{formed_as}
use Rattle.wave_tape.specs.Reading.{Reading, ◌>>=◌}
use Rattle.wave_tape.specs.Private.Readers.{AreNamesRead}
use Rattle.wave_tape.proofs.Readings.{read_as}
use Rattle.wave_tape.proofs.WrittenCases.{flags_counted, flags_are, flags_stopped}
use Rattle.wave_tape.proofs.write.write_flags.Goals as goal

pub returns-in_err-names : goal.returns-in_err-names
returns-in_err-names g c =
    let p = err_from_is_err_and c.from_residual.result c.from_residual.ensures.1 in
    rw (p.1, p.2) (λ named. tt)

pub returns-in_err-count : goal.returns-in_err-count
returns-in_err-count g c =
    let p = err_from_is_err_and c.from_residual-in_err-count.result c.from_residual-in_err-count.ensures.1 in
    rw (p.1, p.2) (let is = formed_as kinds.Flags (g.V.Type.WasmType.tree c.args.ty.now) (sym c.requires) in flags_counted g.V.WasmValue.is_full g.met.V.WasmValue.full_parts (g.V.Type.WasmType.tree c.args.ty.now) is.0 c.args.bytes.now c.in_err-count.field-0.0 is.1 c.in_err-count.ensures)

pub returns-in_err-picked : goal.returns-in_err-picked
returns-in_err-picked g c =
    let p = err_from_is_err_and c.from_residual-in_err-picked.result c.from_residual-in_err-picked.ensures.1 in
    rw (p.1, p.2) (let is = formed_as kinds.Flags (g.V.Type.WasmType.tree c.args.ty.now) (sym c.requires) in let same = ap texts c.deref.ensures.value ∙ (c.in_ok-names.ensures ∙ ap flags_names is.1) in flags_stopped g.V.WasmValue.is_full g.met.V.WasmValue.full_parts (g.V.Type.WasmType.tree c.args.ty.now) is.0 c.args.bytes.now c.in_ok-count.count c.in_ok-count.rest.now c.in_err-picked.field-0.0 is.1 c.in_ok-count.ensures (subst (λ (names : List (List ℕ)). AreNamesRead names c.in_ok-count.count c.in_ok-count.rest.now (Err c.in_err-picked.field-0.0)) same c.in_err-picked.ensures))

pub returns-in_err-put_in_braces : goal.returns-in_err-put_in_braces
returns-in_err-put_in_braces g c =
    let p = err_from_is_err_and c.from_residual-in_err-put_in_braces.result c.from_residual-in_err-put_in_braces.ensures.1 in
    rw (p.1, p.2) (λ named. tt)

pub returns : goal.returns
returns g c =
    let is = formed_as kinds.Flags (g.V.Type.WasmType.tree c.args.ty.now) (sym c.requires) in
    let same = ap texts c.deref.ensures.value ∙ (c.in_ok-names.ensures ∙ ap flags_names is.1) in
    let read = subst (λ (names : List (List ℕ)). AreNamesRead names c.in_ok-count.count c.in_ok-count.rest.now (Ok (c.in_ok-picked.picked, c.in_ok-picked.rest))) same c.in_ok-picked.ensures in (
      value.flags (texts c.in_ok-picked.picked.items),
      flags_are g.V.WasmValue.is_full g.met.V.WasmValue.full_parts (g.V.Type.WasmType.tree c.args.ty.now) is.0 c.args.bytes.now c.in_ok-count.count c.in_ok-count.rest.now is.1 c.in_ok-count.ensures ∙ ap (λ (q : Reading (List (List ℕ))). q >>= λ x. read_as (value.flags x.0) x.1) read,
      c.in_ok-put_in_braces.ensures ∙ ap (λ l. string_bytes c.args.out.now ++ in_braces (joined (texts l))) c.deref-2.ensures.value,
    )
