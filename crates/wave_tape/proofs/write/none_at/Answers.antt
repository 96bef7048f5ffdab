use Rattle.std.proofs.Common.{sym, ◌∙◌, arith}
use Rattle.wave_wasm.specs.declared.wasm.WasmTypeKind.TheVariants as kinds
use Rattle.wave_wasm.proofs.TypesOfValues.TypeOfKind.{formed_as}
use Rattle.wave_tape.specs.Reading.{choice_at}
use Rattle.wave_tape.proofs.TypedReadings.{value_typed}
use Rattle.wave_tape.proofs.WrittenRows.{not_none, none_is, option_stop, some_no_none, no_value_of}
use Rattle.wave_tape.proofs.write.none_at.Goals as goal

pub returns-in_default-clause-other : goal.returns-in_default-clause-other
returns-in_default-clause-other g c = λ v rest read. not_none (g.T.WasmType.tree c.args.ty.now) v (λ k. c.in_default.not-Option (c.kind.ensures ∙ k)) (value_typed (g.T.WasmType.tree c.args.ty.now) c.args.bytes.now v rest (λ i. omega (arith, c.type_inv.bytes i)) read)

pub returns-then-some-clause-other : goal.returns-then-some-clause-other
returns-then-some-clause-other g c =
    let is = formed_as kinds.Option (g.T.WasmType.tree c.args.ty.now) (sym c.in-Option.is ∙ c.kind.ensures) in
    some_no_none (g.T.WasmType.tree c.args.ty.now) is.0 c.args.bytes.now is.1 c.in-Ok.some c.in-Ok.rest.now c.if-some.true c.in-Ok.ensures

pub returns-else-some-clause-none : goal.returns-else-some-clause-none
returns-else-some-clause-none g c =
    let is = formed_as kinds.Option (g.T.WasmType.tree c.args.ty.now) (sym c.in-Option.is ∙ c.kind.ensures) in
    none_is (g.T.WasmType.tree c.args.ty.now) is.0 c.args.bytes.now is.1 c.in-Ok.some c.in-Ok.rest.now c.if-some.false c.in-Ok.ensures

pub returns-in-Err-clause-other : goal.returns-in-Err-clause-other
returns-in-Err-clause-other g c =
    let is = formed_as kinds.Option (g.T.WasmType.tree c.args.ty.now) (sym c.in-Option.is ∙ c.kind.ensures) in
    no_value_of c.args.bytes.now (g.T.WasmType.tree c.args.ty.now) c.in-Err.field-0 (choice_at c.args.bytes.now) c.in-Err.ensures (option_stop (g.T.WasmType.tree c.args.ty.now) is.0 c.args.bytes.now is.1)
