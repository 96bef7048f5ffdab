use Rattle.std.proofs.Common.{Result, sym, ◌∙◌, subst}
use Rattle.wave_lex.specs.Errors.{Diagnostic}
use Rattle.wave_grammar.specs.NodeTree.{type_of}
use Rattle.wave_leaf.specs.Reading.{IsOfType}
use Rattle.wave_read.proofs.PayloadReading.FlatValues.{flat_refused, option_wrapped, option_typed, result_wrapped, result_typed}
use Rattle.wave_read.proofs.PayloadReading.KindsWithoutForm.{none_flat}
use Rattle.wave_read.proofs.flat.wrap.Goals as goal

pub make_option_unchecked-requires : goal.make_option_unchecked-requires
make_option_unchecked-requires g c =
    let (ty, U, flat, typed) = c.requires in
    option_typed g.V.WasmValue.is_of (g.V.Type.WasmType.tree c.args.ty.now) U ty c.in-Ok.val (sym c.kind.ensures ∙ c.in-Option.is) flat (subst (λ (r : Result g.row.V.Denot Diagnostic). IsOfType g.V.WasmValue.is_of U r) c.in-Ok.is typed)

pub make_result_unchecked-requires : goal.make_result_unchecked-requires
make_result_unchecked-requires g c =
    let (ty, U, flat, typed) = c.requires in
    result_typed g.V.WasmValue.is_of (g.V.Type.WasmType.tree c.args.ty.now) U ty c.in-Ok.val (λ kind. cc (sym c.in-Result.is ∙ (c.kind.ensures ∙ kind))) flat (subst (λ (r : Result g.row.V.Denot Diagnostic). IsOfType g.V.WasmValue.is_of U r) c.in-Ok.is typed)

pub returns-in-Err : goal.returns-in-Err
returns-in-Err g c = λ o w source n U flat place read.
    flat_refused g.V.WasmValue.tree g.V.WasmValue.is_of g.V.WasmValue.is_full o w (g.V.Type.WasmType.tree c.args.ty.now) U source n c.in-Err.error g.met.V.WasmValue.full_parts flat (rw c.in-Err.is at read)

pub returns-in-Option : goal.returns-in-Option
returns-in-Option g c = λ o w source n U flat place read.
    option_wrapped g.V.WasmValue.tree g.V.WasmValue.is_of g.V.WasmValue.is_full o w (g.V.Type.WasmType.tree c.args.ty.now) U source n c.in-Ok.val c.make_option_unchecked.result c.or_error_at.result (sym c.kind.ensures ∙ c.in-Option.is) flat (rw c.in-Ok.is at read) c.make_option_unchecked.ensures.built c.make_option_unchecked.ensures.full (c.or_error_at.ensures n place)

pub returns-in-Result : goal.returns-in-Result
returns-in-Result g c = λ o w source n U flat place read.
    result_wrapped g.V.WasmValue.tree g.V.WasmValue.is_of g.V.WasmValue.is_full o w (g.V.Type.WasmType.tree c.args.ty.now) U source n c.in-Ok.val c.make_result_unchecked.result c.or_error_at-in-Result.result (λ kind. cc (sym c.in-Result.is ∙ (c.kind.ensures ∙ kind))) flat (rw c.in-Ok.is at read) c.make_result_unchecked.ensures.built c.make_result_unchecked.ensures.full (c.or_error_at-in-Result.ensures n place)

pub returns-in_default : goal.returns-in_default
returns-in_default g c = λ o w source n U flat place read. absurd (none_flat (g.V.Type.WasmType.tree c.args.ty.now) c.kind.result c.kind.ensures c.in_default.not-Option c.in_default.not-Result (type_of n) U flat)
