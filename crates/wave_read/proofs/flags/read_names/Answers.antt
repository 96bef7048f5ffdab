use Rattle.std.proofs.Common.{◌≡◌, sym}
use Rattle.wave_grammar.specs.FaultOrder.{in_text}
use Rattle.wave_read.specs.Private.NamedFlags.{flag_names}
use Rattle.wave_read.proofs.FlagReading.ByNames.{unknown_read, flags_read, flags_refused, flags_typed, no_value}
use Rattle.wave_read.proofs.flags.read_names.Goals as goal

pub returns-in_err-picked-clause-read : goal.returns-in_err-picked-clause-read
returns-in_err-picked-clause-read g c = λ source n ok named o w r reported.
    unknown_read g.V.WasmValue.tree g.V.WasmValue.is_of g.V.WasmValue.is_full o w (g.V.Type.WasmType.tree c.args.ty.now) (flag_names c.args.flags) source n c.from_residual.result c.in_err-picked.field-0.0 r (sym c.requires) c.from_residual.ensures.1 c.in_err-picked.ensures.refused ok named reported

pub returns-in-Ok-clause-read : goal.returns-in-Ok-clause-read
returns-in-Ok-clause-read g c = λ source n ok named o w r reported.
    flags_read g.V.WasmValue.tree g.V.WasmValue.is_of g.V.WasmValue.is_full o w (g.V.Type.WasmType.tree c.args.ty.now) (flag_names c.args.flags) source n c.as_slice.result.now c.in-Ok.val r (sym c.requires) c.in_ok-picked.ensures.known (rw c.as_slice.ensures.value c.in_ok-picked.ensures.picked) c.in-Ok.ensures.built ok named reported

pub returns-clause-read : goal.returns-clause-read
returns-clause-read g c = λ source n ok named o w r reported.
    flags_refused g.V.WasmValue.tree g.V.WasmValue.is_of g.V.WasmValue.is_full o w (g.V.Type.WasmType.tree c.args.ty.now) (flag_names c.args.flags) source n c.as_slice.result.now c.in-Err.cause c.caused.result r c.caused.ensures (sym c.requires) c.in_ok-picked.ensures.known (rw c.as_slice.ensures.value c.in_ok-picked.ensures.picked) c.in-Err.ensures.full ok named reported

pub returns-in-Ok-clause-typed : goal.returns-in-Ok-clause-typed
returns-in-Ok-clause-typed g c =
    flags_typed g.V.WasmValue.tree g.V.WasmValue.is_of g.V.WasmValue.is_full in_text in_text (g.V.Type.WasmType.tree c.args.ty.now) (flag_names c.args.flags) c.as_slice.result.now c.in-Ok.val (sym c.requires) (rw c.as_slice.ensures.value c.in_ok-picked.ensures.picked) c.in-Ok.ensures.built

pub returns-in_err-picked-clause-typed : goal.returns-in_err-picked-clause-typed
returns-in_err-picked-clause-typed g c = no_value g.V.WasmValue.is_of (g.V.Type.WasmType.tree c.args.ty.now) (λ f. f ≡ c.in_err-picked.field-0.0) c.from_residual.result c.from_residual.ensures.1
