use Rattle.std.proofs.Common.{subst}
use Rattle.wave_wasm.specs.Types.{TypeTree}
use Rattle.wave_grammar.proofs.ChildNodes.Inside.{some_is}
use Rattle.wave_read.specs.PartsOfKinds.{AreRefusedAtOnce}
use Rattle.wave_read.proofs.values.ValueBuilderBuilder.parts.Goals as goal

pub returns-in-Some-clause-rejected : goal.returns-in-Some-clause-rejected
returns-in-Some-clause-rejected g c = λ T expected.
    let same = some_is (g.V.Type.WasmType.tree c.in-Some.expected.now) T (rw c.in-Some.is at expected) in
    subst (λ (U : TypeTree). AreRefusedAtOnce g.V.Type.WasmType.tree g.V.WasmValue.tree g.V.WasmValue.is_of g.V.WasmValue.is_full U c.args.ty c.new.result.parts) same c.new.ensures.rejected
