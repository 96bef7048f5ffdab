use Rattle.std.proofs.Common.{List, IfOk, sym, ap, subst, inl, ◌∙◌}
use Rattle.wave_wasm.specs.Types.{TypeTree}
use Rattle.wave_wasm.specs.Borrowed.{denoted_all}
use Rattle.wave_tree.specs.UntypedCall.{GivesParamsAt}
use Rattle.wave_grammar.specs.ErrorSpans.{IsTypeKind}
use Rattle.wave_tree.proofs.TextReading.Calls.{memory_refuses, params_in_text}
use Rattle.wave_tree.proofs.untyped.call.UntypedFuncCall.to_func_params.Goals as goal

pub returns-in-Err-clause-refused : goal.returns-in-Err-clause-refused
returns-in-Err-clause-refused g c =
    memory_refuses g.V.WasmValue.is_full _ c.args.self.now.source c.args.self.now.name c.args.self.now.params c.out_of_memory.result c.out_of_memory.ensures.stands.1 c.out_of_memory.ensures.kind

pub returns-in-Err-clause-kind : goal.returns-in-Err-clause-kind
returns-in-Err-clause-kind g c = inl (subst IsTypeKind (sym c.out_of_memory.ensures.kind) tt)

pub returns-in-Err-clause-within : goal.returns-in-Err-clause-within
returns-in-Err-clause-within g c = params_in_text c.args.self.now.source c.args.self.now.name c.args.self.now.params c.out_of_memory.result c.out_of_memory.ensures.stands c.out_of_memory.ensures.span

pub returns-in-Err-clause-caused : goal.returns-in-Err-clause-caused
returns-in-Err-clause-caused g c = λ was. absurd (cc (sym c.out_of_memory.ensures.kind ∙ was))

pub returns-in-Ok-clause-values : goal.returns-in-Ok-clause-values
returns-in-Ok-clause-values g c =
    subst (λ (Ts : List TypeTree). IfOk c.read_params.result (λ vs. GivesParamsAt g.V.WasmValue.tree g.V.WasmValue.is_of Ts c.args.self.now.source c.args.self.now.params vs.items))
    (ap (denoted_all g.V.Type.WasmType.tree) c.as_slice.ensures.value ∙ c.in-Ok.ensures) c.read_params.ensures.values
