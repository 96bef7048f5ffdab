use Rattle.std.proofs.Common.{◌≡◌, List, [], ◌++◌, Result, Ok, Err, IfOk, refl, sym, ap, ◌∙◌, subst, inl, inr}
use Rattle.std.specs.Result.{IsErrAnd}
use Rattle.wave_grammar.specs.NodeTree.{NodeTree, node, no_nodes, place_of}
use Rattle.wave_grammar.specs.ErrorSpans.{RefusesAt}
use Rattle.wave_lex.specs.Errors.{Diagnostic}
use Rattle.wave_grammar.specs.declared.form.NodeType.TheVariants as kind
use Rattle.wave_grammar.proofs.Elaboration.ParamsInTurn.{error_handed}
use Rattle.wave_grammar.proofs.ErrorSpans.Nodes.{memory_here}
use Rattle.wave_read.specs.declared.records.Field.{Field}
use Rattle.wave_read.specs.Private.RecordParts.{IsFull, AreFull, FirstUnfilled, IsLeftUnfilled}
use Rattle.wave_read.proofs.RecordReading.Fields.{given_prefix, given_all, unfilled_behind, full_more, full_read, full_left}
use Rattle.wave_read.proofs.records.filled.Goals.{in-Some-value, in-None-value+in_ok-val-in-None-value}
use Rattle.wave_read.proofs.records.filled.Goals as goal

-- a refusal is no value
no_value : {A E : Type 0} (Full : A → Type 0) (Refused : E → Type 0) (r : Result A E) → IsErrAnd r Refused → IfOk r Full
no_value Full Refused (Ok v) refused = absurd refused
no_value Full Refused (Err e) refused = tt

pub returns-in_err-val-in-None-value-clause-refused : goal.returns-in_err-val-in-None-value-clause-refused
returns-in_err-val-in-None-value-clause-refused g c =
    let all = sym c.into_iter-field-iterator.ensures.into_iter_gives.0 ∙ (given_prefix c.into_iter-field-iterator.result c.loop-field.yielded c.loop-field.field-iterator c.loop-field.yielded_by ∙ ap (λ fs. c.loop-field.yielded ++ fs) c.in-Some.ensures.steps.0) in
    error_handed (λ e. (n : NodeTree) → place_of n ≡ c.args.span.now → IsLeftUnfilled g.V.WasmValue.is_full g.V.Type.WasmType.tree c.args.fields.items n e) c.from_residual.result c.in_err-val-in-None-value.field-0.0 c.from_residual.ensures.1 (λ n place.
    inr (subst (λ (fields : List (Field g.row.V-Type.Denot g.row.V.Denot)). FirstUnfilled g.V.WasmValue.is_full g.V.Type.WasmType.tree fields n c.in_err-val-in-None-value.field-0.0) (sym all)
    (unfilled_behind g.V.WasmValue.tree g.V.WasmValue.is_of g.V.Type.WasmType.tree g.V.WasmValue.is_full c.loop-field.yielded c.loop-field.all.items c.in-Some.field c.next.new.self.rest.items n c.in_err-val-in-None-value.field-0.0 c.loop-field.invariant c.in-None-value.is (c.in_err-val-in-None-value.ensures.answer n place))))

pub loop-field-preserved : goal.loop-field-preserved
loop-field-preserved g c =
    let pushed = c.if-is_err.ensures.negation in
    let kept = rw pushed at c.push.ensures.items in
    let full : IsFull g.V.WasmValue.tree g.V.WasmValue.is_of (g.V.Type.WasmType.tree c.in-Some.field.ty.now) c.in-Some.field.value c.match-value.val =
    elim c.match-value.branch [
      | in-Some-value w ↦ full_read g.V.WasmValue.tree g.V.WasmValue.is_of g.V.Type.WasmType.tree (g.V.Type.WasmType.tree c.in-Some.field.ty.now) c.in-Some.field.value w.in-Some-value.val c.match-value.val w.in-Some-value.is w.val-is
      | in-None-value+in_ok-val-in-None-value w ↦ full_left g.V.WasmValue.tree g.V.WasmValue.is_of g.V.Type.WasmType.tree (g.V.Type.WasmType.tree c.in-Some.field.ty.now) c.in-Some.field.value w.in_ok-val-in-None-value.val c.match-value.val w.in-None-value.is w.val-is (w.in_ok-val-in-None-value.ensures.answer (node kind.TupleSet c.args.span.now no_nodes) refl)
    ] in
    full_more g.V.WasmValue.tree g.V.WasmValue.is_of g.V.Type.WasmType.tree c.loop-field.yielded c.loop-field.all.items c.push.new.self.items c.in-Some.field c.match-value.val c.loop-field.invariant full kept

pub returns-in-Err-clause-full : goal.returns-in-Err-clause-full
returns-in-Err-clause-full g c = tt

pub returns-in-Err-clause-refused : goal.returns-in-Err-clause-refused
returns-in-Err-clause-refused g c = λ n place. inl c.out_of_memory.ensures.kind

pub returns-in-Err-clause-within : goal.returns-in-Err-clause-within
returns-in-Err-clause-within g c = λ n place. memory_here n c.out_of_memory.result c.out_of_memory.ensures.kind (c.out_of_memory.ensures.span ∙ sym place)

pub returns-then-is_err-clause-full : goal.returns-then-is_err-clause-full
returns-then-is_err-clause-full g c = tt

pub returns-then-is_err-clause-refused : goal.returns-then-is_err-clause-refused
returns-then-is_err-clause-refused g c = λ n place. inl c.out_of_memory-then-is_err.ensures.kind

pub returns-then-is_err-clause-within : goal.returns-then-is_err-clause-within
returns-then-is_err-clause-within g c = λ n place. memory_here n c.out_of_memory-then-is_err.result c.out_of_memory-then-is_err.ensures.kind (c.out_of_memory-then-is_err.ensures.span ∙ sym place)

pub returns-in_err-val-in-None-value-clause-full : goal.returns-in_err-val-in-None-value-clause-full
returns-in_err-val-in-None-value-clause-full g c = no_value _ _ c.from_residual.result c.from_residual.ensures.1

pub returns-in_err-val-in-None-value-clause-within : goal.returns-in_err-val-in-None-value-clause-within
returns-in_err-val-in-None-value-clause-within g c =
    error_handed (λ (e : Diagnostic). (n : NodeTree) → place_of n ≡ c.args.span.now → RefusesAt n e) c.from_residual.result c.in_err-val-in-None-value.field-0.0 c.from_residual.ensures.1 c.in_err-val-in-None-value.ensures.within

pub returns-clause-full : goal.returns-clause-full
returns-clause-full g c =
    subst (λ (fields : List (Field g.row.V-Type.Denot g.row.V.Denot)). AreFull g.V.WasmValue.tree g.V.WasmValue.is_of g.V.Type.WasmType.tree fields c.loop-field.all.items) (given_all c.into_iter-field-iterator.result c.loop-field.yielded c.loop-field.field-iterator c.loop-field.yielded_by c.in-None.ensures.steps.0 ∙ c.into_iter-field-iterator.ensures.into_iter_gives.0) c.loop-field.invariant

pub returns-clause-refused : goal.returns-clause-refused
returns-clause-refused g c = tt

pub returns-clause-within : goal.returns-clause-within
returns-clause-within g c = tt

pub loop-field-init : goal.loop-field-init
loop-field-init g c = subst (AreFull g.V.WasmValue.tree g.V.WasmValue.is_of g.V.Type.WasmType.tree []) (sym c.in-Ok.ensures.items) tt
