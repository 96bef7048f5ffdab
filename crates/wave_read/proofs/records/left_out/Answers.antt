use Rattle.std.proofs.Common.{◌≡◌, ◌≢◌, ℕ, List, Ok, Err, None, inl, inr, refl, sym, ap, ◌∙◌}
use Rattle.wave_wasm.specs.Types.{TypeTree, HasDistinctNames, kind_of}
use Rattle.wave_wasm.specs.Values.{Value}
use Rattle.wave_wasm.specs.ValueErrors.{cause_of}
use Rattle.wave_wasm.specs.ConstructorContracts.{FullOption}
use Rattle.wave_wasm.specs.declared.wasm.WasmTypeKind.{WasmTypeKind}
use Rattle.wave_wasm.specs.declared.wasm.WasmTypeKind.TheVariants as kinds
use Rattle.wave_wasm.specs.declared.wasm.WasmValueError.{WasmValueError}
use Rattle.wave_wasm.specs.declared.wasm.WasmValueError.TheVariants as causes
use Rattle.wave_lex.specs.Errors.{Diagnostic, Refusal, refused_by}
use Rattle.wave_grammar.specs.NodeTree.{NodeTree, place_of}
use Rattle.wave_grammar.specs.NodeFields.{IsMissing}
use Rattle.wave_leaf.specs.Errors.{IsRefusedBy}
use Rattle.wave_leaf.proofs.ReadErrors.HandedOn.{built_at}
use Rattle.wave_grammar.proofs.Fields.LeftOut.{missing, left_built}
use Rattle.wave_read.specs.Private.RecordParts.{IsMissingOrMemory}
use Rattle.wave_read.proofs.records.left_out.Goals.{in-Option+in-Err, in_default}
use Rattle.wave_read.proofs.records.left_out.Goals as goal

-- the constructor of `none` refused
none_refused : {V : Type 0} (tree : V → Value) (of : V → TypeTree → Type 0) (Full : TypeTree → Type 0) (T : TypeTree) (name : List ℕ) (n : NodeTree) (cause kept : WasmValueError) (e : Diagnostic) → kinds.Option ≡ kind_of T → HasDistinctNames T → FullOption of Full T None cause → kept ≡ cause → IsRefusedBy kept e → e.span ≡ place_of n → IsMissing Full T name n e
none_refused tree of Full T name n cause kept e option distinct full same (inl is) place =
    left_built tree of Full T name n (Err cause) (Err e) option distinct tt full (is ∙ ap (λ (w : WasmValueError). refused_by (cause_of w)) same, place)
none_refused tree of Full T name n cause kept e option distinct full same (inr memory) place = inl (ap (λ (r : Refusal). r.kind) memory.1)

-- the type is no option
missing_or_memory : (Full : TypeTree → Type 0) (T : TypeTree) (k : WasmTypeKind) (name : List ℕ) (n : NodeTree) (cause kept : WasmValueError) (e : Diagnostic) → k ≡ kind_of T → k ≢ kinds.Option → IsMissingOrMemory name cause → kept ≡ cause → IsRefusedBy kept e → e.span ≡ place_of n → IsMissing Full T name n e
missing_or_memory Full T k name n cause kept e kind apart missed same (inr memory) place = inl (ap (λ (r : Refusal). r.kind) memory.1)
missing_or_memory Full T k name n cause kept e kind apart (inl missed) same (inl is) place = missing Full T k name n e kind apart (inr (is ∙ ap (λ (w : WasmValueError). refused_by (cause_of w)) same ∙ ap refused_by missed, place))
missing_or_memory Full T k name n (causes.Memory a) kept e kind apart (inr memory) same (inl is) place = inl (ap (λ (r : Refusal). r.kind) (is ∙ ap (λ (w : WasmValueError). refused_by (cause_of w)) same))
missing_or_memory Full T k name n _ kept e kind apart (inr memory) same (inl is) place = absurd memory

pub returns-in-Ok-clause-answer : goal.returns-in-Ok-clause-answer
returns-in-Ok-clause-answer g c = λ n place distinct.
    left_built g.V.WasmValue.tree g.V.WasmValue.is_of g.V.WasmValue.is_full (g.V.Type.WasmType.tree c.args.ty.now) c.args.name.now n (Ok c.in-Ok.val) (Ok c.in-Ok.val) c.in-Option.ensures distinct c.in-Ok.ensures.built tt refl

pub returns-in-Ok-clause-within : goal.returns-in-Ok-clause-within
returns-in-Ok-clause-within g c = tt

pub returns-clause-answer : goal.returns-clause-answer
returns-clause-answer g c = λ n place distinct.
    elim c.match-kind.branch [
      | in-Option+in-Err w ↦ none_refused g.V.WasmValue.tree g.V.WasmValue.is_of g.V.WasmValue.is_full (g.V.Type.WasmType.tree c.args.ty.now) c.args.name.now n w.in-Err.cause c.match-kind.refusal c.with_cause.result w.in-Option.ensures distinct w.in-Err.ensures.full w.refusal-is c.with_cause.ensures.refusal (c.with_cause.ensures.span ∙ sym place)
      | in_default w ↦ missing_or_memory g.V.WasmValue.is_full (g.V.Type.WasmType.tree c.args.ty.now) c.kind.result c.args.name.now n w.missing-refusal.result c.match-kind.refusal c.with_cause.result c.kind.ensures w.in_default.not-Option w.missing-refusal.ensures w.refusal-is c.with_cause.ensures.refusal (c.with_cause.ensures.span ∙ sym place)
    ]

pub returns-clause-within : goal.returns-clause-within
returns-clause-within g c = λ n place.
    built_at {V = g.row.V.Denot} n (Err c.match-kind.refusal) (Err c.with_cause.result) (c.with_cause.ensures.refusal, c.with_cause.ensures.span ∙ sym place)
