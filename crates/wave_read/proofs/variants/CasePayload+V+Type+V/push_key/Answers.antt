use Rattle.wave_grammar.specs.FaultOrder.{in_text}
use Rattle.std.proofs.Common.{None, List, ap, ◌∙◌, subst}
use Rattle.wave_wasm.specs.ValueErrors.{unknown_case, unexpected_payload}
use Rattle.wave_wasm.specs.declared.wasm.WasmValueError.TheVariants as error
use Rattle.wave_grammar.specs.LeafTokens.{name_of}
use Rattle.wave_grammar.specs.NodeTree.{NodeTree, node, no_nodes}
use Rattle.wave_read.specs.CaseParts.{IsCaseRead}
use Rattle.wave_read.proofs.PayloadReading.CaseNodes.{case_named, none_named}
use Rattle.wave_read.proofs.PayloadReading.CaseAnswers.{label_of, label_read, unknown_rejected, unexpected_rejected}
use Rattle.wave_read.proofs.variants.CasePayload+V+Type+V.push_key.Goals as goal

pub returns-in-Some-default-Some : goal.returns-in-Some-default-Some
returns-in-Some-default-Some g c = λ w T source children here none h.
    let key = node c.args.ty c.args.span no_nodes in
    rw none (record {
      ty = h.ty;
      kind = h.kind;
      read = label_read g.V.Type.WasmType.tree g.V.WasmValue.tree g.V.WasmValue.is_of g.V.WasmValue.is_full in_text w T source key c.args.self.now.case (c.in-Some-default-Some.case, c.in-Some-default-Some.payload) c.args.self.now.payload (subst (λ (ns : List NodeTree). IsCaseRead g.V.Type.WasmType.tree g.V.WasmValue.tree g.V.WasmValue.is_of g.V.WasmValue.is_full w T source ns c.args.self.now.case c.args.self.now.payload) none h.read) (label_of g.V.Type.WasmType.tree g.V.WasmValue.tree g.V.WasmValue.is_of g.V.WasmValue.is_full in_text w T _ source key c.label_name-name.result.now c.in_ok-case.field-0 (c.in-Some-default-Some.case, c.in-Some-default-Some.payload) c.in-Some-default-Some.field-0-1 h.ty (c.label_name-name.ensures ∙ ap name_of here) c.in_ok-case.ensures c.in-Some-default-Some.is c.in-Some-default-Some.field-0-1-is);
    })

pub returns-in_ok-name-in-Some-default-None : goal.returns-in_ok-name-in-Some-default-None
returns-in_ok-name-in-Some-default-None g c = λ w T source children here none h.
    let key = node c.args.ty c.args.span no_nodes in
    let found = case_named g.V.Type.WasmType.tree T _ c.label_name-name.result.now c.in_ok-case.field-0 h.ty c.in_ok-case.ensures c.in-Some-default-None.field-0-0 c.in-Some-default-None.field-0-1 None c.in-Some-default-None.is c.in-Some-default-None.field-0-1-is in
    rw none (unexpected_rejected g.V.Type.WasmType.tree g.V.WasmValue.tree g.V.WasmValue.is_of g.V.WasmValue.is_full in_text w T source key c.label_name-name.result.now (error.UnexpectedPayload c.in_ok-name-in-Some-default-None.name) c.caused.result g.met.V.WasmValue.full_parts h.kind (c.label_name-name.ensures ∙ ap name_of here) found.1 (ap unexpected_payload c.in_ok-name-in-Some-default-None.ensures.ok) c.caused.ensures)

pub returns-in_ok-name-in-None : goal.returns-in_ok-name-in-None
returns-in_ok-name-in-None g c = λ w T source children here none h.
    let key = node c.args.ty c.args.span no_nodes in
    let missing = none_named g.V.Type.WasmType.tree T _ c.label_name-name.result.now c.in_ok-case.field-0 h.ty c.in_ok-case.ensures c.in-None.is in
    rw none (unknown_rejected g.V.Type.WasmType.tree g.V.WasmValue.tree g.V.WasmValue.is_of g.V.WasmValue.is_full in_text w T source key c.label_name-name.result.now (error.UnknownCase c.in_ok-name-in-None.name) c.caused-in-None.result h.kind (c.label_name-name.ensures ∙ ap name_of here) missing (ap unknown_case c.in_ok-name-in-None.ensures.ok) c.caused-in-None.ensures)
