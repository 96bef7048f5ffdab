-- Results, of a payload that was read.
use Rattle.std.proofs.Common.{ℕ, ◌≡◌, ◌≢◌, inl, inr, Bool, true, false, List, Option, Some, None, Result, Ok, Err, IfOk, IfErr, refl, sym, ap, ◌∙◌, subst}
use Rattle.std.specs.declared.ops.Range.{Range}
use Rattle.wave_grammar.specs.FaultOrder.{Order}
use Rattle.wave_wasm.specs.Types as type
use Rattle.wave_wasm.specs.Types.{TypeTree, MaybeType, HasDistinctNames, kind_of, maybe_type, type_option, result_parts}
use Rattle.wave_wasm.specs.Values.{Value}
use Rattle.wave_wasm.specs.ConstructorContracts.{MakesResult, FullResult, HasFullParts, TypedResult, PayloadIsOf}
use Rattle.wave_wasm.specs.declared.wasm.WasmTypeKind.TheVariants as kinds
use Rattle.wave_wasm.specs.declared.wasm.WasmValueError.{WasmValueError}
use Rattle.wave_lex.specs.Errors.{Diagnostic}
use Rattle.wave_lex.specs.declared.error.ParserErrorKind.TheVariants.{InvalidType}
use Rattle.wave_grammar.specs.TypedGrammar.{IsFlat}
use Rattle.wave_grammar.specs.NodeTree.{NodeTree, node, node_trees, type_of, children_of}
use Rattle.wave_grammar.specs.NodeAccessors.{RefusedAs, first_of}
use Rattle.wave_grammar.specs.TypedReading.{IsValueOf}
use Rattle.wave_grammar.specs.PartReading.{IsPayloadOf, AnswersPayload}
use Rattle.wave_grammar.specs.ErrorSpans.{RefusesIn, RefusesInPart}
use Rattle.wave_grammar.specs.declared.form.NodeType.TheVariants as node_type
use Rattle.wave_grammar.proofs.ByKind.Results.{maybe_back, ok_node, err_node, ok_built, err_built, ok_blame, err_blame, result_fault}
use Rattle.wave_wasm.proofs.TypesOfValues.TypeOfKind.{simple_is}
use Rattle.wave_grammar.proofs.ChildNodes.Inside.{some_is}
use Rattle.wave_grammar.proofs.ChildNodes.Trees.{list_of_trees}
use Rattle.wave_grammar.proofs.ErrorSpans.Nodes.{built_in, part_in, first_belongs, at_in, form_at}
use Rattle.wave_leaf.specs.Reading.{IsReadAs}
use Rattle.wave_read.specs.Flat.{IsFlatAt}
use Rattle.wave_leaf.specs.Faults.{IsBuiltAt}
use Rattle.wave_read.specs.Payloads.{result_node, payload_of}
use Rattle.wave_read.specs.Private.Payloads.{result_name, result_with, IsOfPayloadType}
use Rattle.wave_leaf.proofs.ReadErrors.HandedOn.{built_anew, built_of}

-- the type of a result with these payloads
result_is : (T : TypeTree) (parts : Option TypeTree × Option TypeTree) → result_parts T ≡ Some parts → T ≡ type.result (maybe_type parts.0) (maybe_type parts.1)
result_is (type.result C D) parts e =
    subst (λ (x : Option TypeTree × Option TypeTree). type.result C D ≡ type.result (maybe_type x.0) (maybe_type x.1)) (some_is _ _ e) (λ i. type.result (sym (maybe_back C) i) (sym (maybe_back D) i))
result_is _ parts e = absurd (cc)

-- the node of `ok` or `err` of these
abbrev result_of : Bool → Range ℕ → List NodeTree → NodeTree
result_of is_ok p children = node (result_node is_ok) p (node_trees children)

-- its payload is the first of them
first_child : (is_ok : Bool) (p : Range ℕ) (children : List NodeTree) → first_of (children_of (result_of is_ok p children)) ≡ first_of children
first_child is_ok p children = ap first_of (list_of_trees children)

-- a payload of `ok` or `err` is a value
result_payload : (is_ok : Bool) (source : List ℕ) (p : Range ℕ) (children : List NodeTree) → IsValueOf source (result_of is_ok p children) → IsPayloadOf source (first_of children)
result_payload true source p children value =
    let k = ok_node source (result_of true p children) value.0 value.1 refl in
    subst (IsPayloadOf source) (first_child true p children) (k.0, k.2)
result_payload false source p children value =
    let k = err_node source (result_of false p children) value.0 value.1 refl in
    subst (IsPayloadOf source) (first_child false p children) (k.0, k.2)

-- a type of this kind has payloads
result_at : (T : TypeTree) → kind_of T ≡ kinds.Result → (parts : Option TypeTree × Option TypeTree) × (result_parts T ≡ Some parts)
result_at (type.result A B) kind = ((type_option A, type_option B), refl)
result_at (type.simple S) kind = absurd (cc (simple_is S (type.result type.no_type type.no_type) kind))
result_at (type.unreadable type.f32) kind = absurd (cc kind)
result_at (type.unreadable type.f64) kind = absurd (cc kind)
result_at (type.unreadable type.unsupported) kind = absurd (cc kind)
result_at _ kind = absurd (cc kind)

-- where no payload stands for `ok` of itself, that of `ok` is none or not flat
flat_apart : (T : TypeTree) (A : Option TypeTree) (B : MaybeType) (n : NodeTree) → T ≡ type.result (maybe_type A) B → type_of n ≢ node_type.ResultOk → type_of n ≢ node_type.ResultErr → ((U : TypeTree) → IsFlatAt T (type_of n) U → ⊥) → (U : TypeTree) → A ≡ Some U → IsFlat U → ⊥
flat_apart T A B n result not_ok not_err apart U is flat =
    subst (λ (W : TypeTree). (X : TypeTree) → IsFlatAt W (type_of n) X → ⊥) (result ∙ ap (λ (P : Option TypeTree). type.result (maybe_type P) B) is) apart U (refl, flat, not_ok, not_err)

module _ {V : Type 0} (tree : V → Value) (of : V → TypeTree → Type 0) (Full : TypeTree → Type 0) (o w : Order) where
  -- the payload at its type is what the node answers for its first child
  answers_first : (is_ok : Bool) (D : Option TypeTree) (source : List ℕ) (p : Range ℕ) (children : List NodeTree) (r : Result (Option V) Diagnostic) → AnswersPayload tree of Full w (result_name is_ok) D source (result_of is_ok p children) (first_of children) r → AnswersPayload tree of Full w (result_name is_ok) D source (result_of is_ok p children) (first_of (children_of (result_of is_ok p children))) r
  answers_first is_ok D source p children r answers =
      subst (λ (o : Option NodeTree). AnswersPayload tree of Full w (result_name is_ok) D source (result_of is_ok p children) o r) (sym (first_child is_ok p children)) answers

  -- `ok` or `err` with its payload, or without one
  case_built : (is_ok : Bool) (T : TypeTree) (A B : Option TypeTree) (source : List ℕ) (p : Range ℕ) (children : List NodeTree) (v : Option V) (m : Result V WasmValueError) (r : Result V Diagnostic) → T ≡ type.result (maybe_type A) (maybe_type B) → AnswersPayload tree of Full w (result_name is_ok) (payload_of is_ok (A, B)) source (result_of is_ok p children) (first_of children) (Ok v) → IfOk m (MakesResult tree of T (result_with is_ok v)) → IfErr m (FullResult of Full T (result_with is_ok v)) → IsBuiltAt p m r → IsReadAs tree of Full o w T source (result_of is_ok p children) r
  case_built true T A B source p children v m r is answers makes full done =
      let n = result_of true p children in
      built_anew (MakesResult tree of T (Ok v)) (FullResult of Full T (Ok v)) n m r (λ a f A B is of. tt) makes full (done n refl) (λ m makes full done.
      record { answer = λ t here distinct. let k = ok_node source n t here refl in ok_built tree of Full o w T (maybe_type A) (maybe_type B) t n k.0 v m r is distinct k.1 (answers_first true A source p children (Ok v) answers k.0 k.2 (subst HasDistinctNames is distinct).0) makes full done; within = λ value. built_in source n m r (inl value) done; typed = built_of of T (MakesResult tree of T (Ok v)) n m r (λ x makes distinct. (makes distinct).is_of) makes done })
  case_built false T A B source p children v m r is answers makes full done =
      let n = result_of false p children in
      built_anew (MakesResult tree of T (Err v)) (FullResult of Full T (Err v)) n m r (λ a f A B is of. tt) makes full (done n refl) (λ m makes full done.
      record { answer = λ t here distinct. let k = err_node source n t here refl in err_built tree of Full o w T (maybe_type A) (maybe_type B) t n k.0 v m r is distinct k.1 (answers_first false B source p children (Ok v) answers k.0 k.2 (subst HasDistinctNames is distinct).1) makes full done; within = λ value. built_in source n m r (inl value) done; typed = built_of of T (MakesResult tree of T (Err v)) n m r (λ x makes distinct. (makes distinct).is_of) makes done })

  -- a refusal of the payload stands in the node
  case_within : (is_ok : Bool) (source : List ℕ) (p : Range ℕ) (children : List NodeTree) (e : Diagnostic) → (IsPayloadOf source (first_of children) → RefusesInPart (result_of is_ok p children) (first_of children) e) → IsValueOf source (result_of is_ok p children) → RefusesIn (result_of is_ok p children) e
  case_within is_ok source p children e within value =
      let n = result_of is_ok p children in
      part_in source n (first_of children) e (inl value) (first_belongs source n (first_of children) value (sym (first_child is_ok p children))) (within (result_payload is_ok source p children value))

  -- `ok` or `err` of a payload that was refused
  case_refused : (is_ok : Bool) (T : TypeTree) (A B : Option TypeTree) (source : List ℕ) (p : Range ℕ) (children : List NodeTree) (e : Diagnostic) → T ≡ type.result (maybe_type A) (maybe_type B) → HasFullParts Full → AnswersPayload tree of Full w (result_name is_ok) (payload_of is_ok (A, B)) source (result_of is_ok p children) (first_of children) (Err e) → (IsPayloadOf source (first_of children) → RefusesInPart (result_of is_ok p children) (first_of children) e) → IsReadAs tree of Full o w T source (result_of is_ok p children) (Err e)
  case_refused true T A B source p children e is parts answers within =
      let n = result_of true p children in
      record { answer = λ t here distinct. let k = ok_node source n t here refl in ok_blame tree of Full o w T (maybe_type A) (maybe_type B) source n t k.0 e is here.0 k.1 parts (answers_first true A source p children (Err e) answers k.0 k.2 (subst HasDistinctNames is distinct).0); within = case_within true source p children e within; typed = tt }
  case_refused false T A B source p children e is parts answers within =
      let n = result_of false p children in
      record { answer = λ t here distinct. let k = err_node source n t here refl in err_blame tree of Full o w T (maybe_type A) (maybe_type B) source n t k.0 e is here.0 k.1 parts (answers_first false B source p children (Err e) answers k.0 k.2 (subst HasDistinctNames is distinct).1); within = case_within false source p children e within; typed = tt }

  -- the value was made of the payload
  pub result_read : (is_ok : Bool) (T : TypeTree) (D : Option TypeTree) (source : List ℕ) (p : Range ℕ) (children : List NodeTree) (v : Option V) (m : Result V WasmValueError) (r : Result V Diagnostic) → (parts : Option TypeTree × Option TypeTree) × (result_parts T ≡ Some parts) × (D ≡ payload_of is_ok parts) → AnswersPayload tree of Full w (result_name is_ok) D source (result_of is_ok p children) (first_of children) (Ok v) → IfOk m (MakesResult tree of T (result_with is_ok v)) → IfErr m (FullResult of Full T (result_with is_ok v)) → IsBuiltAt p m r → IsReadAs tree of Full o w T source (result_of is_ok p children) r
  result_read is_ok T D source p children v m r (parts, is, expected) answers makes full done =
      case_built is_ok T parts.0 parts.1 source p children v m r (result_is T parts is) (subst (λ (E : Option TypeTree). AnswersPayload tree of Full w (result_name is_ok) E source (result_of is_ok p children) (first_of children) (Ok v)) expected answers) makes full done

  -- a result of the type has the payload
  option_back : (o : Option TypeTree) → type_option (maybe_type o) ≡ o
  option_back None = refl
  option_back (Some T) = refl

  pub result_typed : (is_ok : Bool) (T : TypeTree) (D : Option TypeTree) (v : Option V) → (parts : Option TypeTree × Option TypeTree) × (result_parts T ≡ Some parts) × (D ≡ payload_of is_ok parts) → IsOfPayloadType of D v → HasDistinctNames T → TypedResult of T (result_with is_ok v)
  result_typed true T D v (parts, is, expected) typed distinct =
      let names = subst HasDistinctNames (result_is T parts is) distinct in
      subst (λ (U : TypeTree). TypedResult of U (result_with true v)) (sym (result_is T parts is)) (subst (λ (E : Option TypeTree). PayloadIsOf of E v) (sym (option_back parts.0)) (subst (λ (E : Option TypeTree). IsOfPayloadType of E v) expected typed names.0))
  result_typed false T D v (parts, is, expected) typed distinct =
      let names = subst HasDistinctNames (result_is T parts is) distinct in
      subst (λ (U : TypeTree). TypedResult of U (result_with false v)) (sym (result_is T parts is)) (subst (λ (E : Option TypeTree). PayloadIsOf of E v) (sym (option_back parts.1)) (subst (λ (E : Option TypeTree). IsOfPayloadType of E v) expected typed names.1))

  -- the payload was refused
  pub result_refused : (is_ok : Bool) (T : TypeTree) (D : Option TypeTree) (source : List ℕ) (p : Range ℕ) (children : List NodeTree) (e : Diagnostic) → HasFullParts Full → (parts : Option TypeTree × Option TypeTree) × (result_parts T ≡ Some parts) × (D ≡ payload_of is_ok parts) → AnswersPayload tree of Full w (result_name is_ok) D source (result_of is_ok p children) (first_of children) (Err e) → (IsPayloadOf source (first_of children) → RefusesInPart (result_of is_ok p children) (first_of children) e) → IsReadAs tree of Full o w T source (result_of is_ok p children) (Err e)
  result_refused is_ok T D source p children e full (parts, is, expected) answers within =
      case_refused is_ok T parts.0 parts.1 source p children e (result_is T parts is) full (subst (λ (E : Option TypeTree). AnswersPayload tree of Full w (result_name is_ok) E source (result_of is_ok p children) (first_of children) (Err e)) expected answers) within

  -- at a result, a node of another form than a result's and a flat payload's
  pub other_result : (T : TypeTree) (source : List ℕ) (n : NodeTree) (e : Diagnostic) → kind_of T ≡ kinds.Result → type_of n ≢ node_type.ResultOk → type_of n ≢ node_type.ResultErr → ((U : TypeTree) → IsFlatAt T (type_of n) U → ⊥) → RefusedAs InvalidType n e → IsReadAs tree of Full o w T source n (Err e)
  other_result T source n e kind not_ok not_err apart refused =
      let given = result_at T kind in
      let parts = given.0 in
      let is = given.1 in
      let result = result_is T parts is in
      record { answer = λ t here distinct. inr (inl (result_fault o w T parts.0 (maybe_type parts.1) source n t e result here.0 (not_ok, not_err, refused) (flat_apart T parts.0 (maybe_type parts.1) n result not_ok not_err apart))); within = λ value. at_in source n e (inl value) (form_at n e refused); typed = tt }
