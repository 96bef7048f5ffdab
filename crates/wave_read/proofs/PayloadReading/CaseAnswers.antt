-- What is read of a case and its payload.
use Rattle.std.proofs.Common.{ℕ, ◌≡◌, inl, inr, List, [], ◌∷◌, ◌++◌, length, Option, Some, None, option_map, Bor, Result, Err, IfOk, IfErr, refl, sym, ap, ◌∙◌, subst, arith}
use Rattle.std.specs.List.{find}
use Rattle.std.specs.Str.{bytes_eq}
use Rattle.std.specs.declared.ops.Range.{Range}
use Rattle.wave_grammar.specs.FaultOrder.{Order}
use Rattle.wave_wasm.specs.Lists.{SomeOf}
use Rattle.wave_wasm.specs.Types as type
use Rattle.wave_wasm.specs.Types.{TypeTree, HasDistinctNames, kind_of, variant_parts}
use Rattle.wave_wasm.specs.Values.{Value}
use Rattle.wave_wasm.specs.ValueErrors.{unknown_case, unexpected_payload}
use Rattle.wave_wasm.specs.Borrowed.{denoted, denoted_case}
use Rattle.wave_wasm.specs.ConstructorContracts.{HasFullParts, MakesVariant, FullVariant, TypedVariant}
use Rattle.wave_wasm.specs.declared.wasm.WasmTypeKind.TheVariants as kinds
use Rattle.wave_wasm.specs.declared.wasm.WasmValueError.{WasmValueError}
use Rattle.wave_lex.specs.Errors.{Diagnostic, refused_by}
use Rattle.wave_grammar.specs.LeafTokens.{name_of}
use Rattle.wave_grammar.specs.TypedGrammar.{look_up}
use Rattle.wave_grammar.specs.SpannedTree.{MaybePlaced, no_placed, a_placed}
use Rattle.wave_grammar.specs.NodeTree.{NodeTree, node, node_trees}
use Rattle.wave_grammar.specs.NodeAccessors.{node_text}
use Rattle.wave_grammar.specs.TypedReading.{IsValueOf}
use Rattle.wave_grammar.specs.PartReading.{IsCaused, IsPayloadNodeOf}
use Rattle.wave_grammar.specs.declared.form.NodeType.TheVariants as kind
use Rattle.wave_grammar.proofs.ByKind.Variants.{HasCase, case_found, case_missing, case_distinct, case_blame, no_case_blame, variant_built}
use Rattle.wave_grammar.proofs.ErrorSpans.Nodes.{at_in, caused_at, built_in, deeper}
use Rattle.wave_leaf.specs.Reading.{IsReadAs, IsReadWhereExpected}
use Rattle.wave_read.specs.CaseParts.{payload_expected, IsLabelOf, IsCaseRead, AreCaseParts}
use Rattle.wave_leaf.specs.Faults.{IsRefusedWhateverFollows}
use Rattle.wave_leaf.specs.FaultCauses.{IsFaultOf}
use Rattle.wave_leaf.specs.declared.fault.Fault.TheVariants as fault
use Rattle.wave_read.specs.declared.variants.CasePayload.{CasePayload}
use Rattle.wave_read.proofs.PayloadReading.CaseNodes.{variant_type, case_named, case_node, payload_belongs, unexpected_blame, payload_blame, payload_read}
use Rattle.wave_read.proofs.ReadErrors.RejectedValues.{reported_rejects, caused_rejects}
use Rattle.wave_leaf.specs.Errors.{IsBuiltOrMemory}
use Rattle.wave_leaf.specs.declared.fault.Fault.{Fault}
use Rattle.wave_wasm.specs.ValueErrors.{cause_of}
use Rattle.wave_leaf.proofs.ReadErrors.HandedOn.{built_anew, built_of}

first_same : (n u : NodeTree) (more : List NodeTree) → n ∷ more ≡ u ∷ [] → u ≡ n
first_same n u more e = cc

of_payload : (source : List ℕ) (u : NodeTree) (payload : MaybePlaced) → IsPayloadNodeOf source (Some u) payload → IsValueOf source u
of_payload source u no_placed h = absurd h
of_payload source u (a_placed t) h = (t, h)

-- the payload of a node is a value
payload_value : (source : List ℕ) (p : Range ℕ) (c n : NodeTree) (more : List NodeTree) → IsValueOf source (node kind.VariantWithPayload p (node_trees (c ∷ n ∷ more))) → IsValueOf source n
payload_value source p c n more v =
    let k = case_node source p c (n ∷ more) v.0 (name_of (node_text source c)) v.1 refl in
    subst (IsValueOf source) (first_same n k.0 more k.1) (of_payload source k.0 k.2.payload k.2.node)

module _ {S V : Type 0} (type_tree : S → TypeTree) (tree : V → Value) (of : V → TypeTree → Type 0) (Full : TypeTree → Type 0) (o w : Order) where
  -- ---- the label

  -- a case with a payload was found by the name
  pub label_of : (T U : TypeTree) (source : List ℕ) (label : NodeTree) (name : List ℕ) (found : Option (Bor (List ℕ) × Option (Bor S))) (case : Bor (List ℕ) × Bor S) (o : Option (Bor S)) → T ≡ U → name ≡ name_of (node_text source label) → option_map (denoted_case type_tree) found ≡ find (λ c. bytes_eq name c.0) (variant_parts U)
      → found ≡ Some (case.0, o) → o ≡ Some case.1 → IsLabelOf type_tree tree of Full w T source label case
  label_of T U source label name found case o same named here is payload_is =
      let h = case_named type_tree T U name found same here case.0 o (Some case.1) is payload_is in
      (h.0 ∙ named, ap (look_up (variant_parts T)) h.0 ∙ sym h.1)

  -- after the label, which stands first
  pub label_read : (T : TypeTree) (source : List ℕ) (label : NodeTree) (before : Option (Bor (List ℕ) × Bor S)) (case : Bor (List ℕ) × Bor S) (payload : Option V) → IsCaseRead type_tree tree of Full w T source [] before payload → IsLabelOf type_tree tree of Full w T source label case → IsCaseRead type_tree tree of Full w T source (label ∷ []) (Some case) payload
  label_read T source label before case None none h = h
  label_read T source label before case (Some v) none h = absurd none

  -- no case has the name
  pub unknown_rejected : (T : TypeTree) (source : List ℕ) (c : NodeTree) (name : List ℕ) (cause : WasmValueError) (f : Fault) → kind_of T ≡ kinds.Variant → name ≡ name_of (node_text source c) → None ≡ look_up (variant_parts T) name → cause_of cause ≡ unknown_case name → IsFaultOf cause f → IsRefusedWhateverFollows tree of Full o w T source kind.VariantWithPayload (c ∷ []) f
  unknown_rejected T source c name cause f is named missing said reported = caused_rejects tree of Full o w T source kind.VariantWithPayload (c ∷ []) cause f reported (λ more p e same place.
      let variant = variant_type T is in
      let n = node kind.VariantWithPayload p (node_trees (c ∷ more)) in
      let refused : IsCaused (unknown_case name) n e = inr (same ∙ ap refused_by said, place) in
      record {
        answer = λ t node distinct.
            let k = case_node source p c more t name node named in
            no_case_blame tree of Full o w T variant.cases source n t name (Some k.0) k.2 e variant.is node.0 (case_missing T (variant_parts T) variant name missing) refused;
        within = λ v. at_in source n e (inl v) (caused_at (unknown_case name) n e refused place);
        typed = tt;
      })

  -- the case of the name has no payload
  pub unexpected_rejected : (T : TypeTree) (source : List ℕ) (c : NodeTree) (name : List ℕ) (cause : WasmValueError) (f : Fault) → HasFullParts Full → kind_of T ≡ kinds.Variant → name ≡ name_of (node_text source c) → Some None ≡ look_up (variant_parts T) name → cause_of cause ≡ unexpected_payload name → IsFaultOf cause f → IsRefusedWhateverFollows tree of Full o w T source kind.VariantWithPayload (c ∷ []) f
  unexpected_rejected T source c name cause f parts is named here said reported = caused_rejects tree of Full o w T source kind.VariantWithPayload (c ∷ []) cause f reported (λ more p e same place.
      let variant = variant_type T is in
      let n = node kind.VariantWithPayload p (node_trees (c ∷ more)) in
      let found : HasCase variant.cases name type.no_type = case_found T (variant_parts T) variant name None here in
      record {
        answer = λ t node distinct.
            let k = case_node source p c more t name node named in
            case_blame tree of Full o w T variant.cases source n t name (Some k.0) k.2 type.no_type e variant.is node.0 found parts (unexpected_blame tree of Full o w source n k.0 name k.2.payload e k.2.node (same ∙ ap refused_by said, place));
        within = λ v. at_in source n e (inl v) (caused_at (unexpected_payload name) n e (inr (same ∙ ap refused_by said, place)) place);
        typed = tt;
      })

  -- ---- the payload

  -- the refusal of the payload of this case
  reported_of_payload : (T : TypeTree) (source : List ℕ) (c n : NodeTree) (case : Bor (List ℕ) × Bor S) (error : Diagnostic) → HasFullParts Full → kind_of T ≡ kinds.Variant → IsLabelOf type_tree tree of Full w T source c case → IsReadAs tree of Full w w (type_tree case.1.now) source n (Err error) → IsRefusedWhateverFollows tree of Full o w T source kind.VariantWithPayload (c ∷ n ∷ []) (fault.Part error)
  reported_of_payload T source c n case error parts is label read = reported_rejects tree of Full o w T source kind.VariantWithPayload (c ∷ n ∷ []) error (λ more p.
      let variant = variant_type T is in
      let name = case.0.now in
      let U = type_tree case.1.now in
      let whole = node kind.VariantWithPayload p (node_trees (c ∷ n ∷ more)) in
      let found : HasCase variant.cases name (type.a_type U) = case_found T (variant_parts T) variant name (Some U) (sym label.1) in
      record {
        answer = λ t node distinct.
            let k = case_node source p c (n ∷ more) t name node label.0 in
            let inner = subst (λ (u : NodeTree). IsPayloadNodeOf source (Some u) k.2.payload) (first_same n k.0 more k.1) k.2.node in
            let names : HasDistinctNames U = case_distinct variant.cases name (type.a_type U) found (subst HasDistinctNames variant.is distinct).1 in
            case_blame tree of Full o w T variant.cases source whole t name (Some k.0) k.2 (type.a_type U) error variant.is node.0 found parts (payload_blame tree of Full o w U source whole n name k.2.payload error inner names read);
        within = λ v. deeper whole n error (payload_belongs source p c n more v) (read.within (payload_value source p c n more v));
        typed = tt;
      })

  refused : (T : TypeTree) (source : List ℕ) (children : List NodeTree) (n : NodeTree) (case : Option (Bor (List ℕ) × Bor S)) (payload : Option V) (error : Diagnostic) → HasFullParts Full → kind_of T ≡ kinds.Variant → length children ≡ 1 → IsCaseRead type_tree tree of Full w T source children case payload → IsReadWhereExpected tree of Full w w (denoted type_tree (option_map (λ c. c.1) case)) source n (Err error) → IsRefusedWhateverFollows tree of Full o w T source kind.VariantWithPayload (children ++ n ∷ []) (fault.Part error)
  refused T source [] n case payload error parts is count h read = absurd (omega (arith, count))
  refused T source (c ∷ []) n None payload error parts is count h read = absurd h
  refused T source (c ∷ []) n (Some case) None error parts is count h read = reported_of_payload T source c n case error parts is h read
  refused T source (c ∷ []) n (Some case) (Some v) error parts is count h read = absurd h
  refused T source (c ∷ d ∷ more) n case payload error parts is count h read = absurd (omega (arith, count))

  -- the payload was refused
  pub part_refused : (T : TypeTree) (source : List ℕ) (children : List NodeTree) (n : NodeTree) (x : CasePayload S V) (built : Result V Diagnostic) (error : Diagnostic) → HasFullParts Full → length children ≡ 1 → built ≡ Err error → AreCaseParts type_tree tree of Full w T source children x → IsReadWhereExpected tree of Full w w (denoted type_tree (payload_expected x)) source n built → IsRefusedWhateverFollows tree of Full o w T source kind.VariantWithPayload (children ++ n ∷ []) (fault.Part error)
  part_refused T source children n x built error parts count failed h read =
      refused T source children n x.case x.payload error parts h.kind count h.read (subst (IsReadWhereExpected tree of Full w w (denoted type_tree (payload_expected x)) source n) failed read)

  -- ---- the whole

  -- a variant of the type has the case and the payload
  some_case : (cs : type.Cases) (name : List ℕ) (P : type.MaybeType) → HasCase cs name P → SomeOf (λ c. c ≡ (name, type.type_option P)) (type.case_list cs)
  some_case type.no_cases name P h = absurd h
  some_case (type.case_of other A more) name P (inl h) = inl (ap (λ (n : List ℕ). (n, type.type_option A)) (sym h.0) ∙ ap (λ (M : type.MaybeType). (name, type.type_option M)) h.1)
  some_case (type.case_of other A more) name P (inr h) = inr (some_case more name P h.1)

  read_typed : (T : TypeTree) (source : List ℕ) (children : List NodeTree) (case : Bor (List ℕ) × Bor S) (v : V) → kind_of T ≡ kinds.Variant → IsCaseRead type_tree tree of Full w T source children (Some case) (Some v) → HasDistinctNames T → TypedVariant of T case.0.now (Some v)
  read_typed T source [] case v is read distinct = absurd read
  read_typed T source (c ∷ []) case v is read distinct = absurd read
  read_typed T source (c ∷ n ∷ []) case v is read distinct =
      let variant = variant_type T is in
      let name = case.0.now in
      let U = type_tree case.1.now in
      let found : HasCase variant.cases name (type.a_type U) = case_found T (variant_parts T) variant name (Some U) (sym read.0.1) in
      let names : HasDistinctNames U = case_distinct variant.cases name (type.a_type U) found (subst HasDistinctNames variant.is distinct).1 in
      subst (λ (W : TypeTree). TypedVariant of W name (Some v)) (sym variant.is) (Some U, some_case variant.cases name (type.a_type U) found, read.1.typed names)
  read_typed T source (c ∷ n ∷ d ∷ more) case v is read distinct = absurd read

  pub finish_typed : (T : TypeTree) (source : List ℕ) (children : List NodeTree) (x : CasePayload S V) (case : Bor (List ℕ) × Bor S) (v : V) → x.case ≡ Some case → x.payload ≡ Some v → AreCaseParts type_tree tree of Full w T source children x → HasDistinctNames (type_tree x.ty.now) → TypedVariant of (type_tree x.ty.now) case.0.now (Some v)
  finish_typed T source children x case v named valued h =
      let cased = subst (λ (o : Option (Bor (List ℕ) × Bor S)). IsCaseRead type_tree tree of Full w T source children o x.payload) named h.read in
      subst (λ (U : TypeTree). HasDistinctNames U → TypedVariant of U case.0.now (Some v)) h.ty
      (read_typed T source children case v h.kind (subst (IsCaseRead type_tree tree of Full w T source children (Some case)) valued cased))

  -- the case and the payload that were read
  read_whole : (T : TypeTree) (source : List ℕ) (children : List NodeTree) (p : Range ℕ) (case : Bor (List ℕ) × Bor S) (v : V) (m : Result V WasmValueError) (r : Result V Diagnostic) → kind_of T ≡ kinds.Variant → IsCaseRead type_tree tree of Full w T source children (Some case) (Some v) → IfOk m (MakesVariant tree of T case.0.now (Some v)) → IfErr m (FullVariant of Full T case.0.now (Some v)) → IsBuiltOrMemory (node kind.VariantWithPayload p (node_trees children)) m r → IsReadAs tree of Full o w T source (node kind.VariantWithPayload p (node_trees children)) r
  read_whole T source [] p case v m r is read ok full done = absurd read
  read_whole T source (c ∷ []) p case v m r is read ok full done = absurd read
  read_whole T source (c ∷ n ∷ []) p case v m r is read ok full done =
      built_anew (MakesVariant tree of T case.0.now (Some v)) (FullVariant of Full T case.0.now (Some v)) (node kind.VariantWithPayload p (node_trees (c ∷ n ∷ []))) m r (λ a f cs is P some of. tt) ok full done (λ m ok full done.
      let variant = variant_type T is in
      let name = case.0.now in
      let U = type_tree case.1.now in
      let whole = node kind.VariantWithPayload p (node_trees (c ∷ n ∷ [])) in
      let found : HasCase variant.cases name (type.a_type U) = case_found T (variant_parts T) variant name (Some U) (sym read.0.1) in
      record {
        answer = λ t node distinct.
            let k = case_node source p c (n ∷ []) t name node read.0.0 in
            let inner = subst (λ (u : NodeTree). IsPayloadNodeOf source (Some u) k.2.payload) (first_same n k.0 [] k.1) k.2.node in
            let names : HasDistinctNames U = case_distinct variant.cases name (type.a_type U) found (subst HasDistinctNames variant.is distinct).1 in
            variant_built tree of Full o w T variant.cases source t whole name (Some k.0) k.2 (type.a_type U) (Some v) m r variant.is distinct found (payload_read tree of Full o w U source n k.2.payload v inner names read.1) ok full done;
        within = λ w. built_in source whole m r (inl w) done;
        typed = built_of of T (MakesVariant tree of T case.0.now (Some v)) whole m r (λ x makes distinct. (makes distinct).is_of) ok done;
      })
  read_whole T source (c ∷ n ∷ d ∷ more) p case v m r is read ok full done = absurd read

  -- the variant was made, or its constructor refused
  pub finish_built : (T : TypeTree) (source : List ℕ) (children : List NodeTree) (x : CasePayload S V) (p : Range ℕ) (case : Bor (List ℕ) × Bor S) (v : V) (m : Result V WasmValueError) (r : Result V Diagnostic) → x.case ≡ Some case → x.payload ≡ Some v → AreCaseParts type_tree tree of Full w T source children x → IfOk m (MakesVariant tree of (type_tree x.ty.now) case.0.now (Some v)) → IfErr m (FullVariant of Full (type_tree x.ty.now) case.0.now (Some v)) → IsBuiltOrMemory (node kind.VariantWithPayload p (node_trees children)) m r → IsReadAs tree of Full o w T source (node kind.VariantWithPayload p (node_trees children)) r
  finish_built T source children x p case v m r named valued h ok full done =
      let cased = subst (λ (o : Option (Bor (List ℕ) × Bor S)). IsCaseRead type_tree tree of Full w T source children o x.payload) named h.read in
      read_whole T source children p case v m r h.kind (subst (IsCaseRead type_tree tree of Full w T source children (Some case)) valued cased)
      (subst (λ (U : TypeTree). IfOk m (MakesVariant tree of U case.0.now (Some v))) (sym h.ty) ok) (subst (λ (U : TypeTree). IfErr m (FullVariant of Full U case.0.now (Some v))) (sym h.ty) full) done
