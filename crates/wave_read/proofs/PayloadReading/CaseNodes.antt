-- The label and the payload of a case.
use Rattle.std.proofs.Common.{ℕ, ◌≡◌, ◌≢◌, inl, inr, Bool, true, false, cond, if◌then◌else◌, List, [], ◌∷◌, Option, Some, None, option_map, Bor, Ok, Err, refl, sym, ap, ◌∙◌, subst}
use Rattle.std.specs.List.{find}
use Rattle.std.specs.Str.{bytes_eq}
use Rattle.std.specs.declared.ops.Range.{Range}
use Rattle.std.proofs.lemmas.Slice.Eq.{bytes_eq-Decides}
use Rattle.wave_grammar.specs.FaultOrder.{Order, FirstFault}
use Rattle.wave_wasm.specs.Types as type
use Rattle.wave_wasm.specs.HasType.{HasType, HasPayload, HasCase as TypedCase}
use Rattle.wave_wasm.specs.Types.{TypeTree, MaybeType, Cases, HasDistinctNames, kind_of, variant_parts}
use Rattle.wave_wasm.specs.Values as value
use Rattle.wave_wasm.specs.Values.{Value, MaybeValue, no_value}
use Rattle.wave_wasm.specs.ValueErrors.{unknown_case, missing_payload, unexpected_payload}
use Rattle.wave_wasm.specs.Borrowed.{denoted, denoted_case}
use Rattle.wave_wasm.specs.ConstructorContracts.{HasFullParts, MakesVariant, FullVariant}
use Rattle.wave_wasm.specs.declared.wasm.WasmTypeKind.TheVariants as kinds
use Rattle.wave_wasm.specs.declared.wasm.WasmValueError.{WasmValueError}
use Rattle.wave_lex.specs.Errors.{Diagnostic, refusal_of}
use Rattle.wave_lex.specs.declared.error.ParserErrorKind.TheVariants.{InvalidType}
use Rattle.wave_grammar.specs.LeafTokens.{name_of}
use Rattle.wave_grammar.specs.TypedGrammar.{look_up}
use Rattle.wave_grammar.specs.Tree as form
use Rattle.wave_grammar.specs.Elaborates.{TreeReads, TreeReadsCase, TreeReadsPayload}
use Rattle.wave_grammar.specs.TypeErrors.{RefusesFor}
use Rattle.wave_grammar.specs.SpannedTree.{SpannedTree, SpannedShape, MaybePlaced, at, label, no_placed, a_placed, slice, tree_of, SpellsEach}
use Rattle.wave_grammar.specs.NodeTree.{NodeTree, node, node_trees, type_of, place_of, node_list}
use Rattle.wave_grammar.specs.Nodes.{placed_of, IsNodeOf}
use Rattle.wave_grammar.specs.NodeAccessors.{RefusedAs, node_text}
use Rattle.wave_grammar.specs.TypedReading.{IsTypedValue, IsBlamed, IsValueOf}
use Rattle.wave_grammar.specs.PartReading.{IsCaused, IsPayloadNodeOf, IsPayloadRead, IsPayloadBlamed}
use Rattle.wave_grammar.specs.declared.form.NodeType.TheVariants as kind
use Rattle.wave_grammar.proofs.ChildNodes.Inside.{inside, AreParsed, parsed, nodes_in}
use Rattle.wave_grammar.proofs.ChildNodes.Cases.{shape_at, case_shape}
use Rattle.wave_grammar.proofs.ChildNodes.Trees.{list_of_trees}
use Rattle.wave_grammar.proofs.ByKind.Leaves.{tree_is}
use Rattle.wave_grammar.proofs.ByKind.Enums.{label_node}
use Rattle.wave_grammar.proofs.ByKind.Variants.{VariantType, HasCase, CaseNode, variant_is, variant_fault, flag_text, case_found, case_missing, case_blame, no_case_blame, variant_built}
use Rattle.wave_grammar.proofs.ErrorSpans.Nodes.{BelongsTo, children_belong, at_in, form_at, caused_at, built_in}
use Rattle.wave_leaf.specs.Reading.{IsReadAs}
use Rattle.wave_leaf.specs.Errors.{IsRefusedBy}
use Rattle.wave_leaf.proofs.ReadErrors.HandedOn.{built_anew}

-- the type of a variant, by its kind
pub variant_type : (T : TypeTree) → kind_of T ≡ kinds.Variant → VariantType T (variant_parts T)
variant_type T is = variant_is T (variant_parts T) (sym is) refl

-- ---- the case of a name

payload_of : {A : Type 0} (cs : List (List ℕ × A)) (name : List ℕ) → option_map (λ c. c.1) (find (λ c. bytes_eq name c.0) cs) ≡ look_up cs name
payload_of [] name = refl
payload_of {A = A} (c ∷ cs) name = by (bytes_eq name c.0) (payload_of cs name)
  where
    by : (b : Bool) → option_map (λ d. d.1) (find (λ d. bytes_eq name d.0) cs) ≡ look_up cs name → option_map (λ (d : List ℕ × A). d.1) (cond b (Some c) (find (λ d. bytes_eq name d.0) cs)) ≡ (if b then Some c.1 else look_up cs name)
    by true more = refl
    by false more = more

name_of_found : {A : Type 0} (cs : List (List ℕ × A)) (name : List ℕ) (c : List ℕ × A) → Some c ≡ find (λ d. bytes_eq name d.0) cs → c.0 ≡ name
name_of_found [] name c e = absurd (cc)
name_of_found {A = A} (d ∷ cs) name c e = by (bytes_eq name d.0) refl (name_of_found cs name c) e
  where
    by : (b : Bool) → bytes_eq name d.0 ≡ b → (Some c ≡ find (λ x. bytes_eq name x.0) cs → c.0 ≡ name) → Some c ≡ cond b (Some d) (find (λ x. bytes_eq name x.0) cs) → c.0 ≡ name
    by true is more f = let same : c ≡ d = cc in ap (λ x. x.0) same ∙ sym ((bytes_eq-Decides name d.0).0 is)
    by false is more f = more f

module _ {S : Type 0} (type_tree : S → TypeTree) (T U : TypeTree) (name : List ℕ) (case : Option (Bor (List ℕ) × Option (Bor S))) (same : T ≡ U) (found : option_map (denoted_case type_tree) case ≡ find (λ c. bytes_eq name c.0) (variant_parts U)) where
  at_type : (o : Option (Bor (List ℕ) × Option (Bor S))) → case ≡ o → option_map (denoted_case type_tree) o ≡ find (λ c. bytes_eq name c.0) (variant_parts T)
  at_type o is = ap (option_map (denoted_case type_tree)) (sym is) ∙ (found ∙ ap (λ (W : TypeTree). find (λ c. bytes_eq name c.0) (variant_parts W)) (sym same))

  -- the case that was found has the name, and what is looked up by it
  pub case_named : (n : Bor (List ℕ)) (o payload : Option (Bor S)) → case ≡ Some (n, o) → o ≡ payload → (n.now ≡ name) × (Some (denoted type_tree payload) ≡ look_up (variant_parts T) name)
  case_named n o payload is payload_is =
      let there = at_type (Some (n, payload)) (is ∙ ap (λ (p : Option (Bor S)). Some (n, p)) payload_is) in
      (name_of_found (variant_parts T) name (n.now, denoted type_tree payload) there, ap (option_map (λ c. c.1)) there ∙ payload_of (variant_parts T) name)

  -- where none was found, none is looked up
  pub none_named : case ≡ None → None ≡ look_up (variant_parts T) name
  none_named is = ap (option_map (λ c. c.1)) (at_type None is) ∙ payload_of (variant_parts T) name

-- ---- nodes

-- the one node after the first of two
second : (source : List ℕ) (c : NodeTree) (more : List NodeTree) (a b : SpannedTree) → AreParsed source (c ∷ more) (a ∷ b ∷ []) → (u : NodeTree) × (more ≡ u ∷ []) × (placed_of source c ≡ Some a) × (placed_of source u ≡ Some b)
second source c [] a b h = absurd h.1
second source c (u ∷ []) a b h = (u, refl, h.0, h.1.0)
second source c (u ∷ w ∷ more) a b h = absurd h.1.1

-- a node of a case and its payload, whose first child is the label
pub case_node : (source : List ℕ) (p : Range ℕ) (c : NodeTree) (more : List NodeTree) (t : SpannedTree) (name : List ℕ) → IsNodeOf source (node kind.VariantWithPayload p (node_trees (c ∷ more))) t → name ≡ name_of (node_text source c) → (u : NodeTree) × (more ≡ u ∷ []) × CaseNode source t name (Some u)
case_node source p c more (at r s) name h named =
    let n = node kind.VariantWithPayload p (node_trees (c ∷ more)) in
    let i = inside source n (at r s) h.0 in
    let f = case_shape p (slice source p) i.children s (shape_at kind.VariantWithPayload source n (at r s) i refl) in
    let both : AreParsed source (c ∷ node_list (node_trees more)) (f.name ∷ f.payload ∷ []) = subst (λ (ts : List SpannedTree). AreParsed source (c ∷ node_list (node_trees more)) ts) f.children (parsed source (nodes_in n) i.children i.each) in
    let two = second source c more f.name f.payload (subst (λ (ns : List NodeTree). AreParsed source (c ∷ ns) (f.name ∷ f.payload ∷ [])) (list_of_trees more) both) in
    let spelled : SpellsEach source (at r (label f.place f.text (a_placed f.payload))) = subst (λ (x : SpannedShape). SpellsEach source (at r x)) f.shape h.1 in
    (two.0, two.1, record { place = f.place; text = f.text; payload = a_placed f.payload; shape = f.shape; named = named ∙ ap name_of (sym (flag_text source c f.name f.place f.text (inside source c f.name two.2) f.labelled)); node = (two.3, spelled.1.2.1) })

-- a label alone is a case without a payload
pub label_case : (source : List ℕ) (n : NodeTree) (t : SpannedTree) (name : List ℕ) → IsNodeOf source n t → type_of n ≡ kind.Label → name ≡ name_of (node_text source n) → CaseNode source t name None
label_case source n t name h ty named =
    record { place = place_of n; text = node_text source n; payload = no_placed; shape = label_node source n t h.0 ty; named = named; node = tt }

-- the payload is a part of its node
pub payload_belongs : (source : List ℕ) (p : Range ℕ) (c u : NodeTree) (more : List NodeTree) → IsValueOf source (node kind.VariantWithPayload p (node_trees (c ∷ u ∷ more))) → BelongsTo (node kind.VariantWithPayload p (node_trees (c ∷ u ∷ more))) u
payload_belongs source p c u more v = (children_belong source (node kind.VariantWithPayload p (node_trees (c ∷ u ∷ more))) v).1.0

-- a case without a payload, of a value of the type, is read of a label alone
bare_case : (cs : Cases) (name : List ℕ) → TypedCase cs name no_value → TreeReadsCase cs name form.no_tree no_value
bare_case type.no_cases name h = absurd h
bare_case (type.case_of other P more) name (inl h) = inl (h.0, bare P h.1)
  where
    bare : (P : MaybeType) → HasPayload P no_value → TreeReadsPayload P form.no_tree no_value
    bare type.no_type e = (refl, refl)
    bare (type.a_type T) (w, of, e) = absurd (cc)
bare_case (type.case_of other P more) name (inr h) = inr (bare_case more name h)

bare_label : (cs : Cases) (source : List ℕ) (n : NodeTree) (t : SpannedTree) (name : List ℕ) → placed_of source n ≡ Some t → type_of n ≡ kind.Label → name ≡ name_of (node_text source n) → HasType (type.variant cs) (value.variant name no_value) → TreeReads (type.variant cs) (tree_of t) (value.variant name no_value)
bare_label cs source n t name placed ty named (other, payload, case, same) =
    let has = subst (λ (p : MaybeValue). TypedCase cs name p) (sym (same_payload name other no_value payload same)) (subst (λ (x : List ℕ). TypedCase cs x payload) (sym (same_name name other no_value payload same)) case) in
    (node_text source n, form.no_tree, no_value, tree_is t (label (place_of n) (node_text source n) no_placed) (label_node source n t placed ty), subst (λ (x : List ℕ). TreeReadsCase cs x form.no_tree no_value) named (bare_case cs name has), ap (λ (x : List ℕ). value.variant x no_value) named)
  where
    same_name : (a b : List ℕ) (p q : MaybeValue) → value.variant a p ≡ value.variant b q → a ≡ b
    same_name a b p q e = cc

    same_payload : (a b : List ℕ) (p q : MaybeValue) → value.variant a p ≡ value.variant b q → p ≡ q
    same_payload a b p q e = cc

-- ---- payloads

module _ {V : Type 0} (tree : V → Value) (of : V → TypeTree → Type 0) (Full : TypeTree → Type 0) (o w : Order) where
  -- a payload that is there and not expected
  pub unexpected_blame : (source : List ℕ) (n u : NodeTree) (name : List ℕ) (payload : MaybePlaced) (e : Diagnostic) → IsPayloadNodeOf source (Some u) payload → RefusesFor (unexpected_payload name) (place_of n) (refusal_of e) e.span → IsPayloadBlamed Full w name type.no_type n payload e
  unexpected_blame source n u name no_placed e h refused = absurd h
  unexpected_blame source n u name (a_placed t) e h refused = inr (inl refused)

  -- a payload that is expected and not there
  pub missing_blame : (U : TypeTree) (source : List ℕ) (n : NodeTree) (name : List ℕ) (payload : MaybePlaced) (e : Diagnostic) → IsPayloadNodeOf source None payload → IsCaused (missing_payload name) n e → IsPayloadBlamed Full w name (type.a_type U) n payload e
  missing_blame U source n name no_placed e h (inl memory) = inl memory
  missing_blame U source n name no_placed e h (inr refused) = inr (inl refused)
  missing_blame U source n name (a_placed t) e h caused = absurd h

  -- the refusal of a payload
  pub payload_blame : (U : TypeTree) (source : List ℕ) (n u : NodeTree) (name : List ℕ) (payload : MaybePlaced) (e : Diagnostic) → IsPayloadNodeOf source (Some u) payload → HasDistinctNames U → IsReadAs tree of Full w w U source u (Err e) → IsPayloadBlamed Full w name (type.a_type U) n payload e
  payload_blame U source n u name no_placed e h distinct read = absurd h
  payload_blame U source n u name (a_placed t) e h distinct read = of_value (read.answer t h distinct)
    where
      of_value : IsBlamed Full w w U t e → IsPayloadBlamed Full w name (type.a_type U) n (a_placed t) e
      of_value (inl memory) = inl memory
      of_value (inr (inl fault)) = inr (inl fault)
      of_value (inr (inr apart)) = inr (inr (apart.0, λ full. apart.1 full.0))

  -- a payload that was read
  pub payload_read : (U : TypeTree) (source : List ℕ) (u : NodeTree) (payload : MaybePlaced) (v : V) → IsPayloadNodeOf source (Some u) payload → HasDistinctNames U → IsReadAs tree of Full w w U source u (Ok v) → IsPayloadRead tree of (type.a_type U) payload (Some v)
  payload_read U source u no_placed v h distinct read = absurd h
  payload_read U source u (a_placed t) v h distinct read =
      let value : IsTypedValue tree of U t v = read.answer t h distinct in
      record { reads = (tree_of t, tree v, refl, value.reads, refl); is_of = value.is_of }

  -- no payload, where none is expected
  pub none_read : (source : List ℕ) (payload : MaybePlaced) → IsPayloadNodeOf source None payload → IsPayloadRead tree of type.no_type payload None
  none_read source no_placed h = record { reads = (refl, refl); is_of = tt }
  none_read source (a_placed t) h = absurd h

  -- ---- labels alone

  -- a node of another form than a variant's
  pub variant_other_form : (T : TypeTree) (source : List ℕ) (n : NodeTree) (e : Diagnostic) → kind_of T ≡ kinds.Variant → type_of n ≢ kind.Label → type_of n ≢ kind.VariantWithPayload → RefusedAs InvalidType n e → IsReadAs tree of Full o w T source n (Err e)
  variant_other_form T source n e is apart other refused =
      let variant = variant_type T is in
      record {
        answer = λ t node distinct. inr (inl (subst (λ (U : TypeTree). FirstFault o w U t (refusal_of e) e.span) (sym variant.is) (variant_fault o w variant.cases source n t e node.0 (apart, other, refused))));
        within = λ v. at_in source n e (inl v) (form_at n e refused);
        typed = tt;
      }

  -- a label that is no case
  pub no_case_read : (T : TypeTree) (source : List ℕ) (n : NodeTree) (name : List ℕ) (e : Diagnostic) → kind_of T ≡ kinds.Variant → type_of n ≡ kind.Label → name ≡ name_of (node_text source n) → None ≡ look_up (variant_parts T) name → IsCaused (unknown_case name) n e → e.span ≡ place_of n → IsReadAs tree of Full o w T source n (Err e)
  no_case_read T source n name e is ty named missing caused place =
      let variant = variant_type T is in
      record {
        answer = λ t node distinct. no_case_blame tree of Full o w T variant.cases source n t name None (label_case source n t name node ty named) e variant.is node.0 (case_missing T (variant_parts T) variant name missing) caused;
        within = λ v. at_in source n e (inl v) (caused_at (unknown_case name) n e caused place);
        typed = tt;
      }

  -- the label of a case that has a payload
  pub no_payload_read : (T U : TypeTree) (source : List ℕ) (n : NodeTree) (name : List ℕ) (e : Diagnostic) → HasFullParts Full → kind_of T ≡ kinds.Variant → type_of n ≡ kind.Label → name ≡ name_of (node_text source n) → Some (Some U) ≡ look_up (variant_parts T) name → IsCaused (missing_payload name) n e → e.span ≡ place_of n → IsReadAs tree of Full o w T source n (Err e)
  no_payload_read T U source n name e parts is ty named here caused place =
      let variant = variant_type T is in
      let found : HasCase variant.cases name (type.a_type U) = case_found T (variant_parts T) variant name (Some U) here in
      record {
        answer = λ t node distinct.
            let k = label_case source n t name node ty named in
            case_blame tree of Full o w T variant.cases source n t name None k (type.a_type U) e variant.is node.0 found parts (missing_blame U source n name k.payload e k.node caused);
        within = λ v. at_in source n e (inl v) (caused_at (missing_payload name) n e caused place);
        typed = tt;
      }

  -- the label of a case without one, which was made
  pub case_built : (T : TypeTree) (source : List ℕ) (n : NodeTree) (name : List ℕ) (v : V) → kind_of T ≡ kinds.Variant → type_of n ≡ kind.Label → name ≡ name_of (node_text source n) → MakesVariant tree of T name None v → IsReadAs tree of Full o w T source n (Ok v)
  case_built T source n name v is ty named makes =
      let variant = variant_type T is in
      record {
        answer = λ t node distinct.
            let built = makes distinct in
            let read = bare_label variant.cases source n t name node.0 ty named (subst (λ (U : TypeTree). HasType U (value.variant name no_value)) variant.is built.fits) in
            record { reads = subst (λ (U : TypeTree). TreeReads U (tree_of t) (tree v)) (sym variant.is) (subst (TreeReads (type.variant variant.cases) (tree_of t)) (sym built.means) read); is_of = built.is_of };
        within = λ v. tt;
        typed = λ distinct. (makes distinct).is_of;
      }

  -- the label of a case without one, which its constructor refused
  pub case_refused : (T : TypeTree) (source : List ℕ) (n : NodeTree) (name : List ℕ) (cause : WasmValueError) (e : Diagnostic) → kind_of T ≡ kinds.Variant → type_of n ≡ kind.Label → name ≡ name_of (node_text source n) → Some None ≡ look_up (variant_parts T) name → FullVariant of Full T name None cause → IsRefusedBy cause e → e.span ≡ place_of n → IsReadAs tree of Full o w T source n (Err e)
  case_refused T source n name cause e is ty named here full refused place =
      built_anew (MakesVariant tree of T name None) (FullVariant of Full T name None) n (Err cause) (Err e) (λ a f cs is P some of. tt) tt full (refused, place) (λ m ok full done.
      let variant = variant_type T is in
      let found : HasCase variant.cases name type.no_type = case_found T (variant_parts T) variant name None here in
      record {
        answer = λ t node distinct.
            let k = label_case source n t name node ty named in
            variant_built tree of Full o w T variant.cases source t n name None k type.no_type None m (Err e) variant.is distinct found (none_read source k.payload k.node) ok full done;
        within = λ v. built_in source n m (Err e) (inl v) done;
        typed = tt;
      })
