-- Variants.
use Rattle.std.proofs.Common.{ℕ, ◌≡◌, ◌≢◌, ◌⊎◌, inl, inr, Bool, true, false, if◌then◌else◌, List, [], ◌∷◌, Option, Some, None, option_map, Result, Ok, Err, IfOk, IfErr, MatchResult, refl, sym, ap, ◌∙◌, subst}
use Rattle.std.specs.declared.ops.Range.{Range}
use Rattle.std.specs.Str.{bytes_eq}
use Rattle.std.proofs.lemmas.Slice.Eq.{bytes_eq-Decides}
use Rattle.wave_wasm.specs.Lists.{AllOf, SomeOf}
use Rattle.wave_wasm.specs.Names.{IsOneOf, IsNoneOf, AreDistinct}
use Rattle.wave_wasm.specs.Types as type
use Rattle.wave_wasm.specs.Types.{TypeTree, MaybeType, Cases, HasDistinctNames, EachNamesOfMaybe, EachNamesOfCases, maybe_type, type_option, case_list, case_names, variant_parts, kind_of}
use Rattle.wave_wasm.specs.Values as value
use Rattle.wave_wasm.specs.Values.{Value, MaybeValue, maybe_value}
use Rattle.wave_wasm.specs.ValueErrors.{unknown_case}
use Rattle.wave_wasm.specs.ConstructorContracts.{IsMemory, MakesVariant, FullVariant, PayloadIsOf, payload_and, payload_types, HasFullParts}
use Rattle.wave_wasm.specs.declared.wasm.WasmTypeKind.TheVariants as kinds
use Rattle.wave_wasm.specs.declared.wasm.WasmValueError.{WasmValueError}
use Rattle.wave_lex.specs.Errors.{Diagnostic, Refusal, refusal_of}
use Rattle.wave_lex.specs.declared.error.ParserErrorKind.TheVariants.{InvalidType}
use Rattle.wave_grammar.specs.Tree as form
use Rattle.wave_grammar.specs.LeafTokens.{name_of}
use Rattle.wave_grammar.specs.TypedGrammar.{look_up}
use Rattle.wave_grammar.specs.Elaborates.{TreeReads, TreeReadsPayload, TreeReadsCase}
use Rattle.wave_grammar.specs.SpannedTree.{SpannedTree, SpannedShape, MaybePlaced, at, label, no_placed, a_placed, slice, span_of, shape_of, tree_of, maybe_of}
use Rattle.wave_grammar.specs.TypeErrors.{Blame, IsRefusalOf, RefusesFor, OfForm, label_in}
use Rattle.wave_grammar.specs.FaultOrder.{Order, FirstFault, FirstOfPayload, FirstOfCase}
use Rattle.wave_grammar.specs.NodeTree.{NodeTree, type_of, place_of}
use Rattle.wave_grammar.specs.Nodes.{placed_of, flag_of}
use Rattle.wave_grammar.specs.NodeAccessors.{node_text, GivesVariant}
use Rattle.wave_grammar.specs.TypedReading.{IsTypedValue, IsBlamed, IsBuilt}
use Rattle.wave_grammar.specs.PartReading.{IsCaused, IsPayloadNodeOf, IsPayloadRead, IsPayloadBlamed}
use Rattle.wave_grammar.proofs.ChildNodes.Inside.{From, Inside, inside, some_is}
use Rattle.wave_grammar.proofs.ByKind.Leaves.{tree_is, at_tree, said}
use Rattle.wave_grammar.proofs.ByKind.MakerAnswers.{built}
use Rattle.wave_grammar.proofs.ByKind.Results.{maybe_back}
use Rattle.wave_grammar.proofs.ByKind.Unreadable.{caused_blame}
use Rattle.wave_grammar.specs.declared.form.NodeType.{NodeType}
use Rattle.wave_grammar.specs.declared.form.NodeType.TheVariants as kind
use Rattle.wave_wasm.proofs.TypesOfValues.TypeOfKind.{formed_as}

-- a type of these cases
pub record VariantType (T : TypeTree) (parts : List (List ℕ × Option TypeTree)) : Type 0 where
  pub cases : Cases
  pub is : T ≡ type.variant cases
  pub parts_are : parts ≡ case_list cases

-- the type of the kind of variants
pub variant_is : (T : TypeTree) (parts : List (List ℕ × Option TypeTree)) → kinds.Variant ≡ kind_of T → parts ≡ variant_parts T → VariantType T parts
variant_is T parts e h = let (cs, is) = formed_as kinds.Variant T e in record { cases = cs; is = is; parts_are = h ∙ ap variant_parts is }

-- ---- the case of a name

-- the first case of this name has this payload
abbrev pub HasCase : Cases → List ℕ → MaybeType → Type 0
HasCase type.no_cases name P = ⊥
HasCase (type.case_of other A more) name P = (name ≡ other) × (A ≡ P) ⊎ (name ≢ other) × HasCase more name P

found_case : (cs : Cases) (name : List ℕ) (P : Option TypeTree) → Some P ≡ look_up (case_list cs) name → HasCase cs name (maybe_type P)
found_case type.no_cases name P e = absurd (cc)
found_case (type.case_of other A more) name P e = by_test (bytes_eq name other) (found_case more name P) refl e
  where
    by_test : (b : Bool) → (Some P ≡ look_up (case_list more) name → HasCase more name (maybe_type P)) → bytes_eq name other ≡ b → Some P ≡ (if b then Some (type_option A) else look_up (case_list more) name) → HasCase (type.case_of other A more) name (maybe_type P)
    by_test true later is e = inl ((bytes_eq-Decides name other).0 is, sym (maybe_back A) ∙ ap maybe_type (sym (some_is _ _ e)))
    by_test false later is e = inr ((λ same. cc (sym is ∙ (bytes_eq-Decides name other).1 same)), later e)

no_case : (cs : Cases) (name : List ℕ) → None ≡ look_up (case_list cs) name → IsNoneOf (case_names cs) name
no_case type.no_cases name e = tt
no_case (type.case_of other A more) name e = by_test (bytes_eq name other) (no_case more name) refl e
  where
    by_test : (b : Bool) → (None ≡ look_up (case_list more) name → IsNoneOf (case_names more) name) → bytes_eq name other ≡ b → None ≡ (if b then Some (type_option A) else look_up (case_list more) name) → IsNoneOf (other ∷ case_names more) name
    by_test true later is e = absurd (cc)
    by_test false later is e = ((λ same. cc (sym is ∙ (bytes_eq-Decides name other).1 same)), later e)

-- the case that was found among the parts of the type
pub case_found : (T : TypeTree) (parts : List (List ℕ × Option TypeTree)) (v : VariantType T parts) (name : List ℕ) (P : Option TypeTree) → Some P ≡ look_up parts name → HasCase v.cases name (maybe_type P)
case_found T parts v name P e = found_case v.cases name P (e ∙ ap (λ (ps : List (List ℕ × Option TypeTree)). look_up ps name) v.parts_are)

-- no case was found among the parts of the type
pub case_missing : (T : TypeTree) (parts : List (List ℕ × Option TypeTree)) (v : VariantType T parts) (name : List ℕ) → None ≡ look_up parts name → IsNoneOf (case_names v.cases) name
case_missing T parts v name e = no_case v.cases name (e ∙ ap (λ (ps : List (List ℕ × Option TypeTree)). look_up ps name) v.parts_are)

-- the names of the payload's type are among those of the cases
pub case_distinct : (cs : Cases) (name : List ℕ) (P : MaybeType) → HasCase cs name P → EachNamesOfCases AreDistinct cs → EachNamesOfMaybe AreDistinct P
case_distinct type.no_cases name P h names = absurd h
case_distinct (type.case_of other A more) name P (inl h) names = subst (λ (M : MaybeType). EachNamesOfMaybe AreDistinct M) h.1 names.0
case_distinct (type.case_of other A more) name P (inr h) names = case_distinct more name P h.1 names.1

case_reads : (cs : Cases) (name : List ℕ) (P : MaybeType) (t : form.MaybeTree) (w : MaybeValue) → HasCase cs name P → TreeReadsPayload P t w → TreeReadsCase cs name t w
case_reads type.no_cases name P t w h read = absurd h
case_reads (type.case_of other A more) name P t w (inl h) read = inl (h.0, subst (λ (M : MaybeType). TreeReadsPayload M t w) (sym h.1) read)
case_reads (type.case_of other A more) name P t w (inr h) read = inr (case_reads more name P t w h.1 read)

case_fault : (o w : Order) (cs : Cases) (name : List ℕ) (P : MaybeType) (payload : MaybePlaced) (p : Range ℕ) (k : Refusal) (q : Range ℕ) → HasCase cs name P → FirstOfPayload w name P payload p k q → FirstOfCase w cs name payload p k q
case_fault o w type.no_cases name P payload p k q h fault = absurd h
case_fault o w (type.case_of other A more) name P payload p k q (inl h) fault = inl (h.0, subst (λ (M : MaybeType). FirstOfPayload w name M payload p k q) (sym h.1) fault)
case_fault o w (type.case_of other A more) name P payload p k q (inr h) fault = inr (h.0, case_fault o w more name P payload p k q h.1 fault)

missing_fault : (o w : Order) (cs : Cases) (name : List ℕ) (payload : MaybePlaced) (p : Range ℕ) (k : Refusal) (q : Range ℕ) → IsNoneOf (case_names cs) name → RefusesFor (unknown_case name) p k q → FirstOfCase w cs name payload p k q
missing_fault o w type.no_cases name payload p k q none refused = refused
missing_fault o w (type.case_of other A more) name payload p k q none refused = inr (none.0, missing_fault o w more name payload p k q none.1 refused)

case_listed : (cs : Cases) (name : List ℕ) (P : MaybeType) → HasCase cs name P → SomeOf (λ c. c ≡ (name, type_option P)) (case_list cs)
case_listed type.no_cases name P h = absurd h
case_listed (type.case_of other A more) name P (inl h) = inl (λ i. (sym h.0 i, type_option (h.1 i)))
case_listed (type.case_of other A more) name P (inr h) = inr (case_listed more name P h.1)

-- ---- the nodes

-- the label of a case, its name and its payload
pub record CaseNode (source : List ℕ) (t : SpannedTree) (name : List ℕ) (o : Option NodeTree) : Type 0 where
  pub place : Range ℕ
  pub text : List ℕ
  pub payload : MaybePlaced
  pub shape : shape_of t ≡ label place text payload
  pub named : name ≡ name_of text
  pub node : IsPayloadNodeOf source o payload

-- the text of a flag is that at its node
pub flag_text : (source : List ℕ) (m : NodeTree) (c : SpannedTree) (q : Range ℕ) (w : List ℕ) → Inside source m c → flag_of c ≡ Some (q, w) → w ≡ node_text source m
flag_text source m (at p (label r v no_placed)) q w i e = sym (ap (λ (f : Range ℕ × List ℕ). f.1) (some_is _ _ e)) ∙ i.from.2
flag_text source m _ q w i e = absurd (cc)

-- ---- faults

-- what a variant's fault is, of the label of a node
abbrev VariantFault : Order → Cases → Range ℕ → (List ℕ × MaybePlaced) → Blame
VariantFault w cs p l k q = FirstOfCase w cs (name_of l.0) l.1 p k q

no_label : (w : Order) (cs : Cases) (ty : NodeType) (p r : Range ℕ) (text : List ℕ) (children : List SpannedTree) (s : SpannedShape) (k : Refusal) (q : Range ℕ) → From ty p text children s → ty ≢ kind.Label → ty ≢ kind.VariantWithPayload → IsRefusalOf InvalidType r k q → OfForm (label_in s) r (VariantFault w cs r) k q
no_label w cs ty p r text children (label at_label v no_placed) k q f x y refused = absurd (x f.0)
no_label w cs ty p r text children (label at_label v (a_placed u)) k q f x y refused = absurd (y f.0)
no_label w cs ty p r text children _ k q f x y refused = refused

-- a node that is no label
pub variant_fault : (o w : Order) (cs : Cases) (source : List ℕ) (n : NodeTree) (t : SpannedTree) (e : Diagnostic) → placed_of source n ≡ Some t → GivesVariant source n (Err e) → FirstFault o w (type.variant cs) t (refusal_of e) e.span
variant_fault o w cs source n t e is given =
    let i = inside source n t is in
    no_label w cs (type_of n) (place_of n) (span_of t) (slice source (place_of n)) i.children (shape_of t) (refusal_of e) e.span i.from given.0 given.1 (at_tree InvalidType (place_of n) (span_of t) (refusal_of e) e.span i.place (said given.2))

label_fault : (o w : Order) (cs : Cases) (t : SpannedTree) (p : Range ℕ) (text : List ℕ) (payload : MaybePlaced) (name : List ℕ) (k : Refusal) (q : Range ℕ) → shape_of t ≡ label p text payload → name ≡ name_of text → FirstOfCase w cs name payload (span_of t) k q → FirstFault o w (type.variant cs) t k q
label_fault o w cs t p text payload name k q shape named fault =
    subst (λ (s : SpannedShape). OfForm (label_in s) (span_of t) (VariantFault w cs (span_of t)) k q) (sym shape) (subst (λ (x : List ℕ). FirstOfCase w cs x payload (span_of t) k q) named fault)

module _ {V : Type 0} (tree : V → Value) (of : V → TypeTree → Type 0) (Full : TypeTree → Type 0) (o w : Order) where
  first_full : (A : MaybeType) (others : List TypeTree) → AllOf Full (payload_and A others) → AllOf Full (payload_and A [])
  first_full type.no_type others h = tt
  first_full (type.a_type U) others h = (h.0, tt)

  others_full : (A : MaybeType) (others : List TypeTree) → AllOf Full (payload_and A others) → AllOf Full others
  others_full type.no_type others h = h
  others_full (type.a_type U) others h = h.1

  case_full : (cs : Cases) (name : List ℕ) (P : MaybeType) → HasCase cs name P → AllOf Full (payload_types cs) → AllOf Full (payload_and P [])
  case_full type.no_cases name P h full = absurd h
  case_full (type.case_of other A more) name P (inl h) full = subst (λ (M : MaybeType). AllOf Full (payload_and M [])) h.1 (first_full A (payload_types more) full)
  case_full (type.case_of other A more) name P (inr h) full = case_full more name P h.1 (others_full A (payload_types more) full)

  -- a refusal of the payload of a case
  pub case_blame : (T : TypeTree) (cs : Cases) (source : List ℕ) (n : NodeTree) (t : SpannedTree) (name : List ℕ) (inner : Option NodeTree) (c : CaseNode source t name inner) (P : MaybeType) (e : Diagnostic) → T ≡ type.variant cs → placed_of source n ≡ Some t → HasCase cs name P → HasFullParts Full → IsPayloadBlamed Full w name P n c.payload e → IsBlamed Full o w T t e
  case_blame T cs source n t name inner c P e is node found parts (inl memory) = inl memory
  case_blame T cs source n t name inner c P e is node found parts (inr (inl fault)) =
      let placed = subst (λ (p : Range ℕ). FirstOfPayload w name P c.payload p (refusal_of e) e.span) (sym (inside source n t node).place) fault in
      inr (inl (subst (λ (U : TypeTree). FirstFault o w U t (refusal_of e) e.span) (sym is) (label_fault o w cs t c.place c.text c.payload name (refusal_of e) e.span c.shape c.named (case_fault o w cs name P c.payload (span_of t) (refusal_of e) e.span found placed))))
  case_blame T cs source n t name inner c P e is node found parts (inr (inr h)) = inr (inr (h.0, λ full. h.1 (case_full cs name P found (parts (type.variant cs) (subst Full is full)))))

  -- the refusal of a label that is no case
  pub no_case_blame : (T : TypeTree) (cs : Cases) (source : List ℕ) (n : NodeTree) (t : SpannedTree) (name : List ℕ) (inner : Option NodeTree) (c : CaseNode source t name inner) (e : Diagnostic) → T ≡ type.variant cs → placed_of source n ≡ Some t → IsNoneOf (case_names cs) name → IsCaused (unknown_case name) n e → IsBlamed Full o w T t e
  no_case_blame T cs source n t name inner c e is node none caused =
      caused_blame Full o w T source n t (unknown_case name) e node caused (λ refused.
      subst (λ (U : TypeTree). FirstFault o w U t (refusal_of e) e.span) (sym is) (label_fault o w cs t c.place c.text c.payload name (refusal_of e) e.span c.shape c.named (missing_fault o w cs name c.payload (span_of t) (refusal_of e) e.span none refused)))

  variant_reads : (T : TypeTree) (cs : Cases) (t : SpannedTree) (name : List ℕ) (payload : Option V) (m : Result V WasmValueError) → T ≡ type.variant cs → HasDistinctNames T → TreeReads (type.variant cs) (tree_of t) (value.variant name (maybe_value (option_map tree payload))) → IfOk m (MakesVariant tree of T name payload) → IfOk m (IsTypedValue tree of T t)
  variant_reads T cs t name payload (Ok v) is distinct read h =
      let makes = h distinct in
      record { reads = subst (λ (U : TypeTree). TreeReads U (tree_of t) (tree v)) (sym is) (subst (λ (w : Value). TreeReads (type.variant cs) (tree_of t) w) (sym makes.means) read); is_of = makes.is_of }
  variant_reads T cs t name payload (Err cause) is distinct read h = tt

  variant_full : (T : TypeTree) (cs : Cases) (name : List ℕ) (P : MaybeType) (payload : Option V) (m : Result V WasmValueError) → T ≡ type.variant cs → HasCase cs name P → PayloadIsOf of (type_option P) payload → IfErr m (FullVariant of Full T name payload) → IfErr m (λ cause. Full T → IsMemory cause)
  variant_full T cs name P payload (Ok v) is found h f = tt
  variant_full T cs name P payload (Err cause) is found h f = λ full. f full cs is (type_option P) (case_listed cs name P found) h

  -- the case was made, or its constructor refused
  pub variant_built : (T : TypeTree) (cs : Cases) (source : List ℕ) (t : SpannedTree) (n : NodeTree) (name : List ℕ) (inner : Option NodeTree) (c : CaseNode source t name inner) (P : MaybeType) (payload : Option V) (m : Result V WasmValueError) (r : Result V Diagnostic) → T ≡ type.variant cs → HasDistinctNames T → HasCase cs name P → IsPayloadRead tree of P c.payload payload → IfOk m (MakesVariant tree of T name payload) → IfErr m (FullVariant of Full T name payload) → IsBuilt n m r → MatchResult r (IsTypedValue tree of T t) (IsBlamed Full o w T t)
  variant_built T cs source t n name inner c P payload m r is distinct found read ok full done =
      let given = maybe_value (option_map tree payload) in
      let read_case = subst (λ (x : List ℕ). TreeReadsCase cs x (maybe_of c.payload) given) c.named (case_reads cs name P (maybe_of c.payload) given found read.reads) in
      built tree of Full o w T t n m r done (variant_reads T cs t name payload m is distinct (c.text, maybe_of c.payload, given, tree_is t (label c.place c.text c.payload) c.shape, read_case, ap (λ (x : List ℕ). value.variant x given) c.named) ok) (variant_full T cs name P payload m is found read.is_of full)

-- ---- no value

-- a case that is read has one of the names
pub read_is_one : (cs : Cases) (name : List ℕ) (t : form.MaybeTree) (w : MaybeValue) → TreeReadsCase cs name t w → IsOneOf (case_names cs) name
read_is_one type.no_cases name t w h = absurd h
read_is_one (type.case_of other A more) name t w (inl h) = inl h.0
read_is_one (type.case_of other A more) name t w (inr h) = inr (read_is_one more name t w h)

-- where the payload of the label has no value at its case, nor has the label
pub variant_none : (cs : Cases) (text : List ℕ) (u : form.MaybeTree) (v : Value) → ((w : MaybeValue) → TreeReadsCase cs (name_of text) u w → ⊥) → TreeReads (type.variant cs) (form.label text u) v → ⊥
variant_none cs text u v apart (other, inner, w, e, read, f) =
    apart w (subst (λ (x : List ℕ). TreeReadsCase cs (name_of x) u w) (sym (same_text text other u inner e)) (subst (λ (x : form.MaybeTree). TreeReadsCase cs (name_of other) x w) (sym (same_payload text other u inner e)) read))
  where
    same_text : (a b : List ℕ) (x y : form.MaybeTree) → form.label a x ≡ form.label b y → a ≡ b
    same_text a b x y e = cc

    same_payload : (a b : List ℕ) (x y : form.MaybeTree) → form.label a x ≡ form.label b y → x ≡ y
    same_payload a b x y e = cc
