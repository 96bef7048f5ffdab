-- What is known of a record at its end.
use Rattle.std.proofs.Common.{ℕ, ◌≡◌, ◌⊎◌, inl, inr, List, [], ◌∷◌, map, Option, Some, None, Result, Ok, Err, IfOk, IfErr, Bor, refl, sym, ap, ◌∙◌, subst}
use Rattle.std.proofs.lemmas.List.Sorted.{IsPermutation-refl}
use Rattle.std.specs.Result.{IsErrAnd}
use Rattle.std.specs.declared.ops.Range.{Range}
use Rattle.wave_grammar.specs.FaultOrder.{Order, in_text, BlamesNothing, FirstOf, LeftOut}
use Rattle.wave_grammar.specs.TypeErrors.{IsFor}
use Rattle.wave_lex.specs.declared.error.ParserErrorKind.TheVariants.{OutOfMemory, WasmValueError}
use Rattle.wave_grammar.proofs.ChildNodes.Inside.{inside}
use Rattle.wave_grammar.proofs.Fields.EntryOrder.{AreReadAt, left_out_blamed}
use Rattle.wave_wasm.specs.Lists.{AllOf}
use Rattle.wave_wasm.specs.Names.{IsOneOf, AreDistinct}
use Rattle.wave_wasm.specs.Types as type
use Rattle.wave_wasm.specs.Types.{TypeTree, HasDistinctNames}
use Rattle.wave_wasm.specs.Values.{Value}
use Rattle.wave_wasm.specs.ConstructorContracts.{MakesRecord, FullRecord, FieldsAreOf, TypedRecord, HasFullParts}
use Rattle.wave_wasm.specs.declared.wasm.WasmValueError as cause
use Rattle.wave_lex.specs.Errors.{Diagnostic, refusal_of}
use Rattle.wave_grammar.specs.TypedGrammar.{IsOption, look_up, names_of}
use Rattle.wave_grammar.specs.SpannedTree.{SpannedTree, PlacedEntry, entry_list}
use Rattle.wave_grammar.specs.NodeTree.{NodeTree, node, node_trees, place_of, children_of}
use Rattle.wave_grammar.specs.NodeAccessors.{node_pairs}
use Rattle.wave_grammar.specs.NodeFields.{IsLabelled, IsFieldsOf, fields_at}
use Rattle.wave_grammar.specs.TypedReading.{IsBlamed}
use Rattle.wave_grammar.specs.Nodes.{IsNodeOf}
use Rattle.wave_grammar.specs.ErrorSpans.{RefusesAt}
use Rattle.wave_grammar.specs.declared.form.NodeType.TheVariants as kind
use Rattle.wave_grammar.proofs.ChildNodes.Trees.{list_of_trees}
use Rattle.wave_grammar.proofs.ByKind.MakerAnswers.{built}
use Rattle.wave_grammar.proofs.Fields.Entries.{AreFieldsOf, record_nodes, entry_found, none_found, some_map}
use Rattle.wave_grammar.proofs.Fields.Reading.{RecordType, fields_distinct, given_fields, FieldIsRead, FieldsRead, field_read, record_reads, record_full}
use Rattle.wave_grammar.proofs.ErrorSpans.Nodes.{at_in, built_in}
use Rattle.wave_leaf.specs.Reading.{IsReadAs}
use Rattle.wave_read.specs.RecordParts.{AreFields, AreKeptAs, IsKeptAs, field_name, part_of}
use Rattle.wave_read.specs.Private.RecordParts.{IsFull, AreFull, FirstUnfilled, IsLeftUnfilled}
use Rattle.wave_read.specs.declared.records.Field.{Field}
use Rattle.wave_read.specs.declared.records.Fields.{Fields}
use Rattle.wave_read.proofs.RecordReading.Fields.{of_one, part_names}
use Rattle.wave_read.proofs.RecordReading.FieldSteps.{is_record, entries_read}
use Rattle.wave_leaf.specs.Errors.{IsBuiltOrMemory}
use Rattle.wave_leaf.proofs.ReadErrors.HandedOn.{built_anew, built_of}

module _ {V : Type 0} (tree : V → Value) (of : V → TypeTree → Type 0) (Full : TypeTree → Type 0) (w : Order) {S : Type 0} (type_tree : S → TypeTree) (T : TypeTree) (source : List ℕ) where
  -- a refusal is handed on
  handed_on : (n : NodeTree) (e : Diagnostic) (r : Result V Diagnostic) → IsErrAnd r (λ f. f ≡ e) → IsReadAs tree of Full in_text w T source n (Err e) → IsReadAs tree of Full in_text w T source n r
  handed_on n e (Ok v) same read = absurd same
  handed_on n e (Err f) same read = subst (λ (d : Diagnostic). IsReadAs tree of Full in_text w T source n (Err d)) (sym same) read

  field_reads : (given : List (List ℕ × NodeTree)) (es : List PlacedEntry) (name : List ℕ) (E : TypeTree) (kept : Option V) (v : V) (n : NodeTree) → AreFieldsOf source given es → HasDistinctNames E → IsKeptAs tree of Full w E source (look_up given name) kept → IsFull tree of E kept v → FieldIsRead tree of Full E name es v
  field_reads given es name E None v n all distinct none full = field_read tree of Full w E source n given es name None v all distinct (sym none) full
  field_reads given es name E (Some u) v n all distinct (m, found, read) same =
      field_read tree of Full w E source n given es name (Some m) v all distinct (sym found) (λ t is apart. (subst (λ (x : V). IsReadAs tree of Full w w E source m (Ok x)) same read).answer t is apart)

  -- the values of the fields, which are those of their entries
  fields_read : (given : List (List ℕ × NodeTree)) (es : List PlacedEntry) (fields : List (Field S V)) (vals : List (Bor (List ℕ) × V)) (n : NodeTree) → AreFieldsOf source given es → AllOf (λ p. HasDistinctNames p.1) (map (part_of type_tree) fields) → AreKeptAs type_tree tree of Full w source given fields → AreFull tree of type_tree fields vals → FieldsRead tree of Full (map (part_of type_tree) fields) es vals
  fields_read given es [] [] n all distinct kept full = tt
  fields_read given es [] (v ∷ vals) n all distinct kept full = absurd full
  fields_read given es (f ∷ fields) [] n all distinct kept full = absurd full
  fields_read given es (f ∷ fields) (v ∷ vals) n all distinct kept full =
      (full.0, field_reads given es f.name.now (type_tree f.ty.now) f.value v.1 n all distinct.0 kept.0 full.1, fields_read given es fields vals n all distinct.1 kept.1 full.2)

  -- a field that was read or may be left out is not left out
  filled_fine : (given : List (List ℕ × NodeTree)) (es : List PlacedEntry) (p : Range ℕ) (name : List ℕ) (E : TypeTree) (kept : Option V) → AreFieldsOf source given es → IsKeptAs tree of Full w E source (look_up given name) kept → (kept ≡ None → IsOption E) → BlamesNothing (LeftOut name E es p)
  filled_fine given es p name E None all none filled k q out = out.0 (filled refl)
  filled_fine given es p name E (Some v) all (m, found, read) filled k q out = out.1 (some_map (λ y. IsFor name y × IsNodeOf source m y.value) (IsFor name) es (λ y g. g.0) (entry_found source given es name m all found))

  -- out of memory; or the first field that is left out; or the refusal of a constructor
  unfilled : (given : List (List ℕ × NodeTree)) (es : List PlacedEntry) (fields : List (Field S V)) (n : NodeTree) (e : Diagnostic) → AreFieldsOf source given es → AllOf (λ f. HasDistinctNames f.1) (map (part_of type_tree) fields) → AreKeptAs type_tree tree of Full w source given fields → FirstUnfilled Full type_tree fields n e → (e.kind ≡ OutOfMemory) ⊎ FirstOf (λ f. LeftOut f.0 f.1 es (place_of n)) (map (part_of type_tree) fields) (refusal_of e) e.span ⊎ (e.kind ≡ WasmValueError) × (AllOf Full (map (λ f. f.1) (map (part_of type_tree) fields)) → ⊥)
  unfilled given es [] n e all distinct kept left = absurd left
  unfilled given es (f ∷ fields) n e all distinct kept (inl (out, missing)) =
      let absent : look_up given f.name.now ≡ None = subst (IsKeptAs tree of Full w (type_tree f.ty.now) source (look_up given f.name.now)) out kept.0 in
      elim (missing distinct.0) [
        | inl memory ↦ inl memory
        | inr (inl g) ↦ inr (inl (inl (g.0, none_found source given es f.name.now all absent, g.1)))
        | inr (inr g) ↦ inr (inr (g.0, λ full. g.1 full.0))
      ]
  unfilled given es (f ∷ fields) n e all distinct kept (inr (filled, left)) =
      elim (unfilled given es fields n e all distinct.1 kept.1 left) [
        | inl memory ↦ inl memory
        | inr (inl out) ↦ inr (inl (inr (filled_fine given es (place_of n) f.name.now (type_tree f.ty.now) f.value all kept.0 (filled distinct.0), out)))
        | inr (inr g) ↦ inr (inr (g.0, λ full. g.1 full.1))
      ]

  module _ (children : List NodeTree) (x : Fields S V) (h : AreFields type_tree tree of Full w T source children x) where
    abbrev own : RecordType T (map (part_of type_tree) x.fields.items)
    own = is_record tree of Full w type_tree T source children x h

    -- the fields of the whole
    fields_of : (p : Range ℕ) → HasDistinctNames T → IsFieldsOf source (node kind.TupleSet p (node_trees children)) (fields_at source children)
    fields_of p distinct = record {
      is_set = refl;
      labels = subst (λ (ns : List NodeTree). AllOf IsLabelled (node_pairs ns)) (sym (list_of_trees children)) h.begun.labels;
      given = ap (fields_at source) (sym (list_of_trees children));
      distinct = h.begun.distinct distinct;
    }

    -- the values have the fields' names
    full_names : (fields : List (Field S V)) (vals : List (Bor (List ℕ) × V)) → AreFull tree of type_tree fields vals → map (λ v. v.0.now) vals ≡ names_of (map (part_of type_tree) fields)
    full_names [] [] full = refl
    full_names [] (v ∷ vals) full = absurd full
    full_names (f ∷ fields) [] full = absurd full
    full_names (f ∷ fields) (v ∷ vals) full = let more = full_names fields vals full.2 in rw (full.0, more) refl

    -- so a record that was made of them is of the type
    record_of : (vals : List (Bor (List ℕ) × V)) (v : V) → AreFull tree of type_tree x.fields.items vals → HasDistinctNames T → MakesRecord tree of (type_tree x.ty.now) vals v → of v T
    record_of vals v full distinct makes =
        let apart : AreDistinct (map (λ (f : Bor (List ℕ) × V). f.0.now) vals) = subst AreDistinct (sym (full_names x.fields.items vals full)) (fields_distinct T (map (part_of type_tree) x.fields.items) own distinct).names in
        subst (of v) h.type_is (makes (subst HasDistinctNames (sym h.type_is) distinct) apart).2.is_of

    -- each of them is of its field's type
    kept_of : (E : TypeTree) (entry : Option NodeTree) (kept : Option V) (v : V) → HasDistinctNames E → IsKeptAs tree of Full w E source entry kept → IsFull tree of E kept v → of v E
    kept_of E entry None v distinct none full = (full distinct).is_of
    kept_of E entry (Some u) v distinct (m, found, read) same = subst (λ (x : V). of x E) same (read.typed distinct)

    values_of : (given : List (List ℕ × NodeTree)) (fields : List (Field S V)) (vals : List (Bor (List ℕ) × V)) → AllOf (λ p. HasDistinctNames p.1) (map (part_of type_tree) fields) → AreKeptAs type_tree tree of Full w source given fields → AreFull tree of type_tree fields vals → FieldsAreOf of (map (part_of type_tree) fields) vals
    values_of given [] [] distinct kept full = tt
    values_of given [] (v ∷ vals) distinct kept full = absurd full
    values_of given (f ∷ fields) [] distinct kept full = absurd full
    values_of given (f ∷ fields) (v ∷ vals) distinct kept full =
        (full.0, kept_of (type_tree f.ty.now) (look_up given f.name.now) f.value v.1 distinct.0 kept.0 full.1, values_of given fields vals distinct.1 kept.1 full.2)

    -- a record of the type has them
    pub record_typed : (vals : List (Bor (List ℕ) × V)) → AreFull tree of type_tree x.fields.items vals → HasDistinctNames T → TypedRecord of T vals
    record_typed vals full distinct =
        let apart = fields_distinct T (map (part_of type_tree) x.fields.items) own distinct in
        subst (λ (U : TypeTree). TypedRecord of U vals) (sym own.is) (
          subst AreDistinct (sym (full_names x.fields.items vals full)) apart.names,
          vals,
          IsPermutation-refl vals,
          subst (λ (ps : List (List ℕ × TypeTree)). FieldsAreOf of ps vals) own.parts_are (values_of (fields_at source children) x.fields.items vals apart.within (h.begun.kept distinct) full),
        )

    -- the record was made of all its values, or its constructor refused
    pub finish_built : (p : Range ℕ) (vals : List (Bor (List ℕ) × V)) (built_record : Result V cause.WasmValueError) (r : Result V Diagnostic) → AreFull tree of type_tree x.fields.items vals → IfOk built_record (MakesRecord tree of (type_tree x.ty.now) vals) → IfErr built_record (FullRecord of Full (type_tree x.ty.now) vals) → IsBuiltOrMemory (node kind.TupleSet p (node_trees children)) built_record r → IsReadAs tree of Full in_text w T source (node kind.TupleSet p (node_trees children)) r
    finish_built p vals built_record r filled ok full done =
        built_anew (MakesRecord tree of (type_tree x.ty.now) vals) (FullRecord of Full (type_tree x.ty.now) vals) (node kind.TupleSet p (node_trees children)) built_record r (λ a f fs is apart ordered same of. tt) ok full done (λ built_record ok full done.
        let n : NodeTree = node kind.TupleSet p (node_trees children) in
        record {
          answer = λ t is distinct.
              let fields = fields_of p distinct in
              let given : List (List ℕ × NodeTree) = fields_at source children in
              let inner = record_nodes source n t is fields.is_set in
              let all : AreFieldsOf source given (entry_list inner.given) = given_fields source n t given is fields in
              let apart = fields_distinct T (map (part_of type_tree) x.fields.items) own distinct in
              let read : FieldsRead tree of Full (type.field_list own.fields) (entry_list inner.given) vals = subst (λ (ps : List (List ℕ × TypeTree)). FieldsRead tree of Full ps (entry_list inner.given) vals) own.parts_are (fields_read given (entry_list inner.given) x.fields.items vals n all apart.within (h.begun.kept distinct) filled) in
              let names : AreDistinct (names_of (type.field_list own.fields)) = subst (λ (ps : List (List ℕ × TypeTree)). AreDistinct (names_of ps)) own.parts_are apart.names in
              let known : (name : List ℕ) → IsOneOf (names_of given) name → IsOneOf (names_of (type.field_list own.fields)) name = λ name one. subst (λ (ns : List (List ℕ)). IsOneOf ns name) (sym (part_names type_tree x.fields.items) ∙ ap names_of own.parts_are) (of_one (IsOneOf (map field_name x.fields.items)) (names_of given) name h.begun.known one) in
              built tree of Full in_text w T t n built_record r done
              (record_reads tree of Full T own.fields source n t given vals inner built_record own.is distinct all fields.distinct known names read (subst (λ (U : TypeTree). IfOk built_record (MakesRecord tree of U vals)) h.type_is ok))
              (record_full tree of Full T own.fields (entry_list inner.given) vals built_record own.is names read (subst (λ (U : TypeTree). IfErr built_record (FullRecord of Full U vals)) h.type_is full));
          within = λ value. built_in source n built_record r (inl value) done;
          typed = built_of of T (MakesRecord tree of (type_tree x.ty.now) vals) n built_record r (λ v makes distinct. record_of vals v filled distinct makes) ok done;
        })

    -- a field was left out, or there was no memory
    pub finish_unfilled : (p : Range ℕ) (e : Diagnostic) (r : Result V Diagnostic) → IsErrAnd r (λ f. f ≡ e) → HasFullParts Full → IsLeftUnfilled Full type_tree x.fields.items (node kind.TupleSet p (node_trees children)) e → RefusesAt (node kind.TupleSet p (node_trees children)) e → IsReadAs tree of Full in_text w T source (node kind.TupleSet p (node_trees children)) r
    finish_unfilled p e r same full left reported =
        let n : NodeTree = node kind.TupleSet p (node_trees children) in
        handed_on n e r same (record {
          answer = λ t is distinct. blamed t is distinct left;
          within = λ value. at_in source n e (inl value) reported;
          typed = tt;
        })
      where
        whole : NodeTree
        whole = node kind.TupleSet p (node_trees children)

        blamed : (t : SpannedTree) → IsNodeOf source (node kind.TupleSet p (node_trees children)) t → HasDistinctNames T → IsLeftUnfilled Full type_tree x.fields.items (node kind.TupleSet p (node_trees children)) e → IsBlamed Full in_text w T t e
        blamed t is distinct (inl memory) = inl memory
        blamed t is distinct (inr left) =
            let fields = fields_of p distinct in
            let given : List (List ℕ × NodeTree) = fields_at source children in
            let es = entry_list (record_nodes source whole t is fields.is_set).given in
            let fine : AreReadAt w own.fields source (node_pairs (children_of whole)) = subst (λ (ns : List NodeTree). AreReadAt w own.fields source (node_pairs ns)) (sym (list_of_trees children)) (entries_read tree of Full w type_tree T source children x h distinct) in
            elim (unfilled given es x.fields.items whole e (given_fields source whole t given is fields) (fields_distinct T (map (part_of type_tree) x.fields.items) own distinct).within (h.begun.kept distinct) left) [
              | inl memory ↦ inl memory
              | inr (inl out) ↦ inr (inl (left_out_blamed w T (map (part_of type_tree) x.fields.items) source whole t e own is fields.is_set fine (subst (λ (q : Range ℕ). FirstOf (λ f. LeftOut f.0 f.1 es q) (map (part_of type_tree) x.fields.items) (refusal_of e) e.span) (sym (inside source whole t is.0).place) out)))
              | inr (inr g) ↦ inr (inr (g.0, λ all. g.1 (subst (λ (ps : List (List ℕ × TypeTree)). AllOf Full (map (λ f. f.1) ps)) (sym own.parts_are) (full (type.record_type own.fields) (subst Full own.is all)))))
            ]
