-- What is wrong with a record, before its end is seen.
use Rattle.std.proofs.Common.{ℕ, ◌≡◌, ◌≢◌, inl, inr, ◌+◌, List, [], ◌∷◌, ◌++◌, length, Some, None, Err, refl, sym, ap, ◌∙◌, subst}
use Rattle.std.specs.declared.ops.Range.{Range}
use Rattle.wave_grammar.specs.FaultOrder.{Order, in_text, FirstFault}
use Rattle.wave_wasm.specs.Lists.{SomeOf}
use Rattle.wave_wasm.specs.Names.{IsNoneOf}
use Rattle.wave_wasm.specs.Types.{TypeTree, HasDistinctNames, field_names, kind_of, record_parts}
use Rattle.wave_wasm.specs.declared.wasm.WasmTypeKind.TheVariants as kinds
use Rattle.wave_wasm.specs.Values.{Value}
use Rattle.wave_wasm.specs.ConstructorContracts.{HasFullParts}
use Rattle.wave_lex.specs.Errors.{Diagnostic, Says, refusal_of}
use Rattle.wave_lex.specs.declared.error.ParserErrorKind.TheVariants as why
use Rattle.wave_grammar.specs.LeafTokens.{name_of}
use Rattle.wave_grammar.specs.TypedGrammar.{names_of}
use Rattle.wave_grammar.specs.SpannedTree.{SpannedTree, span_of}
use Rattle.wave_grammar.specs.TypeErrors.{IsFor, UnknownField}
use Rattle.wave_grammar.specs.NodeTree.{NodeTree, node, node_trees, type_of}
use Rattle.wave_grammar.specs.Nodes.{IsNodeOf}
use Rattle.wave_grammar.specs.NodeAccessors.{node_text, node_pairs, RefusedAs}
use Rattle.wave_grammar.specs.NodeFields.{RefusesKey, fields_at}
use Rattle.wave_grammar.specs.ErrorSpans.{RefusesAt}
use Rattle.wave_grammar.specs.declared.form.NodeType.TheVariants as kind
use Rattle.wave_grammar.proofs.ByKind.Lists.{HasAt}
use Rattle.wave_grammar.proofs.ChildNodes.Inside.{inside}
use Rattle.wave_grammar.proofs.Fields.Entries.{fields_of_entries, other_fault}
use Rattle.wave_grammar.proofs.ByKind.Leaves.{said}
use Rattle.wave_grammar.proofs.ByKind.Tuples.{all_has}
use Rattle.wave_grammar.proofs.Fields.FieldOrder.{full_at}
use Rattle.wave_grammar.proofs.Fields.EntryOrder.{AreReadAt, key_blamed, unknown_label, value_blamed}
use Rattle.wave_grammar.proofs.Fields.Reading.{RecordType, record_is, names_are, fields_distinct}
use Rattle.wave_grammar.proofs.ErrorSpans.Nodes.{deeper, at_in, form_at, refused_at}
use Rattle.wave_leaf.specs.Reading.{IsReadAs}
use Rattle.wave_read.specs.RecordParts.{last_key}
use Rattle.wave_read.proofs.MapReading.KeyedChildren.{StandsBehind, key_stands, value_stands, entry_stands, pair_belongs}

-- the entry of a label has its name
entry_for : (source : List ℕ) (n : NodeTree) (t : SpannedTree) (children : List NodeTree) (k v : NodeTree) (is : IsNodeOf source n t) (set : type_of n ≡ kind.TupleSet) (here : StandsBehind n children k v) → type_of k ≡ kind.Label → IsFor (name_of (node_text source k)) (entry_stands source n t children k v is set here).0
entry_for source n t children k v is set here label =
    let e = entry_stands source n t children k v is set here in
    (fields_of_entries source ((k, v) ∷ []) (e.0 ∷ []) (label, tt) (e.2, e.3, tt)).0

module _ {V : Type 0} (tree : V → Value) (of : V → TypeTree → Type 0) (Full : TypeTree → Type 0) (o w : Order) where
  -- a node of another form than that of records
  pub other_form : (T : TypeTree) (source : List ℕ) (n : NodeTree) (e : Diagnostic) → kind_of T ≡ kinds.Record → type_of n ≢ kind.TupleSet → RefusedAs why.InvalidType n e → IsReadAs tree of Full o w T source n (Err e)
  other_form T source n e record_kind apart refused =
      let is = record_is T (record_parts T) (sym record_kind) refl in
      record {
        answer = λ t node distinct. inr (inl (subst (λ (U : TypeTree). FirstFault o w U t (refusal_of e) e.span) (sym is.is) (other_fault o w is.fields source n t (refusal_of e) e.span node.0 apart (said refused))));
        within = λ value. at_in source n e (inl value) (form_at n e refused);
        typed = tt;
      }

module _ {V : Type 0} (tree : V → Value) (of : V → TypeTree → Type 0) (Full : TypeTree → Type 0) (w : Order) (T : TypeTree) (parts : List (List ℕ × TypeTree)) (is : RecordType T parts) (source : List ℕ) where
  module _ (children : List NodeTree) (more : List NodeTree) (p : Range ℕ) (e : Diagnostic) (fine : HasDistinctNames T → AreReadAt w is.fields source (node_pairs children)) where
    -- a key that is refused
    pub key_rejects : (k : NodeTree) (half : ℕ) → length children ≡ half + half → (HasDistinctNames T → RefusesKey source (names_of (fields_at source children)) k e) → RefusesAt k e → IsReadAs tree of Full in_text w T source (node kind.TupleSet p (node_trees ((children ++ k ∷ []) ++ more))) (Err e)
    key_rejects k half even refused reported =
        let n : NodeTree = node kind.TupleSet p (node_trees ((children ++ k ∷ []) ++ more)) in
        record {
          answer = λ t node distinct.
              let (v, here) = key_stands source children k more half p t even node in
              let entry = entry_stands source n t children k v node refl here in
              inr (inl (key_blamed w T parts source n t e is node refl (node_pairs children) (k, v) here.0 entry.0 here.1 (fine distinct) entry.1 entry.2 (refused distinct)));
          within = λ value.
              let (v, here) = key_stands source children k more half p value.0 even value.1 in
              let entry = entry_stands source n value.0 children k v value.1 refl here in
              deeper n k e (pair_belongs source n children k v value here).0 (at_in source k e (inr (entry.0.place, entry.0.key, entry.2)) reported);
          typed = tt;
        }

    -- a label that is none of the type's names
    pub unknown_rejects : (k : NodeTree) (half : ℕ) → length children ≡ half + half → type_of k ≡ kind.Label → IsNoneOf (names_of parts) (name_of (node_text source k)) → Says e why.InvalidValue p None → IsReadAs tree of Full in_text w T source (node kind.TupleSet p (node_trees ((children ++ k ∷ []) ++ more))) (Err e)
    unknown_rejects k half even label none says =
        let n : NodeTree = node kind.TupleSet p (node_trees ((children ++ k ∷ []) ++ more)) in
        let name : List ℕ = name_of (node_text source k) in
        record {
          answer = λ t node distinct.
              let (v, here) = key_stands source children k more half p t even node in
              let entry = entry_stands source n t children k v node refl here in
              let named = entry_for source n t children k v node refl here label in
              let own : IsNoneOf (field_names is.fields) name = subst (λ (names : List (List ℕ)). IsNoneOf names name) (ap names_of is.parts_are ∙ names_are is.fields) none in
              let unknown : UnknownField (field_names is.fields) (entry.0 ∷ []) (span_of t) (refusal_of e) e.span = (inl (subst (SomeOf (IsNoneOf (field_names is.fields))) (sym named) (inl own)), (says.is, says.stands ∙ sym (inside source n t node.0).place)) in
              inr (inl (unknown_label w T parts source n t e is node refl (node_pairs children) (k, v) here.0 entry.0 here.1 (fine distinct) entry.1 name named own unknown));
          within = λ value. at_in source n e (inl value) (refused_at why.InvalidValue n e (λ k. cc) tt says);
          typed = tt;
        }

    -- a value that is refused, of a field that was not read
    pub value_rejects : (k v : NodeTree) (i : ℕ) (E : TypeTree) → HasFullParts Full → last_key children ≡ Some k → type_of k ≡ kind.Label → (HasDistinctNames T → IsNoneOf (names_of (fields_at source children)) (name_of (node_text source k))) → HasAt parts i (name_of (node_text source k), E) → IsReadAs tree of Full w w E source v (Err e) → IsReadAs tree of Full in_text w T source (node kind.TupleSet p (node_trees ((children ++ v ∷ []) ++ more))) (Err e)
    value_rejects k v i E full waits label new typed read =
        let n : NodeTree = node kind.TupleSet p (node_trees ((children ++ v ∷ []) ++ more)) in
        let here : StandsBehind n children k v = value_stands children k v more p waits in
        let name : List ℕ = name_of (node_text source k) in
        record {
          answer = λ t node distinct.
              let entry = entry_stands source n t children k v node refl here in
              let apart = fields_distinct T parts is distinct in
              elim (read.answer entry.0.value entry.3 (all_has (λ q. HasDistinctNames q.1) parts i (name, E) apart.within typed)) [
                | inl memory ↦ inl memory
                | inr (inl fault) ↦ inr (inl (value_blamed w T parts source n t e is node refl (node_pairs children) (k, v) here.0 entry.0 here.1 (fine distinct) entry.1 name i E (entry_for source n t children k v node refl here label) (new distinct) apart.names typed fault))
                | inr (inr h) ↦ inr (inr (h.0, λ whole. h.1 (full_at Full T parts i name E is typed full whole)))
              ];
          within = λ value.
              let entry = entry_stands source n value.0 children k v value.1 refl here in
              deeper n v e (pair_belongs source n children k v value here).1 (read.within (entry.0.value, entry.3));
          typed = tt;
        }
