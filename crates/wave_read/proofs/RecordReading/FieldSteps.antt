-- What is known of the fields of a record after one part more.
use Rattle.std.proofs.Common.{ℕ, ◌≡◌, inl, inr, List, [], ◌∷◌, ◌++◌, map, set, Option, Some, None, option_map, Result, Ok, Err, Vec, Global, Bor, refl, sym, ap, ◌∙◌, subst}
use Rattle.std.specs.Prelude.{slice_get}
use Rattle.wave_grammar.specs.FaultOrder.{Order, in_text, BlamesNothing, FirstFault, FaultOfValue}
use Rattle.wave_grammar.specs.TypeErrors.{names_in, IsFor}
use Rattle.wave_grammar.proofs.Fields.Entries.{label_token}
use Rattle.wave_grammar.proofs.Fields.EntryOrder.{AreReadAt, IsFineIn, value_fine_at}
use Rattle.wave_wasm.specs.Lists.{AllOf}
use Rattle.wave_wasm.specs.Names.{IsOneOf, IsNoneOf, AreDistinct}
use Rattle.wave_wasm.specs.Types.{TypeTree, HasDistinctNames, field_names}
use Rattle.wave_wasm.specs.Values.{Value}
use Rattle.wave_wasm.specs.Borrowed.{denoted}
use Rattle.wave_wasm.specs.ConstructorContracts.{HasFullParts}
use Rattle.wave_wasm.proofs.Names.NameTests.{distinct_more}
use Rattle.wave_lex.specs.Errors.{Diagnostic}
use Rattle.wave_lex.specs.declared.error.ParserErrorKind.TheVariants as why
use Rattle.wave_grammar.specs.LeafTokens.{name_of}
use Rattle.wave_grammar.specs.TypedGrammar.{look_up, names_of}
use Rattle.wave_grammar.proofs.Fields.Names.{is_found}
use Rattle.wave_grammar.specs.NodeTree.{NodeTree, type_of, place_of}
use Rattle.wave_grammar.specs.NodeAccessors.{node_text, node_pairs}
use Rattle.wave_grammar.specs.NodeFields.{IsLabelled, field_of, fields_at}
use Rattle.wave_grammar.specs.declared.form.NodeType.TheVariants as kind
use Rattle.wave_grammar.proofs.ByKind.Lists.{HasAt}
use Rattle.wave_grammar.proofs.ByKind.Tuples.{map_has, all_has}
use Rattle.wave_grammar.proofs.Fields.Lookup.{all_last, map_last, not_found}
use Rattle.wave_grammar.proofs.Fields.Reading.{RecordType, record_is, fields_distinct, names_are, look_has, all_from}
use Rattle.wave_grammar.proofs.ErrorSpans.Nodes.{said_here}
use Rattle.wave_grammar.specs.NodeParts.{TakesKey, TakesPart}
use Rattle.wave_leaf.specs.Reading.{IsReadAs, IsReadWhereExpected}
use Rattle.wave_leaf.specs.Faults.{IsRefusedWhateverFollows}
use Rattle.wave_read.specs.RecordParts.{AreFields, AreBegun, AreKeptAs, IsKeptAs, IsUnread, IsKeyExpected, last_key, type_expected, field_name, part_of}
use Rattle.wave_read.specs.Private.RecordParts.{IsFieldKey, IsReadBefore, IsKeyFault, with_value}
use Rattle.wave_leaf.specs.declared.fault.Fault.{Fault}
use Rattle.wave_leaf.specs.declared.fault.Fault.TheVariants as fault
use Rattle.wave_read.specs.declared.records.Field.{Field}
use Rattle.wave_read.specs.declared.records.Fields.{Fields}
use Rattle.wave_read.proofs.ReadErrors.RejectedValues.{reported_rejects}
use Rattle.wave_read.proofs.MapReading.KeyedChildren.{pairs_with_key, key_waits, pairs_with_value, none_waits, odd_waits}
use Rattle.wave_read.proofs.RecordReading.Faults.{key_rejects, unknown_rejects, value_rejects}
use Rattle.wave_read.proofs.RecordReading.Fields.{has_got, one_of_fields, part_names, same_parts, same_names, kept_more, value_kept}
use Rattle.wave_leaf.proofs.ReadErrors.HandedOn.{plain_says}

module _ {V : Type 0} (tree : V → Value) (of : V → TypeTree → Type 0) (Full : TypeTree → Type 0) (w : Order) {S : Type 0} (type_tree : S → TypeTree) (T : TypeTree) (source : List ℕ) where
  -- what is said of fields speaks of their type, of them and of what is expected alone
  pub same_fields : (children : List NodeTree) (x y : Fields S V) → y.ty ≡ x.ty → y.fields ≡ x.fields → y.expected ≡ x.expected → AreFields type_tree tree of Full w T source children x → AreFields type_tree tree of Full w T source children y
  same_fields children x y ty fields expected h = record {
    type_is = ap (λ (t : Bor S). type_tree t.now) ty ∙ h.type_is;
    of_kind = h.of_kind;
    parts = ap (λ (fs : Vec (Field S V) Global). map (part_of type_tree) fs.items) fields ∙ h.parts;
    begun = record {
      labels = h.begun.labels;
      known = subst (λ (fs : Vec (Field S V) Global). AllOf (IsOneOf (map field_name fs.items)) (names_of (fields_at source children))) (sym fields) h.begun.known;
      expected = subst (λ (fs : Vec (Field S V) Global). IsKeyExpected source fs.items (last_key children) y.expected) (sym fields) (subst (IsKeyExpected source x.fields.items (last_key children)) (sym expected) h.begun.expected);
      distinct = h.begun.distinct;
      kept = λ distinct. subst (λ (fs : Vec (Field S V) Global). AreKeptAs type_tree tree of Full w source (fields_at source children) fs.items) (sym fields) (h.begun.kept distinct);
    };
  }

  module _ (children : List NodeTree) (x : Fields S V) (h : AreFields type_tree tree of Full w T source children x) where
    -- the type is a record of these parts
    pub is_record : RecordType T (map (part_of type_tree) x.fields.items)
    is_record = record_is T (map (part_of type_tree) x.fields.items) h.of_kind h.parts

    -- the names of a type whose names are distinct
    apart_names : HasDistinctNames T → AreDistinct (map field_name x.fields.items)
    apart_names distinct = subst AreDistinct (part_names type_tree x.fields.items) (fields_distinct T (map (part_of type_tree) x.fields.items) is_record distinct).names

    -- the entries that were read are fine
    pub entries_read : HasDistinctNames T → AreReadAt w is_record.fields source (node_pairs children)
    entries_read distinct =
        let given : List (List ℕ × NodeTree) = fields_at source children in
        let own : map field_name x.fields.items ≡ field_names is_record.fields = sym (part_names type_tree x.fields.items) ∙ (ap names_of is_record.parts_are ∙ names_are is_record.fields) in
        record {
          labels = h.begun.labels;
          distinct = h.begun.distinct distinct;
          known = subst (λ (names : List (List ℕ)). AllOf (IsOneOf names) (names_of given)) own h.begun.known;
          values = all_from (IsFineIn source (λ e. FaultOfValue w is_record.fields e)) (node_pairs children) (λ i pair here e key val.
              let name : List ℕ = name_of (node_text source pair.0) in
              let named : IsFor name e = ap names_in (label_token source pair.0 e.place e.key key (all_has IsLabelled (node_pairs children) i pair h.begun.labels here)) in
              let found : look_up given name ≡ Some pair.1 = look_has given i (name, pair.1) (h.begun.distinct distinct) (map_has (field_of source) (node_pairs children) i pair here) in
              value_fine_at w is_record.fields e (subst (AllOf (λ f. IsFor f.0 e → BlamesNothing (FirstFault w w f.1 e.value))) is_record.parts_are
              (value_kept tree of Full w type_tree source given name pair.1 e x.fields.items (fields_distinct T (map (part_of type_tree) x.fields.items) is_record distinct).within (h.begun.kept distinct) found named val)));
        }

    -- the name of a field that was not read is none of those of the entries
    new_name : (i : ℕ) (f : Field S V) → slice_get x.fields.items i ≡ Some f → f.value ≡ None → HasDistinctNames T → look_up (fields_at source children) f.name.now ≡ None
    new_name i f there unread distinct =
        let given : List (List ℕ × NodeTree) = fields_at source children in
        subst (IsKeptAs tree of Full w (type_tree f.ty.now) source (look_up given f.name.now)) unread (all_has (λ (g : Field S V). IsKeptAs tree of Full w (type_tree g.ty.now) source (look_up given g.name.now) g.value) x.fields.items i f (h.begun.kept distinct) (has_got x.fields.items i f there))

    -- ---- keys

    -- the key of a field was taken
    pub key_taken : (k : NodeTree) (expected : ℕ × Bor S) → TakesKey kind.TupleSet children → IsFieldKey x.fields.items (type_of k) (node_text source k) expected → AreFields type_tree tree of Full w T source (children ++ k ∷ []) (record x { expected = Some expected })
    key_taken k expected even key =
        let b = h.begun in
        let pairs : node_pairs children ≡ node_pairs (children ++ k ∷ []) = sym (pairs_with_key children k even.0 even.1) in
        record {
          type_is = h.type_is;
          of_kind = h.of_kind;
          parts = h.parts;
          begun = record {
            labels = subst (AllOf IsLabelled) pairs b.labels;
            known = subst (λ (ps : List (NodeTree × NodeTree)). AllOf (IsOneOf (map field_name x.fields.items)) (names_of (map (field_of source) ps))) pairs b.known;
            expected = subst (λ (o : Option NodeTree). IsKeyExpected source x.fields.items o (Some expected)) (sym (key_waits children k even.0 even.1)) key;
            distinct = λ distinct. subst (λ (ps : List (NodeTree × NodeTree)). AreDistinct (names_of (map (field_of source) ps))) pairs (b.distinct distinct);
            kept = λ distinct. subst (λ (ps : List (NodeTree × NodeTree)). AreKeptAs type_tree tree of Full w source (map (field_of source) ps) x.fields.items) pairs (b.kept distinct);
          };
        }

    -- a name that was read is one of those of the entries
    read_name : (name : List ℕ) → AreKeptAs type_tree tree of Full w source (fields_at source children) x.fields.items → IsReadBefore x.fields.items name → IsOneOf (names_of (fields_at source children)) name
    read_name name kept (i, f, v, there, named, value) =
        let own : IsKeptAs tree of Full w (type_tree f.ty.now) source (look_up (fields_at source children) f.name.now) (Some v) = subst (IsKeptAs tree of Full w (type_tree f.ty.now) source (look_up (fields_at source children) f.name.now)) value (all_has (λ (g : Field S V). IsKeptAs tree of Full w (type_tree g.ty.now) source (look_up (fields_at source children) g.name.now) g.value) x.fields.items i f kept (has_got x.fields.items i f there)) in
        subst (IsOneOf (names_of (fields_at source children))) named (is_found (fields_at source children) f.name.now own.0 own.1)

    -- a key with a fault dooms the record
    pub key_rejected : (k : NodeTree) (f : Fault) → TakesKey kind.TupleSet children → IsKeyFault x.fields.items (type_of k) (place_of k) (node_text source k) f → IsRefusedWhateverFollows tree of Full in_text w T source kind.TupleSet (children ++ k ∷ []) f
    key_rejected k (fault.Part e) even (inl (apart, says)) =
        reported_rejects tree of Full in_text w T source kind.TupleSet (children ++ k ∷ []) e (λ more p. key_rejects tree of Full w T (map (part_of type_tree) x.fields.items) is_record source children more p e entries_read k even.0 even.1 (λ distinct. inl (apart, says)) (said_here k e why.InvalidType _ (λ was. cc) tt says))
    key_rejected k (fault.Whole c) even (inl (apart, reported)) = absurd reported
    key_rejected k (fault.Part e) even (inr (inr (label, before, says))) =
        reported_rejects tree of Full in_text w T source kind.TupleSet (children ++ k ∷ []) e (λ more p. key_rejects tree of Full w T (map (part_of type_tree) x.fields.items) is_record source children more p e entries_read k even.0 even.1 (λ distinct. inr (label, read_name (name_of (node_text source k)) (h.begun.kept distinct) before, says)) (said_here k e why.DuplicateField _ (λ was. cc) tt says))
    key_rejected k (fault.Whole c) even (inr (inr (label, before, reported))) = absurd reported
    key_rejected k f even (inr (inl (label, none, is))) =
        subst (IsRefusedWhateverFollows tree of Full in_text w T source kind.TupleSet (children ++ k ∷ [])) (sym is)
        (λ more p e tells. unknown_rejects tree of Full w T (map (part_of type_tree) x.fields.items) is_record source children more p e entries_read k even.0 even.1 label (subst (λ (names : List (List ℕ)). IsNoneOf names (name_of (node_text source k))) (sym (part_names type_tree x.fields.items)) none) (plain_says why.InvalidValue p e tells))

    -- ---- values

    -- the key that waits, where a value is expected
    waiting : (expected : ℕ × Bor S) → x.expected ≡ Some expected → (k : NodeTree) × (last_key children ≡ Some k) × (type_of k ≡ kind.Label) × IsUnread x.fields.items (name_of (node_text source k)) expected
    waiting expected is = by (last_key children) refl (subst (IsKeyExpected source x.fields.items (last_key children)) is h.begun.expected)
      where
        by : (o : Option NodeTree) → last_key children ≡ o → IsKeyExpected source x.fields.items o (Some expected) → (k : NodeTree) × (last_key children ≡ Some k) × (type_of k ≡ kind.Label) × IsUnread x.fields.items (name_of (node_text source k)) expected
        by None e d = absurd d
        by (Some k) e d = (k, e, d.0, d.1)

    -- the value was read at the type of the field
    expected_type : (expected : ℕ × Bor S) (n : NodeTree) (r : Result V Diagnostic) → x.expected ≡ Some expected → IsReadWhereExpected tree of Full w w (denoted type_tree (type_expected x)) source n r → IsReadAs tree of Full w w (type_tree expected.1.now) source n r
    expected_type expected n r is read = subst (λ (o : Option (ℕ × Bor S)). IsReadWhereExpected tree of Full w w (denoted type_tree (option_map (λ d. d.1) o)) source n r) is read

    -- where no key waits no value is expected
    pub no_value_alone : {A : Type 0} → TakesPart kind.TupleSet children → x.expected ≡ None → A
    no_value_alone odd is = absurd (by (last_key children) refl (subst (IsKeyExpected source x.fields.items (last_key children)) is h.begun.expected))
      where
        by : (o : Option NodeTree) → last_key children ≡ o → IsKeyExpected source x.fields.items o None → ⊥
        by None e d = odd_waits children odd.0 odd.1 e
        by (Some k) e d = d

    -- one more field was read
    begun_more : (n k : NodeTree) (v : V) (expected : ℕ × Bor S) (f : Field S V) (y : Fields S V) → last_key children ≡ Some k → type_of k ≡ kind.Label → slice_get x.fields.items expected.0 ≡ Some f → f.name.now ≡ name_of (node_text source k) → f.value ≡ None → IsReadAs tree of Full w w (type_tree f.ty.now) source n (Ok v) → y.fields.items ≡ set x.fields.items expected.0 (with_value f v) → y.expected ≡ None → AreBegun type_tree tree of Full w T source (children ++ n ∷ []) y
    begun_more n k v expected f y waits label there named unread read is none =
        let b = h.begun in
        let here : HasAt x.fields.items expected.0 f = has_got x.fields.items expected.0 f there in
        let given : List (List ℕ × NodeTree) = fields_at source children in
        let pairs : node_pairs (children ++ n ∷ []) ≡ node_pairs children ++ (k, n) ∷ [] = pairs_with_value children k n waits in
        let all : fields_at source (children ++ n ∷ []) ≡ given ++ (f.name.now, n) ∷ [] = ap (map (field_of source)) pairs ∙ (map_last (field_of source) (node_pairs children) (k, n) ∙ ap (λ (name : List ℕ). given ++ (name, n) ∷ []) (sym named)) in
        let all_names : names_of (fields_at source (children ++ n ∷ [])) ≡ names_of given ++ f.name.now ∷ [] = ap names_of all ∙ map_last (λ g. g.0) given (f.name.now, n) in
        let names : map field_name x.fields.items ≡ map field_name y.fields.items = sym (ap (map field_name) is ∙ same_names x.fields.items expected.0 f v here) in
        let new : HasDistinctNames T → look_up given f.name.now ≡ None = new_name expected.0 f there unread in
        record {
          labels = subst (AllOf IsLabelled) (sym pairs) (all_last IsLabelled (node_pairs children) (k, n) b.labels label);
          known = subst (λ (own : List (List ℕ)). AllOf (IsOneOf own) (names_of (fields_at source (children ++ n ∷ [])))) names (subst (AllOf (IsOneOf (map field_name x.fields.items))) (sym all_names) (all_last (IsOneOf (map field_name x.fields.items)) (names_of given) f.name.now b.known (one_of_fields x.fields.items expected.0 f here)));
          expected = subst (IsKeyExpected source y.fields.items (last_key (children ++ n ∷ []))) (sym none) (subst (λ (o : Option NodeTree). IsKeyExpected source y.fields.items o None) (sym (none_waits children k n waits)) tt);
          distinct = λ distinct. subst AreDistinct (sym all_names) (distinct_more (names_of given) f.name.now (b.distinct distinct) (not_found given f.name.now (new distinct)));
          kept = λ distinct. subst (λ (l : List (List ℕ × NodeTree)). AreKeptAs type_tree tree of Full w source l y.fields.items) (sym all) (subst (AreKeptAs type_tree tree of Full w source (given ++ (f.name.now, n) ∷ [])) (sym is) (kept_more tree of Full w type_tree source given n x.fields.items expected.0 f v here (apart_names distinct) (new distinct) read (b.kept distinct)));
        }

    -- a value was read
    pub value_taken : (n : NodeTree) (r : Result V Diagnostic) (v : V) (expected : ℕ × Bor S) (expectations : Option (ℕ × Bor S)) (fields : Vec (Field S V) Global) (behind : ℕ) → x.expected ≡ Some expected → r ≡ Ok v → IsReadWhereExpected tree of Full w w (denoted type_tree (type_expected x)) source n r → expectations ≡ None → ((f : Field S V) → slice_get x.fields.items expected.0 ≡ Some f → fields.items ≡ set x.fields.items expected.0 (with_value f v)) → AreFields type_tree tree of Full w T source (children ++ n ∷ []) (record x { fields = fields; behind = behind; expected = expectations })
    value_taken n r v expected expectations fields behind is built read no_expected keeps =
        let (k, waits, label, (f, there, named, typed, unread)) = waiting expected is in
        let own : IsReadAs tree of Full w w (type_tree f.ty.now) source n (Ok v) = subst (λ (t : Bor S). IsReadAs tree of Full w w (type_tree t.now) source n (Ok v)) (sym typed) (subst (IsReadAs tree of Full w w (type_tree expected.1.now) source n) built (expected_type expected n r is read)) in
        record {
          type_is = h.type_is;
          of_kind = h.of_kind;
          parts = ap (map (part_of type_tree)) (keeps f there) ∙ (same_parts type_tree x.fields.items expected.0 f v (has_got x.fields.items expected.0 f there) ∙ h.parts);
          begun = begun_more n k v expected f (record x { fields = fields; behind = behind; expected = expectations }) waits label there named unread own (keeps f there) no_expected;
        }

    -- a value was refused that was expected
    expected_refused : (n : NodeTree) (r : Result V Diagnostic) (e : Diagnostic) (expected : ℕ × Bor S) → HasFullParts Full → x.expected ≡ Some expected → r ≡ Err e → IsReadWhereExpected tree of Full w w (denoted type_tree (type_expected x)) source n r → IsRefusedWhateverFollows tree of Full in_text w T source kind.TupleSet (children ++ n ∷ []) (fault.Part e)
    expected_refused n r e expected full is built read =
        let (k, waits, label, (f, there, named, typed, unread)) = waiting expected is in
        let own : IsReadAs tree of Full w w (type_tree f.ty.now) source n (Err e) = subst (λ (t : Bor S). IsReadAs tree of Full w w (type_tree t.now) source n (Err e)) (sym typed) (subst (IsReadAs tree of Full w w (type_tree expected.1.now) source n) built (expected_type expected n r is read)) in
        let new : HasDistinctNames T → IsNoneOf (names_of (fields_at source children)) (name_of (node_text source k)) = λ distinct. subst (IsNoneOf (names_of (fields_at source children))) named (not_found (fields_at source children) f.name.now (new_name expected.0 f there unread distinct)) in
        let part : HasAt (map (part_of type_tree) x.fields.items) expected.0 (name_of (node_text source k), type_tree f.ty.now) = subst (λ (name : List ℕ). HasAt (map (part_of type_tree) x.fields.items) expected.0 (name, type_tree f.ty.now)) named (map_has (part_of type_tree) x.fields.items expected.0 f (has_got x.fields.items expected.0 f there)) in
        reported_rejects tree of Full in_text w T source kind.TupleSet (children ++ n ∷ []) e (λ more p. value_rejects tree of Full w T (map (part_of type_tree) x.fields.items) is_record source children more p e entries_read k n expected.0 (type_tree f.ty.now) full waits label new part own)

    -- a value was refused
    pub value_refused : (n : NodeTree) (r : Result V Diagnostic) (e : Diagnostic) → HasFullParts Full → TakesPart kind.TupleSet children → r ≡ Err e → IsReadWhereExpected tree of Full w w (denoted type_tree (type_expected x)) source n r → IsRefusedWhateverFollows tree of Full in_text w T source kind.TupleSet (children ++ n ∷ []) (fault.Part e)
    value_refused n r e full odd built read = by x.expected refl
      where
        by : (expected : Option (ℕ × Bor S)) → x.expected ≡ expected → IsRefusedWhateverFollows tree of Full in_text w T source kind.TupleSet (children ++ n ∷ []) (fault.Part e)
        by None is = no_value_alone odd is
        by (Some expected) is = expected_refused n r e expected full is built read
