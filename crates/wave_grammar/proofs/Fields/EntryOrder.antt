-- Records as the tokens are read: the first entry that has a fault, and at the end the first field that is left out.
use Rattle.std.proofs.Common.{ℕ, zero, suc, ◌≡◌, inl, inr, ◌++◌, List, [], ◌∷◌, length, map, sym, ap, ◌∙◌, subst}
use Rattle.std.specs.declared.ops.Range.{Range}
use Rattle.wave_wasm.specs.Lists.{AllOf, SomeOf}
use Rattle.wave_wasm.specs.Names.{IsOneOf, IsNoneOf, AreDistinct}
use Rattle.wave_wasm.specs.Types as type
use Rattle.wave_wasm.specs.Types.{TypeTree, Fields, field_names}
use Rattle.wave_lex.specs.Errors.{Diagnostic, Refusal, refusal_of}
use Rattle.wave_grammar.specs.TypedGrammar.{names_of}
use Rattle.wave_grammar.specs.SpannedTree.{PlacedEntry, SpannedTree, entry_list, span_of}
use Rattle.wave_grammar.specs.TypeErrors.{Blame, names_in, IsFor, UnknownField}
use Rattle.wave_grammar.specs.FaultOrder.{Order, in_text, BlamesNothing, OrElse, FirstOf, FaultOfKey, FaultOfEntries, FaultOfValue, LeftOut, FirstLeftOut, FirstFault}
use Rattle.wave_grammar.specs.NodeTree.{NodeTree, type_of, children_of}
use Rattle.wave_grammar.specs.Nodes.{IsNodeOf, IsTokenOf}
use Rattle.wave_grammar.specs.NodeAccessors.{node_pairs}
use Rattle.wave_grammar.specs.NodeFields.{IsLabelled, field_of, RefusesKey}
use Rattle.wave_grammar.specs.declared.form.NodeType.TheVariants as kind
use Rattle.wave_grammar.proofs.ChildNodes.Entries.{AreEntriesOf}
use Rattle.wave_grammar.proofs.ByKind.Lists.{HasAt}
use Rattle.wave_grammar.proofs.ByKind.Enums.{none_one}
use Rattle.wave_grammar.proofs.Fields.Entries.{IsBadKey, bad_here, later, as_bad, label_token, record_nodes, key_fine, apart_more, none_at_first}
use Rattle.wave_grammar.proofs.Fields.Reading.{RecordType, names_are, has_one}
use Rattle.wave_grammar.proofs.Fields.FieldOrder.{record_blame}

-- ---- one entry

-- what one entry is blamed for: its key, that it is for no field, or its value
abbrev pub EntryBlame : List (List ℕ) → (PlacedEntry → Blame) → List (List ℕ) → Range ℕ → PlacedEntry → Blame
EntryBlame known Within earlier p e = OrElse (FaultOfKey earlier e) (OrElse (UnknownField known (e ∷ []) p) (Within e))

-- the first entry that is blamed
first_entry : (known : List (List ℕ)) (Within : PlacedEntry → Blame) (earlier : List (List ℕ)) (e : PlacedEntry) (es : List PlacedEntry) (p : Range ℕ) (k : Refusal) (q : Range ℕ) → EntryBlame known Within earlier p e k q → FaultOfEntries known Within earlier (e ∷ es) p k q
first_entry known Within earlier e es p k q (inl h) = inl h
first_entry known Within earlier e es p k q (inr (keyed, inl h)) = inr (keyed, inl h)
first_entry known Within earlier e es p k q (inr (keyed, inr (own, h))) = inr (keyed, inr (own, inl h))

-- an entry for a field is not one for none
own_fine : (known : List (List ℕ)) (e : PlacedEntry) (name : List ℕ) (p : Range ℕ) → IsFor name e → IsOneOf known name → BlamesNothing (UnknownField known (e ∷ []) p)
own_fine known e name p named one k q (inl h, refused) = by (subst (SomeOf (IsNoneOf known)) named h)
  where
    by : SomeOf (IsNoneOf known) (name ∷ []) → ⊥
    by (inl none) = none_one known name none one
    by (inr none) = none
own_fine known e name p named one k q (inr h, refused) = h

-- a name that is none of the fields' is none of those of entries for fields
none_known : (known names : List (List ℕ)) (name : List ℕ) → AllOf (IsOneOf known) names → IsNoneOf known name → IsNoneOf names name
none_known known [] name all none = tt
none_known known (n ∷ names) name all none = ((λ same. none_one known name none (subst (IsOneOf known) (sym same) all.0)), none_known known names name all.1 none)

-- ---- the entries

-- the values of a pair's entry are fine
abbrev pub IsFineIn : List ℕ → (PlacedEntry → Blame) → NodeTree × NodeTree → Type 0
IsFineIn source Within pair = (e : PlacedEntry) → IsTokenOf source pair.0 e.place e.key → IsNodeOf source pair.1 e.value → BlamesNothing (Within e)

-- labels of distinct names of the fields, whose values are fine
pub record AreFine (names : List (List ℕ)) (Within : PlacedEntry → Blame) (source : List ℕ) (pairs : List (NodeTree × NodeTree)) : Type 0 where
  pub labels : AllOf IsLabelled pairs
  pub distinct : AreDistinct (names_of (map (field_of source) pairs))
  pub known : AllOf (IsOneOf names) (names_of (map (field_of source) pairs))
  pub values : AllOf (IsFineIn source Within) pairs

module _ (names : List (List ℕ)) (Within : PlacedEntry → Blame) (source : List ℕ) where
  -- without the first
  fine_behind : (pair : NodeTree × NodeTree) (pairs : List (NodeTree × NodeTree)) → AreFine names Within source (pair ∷ pairs) → AreFine names Within source pairs
  fine_behind pair pairs h = record { labels = h.labels.1; distinct = h.distinct.1; known = h.known.1; values = h.values.1 }

  -- the first of them and those behind it, where its name and theirs are none of the earlier ones
  more_entries : (pair : NodeTree × NodeTree) (pairs : List (NodeTree × NodeTree)) (e : PlacedEntry) (es : List PlacedEntry) (earlier : List (List ℕ)) (p : Range ℕ) (k : Refusal) (q : Range ℕ) → AreFine names Within source (pair ∷ pairs) → IsTokenOf source pair.0 e.place e.key → IsNodeOf source pair.1 e.value → IsNoneOf earlier (field_of source pair).0 → FaultOfEntries names Within ((field_of source pair).0 ∷ earlier) es p k q → FaultOfEntries names Within earlier (e ∷ es) p k q
  more_entries pair pairs e es earlier p k q h key val none fault =
      let named : IsFor (field_of source pair).0 e = ap names_in (label_token source pair.0 e.place e.key key h.labels.0) in
      inr (key_fine earlier e (field_of source pair).0 named none, inr (own_fine names e (field_of source pair).0 p named h.known.0, inr (h.values.0 e key val, subst (λ (ns : List (List ℕ)). FaultOfEntries names Within (ns ++ earlier) es p k q) (sym named) fault)))

  -- entries that are fine have no fault
  pub entries_fine : (pairs : List (NodeTree × NodeTree)) (es : List PlacedEntry) (earlier : List (List ℕ)) (p : Range ℕ) → AreFine names Within source pairs → AreEntriesOf source pairs es → AllOf (IsNoneOf earlier) (names_of (map (field_of source) pairs)) → BlamesNothing (FaultOfEntries names Within earlier es p)
  entries_fine [] [] earlier p h nodes apart k q g = g
  entries_fine [] (e ∷ es) earlier p h nodes apart k q g = absurd nodes
  entries_fine (pair ∷ pairs) [] earlier p h nodes apart k q g = g
  entries_fine (pair ∷ pairs) (e ∷ es) earlier p h nodes apart k q (inl g) = key_fine earlier e (field_of source pair).0 (ap names_in (label_token source pair.0 e.place e.key nodes.0 h.labels.0)) apart.0 k q g
  entries_fine (pair ∷ pairs) (e ∷ es) earlier p h nodes apart k q (inr (keyed, inl g)) = own_fine names e (field_of source pair).0 p (ap names_in (label_token source pair.0 e.place e.key nodes.0 h.labels.0)) h.known.0 k q g
  entries_fine (pair ∷ pairs) (e ∷ es) earlier p h nodes apart k q (inr (keyed, inr (own, inl g))) = h.values.0 e nodes.0 nodes.1 k q g
  entries_fine (pair ∷ pairs) (e ∷ es) earlier p h nodes apart k q (inr (keyed, inr (own, inr (read, g)))) =
      let name = (field_of source pair).0 in
      let named : IsFor name e = ap names_in (label_token source pair.0 e.place e.key nodes.0 h.labels.0) in
      entries_fine pairs es (name ∷ earlier) p (fine_behind pair pairs h) nodes.2 (apart_more (names_of (map (field_of source) pairs)) earlier name apart.1 h.distinct.0) k q (subst (λ (ns : List (List ℕ)). FaultOfEntries names Within (ns ++ earlier) es p k q) named g)

  -- the first entry that is blamed, behind fine ones; P says what is wrong with it, where these names stand before it and then those
  entries_fault : (P : List (List ℕ) → List (List ℕ) → Type 0) (x : PlacedEntry) (p : Range ℕ) (k : Refusal) (q : Range ℕ) → ((name : List ℕ) (before earlier : List (List ℕ)) → P (name ∷ before) earlier → P before (name ∷ earlier)) → ((earlier : List (List ℕ)) → P [] earlier → EntryBlame names Within earlier p x k q) → (before : List (NodeTree × NodeTree)) (entry : NodeTree × NodeTree) (behind : List (NodeTree × NodeTree)) (es : List PlacedEntry) (earlier : List (List ℕ)) → AreFine names Within source before → AreEntriesOf source (before ++ entry ∷ behind) es → HasAt es (length before) x → AllOf (IsNoneOf earlier) (names_of (map (field_of source) before)) → P (names_of (map (field_of source) before)) earlier → FaultOfEntries names Within earlier es p k q
  entries_fault P x p k q next here before entry behind [] earlier h nodes at apart wrong = absurd at
  entries_fault P x p k q next here [] entry behind (e ∷ es) earlier h nodes at apart wrong = first_entry names Within earlier e es p k q (subst (λ (y : PlacedEntry). EntryBlame names Within earlier p y k q) (sym at) (here earlier wrong))
  entries_fault P x p k q next here (pair ∷ before) entry behind (e ∷ es) earlier h nodes at apart wrong =
      let name = (field_of source pair).0 in
      more_entries pair before e es earlier p k q h nodes.0 nodes.1 apart.0
      (entries_fault P x p k q next here before entry behind es (name ∷ earlier) (fine_behind pair before h) nodes.2 at (apart_more (names_of (map (field_of source) before)) earlier name apart.1 h.distinct.0) (next name (names_of (map (field_of source) before)) earlier wrong))

-- ---- the record

-- the values are fine at the types of the fields
abbrev pub AreReadAt : Order → Fields → List ℕ → List (NodeTree × NodeTree) → Type 0
AreReadAt w fs = AreFine (field_names fs) (λ e. FaultOfValue w fs e)

-- the value of an entry at the type of its field
pub value_fault : (w : Order) (fs : Fields) (i : ℕ) (name : List ℕ) (E : TypeTree) (e : PlacedEntry) (k : Refusal) (q : Range ℕ) → AreDistinct (names_of (type.field_list fs)) → HasAt (type.field_list fs) i (name, E) → IsFor name e → FirstFault w w E e.value k q → FaultOfValue w fs e k q
value_fault w type.no_fields i name E e k q distinct here named fault = absurd here
value_fault w (type.field other T more) zero name E e k q distinct here named fault =
    inl (subst (λ (f : List ℕ × TypeTree). IsFor f.0 e × FirstFault w w f.1 e.value k q) (sym here) (named, fault))
value_fault w (type.field other T more) (suc i) name E e k q distinct here named fault =
    inr ((λ is. none_one (names_of (type.field_list more)) other distinct.0 (subst (IsOneOf (names_of (type.field_list more))) (same_name name other (sym named ∙ is)) (has_one (type.field_list more) i (name, E) here))), value_fault w more i name E e k q distinct.1 here named fault)
  where
    same_name : (a b : List ℕ) → a ∷ [] ≡ b ∷ [] → a ≡ b
    same_name a b e = cc

-- the value of an entry is fine where it is at the type of each field that the entry is for
pub value_fine_at : (w : Order) (fs : Fields) (e : PlacedEntry) → AllOf (λ f. IsFor f.0 e → BlamesNothing (FirstFault w w f.1 e.value)) (type.field_list fs) → BlamesNothing (FaultOfValue w fs e)
value_fine_at w type.no_fields e all k q h = h
value_fine_at w (type.field name T more) e all k q (inl h) = all.0 h.0 k q h.1
value_fine_at w (type.field name T more) e all k q (inr h) = value_fine_at w more e all.1 k q h.1

-- the first field that is left out
left_out_first : (fs : Fields) (es : List PlacedEntry) (p : Range ℕ) (k : Refusal) (q : Range ℕ) → FirstOf (λ f. LeftOut f.0 f.1 es p) (type.field_list fs) k q → FirstLeftOut fs es p k q
left_out_first type.no_fields es p k q h = h
left_out_first (type.field name T more) es p k q (inl h) = inl h
left_out_first (type.field name T more) es p k q (inr h) = inr (h.0, left_out_first more es p k q h.1)

module _ (w : Order) (T : TypeTree) (parts : List (List ℕ × TypeTree)) (source : List ℕ) (n : NodeTree) (t : SpannedTree) (e : Diagnostic) (is : RecordType T parts) (stands : IsNodeOf source n t) (set : type_of n ≡ kind.TupleSet) where
  module _ (before : List (NodeTree × NodeTree)) (entry : NodeTree × NodeTree) (behind : List (NodeTree × NodeTree)) (x : PlacedEntry) (cut : node_pairs (children_of n) ≡ before ++ entry ∷ behind) (fine : AreReadAt w is.fields source before) (here : HasAt (entry_list (record_nodes source n t stands set).given) (length before) x) where
    blamed_for : (P : List (List ℕ) → List (List ℕ) → Type 0) → ((name : List ℕ) (names earlier : List (List ℕ)) → P (name ∷ names) earlier → P names (name ∷ earlier)) → ((earlier : List (List ℕ)) → P [] earlier → EntryBlame (field_names is.fields) (λ y. FaultOfValue w is.fields y) earlier (span_of t) x (refusal_of e) e.span) → P (names_of (map (field_of source) before)) [] → FirstFault in_text w T t (refusal_of e) e.span
    blamed_for P next at wrong =
        let inner = record_nodes source n t stands set in
        record_blame in_text w T parts source n t e is stands set
        (inl (entries_fault (field_names is.fields) (λ y. FaultOfValue w is.fields y) source P x (span_of t) (refusal_of e) e.span next at before entry behind (entry_list inner.given) [] fine (subst (λ (ps : List (NodeTree × NodeTree)). AreEntriesOf source ps (entry_list inner.given)) cut inner.nodes) here (none_at_first (names_of (map (field_of source) before))) wrong))

    -- a key that is refused, behind entries that were read
    pub key_blamed : IsTokenOf source entry.0 x.place x.key → RefusesKey source (names_of (map (field_of source) before)) entry.0 e → FirstFault in_text w T t (refusal_of e) e.span
    key_blamed key refused =
        let names = names_of (map (field_of source) before) in
        blamed_for (λ ns earlier. IsBadKey source ns earlier entry.0 e) (λ name ns earlier bad. later source name ns earlier entry.0 e bad) (λ earlier bad. inl (bad_here source entry x earlier e key bad)) (as_bad source names entry.0 e refused)

    -- a label of a new name, for no field or whose value is refused
    pub entry_blamed : (name : List ℕ) → IsFor name x → IsNoneOf (names_of (map (field_of source) before)) name → OrElse (UnknownField (field_names is.fields) (x ∷ []) (span_of t)) (FaultOfValue w is.fields x) (refusal_of e) e.span → FirstFault in_text w T t (refusal_of e) e.span
    entry_blamed name named new fault =
        blamed_for (λ ns earlier. IsNoneOf ns name × IsNoneOf earlier name) (λ other ns earlier none. (none.0.1, (none.0.0, none.1))) (λ earlier none. inr (key_fine earlier x name named none.1, fault)) (new, tt)

    -- so is a label for no field
    pub unknown_label : (name : List ℕ) → IsFor name x → IsNoneOf (field_names is.fields) name → UnknownField (field_names is.fields) (x ∷ []) (span_of t) (refusal_of e) e.span → FirstFault in_text w T t (refusal_of e) e.span
    unknown_label name named none unknown = entry_blamed name named (none_known (field_names is.fields) (names_of (map (field_of source) before)) name fine.known none) (inl unknown)

    -- so is a value at the type of its field
    pub value_blamed : (name : List ℕ) (i : ℕ) (E : TypeTree) → IsFor name x → IsNoneOf (names_of (map (field_of source) before)) name → AreDistinct (names_of parts) → HasAt parts i (name, E) → FirstFault w w E x.value (refusal_of e) e.span → FirstFault in_text w T t (refusal_of e) e.span
    value_blamed name i E named new distinct typed fault =
        let one : IsOneOf (field_names is.fields) name = subst (λ (ns : List (List ℕ)). IsOneOf ns name) (ap names_of is.parts_are ∙ names_are is.fields) (has_one parts i (name, E) typed) in
        entry_blamed name named new (inr (own_fine (field_names is.fields) x name (span_of t) named one, value_fault w is.fields i name E x (refusal_of e) e.span (subst (λ (ps : List (List ℕ × TypeTree)). AreDistinct (names_of ps)) is.parts_are distinct) (subst (λ (ps : List (List ℕ × TypeTree)). HasAt ps i (name, E)) is.parts_are typed) named fault))

  -- the first field that is left out, where all entries were read
  pub left_out_blamed : AreReadAt w is.fields source (node_pairs (children_of n)) → FirstOf (λ f. LeftOut f.0 f.1 (entry_list (record_nodes source n t stands set).given) (span_of t)) parts (refusal_of e) e.span → FirstFault in_text w T t (refusal_of e) e.span
  left_out_blamed fine out =
      let inner = record_nodes source n t stands set in
      let es = entry_list inner.given in
      record_blame in_text w T parts source n t e is stands set
      (inr (entries_fine (field_names is.fields) (λ y. FaultOfValue w is.fields y) source (node_pairs (children_of n)) es [] (span_of t) fine inner.nodes (none_at_first (names_of (map (field_of source) (node_pairs (children_of n))))), left_out_first is.fields es (span_of t) (refusal_of e) e.span (subst (λ (ps : List (List ℕ × TypeTree)). FirstOf (λ f. LeftOut f.0 f.1 es (span_of t)) ps (refusal_of e) e.span) is.parts_are out)))
