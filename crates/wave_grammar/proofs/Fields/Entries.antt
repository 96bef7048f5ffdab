-- The entries of a record, by their names, and the faults of its keys.
use Rattle.std.proofs.Common.{ℕ, ◌≡◌, ◌≢◌, ◌⊎◌, inl, inr, ◌<◌, Bool, true, false, if◌then◌else◌, List, [], ◌∷◌, ◌++◌, length, map, Option, Some, None, refl, sym, ap, ◌∙◌, subst}
use Rattle.std.specs.declared.ops.Range.{Range}
use Rattle.std.specs.Str.{bytes_eq}
use Rattle.std.proofs.lemmas.Slice.Eq.{bytes_eq-Decides}
use Rattle.wave_wasm.specs.Lists.{AllOf, SomeOf}
use Rattle.wave_wasm.specs.Names.{AreDistinct, IsOneOf, IsNoneOf}
use Rattle.wave_wasm.specs.Types as type
use Rattle.wave_wasm.specs.Types.{Fields, field_names}
use Rattle.wave_lex.specs.Errors.{Says, Diagnostic, Refusal, refusal_of, field_label_expected, repeated_name}
use Rattle.wave_lex.specs.declared.error.ParserErrorKind.TheVariants.{InvalidType, DuplicateField, OutOfMemory}
use Rattle.wave_grammar.specs.Token.{Token}
use Rattle.wave_grammar.specs.Token as token
use Rattle.wave_grammar.specs.LeafTokens.{name_of}
use Rattle.wave_grammar.specs.FaultOrder.{Order, by_type, BlamesNothing, OrElse, FaultOfKey, InOrder, FaultOfEntries, FirstLeftOut, FaultOfKeys, FaultOfFields, FaultOfValue, FirstFault}
use Rattle.wave_grammar.specs.TypedGrammar.{look_up, names_of}
use Rattle.wave_grammar.specs.SpannedTree.{SpannedTree, SpannedShape, at, one, label, entries, no_fields, empty_braces, no_placed, PlacedEntries, no_entries, PlacedEntry, entry_list, slice, span_of, shape_of}
use Rattle.wave_grammar.specs.TypeErrors.{Blame, IsRefusalOf, RefusesWith, OfForm, names_in, record_in, KeyFault, UnknownField, RepeatedField, IsFor, MissingField, FaultOfField}
use Rattle.wave_grammar.specs.NodeTree.{NodeTree, type_of, place_of, children_of}
use Rattle.wave_grammar.specs.Nodes.{placed_of, key_of, IsNodeOf, IsTokenOf}
use Rattle.wave_grammar.specs.NodeAccessors.{node_text, node_pairs}
use Rattle.wave_grammar.specs.NodeFields.{IsLabelled, field_of, RefusesKey, RefusesFields}
use Rattle.wave_grammar.proofs.ChildNodes.Inside.{From, Inside, inside, some_is, key_place}
use Rattle.wave_grammar.proofs.ChildNodes.Entries.{AreEntriesOf, IsOfMap, map_nodes}
use Rattle.wave_grammar.proofs.ByKind.Enums.{label_node, none_one}
use Rattle.wave_grammar.proofs.ByKind.Leaves.{at_tree, said}
use Rattle.wave_grammar.proofs.Fields.Lookup.{not_found}
use Rattle.wave_grammar.specs.declared.form.NodeType.{NodeType}
use Rattle.wave_grammar.specs.declared.form.NodeType.TheVariants as kind

-- ---- keys

key_label : (t : SpannedTree) (p : Range ℕ) (key : Token) (r : Range ℕ) (w : List ℕ) → shape_of t ≡ label r w no_placed → key_of t ≡ Some (p, key) → key ≡ token.label w
key_label (at q s) p key r w e is =
    let found : Some (r, token.label w) ≡ Some (p, key) = subst (λ (x : SpannedShape). key_of (at q x) ≡ Some (p, key)) e is in
    sym (ap (λ (x : Range ℕ × Token). x.1) (some_is (r, token.label w) (p, key) found))

-- the key of a label's node is that label
pub label_token : (source : List ℕ) (k : NodeTree) (p : Range ℕ) (key : Token) → IsTokenOf source k p key → type_of k ≡ kind.Label → key ≡ token.label (node_text source k)
label_token source k p key h ty = key_label h.0.0 p key (place_of k) (node_text source k) (label_node source k h.0.0 h.0.1 ty) h.0.2

key_other : (source : List ℕ) (k : NodeTree) (t : SpannedTree) (p : Range ℕ) (key : Token) → Inside source k t → key_of t ≡ Some (p, key) → type_of k ≢ kind.Label → names_in key ≡ []
key_other source k (at q (label r w no_placed)) p key i e apart = absurd (apart i.from.0)
key_other source k (at q (one (token.number w))) p key i e apart = ap (λ (x : Range ℕ × Token). names_in x.1) (sym (some_is (q, token.number w) (p, key) e))
key_other source k (at q (one (token.char w))) p key i e apart = ap (λ (x : Range ℕ × Token). names_in x.1) (sym (some_is (q, token.char w) (p, key) e))
key_other source k (at q (one (token.string w))) p key i e apart = ap (λ (x : Range ℕ × Token). names_in x.1) (sym (some_is (q, token.string w) (p, key) e))
key_other source k (at q (one (token.multiline w))) p key i e apart = ap (λ (x : Range ℕ × Token). names_in x.1) (sym (some_is (q, token.multiline w) (p, key) e))
key_other source k _ p key i e apart = absurd (cc)

-- the key of another node gives no name
other_token : (source : List ℕ) (k : NodeTree) (p : Range ℕ) (key : Token) → IsTokenOf source k p key → type_of k ≢ kind.Label → names_in key ≡ []
other_token source k p key h apart = key_other source k h.0.0 p key (inside source k h.0.0 h.0.1) h.0.2 apart

token_place : (source : List ℕ) (k : NodeTree) (p : Range ℕ) (key : Token) → IsTokenOf source k p key → p ≡ place_of k
token_place source k p key h = key_place source k h.0.0 p key (inside source k h.0.0 h.0.1) h.0.2

-- ---- fields and entries

-- each field is that of an entry of its name
abbrev pub AreFieldsOf : List ℕ → List (List ℕ × NodeTree) → List PlacedEntry → Type 0
AreFieldsOf source [] [] = Unit {0}
AreFieldsOf source (f ∷ fs) (e ∷ es) = IsFor f.0 e × IsNodeOf source f.1 e.value × AreFieldsOf source fs es
AreFieldsOf source _ _ = ⊥

-- the fields of entries whose keys are labels
pub fields_of_entries : (source : List ℕ) (ps : List (NodeTree × NodeTree)) (es : List PlacedEntry) → AllOf IsLabelled ps → AreEntriesOf source ps es → AreFieldsOf source (map (field_of source) ps) es
fields_of_entries source [] [] labels h = tt
fields_of_entries source [] (e ∷ es) labels h = absurd h
fields_of_entries source (p ∷ ps) [] labels h = absurd h
fields_of_entries source (p ∷ ps) (e ∷ es) labels h = (ap names_in (label_token source p.0 e.place e.key h.0 labels.0), h.1, fields_of_entries source ps es labels.1 h.2)

same_name : (a b : List ℕ) → a ∷ [] ≡ b ∷ [] → a ≡ b
same_name a b e = cc

-- the name of an entry is one of those of the fields
pub for_one : (source : List ℕ) (fs : List (List ℕ × NodeTree)) (es : List PlacedEntry) (name : List ℕ) → AreFieldsOf source fs es → SomeOf (IsFor name) es → IsOneOf (names_of fs) name
for_one source [] [] name h some = some
for_one source [] (e ∷ es) name h some = absurd h
for_one source (f ∷ fs) [] name h some = absurd h
for_one source (f ∷ fs) (e ∷ es) name h (inl is) = inl (same_name name f.0 (sym is ∙ h.0))
for_one source (f ∷ fs) (e ∷ es) name h (inr some) = inr (for_one source fs es name h.2 some)

-- the entry of a field that is found
pub entry_found : (source : List ℕ) (fs : List (List ℕ × NodeTree)) (es : List PlacedEntry) (name : List ℕ) (n : NodeTree) → AreFieldsOf source fs es → look_up fs name ≡ Some n → SomeOf (λ e. IsFor name e × IsNodeOf source n e.value) es
entry_found source [] es name n h is = absurd (cc)
entry_found source (f ∷ fs) [] name n h is = absurd h
entry_found source (f ∷ fs) (e ∷ es) name n h is = by (bytes_eq name f.0) refl (entry_found source fs es name n h.2) is
  where
    by : (b : Bool) → bytes_eq name f.0 ≡ b → (look_up fs name ≡ Some n → SomeOf (λ e. IsFor name e × IsNodeOf source n e.value) es) → (if b then Some f.1 else look_up fs name) ≡ Some n → (IsFor name e × IsNodeOf source n e.value) ⊎ SomeOf (λ e. IsFor name e × IsNodeOf source n e.value) es
    by true same more is = inl (h.0 ∙ ap (λ (w : List ℕ). w ∷ []) (sym ((bytes_eq-Decides name f.0).0 same)), subst (λ (m : NodeTree). IsNodeOf source m e.value) (some_is f.1 n is) h.1)
    by false same more is = inr (more is)

-- no entry is for a name that is not found
pub none_found : (source : List ℕ) (fs : List (List ℕ × NodeTree)) (es : List PlacedEntry) (name : List ℕ) → AreFieldsOf source fs es → look_up fs name ≡ None → SomeOf (IsFor name) es → ⊥
none_found source fs es name h e some = none_one (names_of fs) name (not_found fs name e) (for_one source fs es name h some)

-- what holds of some of them, and follows
pub some_map : {A : Type 0} (P Q : A → Type 0) (xs : List A) → ((x : A) → P x → Q x) → SomeOf P xs → SomeOf Q xs
some_map P Q [] f h = h
some_map P Q (x ∷ xs) f (inl p) = inl (f x p)
some_map P Q (x ∷ xs) f (inr h) = inr (some_map P Q xs f h)

-- ---- the node

-- the entries of a record's node
pub record RecordNodes (source : List ℕ) (n : NodeTree) (t : SpannedTree) : Type 0 where
  pub given : PlacedEntries
  pub shape : (shape_of t ≡ no_fields) × (given ≡ no_entries) ⊎ (shape_of t ≡ entries given) × (0 < length (entry_list given))
  pub taken : record_in (shape_of t) ≡ Some (entry_list given)
  pub nodes : AreEntriesOf source (node_pairs (children_of n)) (entry_list given)

empty_from : (ty : NodeType) (p : Range ℕ) (text : List ℕ) (cs : List SpannedTree) (s : SpannedShape) → From ty p text cs s → s ≡ empty_braces → ty ≡ kind.EmptySet
empty_from ty p text cs s f e = (subst (From ty p text cs) e f).0

of_record : (s : SpannedShape) (es : PlacedEntries) → (s ≢ empty_braces) → IsOfMap s es → (s ≡ no_fields) × (es ≡ no_entries) ⊎ (s ≡ entries es) × (0 < length (entry_list es))
of_record s es apart (inl (inl e, none)) = absurd (apart e)
of_record s es apart (inl (inr e, none)) = inl (e, none)
of_record s es apart (inr h) = inr h

taken_as : (s : SpannedShape) (es : PlacedEntries) → (s ≡ no_fields) × (es ≡ no_entries) ⊎ (s ≡ entries es) × (0 < length (entry_list es)) → record_in s ≡ Some (entry_list es)
taken_as s es (inl h) = rw (h.0, h.1) refl
taken_as s es (inr h) = rw h.0 refl

pub record_nodes : (source : List ℕ) (n : NodeTree) (t : SpannedTree) → IsNodeOf source n t → type_of n ≡ kind.TupleSet → RecordNodes source n t
record_nodes source n t h set =
    let inner = map_nodes source n t h (inl set) in
    let i = inside source n t h.0 in
    let shape = of_record (shape_of t) inner.given (λ e. cc (sym set ∙ empty_from (type_of n) (place_of n) (slice source (place_of n)) i.children (shape_of t) i.from e)) inner.shape in
    record { given = inner.given; shape = shape; taken = taken_as (shape_of t) inner.given shape; nodes = inner.nodes }

-- ---- faults

-- what a record's fault is
abbrev pub RecordFault : Fields → Range ℕ → List PlacedEntry → Refusal → Range ℕ → Type 0
RecordFault fs p es k q = KeyFault es k q ⊎ UnknownField (field_names fs) es p k q ⊎ RepeatedField [] es k q ⊎ MissingField fs es p k q ⊎ FaultOfField fs es k q

-- the fault of a record that is answered
abbrev pub RecordBlame : Order → Order → Fields → Range ℕ → List PlacedEntry → Blame
RecordBlame o w fs p es =
    InOrder o
    (OrElse (FaultOfEntries (field_names fs) (λ e. FaultOfValue w fs e) [] es p) (FirstLeftOut fs es p))
    (OrElse (FaultOfKeys [] es) (OrElse (FaultOfFields w fs es p) (UnknownField (field_names fs) es p)))

-- a fault of the entries is that of the record
pub within_record : (o w : Order) (fs : Fields) (t : SpannedTree) (es : List PlacedEntry) (k : Refusal) (q : Range ℕ) → record_in (shape_of t) ≡ Some es → RecordBlame o w fs (span_of t) es k q → FirstFault o w (type.record_type fs) t k q
within_record o w fs t es k q e fault = subst (λ (f : Option (List PlacedEntry)). OfForm f (span_of t) (RecordBlame o w fs (span_of t)) k q) (sym e) fault

pub not_record : (ty : NodeType) (p : Range ℕ) (text : List ℕ) (cs : List SpannedTree) (s : SpannedShape) → From ty p text cs s → ty ≢ kind.TupleSet → record_in s ≡ None
not_record ty p text cs (entries es) f apart = absurd (apart f.0)
not_record ty p text cs no_fields f apart = absurd (apart f.0)
not_record ty p text cs _ f apart = refl

-- a node that is no record
pub other_fault : (o w : Order) (fs : Fields) (source : List ℕ) (n : NodeTree) (t : SpannedTree) (k : Refusal) (q : Range ℕ) → placed_of source n ≡ Some t → type_of n ≢ kind.TupleSet → IsRefusalOf InvalidType (place_of n) k q → FirstFault o w (type.record_type fs) t k q
other_fault o w fs source n t k q e apart refused =
    let i = inside source n t e in
    subst (λ (f : Option (List PlacedEntry)). OfForm f (span_of t) (RecordBlame o w fs (span_of t)) k q) (sym (not_record (type_of n) (place_of n) (slice source (place_of n)) i.children (shape_of t) i.from apart)) (at_tree InvalidType (place_of n) (span_of t) k q i.place refused)

-- names that are none of the earlier ones are none of them and another one
pub apart_more : (names earlier : List (List ℕ)) (name : List ℕ) → AllOf (IsNoneOf earlier) names → IsNoneOf names name → AllOf (IsNoneOf (name ∷ earlier)) names
apart_more [] earlier name h none = tt
apart_more (n ∷ names) earlier name h none = ((λ e. none.0 (sym e), h.0), apart_more names earlier name h.1 none.1)

-- names are none of none
pub none_at_first : (names : List (List ℕ)) → AllOf (IsNoneOf []) names
none_at_first [] = tt
none_at_first (n ∷ names) = (tt, none_at_first names)

-- a label of a name that no earlier key has is fine
pub key_fine : (earlier : List (List ℕ)) (e : PlacedEntry) (name : List ℕ) → IsFor name e → IsNoneOf earlier name → BlamesNothing (FaultOfKey earlier e)
key_fine earlier e name named none k q (inl h) = cc (sym h.0 ∙ named)
key_fine earlier e name named none k q (inr h) = one (subst (SomeOf (λ n. IsOneOf earlier n × RefusesWith DuplicateField (Some (repeated_name n)) e.place k q)) named h)
  where
    one : SomeOf (λ n. IsOneOf earlier n × RefusesWith DuplicateField (Some (repeated_name n)) e.place k q) (name ∷ []) → ⊥
    one (inl old) = none_one earlier name none old.0
    one (inr old) = old

-- the name is one of those, or of the earlier ones
abbrev pub IsOld : List (List ℕ) → List (List ℕ) → List ℕ → Type 0
IsOld names earlier name = IsOneOf names name ⊎ IsOneOf earlier name

-- no label; or one of an old name
abbrev pub IsBadKey : List ℕ → List (List ℕ) → List (List ℕ) → NodeTree → Diagnostic → Type 0
IsBadKey source names earlier key e =
    (type_of key ≢ kind.Label) × Says e InvalidType (place_of key) (Some field_label_expected)
    ⊎ (type_of key ≡ kind.Label) × IsOld names earlier (name_of (node_text source key))
    × Says e DuplicateField (place_of key) (Some (repeated_name (name_of (node_text source key))))

-- it is a fault behind the earlier ones
pub bad_here : (source : List ℕ) (entry : NodeTree × NodeTree) (x : PlacedEntry) (earlier : List (List ℕ)) (e : Diagnostic) → IsTokenOf source entry.0 x.place x.key → IsBadKey source [] earlier entry.0 e → FaultOfKey earlier x (refusal_of e) e.span
bad_here source entry x earlier e token (inl (apart, says)) =
    inl (other_token source entry.0 x.place x.key token apart, at_tree InvalidType (place_of entry.0) x.place (refusal_of e) e.span (token_place source entry.0 x.place x.key token) (says.is, says.stands))
bad_here source entry x earlier e token (inr (labelled, inl old, says)) = absurd old
bad_here source entry x earlier e token (inr (labelled, inr old, says)) =
    let named : names_in x.key ≡ name_of (node_text source entry.0) ∷ [] = ap names_in (label_token source entry.0 x.place x.key token labelled) in
    inr (subst (SomeOf (λ name. IsOneOf earlier name × RefusesWith DuplicateField (Some (repeated_name name)) x.place (refusal_of e) e.span)) (sym named) (inl (old, at_tree DuplicateField (place_of entry.0) x.place (refusal_of e) e.span (token_place source entry.0 x.place x.key token) (says.is, says.stands))))

-- it stays one where the first name is an earlier one
pub later : (source : List ℕ) (name : List ℕ) (names earlier : List (List ℕ)) (key : NodeTree) (e : Diagnostic) → IsBadKey source (name ∷ names) earlier key e → IsBadKey source names (name ∷ earlier) key e
later source name names earlier key e (inl h) = inl h
later source name names earlier key e (inr (labelled, inl (inl is), says)) = inr (labelled, inr (inl is), says)
later source name names earlier key e (inr (labelled, inl (inr old), says)) = inr (labelled, inl old, says)
later source name names earlier key e (inr (labelled, inr old, says)) = inr (labelled, inr (inr old), says)

keys_fault : (source : List ℕ) (before : List (NodeTree × NodeTree)) (entry : NodeTree × NodeTree) (behind : List (NodeTree × NodeTree)) (es : List PlacedEntry) (earlier : List (List ℕ)) (e : Diagnostic) → AreEntriesOf source (before ++ entry ∷ behind) es → AllOf IsLabelled before → AreDistinct (names_of (map (field_of source) before)) → AllOf (IsNoneOf earlier) (names_of (map (field_of source) before)) → IsBadKey source (names_of (map (field_of source) before)) earlier entry.0 e → FaultOfKeys earlier es (refusal_of e) e.span
keys_fault source [] entry behind [] earlier e h labels distinct apart bad = absurd h
keys_fault source [] entry behind (x ∷ es) earlier e h labels distinct apart bad = inl (bad_here source entry x earlier e h.0 bad)
keys_fault source (p ∷ before) entry behind [] earlier e h labels distinct apart bad = absurd h
keys_fault source (p ∷ before) entry behind (x ∷ es) earlier e h labels distinct apart bad =
    let name = name_of (node_text source p.0) in
    let named : names_in x.key ≡ name ∷ [] = ap names_in (label_token source p.0 x.place x.key h.0 labels.0) in
    inr (
      key_fine earlier x name named apart.0,
      subst (λ (ns : List (List ℕ)). FaultOfKeys (ns ++ earlier) es (refusal_of e) e.span) (sym named)
          (keys_fault source before entry behind es (name ∷ earlier) e h.2 labels.1 distinct.1 (apart_more (names_of (map (field_of source) before)) earlier name apart.1 distinct.0) (later source name (names_of (map (field_of source) before)) earlier entry.0 e bad)),
    )

-- a key that is refused is one
pub as_bad : (source : List ℕ) (names : List (List ℕ)) (key : NodeTree) (e : Diagnostic) → RefusesKey source names key e → IsBadKey source names [] key e
as_bad source names key e (inl h) = inl h
as_bad source names key e (inr (labelled, old, says)) = inr (labelled, inl old, says)

-- as the type is gone through a refusal of a record's node or of its keys is out of memory or its fault
pub fields_blame : (w : Order) (fs : Fields) (source : List ℕ) (n : NodeTree) (t : SpannedTree) (e : Diagnostic) → IsNodeOf source n t → RefusesFields source n e → (e.kind ≡ OutOfMemory) ⊎ FirstFault by_type w (type.record_type fs) t (refusal_of e) e.span
fields_blame w fs source n t e h (inl memory) = inl memory
fields_blame w fs source n t e h (inr (inl other)) = inr (other_fault by_type w fs source n t (refusal_of e) e.span h.0 other.0 (said other.1))
fields_blame w fs source n t e h (inr (inr r)) =
    let inner = record_nodes source n t h r.is_set in
    let names = names_of (map (field_of source) r.before) in
    inr (within_record by_type w fs t (entry_list inner.given) (refusal_of e) e.span inner.taken
    (inl (keys_fault source r.before r.entry r.behind (entry_list inner.given) [] e (subst (λ (ps : List (NodeTree × NodeTree)). AreEntriesOf source ps (entry_list inner.given)) r.entries inner.nodes) r.labels r.distinct (none_at_first names) (as_bad source names r.entry.0 e r.refused))))
