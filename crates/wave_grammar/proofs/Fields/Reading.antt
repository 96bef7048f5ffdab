-- Records: fields that are read each at its own type.
use Rattle.std.proofs.Common.{ℕ, zero, suc, ◌≡◌, ◌⊎◌, inl, inr, ◌<◌, Bool, true, false, if◌then◌else◌, List, [], ◌∷◌, length, map, Option, Some, None, Bor, Result, Ok, Err, IfOk, IfErr, refl, sym, ap, ◌∙◌, subst, arith}
use Rattle.std.specs.List as std_list
use Rattle.std.proofs.lemmas.List.Sorted.{IsPermutation-refl, All-permutation}
use Rattle.std.specs.Str.{bytes_eq}
use Rattle.std.proofs.lemmas.Slice.Eq.{bytes_eq-Decides}
use Rattle.wave_wasm.specs.Lists.{AllOf, SomeOf}
use Rattle.wave_wasm.specs.Names.{IsOneOf, IsNoneOf, AreDistinct}
use Rattle.wave_wasm.specs.Types as type
use Rattle.wave_wasm.specs.Types.{TypeTree, Fields, HasDistinctNames, EachNamesOfFields, record_parts, field_names, kind_of}
use Rattle.wave_wasm.specs.Values as value
use Rattle.wave_wasm.specs.Values.{Value, FieldValues}
use Rattle.wave_wasm.specs.HasType.{HasType, HasFields}
use Rattle.wave_wasm.specs.ConstructorContracts.{IsMemory, MakesRecord, FullRecord, FieldsAreOf, TypedRecord, field_trees}
use Rattle.wave_wasm.specs.declared.wasm.WasmValueError.{WasmValueError}
use Rattle.wave_wasm.specs.declared.wasm.WasmTypeKind.TheVariants as kinds
use Rattle.wave_lex.specs.Errors.{Diagnostic, refusal_of}
use Rattle.wave_lex.specs.declared.error.ParserErrorKind.TheVariants as error
use Rattle.wave_grammar.specs.Token.{Token}
use Rattle.wave_grammar.specs.Token as token
use Rattle.wave_grammar.specs.LeafTokens.{name_of}
use Rattle.wave_grammar.specs.TypedGrammar.{IsOption, FieldIs, Fills, look_up, names_of}
use Rattle.wave_grammar.specs.Tree as form
use Rattle.wave_grammar.specs.Tree.{Tree}
use Rattle.wave_grammar.specs.Elaborates.{TreeReads, TreeReadsField, Each, NamedTree}
use Rattle.wave_grammar.specs.SpannedTree.{SpannedTree, entries, no_fields, PlacedEntries, no_entries, entry, PlacedEntry, entry_list, shape_of, tree_of, entries_of}
use Rattle.wave_grammar.specs.TypeErrors.{names_in, IsFor}
use Rattle.wave_grammar.specs.FaultOrder.{Order, by_type, FirstFault}
use Rattle.wave_grammar.specs.NodeTree.{NodeTree, children_of}
use Rattle.wave_grammar.specs.Nodes.{IsNodeOf}
use Rattle.wave_grammar.specs.NodeAccessors.{node_pairs}
use Rattle.wave_grammar.specs.TypedReading.{IsTypedValue, IsBlamed}
use Rattle.wave_grammar.specs.NodeFields.{IsFieldsOf, RefusesFields, IsLeftOut, AnswersField}
use Rattle.wave_grammar.proofs.ChildNodes.Inside.{some_is}
use Rattle.wave_grammar.proofs.ByKind.Leaves.{tree_is}
use Rattle.wave_grammar.proofs.ByKind.Lists.{HasAt, some_at}
use Rattle.wave_grammar.proofs.ByKind.Enums.{none_one}
use Rattle.wave_grammar.proofs.Fields.Lookup.{not_found}
use Rattle.wave_grammar.proofs.Fields.Entries.{AreFieldsOf, RecordNodes, record_nodes, fields_of_entries, for_one, entry_found, none_found, some_map, fields_blame}
use Rattle.wave_wasm.proofs.TypesOfValues.TypeOfKind.{formed_as}

-- the entries with their trees
abbrev pub entry_trees : List PlacedEntry → List (Token × Tree)
entry_trees es = map (λ e. (e.key, tree_of e.value)) es

-- ---- types

-- the type of the kind of records, and its parts
pub record RecordType (T : TypeTree) (parts : List (List ℕ × TypeTree)) : Type 0 where
  pub fields : Fields
  pub is : T ≡ type.record_type fields
  pub parts_are : parts ≡ type.field_list fields

-- so is a type of that kind with these parts
pub record_is : (T : TypeTree) (parts : List (List ℕ × TypeTree)) → kinds.Record ≡ kind_of T → parts ≡ record_parts T → RecordType T parts
record_is T parts e h = let (fs, is) = formed_as kinds.Record T e in record { fields = fs; is = is; parts_are = h ∙ ap record_parts is }

distinct_all : (fs : Fields) → EachNamesOfFields AreDistinct fs → AllOf (λ p. HasDistinctNames p.1) (type.field_list fs)
distinct_all type.no_fields h = tt
distinct_all (type.field name T more) h = (h.0, distinct_all more h.1)

-- the names of a record type's parts
pub names_are : (fs : Fields) → names_of (type.field_list fs) ≡ field_names fs
names_are type.no_fields = refl
names_are (type.field name T more) = ap (λ (ns : List (List ℕ)). name ∷ ns) (names_are more)

-- what the names of a record type say of its parts
pub record PartsDistinct (parts : List (List ℕ × TypeTree)) : Type 0 where
  pub names : AreDistinct (names_of parts)
  pub within : AllOf (λ p. HasDistinctNames p.1) parts

pub fields_distinct : (T : TypeTree) (parts : List (List ℕ × TypeTree)) → RecordType T parts → HasDistinctNames T → PartsDistinct parts
fields_distinct T parts is h =
    let names : AreDistinct (field_names is.fields) × EachNamesOfFields AreDistinct is.fields = subst HasDistinctNames is.is h in
    record {
      names = subst (λ (ps : List (List ℕ × TypeTree)). AreDistinct (names_of ps)) (sym is.parts_are) (subst AreDistinct (sym (names_are is.fields)) names.0);
      within = subst (AllOf (λ p. HasDistinctNames p.1)) (sym is.parts_are) (distinct_all is.fields names.1);
    }

-- ---- lists

one_has : {A : Type 0} (fs : List (List ℕ × A)) (name : List ℕ) → IsOneOf (names_of fs) name → (i : ℕ) × (x : A) × HasAt fs i (name, x)
one_has [] name h = absurd h
one_has (f ∷ fs) name (inl e) = (zero, f.1, λ j. (sym e j, f.1))
one_has (f ∷ fs) name (inr h) = let r = one_has fs name h in (suc r.0, r.1, r.2)

-- what stands at a place has one of the names
pub has_one : {A : Type 0} (fs : List (List ℕ × A)) (i : ℕ) (f : List ℕ × A) → HasAt fs i f → IsOneOf (names_of fs) f.0
has_one [] i f h = absurd h
has_one (g ∷ fs) zero f h = inl (ap (λ x. x.0) (sym h))
has_one (g ∷ fs) (suc i) f h = inr (has_one fs i f h)

-- what holds at each place holds of all
pub all_from : {A : Type 0} (P : A → Type 0) (xs : List A) → ((i : ℕ) (x : A) → HasAt xs i x → P x) → AllOf P xs
all_from P [] f = tt
all_from P (x ∷ xs) f = (f zero x refl, all_from P xs (λ i y h. f (suc i) y h))

-- the field at a place is found by its name
pub look_has : {A : Type 0} (fs : List (List ℕ × A)) (i : ℕ) (f : List ℕ × A) → AreDistinct (names_of fs) → HasAt fs i f → look_up fs f.0 ≡ Some f.1
look_has [] i f d h = absurd h
look_has (g ∷ fs) zero f d h = by (bytes_eq f.0 g.0) refl
  where
    by : (b : Bool) → bytes_eq f.0 g.0 ≡ b → (if b then Some g.1 else look_up fs f.0) ≡ Some f.1
    by true is = ap (λ x. Some x.1) h
    by false is = cc (sym is ∙ (bytes_eq-Decides f.0 g.0).1 (ap (λ x. x.0) (sym h)))
look_has (g ∷ fs) (suc i) f d h = by (bytes_eq f.0 g.0) refl (look_has fs i f d.1 h) (has_one fs i f h)
  where
    by : (b : Bool) → bytes_eq f.0 g.0 ≡ b → look_up fs f.0 ≡ Some f.1 → IsOneOf (names_of fs) f.0 → (if b then Some g.1 else look_up fs f.0) ≡ Some f.1
    by true is more one = absurd (none_one (names_of fs) g.0 d.0 (subst (IsOneOf (names_of fs)) ((bytes_eq-Decides f.0 g.0).0 is) one))
    by false is more one = more

-- what is found is as all of them are
pub look_all : {A : Type 0} (P : List ℕ → A → Type 0) (fs : List (List ℕ × A)) (name : List ℕ) (x : A) → AllOf (λ f. P f.0 f.1) fs → look_up fs name ≡ Some x → P name x
look_all P [] name x all e = absurd (cc)
look_all P (f ∷ fs) name x all e = by (bytes_eq name f.0) refl (look_all P fs name x all.1) e
  where
    by : (b : Bool) → bytes_eq name f.0 ≡ b → (look_up fs name ≡ Some x → P name x) → (if b then Some f.1 else look_up fs name) ≡ Some x → P name x
    by true is more e = subst (P name) (some_is f.1 x e) (subst (λ (w : List ℕ). P w f.1) (sym ((bytes_eq-Decides name f.0).0 is)) all.0)
    by false is more e = more e

-- an entry of a name is the only one
only_one : (source : List ℕ) (fs : List (List ℕ × NodeTree)) (es : List PlacedEntry) (i : ℕ) (e : PlacedEntry) (name : List ℕ) (Q : PlacedEntry → Type 0) → AreFieldsOf source fs es → AreDistinct (names_of fs) → HasAt es i e → IsFor name e → SomeOf (λ x. IsFor name x × Q x) es → Q e
only_one source [] [] i e name Q h d here is some = absurd here
only_one source [] (x ∷ es) i e name Q h d here is some = absurd h
only_one source (f ∷ fs) [] i e name Q h d here is some = absurd h
only_one source (f ∷ fs) (x ∷ es) zero e name Q h d here is (inl found) = subst Q here found.1
only_one source (f ∷ fs) (x ∷ es) zero e name Q h d here is (inr some) =
    let named : f.0 ≡ name = head_same f.0 name (sym h.0 ∙ (ap (λ (y : PlacedEntry). names_in y.key) here ∙ is)) in
    absurd (none_one (names_of fs) f.0 d.0 (subst (IsOneOf (names_of fs)) (sym named) (for_one source fs es name h.2 (some_map (λ y. IsFor name y × Q y) (IsFor name) es (λ y g. g.0) some))))
  where
    head_same : (a b : List ℕ) → a ∷ [] ≡ b ∷ [] → a ≡ b
    head_same a b e = cc
only_one source (f ∷ fs) (x ∷ es) (suc i) e name Q h d here is (inl found) =
    let named : f.0 ≡ name = head_same f.0 name (sym h.0 ∙ found.0) in
    absurd (none_one (names_of fs) f.0 d.0 (subst (IsOneOf (names_of fs)) (sym named) (for_one source fs es name h.2 (some_at (IsFor name) es i e here is))))
  where
    head_same : (a b : List ℕ) → a ∷ [] ≡ b ∷ [] → a ≡ b
    head_same a b e = cc
only_one source (f ∷ fs) (x ∷ es) (suc i) e name Q h d here is (inr some) = only_one source fs es i e name Q h.2 d.1 here is some

-- ---- the entries that are left

-- the fields of a record's node are those of its entries
pub given_fields : (source : List ℕ) (n : NodeTree) (t : SpannedTree) (fs : List (List ℕ × NodeTree)) (node : IsNodeOf source n t) (given : IsFieldsOf source n fs) → AreFieldsOf source fs (entry_list (record_nodes source n t node given.is_set).given)
given_fields source n t fs node given =
    let inner = record_nodes source n t node given.is_set in
    subst (λ (l : List (List ℕ × NodeTree)). AreFieldsOf source l (entry_list inner.given)) (sym given.given) (fields_of_entries source (node_pairs (children_of n)) (entry_list inner.given) given.labels inner.nodes)

-- a test that failed
pub failed : {X : Type 0} (b : Bool) → b ≡ false → (X → b ≡ true) → X → ⊥
failed b is passes x = cc (sym is ∙ passes x)

-- ---- faults

-- as the type is gone through a refusal of the node or of its keys is one of the record
pub nodes_blame : (Full : TypeTree → Type 0) (w : Order) (T : TypeTree) (parts : List (List ℕ × TypeTree)) (source : List ℕ) (n : NodeTree) (t : SpannedTree) (e : Diagnostic) → RecordType T parts → IsNodeOf source n t → RefusesFields source n e → IsBlamed Full by_type w T t e
nodes_blame Full w T parts source n t e is node refused = so (fields_blame w is.fields source n t e node refused)
  where
    so : (e.kind ≡ error.OutOfMemory) ⊎ FirstFault by_type w (type.record_type is.fields) t (refusal_of e) e.span → IsBlamed Full by_type w T t e
    so (inl memory) = inl memory
    so (inr fault) = inr (inl (subst (λ (U : TypeTree). FirstFault by_type w U t (refusal_of e) e.span) (sym is.is) fault))

module _ {V : Type 0} (tree : V → Value) (of : V → TypeTree → Type 0) (Full : TypeTree → Type 0) where
  -- ---- the loop

  -- the value of a field: that of the entry of its name, or `none` where an option is left out
  abbrev pub FieldIsRead : TypeTree → List ℕ → List PlacedEntry → V → Type 0
  FieldIsRead E name es v = SomeOf (λ e. IsFor name e × IsTypedValue tree of E e.value v) es ⊎ (SomeOf (IsFor name) es → ⊥) × IsLeftOut tree of E v

  -- so is the value of each part, under its name
  abbrev pub FieldsRead : List (List ℕ × TypeTree) → List PlacedEntry → List (Bor (List ℕ) × V) → Type 0
  FieldsRead [] es [] = Unit {0}
  FieldsRead (p ∷ ps) es (f ∷ fs) = (f.0.now ≡ p.0) × FieldIsRead p.1 p.0 es f.1 × FieldsRead ps es fs
  FieldsRead _ es _ = ⊥

  -- a field that was answered is read
  pub field_read : (w : Order) (E : TypeTree) (source : List ℕ) (n : NodeTree) (fs : List (List ℕ × NodeTree)) (es : List PlacedEntry) (name : List ℕ) (o : Option NodeTree) (v : V) → AreFieldsOf source fs es → HasDistinctNames E → o ≡ look_up fs name → AnswersField tree of Full w E source name n o (Ok v) → FieldIsRead E name es v
  field_read w E source n fs es name None v all distinct found answer = inr (none_found source fs es name all (sym found), answer distinct)
  field_read w E source n fs es name (Some m) v all distinct found answer =
      inl (some_map (λ x. IsFor name x × IsNodeOf source m x.value) (λ x. IsFor name x × IsTypedValue tree of E x.value v) es (λ x g. (g.0, answer x.value g.1 distinct)) (entry_found source fs es name m all (sym found)))

  names_same : (ps : List (List ℕ × TypeTree)) (es : List PlacedEntry) (hs : List (Bor (List ℕ) × V)) → FieldsRead ps es hs → map (λ f. f.0.now) hs ≡ names_of ps
  names_same [] es [] h = refl
  names_same [] es (f ∷ hs) h = absurd h
  names_same (p ∷ ps) es [] h = absurd h
  names_same (p ∷ ps) es (f ∷ hs) h = ap (λ (w : List ℕ). w ∷ map (λ f. f.0.now) hs) h.0 ∙ ap (λ (ws : List (List ℕ)). p.0 ∷ ws) (names_same ps es hs h.2)

  tree_names : (hs : List (Bor (List ℕ) × V)) → names_of (field_trees tree hs) ≡ map (λ f. f.0.now) hs
  tree_names [] = refl
  tree_names (f ∷ hs) = ap (λ (ws : List (List ℕ)). f.0.now ∷ ws) (tree_names hs)

  field_has : (ps : List (List ℕ × TypeTree)) (es : List PlacedEntry) (hs : List (Bor (List ℕ) × V)) (i : ℕ) (name : List ℕ) (E : TypeTree) → FieldsRead ps es hs → HasAt ps i (name, E) → (v : V) × HasAt (field_trees tree hs) i (name, tree v) × FieldIsRead E name es v
  field_has [] es hs i name E h typed = absurd typed
  field_has (p ∷ ps) es [] i name E h typed = absurd h
  field_has (p ∷ ps) es (f ∷ hs) zero name E h typed =
      (f.1, ap (λ (w : List ℕ). (w, tree f.1)) (h.0 ∙ ap (λ (x : List ℕ × TypeTree). x.0) typed), subst (λ (x : List ℕ × TypeTree). FieldIsRead x.1 x.0 es f.1) typed h.1)
  field_has (p ∷ ps) es (f ∷ hs) (suc i) name E h typed = field_has ps es hs i name E h.2 typed

  -- what a field's name stands for among the values that are handed over
  value_at : (ps : List (List ℕ × TypeTree)) (es : List PlacedEntry) (hs : List (Bor (List ℕ) × V)) (i : ℕ) (name : List ℕ) (E : TypeTree) → FieldsRead ps es hs → AreDistinct (names_of ps) → HasAt ps i (name, E) → (v : V) × (look_up (field_trees tree hs) name ≡ Some (tree v)) × FieldIsRead E name es v
  value_at ps es hs i name E h distinct typed =
      let r = field_has ps es hs i name E h typed in
      (r.0, look_has (field_trees tree hs) i (name, tree r.0) (subst AreDistinct (sym (tree_names hs ∙ names_same ps es hs h)) distinct) r.1, r.2)

  reads_field : (fs : Fields) (i : ℕ) (name : List ℕ) (E : TypeTree) (u : Tree) (w : Value) → HasAt (type.field_list fs) i (name, E) → TreeReads E u w → TreeReadsField fs name u w
  reads_field type.no_fields i name E u w h read = absurd h
  reads_field (type.field other U more) zero name E u w h read = inl (ap (λ (x : List ℕ × TypeTree). x.0) (sym h), subst (λ (X : TypeTree). TreeReads X u w) (ap (λ (x : List ℕ × TypeTree). x.1) (sym h)) read)
  reads_field (type.field other U more) (suc i) name E u w h read = inr (reads_field more i name E u w h read)

  -- the entry's value is the one of its name among those that are handed over
  abbrev EntryGives : Fields → List (Bor (List ℕ) × V) → PlacedEntry → Type 0
  EntryGives fs hs e = (name : List ℕ) × (v : Value) × IsFor name e × (look_up (field_trees tree hs) name ≡ Some v) × TreeReadsField fs name (tree_of e.value) v

  given_by : (source : List ℕ) (given : List (List ℕ × NodeTree)) (es : List PlacedEntry) (i : ℕ) (e : PlacedEntry) → AreFieldsOf source given es → HasAt es i e → (name : List ℕ) × IsFor name e
  given_by source [] [] i e h here = absurd here
  given_by source [] (x ∷ es) i e h here = absurd h
  given_by source (f ∷ given) [] i e h here = absurd h
  given_by source (f ∷ given) (x ∷ es) zero e h here = (f.0, subst (IsFor f.0) here h.0)
  given_by source (f ∷ given) (x ∷ es) (suc i) e h here = given_by source given es i e h.2 here

  -- the entry's value is that of the field that was read
  pub entry_reads : (source : List ℕ) (given : List (List ℕ × NodeTree)) (es : List PlacedEntry) (i : ℕ) (e : PlacedEntry) (name : List ℕ) (E : TypeTree) (v : V) → AreFieldsOf source given es → AreDistinct (names_of given) → HasAt es i e → IsFor name e → FieldIsRead E name es v → IsTypedValue tree of E e.value v
  entry_reads source given es i e name E v all distinct here is (inl some) = only_one source given es i e name (λ x. IsTypedValue tree of E x.value v) all distinct here is some
  entry_reads source given es i e name E v all distinct here is (inr none) = absurd (none.0 (some_at (IsFor name) es i e here is))

  entry_gives : (fs : Fields) (source : List ℕ) (given : List (List ℕ × NodeTree)) (es : List PlacedEntry) (hs : List (Bor (List ℕ) × V)) (i : ℕ) (e : PlacedEntry) → AreFieldsOf source given es → AreDistinct (names_of given) → ((name : List ℕ) → IsOneOf (names_of given) name → IsOneOf (names_of (type.field_list fs)) name) → FieldsRead (type.field_list fs) es hs → AreDistinct (names_of (type.field_list fs)) → HasAt es i e → EntryGives fs hs e
  entry_gives fs source given es hs i e all distinct known h names here =
      let named = given_by source given es i e all here in
      let one = one_has (type.field_list fs) named.0 (known named.0 (for_one source given es named.0 all (some_at (IsFor named.0) es i e here named.1))) in
      let found = value_at (type.field_list fs) es hs one.0 named.0 one.1 h names one.2 in
      let read = entry_reads source given es i e named.0 one.1 found.0 all distinct here named.1 found.2 in
      (named.0, tree found.0, named.1, found.1, reads_field fs one.0 named.0 one.1 (tree_of e.value) (tree found.0) one.2 read.reads)

  label_of : (key : Token) (name : List ℕ) → names_in key ≡ name ∷ [] → (text : List ℕ) × (key ≡ token.label text) × (name_of text ≡ name)
  label_of (token.label text) name e = (text, refl, same (name_of text) name e)
    where
      same : (a b : List ℕ) → a ∷ [] ≡ b ∷ [] → a ≡ b
      same a b e = cc
  label_of _ name e = absurd (cc)

  -- the names and values that the entries give
  record Found (fs : Fields) (hs : List (Bor (List ℕ) × V)) (given : List (List ℕ × NodeTree)) (es : List PlacedEntry) : Type 0 where
    found : List (List ℕ × Value)
    each : Each (NamedTree (TreeReadsField fs)) (entry_trees es) found
    names : names_of found ≡ names_of given
    values : AllOf (λ f. look_up (field_trees tree hs) f.0 ≡ Some f.1) found

  each_found : (fs : Fields) (hs : List (Bor (List ℕ) × V)) (source : List ℕ) (given : List (List ℕ × NodeTree)) (es : List PlacedEntry) → AreFieldsOf source given es → AllOf (EntryGives fs hs) es → Found fs hs given es
  each_found fs hs source [] [] h all = record { found = []; each = refl; names = refl; values = tt }
  each_found fs hs source [] (e ∷ es) h all = absurd h
  each_found fs hs source (f ∷ given) [] h all = absurd h
  each_found fs hs source (f ∷ given) (e ∷ es) h all =
      let (name, v, is, looked, read) = all.0 in
      let rest = each_found fs hs source given es h.2 all.1 in
      let label = label_of e.key name is in
      record {
        found = (name, v) ∷ rest.found;
        each = ((name, v), rest.found, (label.0, label.1, label.2, read), rest.each, refl);
        names = ap (λ (w : List ℕ). w ∷ names_of rest.found) (one_name name f.0 (sym is ∙ h.0)) ∙ ap (λ (ws : List (List ℕ)). f.0 ∷ ws) rest.names;
        values = (looked, rest.values);
      }
    where
      one_name : (a b : List ℕ) → a ∷ [] ≡ b ∷ [] → a ≡ b
      one_name a b e = cc

  field_is : (E : TypeTree) (o : Option Value) (v : Value) → ((w : Value) → o ≡ Some w → v ≡ w) → (o ≡ None → IsOption E × (v ≡ value.option value.no_value)) → FieldIs E o v
  field_is E (Some w) v some none = some w refl
  field_is E None v some none = none refl

  left_is : (E : TypeTree) (name : List ℕ) (es : List PlacedEntry) (v : V) → (SomeOf (IsFor name) es → ⊥) → FieldIsRead E name es v → IsOption E × (tree v ≡ value.option value.no_value)
  left_is E name es v none (inl some) = absurd (none (some_map (λ x. IsFor name x × IsTypedValue tree of E x.value v) (IsFor name) es (λ x g. g.0) some))
  left_is E name es v none (inr h) = (h.1.option, h.1.means)

  -- each field of the record has the value that its entry gives
  fills_at : (fs : Fields) (hs : List (Bor (List ℕ) × V)) (source : List ℕ) (given : List (List ℕ × NodeTree)) (es : List PlacedEntry) (f : Found fs hs given es) (i : ℕ) (name : List ℕ) (E : TypeTree) → AreFieldsOf source given es → FieldsRead (type.field_list fs) es hs → AreDistinct (names_of (type.field_list fs)) → HasAt (type.field_list fs) i (name, E) → (v : Value) → look_up (field_trees tree hs) name ≡ Some v → FieldIs E (look_up f.found name) v
  fills_at fs hs source given es f i name E all h names typed v looked =
      let here = value_at (type.field_list fs) es hs i name E h names typed in
      field_is E (look_up f.found name) v
      (λ w e. some_is v w (sym looked ∙ look_all (λ q x. look_up (field_trees tree hs) q ≡ Some x) f.found name w f.values e))
      (λ e.
      let none : IsNoneOf (names_of given) name = subst (λ (ns : List (List ℕ)). IsNoneOf ns name) f.names (not_found f.found name e) in
      let left = left_is E name es here.0 (λ some. none_one (names_of given) name none (for_one source given es name all some)) here.2 in
      (left.0, some_is v (tree here.0) (sym looked ∙ here.1) ∙ left.1))

  fills : (fs : Fields) (all : FieldValues) (found H : List (List ℕ × Value)) → HasFields fs all → AllOf (λ f. look_up H f.0 ≡ Some f.1) (value.field_list all) → AllOf (λ p. (v : Value) → look_up H p.0 ≡ Some v → FieldIs p.1 (look_up found p.0) v) (type.field_list fs) → Fills fs found all
  fills type.no_fields all found H has values each = has
  fills (type.field name E more) all found H (w, others, typed, rest, e) values each =
      let both : (look_up H name ≡ Some w) × AllOf (λ f. look_up H f.0 ≡ Some f.1) (value.field_list others) = subst (λ (fs : FieldValues). AllOf (λ f. look_up H f.0 ≡ Some f.1) (value.field_list fs)) e values in
      (w, others, each.0 w both.0, fills more others found H rest both.1 each.1, e)

  all_by_place : {A : Type 0} (P : A → Type 0) (xs : List A) → AllOf P xs → std_list.All P xs
  all_by_place P [] h k d lt = absurd (omega (arith, lt))
  all_by_place P (x ∷ xs) h zero d lt = h.0
  all_by_place P (x ∷ xs) h (suc k) d lt = all_by_place P xs h.1 k d (omega (arith, lt))

  all_of_places : {A : Type 0} (P : A → Type 0) (xs : List A) → std_list.All P xs → AllOf P xs
  all_of_places P [] h = tt
  all_of_places P (x ∷ xs) h = (h zero x (omega arith), all_of_places P xs (λ k d lt. h (suc k) d (omega (arith, lt))))

  once : (a b : FieldValues) → value.record_value a ≡ value.record_value b → a ≡ b
  once a b e = cc

  trees_of_entries : (es : PlacedEntries) → entries_of es ≡ form.tree_entries (entry_trees (entry_list es))
  trees_of_entries no_entries = refl
  trees_of_entries (entry p key t more) = ap (λ (rest : form.TreeEntries). form.entry key (tree_of t) rest) (trees_of_entries more)

  some_trees : (es : List PlacedEntry) → 0 < length es → 0 < length (entry_trees es)
  some_trees [] h = h
  some_trees (e ∷ es) h = omega arith

  tree_shape : (t : SpannedTree) (es : PlacedEntries) → (shape_of t ≡ no_fields) × (es ≡ no_entries) ⊎ (shape_of t ≡ entries es) × (0 < length (entry_list es)) → (tree_of t ≡ form.no_fields) × (entry_trees (entry_list es) ≡ []) ⊎ (tree_of t ≡ form.entries (form.tree_entries (entry_trees (entry_list es)))) × (0 < length (entry_trees (entry_list es)))
  tree_shape t es (inl h) = inl (tree_is t no_fields h.0, ap (λ (x : PlacedEntries). entry_trees (entry_list x)) h.1)
  tree_shape t es (inr h) = inr (tree_is t (entries es) h.0 ∙ ap form.entries (trees_of_entries es), some_trees (entry_list es) h.1)

  -- the type gives the record its value
  pub record_reads : (T : TypeTree) (fs : Fields) (source : List ℕ) (n : NodeTree) (t : SpannedTree) (given : List (List ℕ × NodeTree)) (hs : List (Bor (List ℕ) × V)) (inner : RecordNodes source n t) (m : Result V WasmValueError) → T ≡ type.record_type fs → HasDistinctNames T → AreFieldsOf source given (entry_list inner.given) → AreDistinct (names_of given) → ((name : List ℕ) → IsOneOf (names_of given) name → IsOneOf (names_of (type.field_list fs)) name) → AreDistinct (names_of (type.field_list fs)) → FieldsRead (type.field_list fs) (entry_list inner.given) hs → IfOk m (MakesRecord tree of T hs) → IfOk m (IsTypedValue tree of T t)
  record_reads T fs source n t given hs inner (Ok v) is distinct all apart known names h makes_it =
      let es : List PlacedEntry = entry_list inner.given in
      let handed : AreDistinct (map (λ f. f.0.now) hs) = subst AreDistinct (sym (names_same (type.field_list fs) es hs h)) names in
      let (filled, moved, makes) = makes_it distinct handed in
      let typed : HasType (type.record_type fs) (value.record_value filled) = subst (λ (U : TypeTree). HasType U (value.record_value filled)) is makes.fits in
      let has : HasFields fs filled = subst (HasFields fs) (sym (once filled typed.0 typed.2)) typed.1 in
      let H : List (List ℕ × Value) = field_trees tree hs in
      let own : AllOf (λ f. look_up H f.0 ≡ Some f.1) H = all_from (λ f. look_up H f.0 ≡ Some f.1) H (λ i f here. look_has H i f (subst AreDistinct (sym (tree_names hs)) handed) here) in
      let values : AllOf (λ f. look_up H f.0 ≡ Some f.1) (value.field_list filled) = all_of_places (λ f. look_up H f.0 ≡ Some f.1) (value.field_list filled) (All-permutation (λ f. look_up H f.0 ≡ Some f.1) H (value.field_list filled) moved (all_by_place (λ f. look_up H f.0 ≡ Some f.1) H own)) in
      let found = each_found fs hs source given es all (all_from (EntryGives fs hs) es (λ i e here. entry_gives fs source given es hs i e all apart known h names here)) in
      let filling : Fills fs found.found filled = fills fs filled found.found H has values (all_from (λ p. (x : Value) → look_up H p.0 ≡ Some x → FieldIs p.1 (look_up found.found p.0) x) (type.field_list fs) (λ i p here. fills_at fs hs source given es found i p.0 p.1 all h names here)) in
      let read : TreeReads (type.record_type fs) (tree_of t) (value.record_value filled) = (entry_trees es, found.found, filled, tree_shape t inner.given inner.shape, found.each, subst AreDistinct (sym found.names) apart, filling, refl) in
      record { reads = subst (λ (U : TypeTree). TreeReads U (tree_of t) (tree v)) (sym is) (subst (λ (w : Value). TreeReads (type.record_type fs) (tree_of t) w) (sym makes.means) read); is_of = makes.is_of }
  record_reads T fs source n t given hs inner (Err cause) is distinct all apart known names h makes_it = tt

  is_of_read : (E : TypeTree) (name : List ℕ) (es : List PlacedEntry) (v : V) → FieldIsRead E name es v → of v E
  is_of_read E name es v (inl some) = some_of es some
    where
      some_of : (xs : List PlacedEntry) → SomeOf (λ e. IsFor name e × IsTypedValue tree of E e.value v) xs → of v E
      some_of [] h = absurd h
      some_of (x ∷ xs) (inl h) = h.1.is_of
      some_of (x ∷ xs) (inr h) = some_of xs h
  is_of_read E name es v (inr h) = h.1.is_of

  fields_are_of : (ps : List (List ℕ × TypeTree)) (es : List PlacedEntry) (hs : List (Bor (List ℕ) × V)) → FieldsRead ps es hs → FieldsAreOf of ps hs
  fields_are_of [] es [] h = tt
  fields_are_of [] es (f ∷ hs) h = absurd h
  fields_are_of (p ∷ ps) es [] h = absurd h
  fields_are_of (p ∷ ps) es (f ∷ hs) h = (h.0, is_of_read p.1 p.0 es f.1 h.1, fields_are_of ps es hs h.2)

  -- a record of the type has the fields
  pub record_typed : (T : TypeTree) (fs : Fields) (es : List PlacedEntry) (hs : List (Bor (List ℕ) × V)) → T ≡ type.record_type fs → AreDistinct (names_of (type.field_list fs)) → FieldsRead (type.field_list fs) es hs → TypedRecord of T hs
  record_typed T fs es hs is names h =
      subst (λ (U : TypeTree). TypedRecord of U hs) (sym is) (subst AreDistinct (sym (names_same (type.field_list fs) es hs h)) names, hs, IsPermutation-refl hs, fields_are_of (type.field_list fs) es hs h)

  -- a constructor at a full type refuses for lack of memory alone
  pub record_full : (T : TypeTree) (fs : Fields) (es : List PlacedEntry) (hs : List (Bor (List ℕ) × V)) (m : Result V WasmValueError) → T ≡ type.record_type fs → AreDistinct (names_of (type.field_list fs)) → FieldsRead (type.field_list fs) es hs → IfErr m (FullRecord of Full T hs) → IfErr m (λ cause. Full T → IsMemory cause)
  record_full T fs es hs (Ok v) is names h f = tt
  record_full T fs es hs (Err cause) is names h f = λ full. f full fs is (subst AreDistinct (sym (names_same (type.field_list fs) es hs h)) names) hs (IsPermutation-refl hs) (fields_are_of (type.field_list fs) es hs h)
