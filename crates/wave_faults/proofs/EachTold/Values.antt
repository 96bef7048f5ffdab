-- Where no fault is told the type gives the tree a value.
use Rattle.std.proofs.Common.{ℕ, zero, suc, ◌≡◌, ◌≢◌, inl, inr, ◌+◌, ◌++◌, Bool, true, false, if◌then◌else◌, List, [], ◌∷◌, length, map, Option, Some, None, refl, sym, ap, ◌∙◌, subst, codes, arith}
use Rattle.std.specs.declared.ops.Range.{Range}
use Rattle.std.specs.Str.{bytes_eq}
use Rattle.std.proofs.lemmas.Slice.Eq.{bytes_eq-Decides}
use Rattle.wave_wasm.specs.Lists.{AllOf, SomeOf}
use Rattle.wave_wasm.specs.Names.{IsOneOf, IsNoneOf, AreDistinct, AreAllOf, found_in}
use Rattle.wave_wasm.specs.Types as type
use Rattle.wave_wasm.specs.Types.{TypeTree, MaybeType, Types, Fields, Cases, Simple, no_type, a_type, no_types, type_and, field, no_cases, case_of, field_names, count_of}
use Rattle.wave_wasm.specs.Types.{HasDistinctNames, EachNamesOfMaybe, EachNamesOfTypes, EachNamesOfCases, EachNamesOfFields}
use Rattle.wave_wasm.specs.Values as value
use Rattle.wave_wasm.specs.Values.{Value, MaybeValue, FieldValues, Leaf, no_value, a_value, values, entries}
use Rattle.wave_wasm.specs.Merge.{merge, leaf_eq}
use Rattle.wave_wasm.specs.ValueErrors.{missing_field, unknown_case, wrong_number}
use Rattle.wave_lex.specs.Errors.{Refusal, refusal_of, plainly, with_detail, caused, field_label_expected, repeated_name}
use Rattle.wave_lex.specs.declared.error.ParserErrorKind.TheVariants.{InvalidType, InvalidValue, DuplicateField}
use Rattle.wave_grammar.specs.Token.{Token}
use Rattle.wave_grammar.specs.Token as token
use Rattle.wave_grammar.specs.Tree as form
use Rattle.wave_grammar.specs.Tree.{Tree, MaybeTree}
use Rattle.wave_grammar.specs.LeafTokens.{name_of}
use Rattle.wave_grammar.specs.TypedGrammar.{IsOption, Fills, FieldIs, look_up}
use Rattle.wave_grammar.specs.Elaborates.{TreeReads, TreeReadsPayload, TreeReadsFlat, TreeReadsAll, TreeReadsField, TreeReadsCase, Each, NamedTree, KeyedTree}
use Rattle.wave_grammar.specs.SpannedTree.{SpannedTree, at, one, tuple, list, empty_braces, no_fields, flags, label, none, some, ok, err, MaybePlaced, no_placed, a_placed, PlacedTrees, no_more, and_then, PlacedEntries, no_entries, entry, PlacedEntry, placed_list, entry_list, span_of, tree_of, trees_of, maybe_of, entries_of, SpellsEach, SpellsAll, SpellsEntries, SpellsMaybe}
use Rattle.wave_grammar.specs.SpannedTree as placed
use Rattle.wave_grammar.specs.TypeErrors.{RefusesFor, MapKeyFault, names_in, IsFor}
use Rattle.wave_grammar.specs.FaultOrder.{BlamesNothing, FaultOfKey, LeftOut}
use Rattle.wave_faults.specs.AllFaults.{Telling, Alone, Then, InTurn, OfLeaf, OfEntries, EachLeftOut, AreFaults, AreFaultsOfValue, AreFaultsOfPayload, AreFaultsAlone, AreFaultsOfItems, AreFaultsOfCase}
use Rattle.wave_faults.specs.FaultsLaws.{NoFaultIsAValue, AValueHasNoFault}
use Rattle.wave_grammar.proofs.OneFault.FaultyTrees.{no_value as faulty_none}
use Rattle.wave_faults.proofs.EachTold.Table.{only_faults}
use Rattle.wave_faults.proofs.EachTold.Entries.{one_or_none}
use Rattle.wave_faults.proofs.EachTold.Spelled.{has_item, has_entry}

-- what is refused for one cause is not unblamed
said_so : (a : Refusal) (p : Range ℕ) → BlamesNothing (λ k q. (k ≡ a) × (q ≡ p)) → ⊥
said_so a p quiet = quiet a p (refl, refl)

-- none of both
neither : {F G : Telling} → Then F G [] → F [] × G []
neither ([], [], is, f, g) = (f, g)
neither ([], y ∷ ys, is, f, g) = absurd (cc is)
neither (x ∷ xs, ys, is, f, g) = absurd (cc is)

-- equal unless they differ
equal_unless : (a b : ℕ) → (a ≢ b → ⊥) → a ≡ b
equal_unless zero zero h = refl
equal_unless zero (suc b) h = absurd (h (λ e. cc e))
equal_unless (suc a) zero h = absurd (h (λ e. cc e))
equal_unless (suc a) (suc b) h = ap suc (equal_unless a b (λ apart. h (λ e. apart (omega (arith, e)))))

-- one of the names unless it is none
one_unless : (names : List (List ℕ)) (name : List ℕ) → (IsNoneOf names name → ⊥) → IsOneOf names name
one_unless names name h = elim (one_or_none names name) [ inl found ↦ found | inr apart ↦ absurd (h apart) ]

-- none of the names unless it is one
none_unless : (names : List (List ℕ)) (name : List ℕ) → (IsOneOf names name → ⊥) → IsNoneOf names name
none_unless names name h = elim (one_or_none names name) [ inl found ↦ absurd (h found) | inr apart ↦ apart ]

-- an option unless it is none
option_unless : (T : TypeTree) → ((IsOption T → ⊥) → ⊥) → IsOption T
option_unless (type.option P) h = tt
option_unless (type.simple S) h = absurd (h (λ o. o))
option_unless (type.unreadable u) h = absurd (h (λ o. o))
option_unless (type.list E) h = absurd (h (λ o. o))
option_unless (type.fixed E n) h = absurd (h (λ o. o))
option_unless (type.record_type fs) h = absurd (h (λ o. o))
option_unless (type.tuple Ts) h = absurd (h (λ o. o))
option_unless (type.variant cs) h = absurd (h (λ o. o))
option_unless (type.enum names) h = absurd (h (λ o. o))
option_unless (type.result A B) h = absurd (h (λ o. o))
option_unless (type.flags names) h = absurd (h (λ o. o))
option_unless (type.map K V) h = absurd (h (λ o. o))

-- ---- lists, maps and flags

-- the values of trees that are each given one
record Items (Mean : Tree → Value → Type 0) (ts : PlacedTrees) : Type 0 where
  trees : List Tree
  vals : List Value
  are : trees_of ts ≡ form.trees trees
  each : Each Mean trees vals
  many : length trees ≡ length (placed_list ts)

module _ (source : List ℕ) where
  -- the type gives each tree without faults a value
  abbrev Gives : TypeTree → Type 0
  Gives E = (t : SpannedTree) → SpellsEach source t → AreFaults E t [] → (v : Value) × TreeReads E (tree_of t) v

  items_there : (E : TypeTree) (ts : PlacedTrees) (from to : ℕ) → Gives E → SpellsAll source from to ts → InTurn (λ item. AreFaults E item) (placed_list ts) [] → Items (TreeReads E) ts
  items_there E no_more from to gives spelled told = record { trees = []; vals = []; are = refl; each = refl; many = refl }
  items_there E (and_then t more) from to gives spelled told =
      let both = neither told in
      let here = gives t spelled.1 both.0 in
      let others = items_there E more (span_of t).end to gives spelled.2 both.1 in
      record { trees = tree_of t ∷ others.trees; vals = here.0 ∷ others.vals; are = ap (form.tree_and (tree_of t)) others.are; each = (here.0, others.vals, here.1, others.each, refl); many = ap suc others.many }

  -- the keys and values of entries that are each given one
  record Pairs (K : Simple) (V : TypeTree) (es : PlacedEntries) : Type 0 where
    trees : List (Token × Tree)
    vals : List (Leaf × Value)
    are : entries_of es ≡ form.tree_entries trees
    each : Each (KeyedTree K (TreeReads V)) trees vals

  pairs_there : (K : Simple) (V : TypeTree) (es : PlacedEntries) (from to : ℕ) → Gives V → SpellsEntries source from to es → InTurn (λ e. Then (OfLeaf K e.key (MapKeyFault K e.place e.key)) (AreFaults V e.value)) (entry_list es) [] → Pairs K V es
  pairs_there K V no_entries from to gives spelled told = record { trees = []; vals = []; are = refl; each = refl }
  pairs_there K V (entry p key t more) from to gives spelled told =
      let both = neither told in
      let here = neither both.0 in
      let val = gives t spelled.3 here.1 in
      let others = pairs_there K V more (span_of t).end to gives spelled.4 both.1 in
      record { trees = (key, tree_of t) ∷ others.trees; vals = (here.0.0, val.0) ∷ others.vals; are = ap (form.entry key (tree_of t)) others.are; each = ((here.0.0, val.0), others.vals, (here.0.1, val.1), others.each, refl) }

  flags_there : (names : List (List ℕ)) (p : Range ℕ) (fs : List (Range ℕ × List ℕ)) → InTurn (λ f. Alone (λ k q. IsNoneOf names (name_of f.1) × RefusesFor (unknown_case (name_of f.1)) p k q)) fs [] → AreAllOf names (map name_of (map (λ f. f.1) fs))
  flags_there names p [] told = tt
  flags_there names p (f ∷ fs) told =
      let both = neither told in
      (one_unless names (name_of f.1) (λ no. both.0 (caused (unknown_case (name_of f.1))) p (no, (refl, refl))), flags_there names p fs both.1)

  -- ---- records

  -- the name of an entry's label
  label_there : (earlier : List (List ℕ)) (e : PlacedEntry) → BlamesNothing (FaultOfKey earlier e) → (text : List ℕ) × (e.key ≡ token.label text) × IsNoneOf earlier (name_of text)
  label_there earlier e quiet = by e.key refl
    where
      no_label : names_in e.key ≡ [] → ⊥
      no_label empty = quiet (with_detail InvalidType (Some field_label_expected)) e.place (inl (empty, (refl, refl)))

      by : (t : Token) → e.key ≡ t → (text : List ℕ) × (e.key ≡ token.label text) × IsNoneOf earlier (name_of text)
      by (token.label text) is =
          (text, is, none_unless earlier (name_of text) (λ found. quiet (with_detail DuplicateField (Some (repeated_name (name_of text)))) e.place (inr (subst (λ (ns : List (List ℕ)). SomeOf (λ name. IsOneOf earlier name × ((with_detail DuplicateField (Some (repeated_name (name_of text))) ≡ with_detail DuplicateField (Some (repeated_name name))) × (e.place ≡ e.place))) ns) (sym (ap names_in is)) (inl (found, (refl, refl)))))))
      by _ is = absurd (no_label (ap names_in is))

  -- the fields of entries that are each given a value
  record FieldsThere (fs : Fields) (earlier : List (List ℕ)) (es : PlacedEntries) : Type 0 where
    trees : List (Token × Tree)
    found : List (List ℕ × Value)
    are : entries_of es ≡ form.tree_entries trees
    each : Each (NamedTree (TreeReadsField fs)) trees found
    distinct : AreDistinct (map (λ f. f.0) found)
    new : AllOf (IsNoneOf earlier) (map (λ f. f.0) found)
    all : (name : List ℕ) → look_up found name ≡ None → SomeOf (IsFor name) (entry_list es) → ⊥

  -- the value of an entry at its field
  abbrev GivesField : Fields → Type 0
  GivesField fs = (e : PlacedEntry) (name : List ℕ) → IsFor name e → IsOneOf (field_names fs) name → SpellsEach source e.value → AreFaultsOfValue fs e [] → (v : Value) × TreeReadsField fs name (tree_of e.value) v

  none_earlier : (name : List ℕ) (earlier names : List (List ℕ)) → AllOf (IsNoneOf (name ∷ earlier)) names → IsNoneOf names name × AllOf (IsNoneOf earlier) names
  none_earlier name earlier [] all = (tt, tt)
  none_earlier name earlier (x ∷ xs) all =
      let more = none_earlier name earlier xs all.1 in
      (((λ same. all.0.0 (sym same)), more.0), (all.0.1, more.1))

  not_there : (name other : List ℕ) (v : Value) (found : List (List ℕ × Value)) → look_up ((other, v) ∷ found) name ≡ None → (name ≢ other) × (look_up found name ≡ None)
  not_there name other v found e = by (bytes_eq name other) refl e
    where
      by : (b : Bool) → bytes_eq name other ≡ b → (if b then Some v else look_up found name) ≡ None → (name ≢ other) × (look_up found name ≡ None)
      by true is e = absurd (cc e)
      by false is e = ((λ same. cc (sym is ∙ (bytes_eq-Decides name other).1 same)), e)

  one_name : (a b : List ℕ) → a ∷ [] ≡ b ∷ [] → b ≡ a
  one_name a b e = cc

  fields_there : (fs : Fields) (earlier : List (List ℕ)) (es : PlacedEntries) (p : Range ℕ) (from to : ℕ) → GivesField fs → AllOf (IsOneOf (field_names fs)) earlier → SpellsEntries source from to es → OfEntries (field_names fs) (λ e. AreFaultsOfValue fs e) earlier (entry_list es) p [] → FieldsThere fs earlier es
  fields_there fs earlier no_entries p from to gives known spelled told = record { trees = []; found = []; are = refl; each = refl; distinct = tt; new = tt; all = λ name absent h. h }
  fields_there fs earlier (entry q key t more) p from to gives known spelled told =
      let keys = neither told in
      let unknown = neither keys.1 in
      let rest = neither unknown.1 in
      let e : PlacedEntry = record { place = q; key = key; value = t } in
      let l = label_there earlier e keys.0 in
      let name : List ℕ = name_of l.0 in
      let for : IsFor name e = ap names_in l.1 in
      let is_one : IsOneOf (field_names fs) name = one_unless (field_names fs) name (λ no. unknown.0 (plainly InvalidValue) p (known, (inl (subst (SomeOf (IsNoneOf (field_names fs))) (sym for) (inl no)), (refl, refl)))) in
      let val = gives e name for is_one spelled.3 rest.0 in
      let others = fields_there fs (names_in key ++ earlier) more p (span_of t).end to gives (subst (λ (ns : List (List ℕ)). AllOf (IsOneOf (field_names fs)) (ns ++ earlier)) (sym for) (is_one, known)) spelled.4 rest.1 in
      let apart = none_earlier name earlier (map (λ f. f.0) others.found) (subst (λ (ns : List (List ℕ)). AllOf (IsNoneOf (ns ++ earlier)) (map (λ f. f.0) others.found)) for others.new) in
      record {
        trees = (key, tree_of t) ∷ others.trees;
        found = (name, val.0) ∷ others.found;
        are = ap (form.entry key (tree_of t)) others.are;
        each = ((name, val.0), others.found, (l.0, l.1, refl, val.1), others.each, refl);
        distinct = (apart.0, others.distinct);
        new = (l.2, apart.1);
        all = λ other absent. elim [ inl here ↦ (not_there other name val.0 others.found absent).0 (one_name name other (sym for ∙ here)) | inr later ↦ others.all other (not_there other name val.0 others.found absent).1 later ];
      }

  -- the values of all fields
  fill_there : (fs : Fields) (es : List PlacedEntry) (p : Range ℕ) (found : List (List ℕ × Value)) → ((name : List ℕ) → look_up found name ≡ None → SomeOf (IsFor name) es → ⊥) → EachLeftOut fs es p [] → (all : FieldValues) × Fills fs found all
  fill_there type.no_fields es p found all told = (value.no_fields, refl)
  fill_there (field name T more) es p found all told =
      let both = neither told in
      let others = fill_there more es p found all both.1 in
      let here = by (look_up found name) refl both.0 in
      (value.field name here.0 others.0, (here.0, others.0, here.1, others.1, refl))
    where
      by : (o : Option Value) → look_up found name ≡ o → BlamesNothing (LeftOut name T es p) → (v : Value) × FieldIs T (look_up found name) v
      by (Some w) is quiet = (w, subst (λ (x : Option Value). FieldIs T x w) (sym is) refl)
      by None is quiet =
          (value.option no_value, subst (λ (x : Option Value). FieldIs T x (value.option no_value)) (sym is) (option_unless T (λ apart. quiet (caused (missing_field name)) p (apart, all name is, (refl, refl))), refl))

  -- ---- types

  mutual
    value_there : (T : TypeTree) (t : SpannedTree) → SpellsEach source t → HasDistinctNames T → AreFaults T t [] → (v : Value) × TreeReads T (tree_of t) v
    value_there (type.simple S) (at p (one tok)) spelled names told = (value.leaf told.0, (tok, told.0, refl, told.1, refl))
    value_there (type.simple S) (at p _) spelled names told = absurd (said_so _ p told)
    value_there (type.unreadable u) (at p s) spelled names told = absurd (said_so _ p told)
    value_there (type.list E) (at p (list ts)) spelled names told =
        let items = items_there E ts p.start p.end (λ u g f. value_there E u g names f) spelled.1 told in
        (value.list (values items.vals), (items.trees, items.vals, ap form.list items.are, items.each, refl))
    value_there (type.list E) (at p _) spelled names told = absurd (said_so _ p told)
    value_there (type.fixed E n) (at p (list ts)) spelled names (inl h) = absurd (said_so _ p h.1)
    value_there (type.fixed E n) (at p (list ts)) spelled names (inr h) =
        let items = items_there E ts p.start p.end (λ u g f. value_there E u g names f) spelled.1 h.1 in
        (value.fixed (values items.vals), (items.trees, items.vals, ap form.list items.are, items.many ∙ h.0, items.each, refl))
    value_there (type.fixed E n) (at p _) spelled names told = absurd (said_so _ p told)
    value_there (type.record_type fs) (at p (placed.entries es)) spelled names told =
        let both = neither told in
        let given = fields_there fs [] es p p.start p.end (λ e name for is_one g f. field_there fs e name for is_one g names.1 f) tt spelled.1 both.0 in
        let all = fill_there fs (entry_list es) p given.found given.all both.1 in
        (value.record_value all.0, (given.trees, given.found, all.0, inr (ap form.entries given.are, has_entry spelled.0.0 spelled.0.2.0 given.trees (subst (λ (x : form.TreeEntries). form.Takes spelled.0.2.0 spelled.0.0 (form.entries x) []) given.are spelled.0.2.1)), given.each, given.distinct, all.1, refl))
    value_there (type.record_type fs) (at p no_fields) spelled names told =
        let both = neither told in
        let all = fill_there fs [] p [] (λ name is h. h) both.1 in
        (value.record_value all.0, ([], [], all.0, inl (refl, refl), refl, tt, all.1, refl))
    value_there (type.record_type fs) (at p _) spelled names told = absurd (said_so _ p told)
    value_there (type.tuple Ts) (at p (tuple ts)) spelled names told =
        let both = neither told in
        let count = equal_unless (length (placed_list ts)) (count_of Ts) (λ apart. both.1 (caused (wrong_number (count_of Ts) (length (placed_list ts)))) p (apart, (refl, refl))) in
        let items = all_there Ts ts p.start p.end spelled.1 names count both.0 in
        (value.tuple (values items.1), (items.0, items.1, ap form.tuple items.2, has_item spelled.0.0 spelled.0.2.0 items.0 (subst (λ (x : form.Trees). form.Takes spelled.0.2.0 spelled.0.0 (form.tuple x) []) items.2 spelled.0.2.1), items.3, refl))
    value_there (type.tuple Ts) (at p _) spelled names told = absurd (said_so _ p told)
    value_there (type.variant cs) (at p (label r text payload)) spelled names told =
        let inner = case_there cs (name_of text) payload p r.end p.end spelled.1.2 names.1 told in
        (value.variant (name_of text) inner.0, (text, maybe_of payload, inner.0, refl, inner.1, refl))
    value_there (type.variant cs) (at p _) spelled names told = absurd (said_so _ p told)
    value_there (type.enum cases) (at p (label r text no_placed)) spelled names told =
        (value.enum (name_of text), (text, refl, one_unless cases (name_of text) (λ no. told (caused (unknown_case (name_of text))) p (inr (refl, no, (refl, refl)))), refl))
    value_there (type.enum cases) (at p (label r text (a_placed u))) spelled names told = absurd (told (plainly InvalidType) p (inl ((λ e. cc e), (refl, refl))))
    value_there (type.enum cases) (at p _) spelled names told = absurd (said_so _ p told)
    value_there (type.option P) (at p none) spelled names told = (value.option no_value, inl (inl (refl, refl)))
    value_there (type.option P) (at p (some u)) spelled names told =
        let inner = value_there P u spelled.1.1 names told in
        (value.option (a_value inner.0), inl (inr (tree_of u, inner.0, refl, inner.1, refl)))
    value_there (type.option P) (at p s) spelled names (inl h) = absurd (said_so _ p h.1)
    value_there (type.option P) (at p s) spelled names (inr h) =
        let inner = value_there P (at p s) spelled names h.1 in
        (value.option (a_value inner.0), inr (inner.0, (h.0, inner.1), refl))
    value_there (type.result A B) (at p (ok payload)) spelled names told =
        let inner = payload_there A (codes "ok") payload p (p.start + 1) p.end spelled.1 names.0 told in
        (value.ok inner.0, inl (inl (maybe_of payload, inner.0, refl, inner.1, refl)))
    value_there (type.result A B) (at p (err payload)) spelled names told =
        let inner = payload_there B (codes "err") payload p (p.start + 1) p.end spelled.1 names.1 told in
        (value.err inner.0, inl (inr (maybe_of payload, inner.0, refl, inner.1, refl)))
    value_there (type.result A B) (at p s) spelled names told =
        let inner = alone_there A (at p s) spelled names.0 told in
        (value.ok (a_value inner.0), inr (inner.0, inner.1, refl))
    value_there (type.flags labels) (at p (flags fs)) spelled names told =
        (value.flags (found_in (map name_of (map (λ f. f.1) fs)) labels), (map (λ f. f.1) fs, inr refl, flags_there labels p fs told, refl))
    value_there (type.flags labels) (at p empty_braces) spelled names told = (value.flags (found_in [] labels), ([], inl (refl, refl), tt, refl))
    value_there (type.flags labels) (at p _) spelled names told = absurd (said_so _ p told)
    value_there (type.map K V) (at p (placed.entries es)) spelled names told =
        let given = pairs_there K V es p.start p.end (λ u g f. value_there V u g names f) spelled.1 told in
        (value.map (entries (merge leaf_eq given.vals)), (given.trees, given.vals, inr (ap form.entries given.are, has_entry spelled.0.0 spelled.0.2.0 given.trees (subst (λ (x : form.TreeEntries). form.Takes spelled.0.2.0 spelled.0.0 (form.entries x) []) given.are spelled.0.2.1)), given.each, refl))
    value_there (type.map K V) (at p no_fields) spelled names told = (value.map (entries (merge leaf_eq [])), ([], [], inl (inr refl, refl), refl, refl))
    value_there (type.map K V) (at p empty_braces) spelled names told = (value.map (entries (merge leaf_eq [])), ([], [], inl (inl refl, refl), refl, refl))
    value_there (type.map K V) (at p _) spelled names told = absurd (said_so _ p told)

    -- the value of an entry at its field
    field_there : (fs : Fields) (e : PlacedEntry) (name : List ℕ) → IsFor name e → IsOneOf (field_names fs) name → SpellsEach source e.value → EachNamesOfFields AreDistinct fs → AreFaultsOfValue fs e [] → (v : Value) × TreeReadsField fs name (tree_of e.value) v
    field_there type.no_fields e name for is_one spelled names told = absurd is_one
    field_there (field other T more) e name for is_one spelled names (inl h) =
        let inner = value_there T e.value spelled names.0 h.1 in
        (inner.0, inl (one_name other name (sym h.0 ∙ for), inner.1))
    field_there (field other T more) e name for (inl same) spelled names (inr h) = absurd (h.0 (for ∙ ap (λ (x : List ℕ). x ∷ []) same))
    field_there (field other T more) e name for (inr is_one) spelled names (inr h) =
        let inner = field_there more e name for is_one spelled names.1 h.1 in
        (inner.0, inr inner.1)

    -- the value of a payload
    payload_there : (A : MaybeType) (name : List ℕ) (payload : MaybePlaced) (p : Range ℕ) (from to : ℕ) → SpellsMaybe source from to payload → EachNamesOfMaybe AreDistinct A → AreFaultsOfPayload name A payload p [] → (w : MaybeValue) × TreeReadsPayload A (maybe_of payload) w
    payload_there no_type name no_placed p from to spelled names told = (no_value, (refl, refl))
    payload_there no_type name (a_placed u) p from to spelled names told = absurd (said_so _ p told)
    payload_there (a_type T) name no_placed p from to spelled names told = absurd (said_so _ p told)
    payload_there (a_type T) name (a_placed u) p from to spelled names told =
        let inner = value_there T u spelled.1 names told in
        (a_value inner.0, (tree_of u, inner.0, refl, inner.1, refl))

    -- the value of a tree that stands for `ok` of itself
    alone_there : (A : MaybeType) (t : SpannedTree) → SpellsEach source t → EachNamesOfMaybe AreDistinct A → AreFaultsAlone A t [] → (v : Value) × TreeReadsFlat A (tree_of t) v
    alone_there no_type (at p s) spelled names told = absurd (said_so _ p told)
    alone_there (a_type T) (at p s) spelled names (inl h) = absurd (said_so _ p h.1)
    alone_there (a_type T) (at p s) spelled names (inr h) =
        let inner = value_there T (at p s) spelled names h.1 in
        (inner.0, (h.0, inner.1))

    -- the values of the items of a tuple
    all_there : (Ts : Types) (ts : PlacedTrees) (from to : ℕ) → SpellsAll source from to ts → EachNamesOfTypes AreDistinct Ts → length (placed_list ts) ≡ count_of Ts → AreFaultsOfItems Ts (placed_list ts) [] → (us : List Tree) × (vs : List Value) × (trees_of ts ≡ form.trees us) × TreeReadsAll Ts us vs
    all_there no_types no_more from to spelled names many told = ([], [], refl, (refl, refl))
    all_there no_types (and_then t ts) from to spelled names many told = absurd (omega (arith, many))
    all_there (type_and T more) no_more from to spelled names many told = absurd (omega (arith, many))
    all_there (type_and T more) (and_then t ts) from to spelled names many told =
        let both = neither told in
        let here = value_there T t spelled.1 names.0 both.0 in
        let others = all_there more ts (span_of t).end to spelled.2 names.1 (omega (arith, many)) both.1 in
        (tree_of t ∷ others.0, here.0 ∷ others.1, ap (form.tree_and (tree_of t)) others.2, (tree_of t, others.0, here.0, others.1, refl, here.1, others.3, refl))

    -- the value of the payload of a case
    case_there : (cs : Cases) (name : List ℕ) (payload : MaybePlaced) (p : Range ℕ) (from to : ℕ) → SpellsMaybe source from to payload → EachNamesOfCases AreDistinct cs → AreFaultsOfCase cs name payload p [] → (w : MaybeValue) × TreeReadsCase cs name (maybe_of payload) w
    case_there no_cases name payload p from to spelled names told = absurd (said_so _ p told)
    case_there (case_of other A more) name payload p from to spelled names (inl h) =
        let inner = payload_there A name payload p from to spelled names.0 h.1 in
        (inner.0, inl (h.0, inner.1))
    case_there (case_of other A more) name payload p from to spelled names (inr h) =
        let inner = case_there more name payload p from to spelled names.1 h.1 in
        (inner.0, inr inner.1)

-- where no fault is told the type gives the tree a value
pub no_fault_value : NoFaultIsAValue
no_fault_value source T t spelled names told = value_there source T t spelled names told

-- where the type gives the tree a value no fault is told
pub value_no_fault : AValueHasNoFault
value_no_fault T t [] v names told read = refl
value_no_fault T t (e ∷ more) v names told read = absurd (faulty_none T t (refusal_of e) e.span names (only_faults T t (e ∷ more) told).0 v read)
