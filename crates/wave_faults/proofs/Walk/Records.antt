-- What is kept while the entries of a record are gone through.
use Rattle.std.proofs.Common.{ℕ, ◌+◌, ◌≤◌, drop, length, ◌≡◌, ◌≢◌, ◌⊎◌, inl, inr, ◌++◌, Bool, true, false, cond, if◌then◌else◌, List, [], ◌∷◌, Option, Some, None, option_map, Bor, MatchOption, MatchBool, refl, sym, ap, ◌∙◌, subst}
use Rattle.std.specs.declared.ops.Range.{Range}
use Rattle.std.specs.Str.{bytes_eq}
use Rattle.std.specs.BTreeMap as map
use Rattle.std.specs.BTreeMap.{BTreeMap}
use Rattle.std.specs.Cmp.Lexicographic.{slice_cmp}
use Rattle.std.specs.Ordering.{nat_cmp}
use Rattle.std.proofs.lemmas.Slice.Eq.{bytes_eq-Decides}
use Rattle.std.proofs.lemmas.Map.Text.{btree_map_updates_str}
use Rattle.wave_wasm.specs.Lists.{AllOf, SomeOf}
use Rattle.wave_wasm.specs.Names.{IsOneOf, IsNoneOf}
use Rattle.wave_wasm.specs.Types as type
use Rattle.wave_wasm.specs.Types.{TypeTree, Fields, Simple, field, field_list, field_names, fields_of}
use Rattle.wave_lex.specs.Errors.{Diagnostic, refusal_of, Says, field_label_expected, repeated_name}
use Rattle.wave_lex.specs.declared.error.ParserErrorKind.TheVariants.{InvalidType, InvalidValue, DuplicateField}
use Rattle.wave_grammar.specs.Token.{Token}
use Rattle.wave_grammar.specs.Token as token
use Rattle.wave_grammar.specs.LeafTokens.{name_of}
use Rattle.wave_grammar.specs.SpannedTree.{SpannedTree, PlacedEntry, span_of, shape_of}
use Rattle.wave_grammar.specs.TypedGrammar.{look_up}
use Rattle.wave_grammar.specs.TypeErrors.{RefusesWith, IsRefusalOf, MapKeyFault, names_in, record_in, IsFor}
use Rattle.wave_grammar.specs.FaultOrder.{BlamesNothing, LeftOut}
use Rattle.wave_grammar.specs.NodeFields.{held_at}
use Rattle.wave_grammar.specs.NodeTree.{NodeTree, type_of, place_of}
use Rattle.wave_grammar.specs.NodeAccessors.{node_text}
use Rattle.wave_grammar.specs.Nodes.{IsNodeOf, IsTokenOf}
use Rattle.wave_grammar.proofs.ByKind.Keys.{key_at}
use Rattle.wave_grammar.proofs.ByKind.Lists.{HasAt}
use Rattle.wave_grammar.proofs.ChildNodes.Entries.{AreEntriesOf}
use Rattle.wave_grammar.proofs.Fields.Entries.{key_fine}
use Rattle.wave_grammar.proofs.Fields.Lookup.{eq_turn}
use Rattle.wave_grammar.specs.declared.form.NodeType.TheVariants as kind
use Rattle.wave_faults.specs.AllFaults.{Telling, Alone, Then, InTurn, OfLeaf, FirstUnknown, OfEntries, EachLeftOut, AreFaults, AreFaultsOfValue}
use Rattle.wave_faults.specs.Private.Told.{Adds}
use Rattle.wave_faults.specs.Private.RecordFaults.{LooksUp, HasNames, names_behind, KeyTold, EntriesTold}
use Rattle.wave_faults.proofs.Walk.Adding.{adds_none, adds_error, adds_so, adds_then, Leads, lead_start, lead_on, lead_so, lead_end}
use Rattle.wave_faults.proofs.Walk.Forms.{drop_has, drop_whole}
use Rattle.wave_faults.proofs.Walk.Leaves.{named, nameless}
use Rattle.wave_faults.proofs.EachTold.Entries.{not_both}

-- the map is this one, but for the name, which has x
abbrev pub Updated : {X : Type 0} → List ℕ → BTreeMap (Bor (List ℕ)) X → BTreeMap (Bor (List ℕ)) X → X → Type 0
Updated name m n x = map.UpdatesBy (λ a b. slice_cmp nat_cmp a.now b.now) (λ k. slice_cmp nat_cmp name k.now) m n (Some x)

map_cond : {A B : Type 0} (f : A → B) (b : Bool) (x : A) (o : Option A) → option_map f (cond b (Some x) o) ≡ cond b (Some (f x)) (option_map f o)
map_cond f true x o = refl
map_cond f false x o = refl

-- ---- the types of fields

-- a field before the others
pub looks_next : {S : Type 0} (tree : S → TypeTree) (m n : BTreeMap (Bor (List ℕ)) (Bor S)) (fs : List (List ℕ × TypeTree)) (name : List ℕ) (x : Bor S) → LooksUp tree m fs → Updated name m n x → LooksUp tree n ((name, tree x.now) ∷ fs)
looks_next tree m n fs name x h u = λ q.
    ap (option_map (λ (y : Bor _). tree y.now)) (btree_map_updates_str name m n (Some x) u q)
    ∙ (map_cond (λ (y : Bor _). tree y.now) (bytes_eq name q) x (held_at m q)
    ∙ (ap (λ o. cond (bytes_eq name q) (Some (tree x.now)) o) (h q) ∙ ap (λ b. cond b (Some (tree x.now)) (look_up fs q)) (eq_turn name q)))

fields_back : (fs : Fields) → fields_of (field_list fs) ≡ fs
fields_back type.no_fields = refl
fields_back (field name T more) = ap (λ (x : Fields). field name T x) (fields_back more)

-- the fields in these parts
pub parts_back : (fs : Fields) (parts : List (List ℕ × TypeTree)) → parts ≡ field_list fs → fields_of parts ≡ fs
parts_back fs parts e = ap fields_of e ∙ fields_back fs

-- the value of an entry whose key is no label
pub value_nameless : (fs : Fields) (e : PlacedEntry) → names_in e.key ≡ [] → AreFaultsOfValue fs e []
value_nameless type.no_fields e none = refl
value_nameless (field name T more) e none = inr ((λ for. cc (sym none ∙ for)), value_nameless more e none)

one_name : (a b : List ℕ) → a ∷ [] ≡ b ∷ [] → a ≡ b
one_name a b e = cc

-- the value of an entry for no field
pub value_unknown : (fs : Fields) (e : PlacedEntry) (name : List ℕ) → IsFor name e → look_up (field_list fs) name ≡ None → AreFaultsOfValue fs e []
value_unknown type.no_fields e name for none = refl
value_unknown (field other T more) e name for none = by (bytes_eq name other) refl (value_unknown more e name for) none
  where
    by : (b : Bool) → bytes_eq name other ≡ b → (look_up (field_list more) name ≡ None → AreFaultsOfValue more e []) → (if b then Some T else look_up (field_list more) name) ≡ None → AreFaultsOfValue (field other T more) e []
    by true is more_none e = absurd (cc e)
    by false is more_none none = inr ((λ again. cc (sym is ∙ (bytes_eq-Decides name other).1 (one_name name other (sym for ∙ again)))), more_none none)

-- the value of an entry for a field
pub value_found : (fs : Fields) (e : PlacedEntry) (name : List ℕ) (T : TypeTree) (errors : List Diagnostic) → IsFor name e → look_up (field_list fs) name ≡ Some T → AreFaults T e.value errors → AreFaultsOfValue fs e errors
value_found type.no_fields e name T errors for found h = absurd (cc found)
value_found (field other U more) e name T errors for found h = by (bytes_eq name other) refl (λ there. value_found more e name T errors for there h) found
  where
    some_type : (A B : TypeTree) → Some A ≡ Some B → A ≡ B
    some_type A B e = cc

    by : (b : Bool) → bytes_eq name other ≡ b → (look_up (field_list more) name ≡ Some T → AreFaultsOfValue more e errors) → (if b then Some U else look_up (field_list more) name) ≡ Some T → AreFaultsOfValue (field other U more) e errors
    by true is others there = inl (for ∙ ap (λ (x : List ℕ). x ∷ []) ((bytes_eq-Decides name other).0 is), subst (λ (V : TypeTree). AreFaults V e.value errors) (sym (some_type U T there)) h)
    by false is others there = inr ((λ again. cc (sym is ∙ (bytes_eq-Decides name other).1 (one_name name other (sym for ∙ again)))), others there)

-- a name that is looked up is that of a field
pub found_is_one : (fs : Fields) (name : List ℕ) (T : TypeTree) → look_up (field_list fs) name ≡ Some T → IsOneOf (field_names fs) name
found_is_one type.no_fields name T e = absurd (cc e)
found_is_one (field other U more) name T e = by (bytes_eq name other) refl (found_is_one more name T) e
  where
    by : (b : Bool) → bytes_eq name other ≡ b → (look_up (field_list more) name ≡ Some T → IsOneOf (field_names more) name) → (if b then Some U else look_up (field_list more) name) ≡ Some T → (name ≡ other) ⊎ IsOneOf (field_names more) name
    by true is others e = inl ((bytes_eq-Decides name other).0 is)
    by false is others e = inr (others e)

-- a name that is not looked up is that of none
pub missing_is_none : (fs : Fields) (name : List ℕ) → look_up (field_list fs) name ≡ None → IsNoneOf (field_names fs) name
missing_is_none type.no_fields name e = tt
missing_is_none (field other U more) name e = by (bytes_eq name other) refl (missing_is_none more name) e
  where
    by : (b : Bool) → bytes_eq name other ≡ b → (look_up (field_list more) name ≡ None → IsNoneOf (field_names more) name) → (if b then Some U else look_up (field_list more) name) ≡ None → (name ≢ other) × IsNoneOf (field_names more) name
    by true is others e = absurd (cc e)
    by false is others e = ((λ same. cc (sym is ∙ (bytes_eq-Decides name other).1 same)), others e)

-- ---- the names that were seen

names_by : {X : Type 0} (names : List (List ℕ)) (name q : List ℕ) (x : X) (b : Bool) (o : Option X) → bytes_eq name q ≡ b → MatchOption o (IsNoneOf names q) (λ _. IsOneOf names q) → MatchOption (cond b (Some x) o) (IsNoneOf (name ∷ names) q) (λ _. IsOneOf (name ∷ names) q)
names_by names name q x true o e h = inl (sym ((bytes_eq-Decides name q).0 e))
names_by names name q x false None e h = ((λ same. cc (sym e ∙ (bytes_eq-Decides name q).1 (sym same))), h)
names_by names name q x false (Some y) e h = inr h

-- one name more
pub names_next : {X : Type 0} (m n : BTreeMap (Bor (List ℕ)) X) (names : List (List ℕ)) (name : List ℕ) (x : X) → HasNames m names → Updated name m n x → HasNames n (name ∷ names)
names_next m n names name x h u = λ q.
    subst (λ (o : Option _). MatchOption o (IsNoneOf (name ∷ names) q) (λ _. IsOneOf (name ∷ names) q)) (sym (btree_map_updates_str name m n (Some x) u q))
    (names_by names name q x (bytes_eq name q) (held_at m q) refl (h q))

-- a name that is held is one of the names
pub is_seen : {X : Type 0} (m : BTreeMap (Bor (List ℕ)) X) (names : List (List ℕ)) (name : List ℕ) (x : X) → HasNames m names → Some x ≡ held_at m name → IsOneOf names name
is_seen m names name x h e = subst (λ (o : Option _). MatchOption o (IsNoneOf names name) (λ _. IsOneOf names name)) (sym e) (h name)

-- a name that is not held is none of them
pub is_new : {X : Type 0} (m : BTreeMap (Bor (List ℕ)) X) (names : List (List ℕ)) (name : List ℕ) → HasNames m names → None ≡ held_at m name → IsNoneOf names name
is_new m names name h e = subst (λ (o : Option _). MatchOption o (IsNoneOf names name) (λ _. IsOneOf names name)) (sym e) (h name)

one_of_either : (xs ys : List (List ℕ)) (name : List ℕ) → IsOneOf (xs ++ ys) name → IsOneOf xs name ⊎ IsOneOf ys name
one_of_either [] ys name h = inr h
one_of_either (x ∷ xs) ys name (inl e) = inl (inl e)
one_of_either (x ∷ xs) ys name (inr h) = elim (one_of_either xs ys name h) [ inl g ↦ inl (inr g) | inr g ↦ inr g ]

one_of_first : (xs ys : List (List ℕ)) (name : List ℕ) → IsOneOf xs name → IsOneOf (xs ++ ys) name
one_of_first (x ∷ xs) ys name (inl e) = inl e
one_of_first (x ∷ xs) ys name (inr h) = inr (one_of_first xs ys name h)
one_of_first [] ys name h = absurd h

one_of_others : (xs ys : List (List ℕ)) (name : List ℕ) → IsOneOf ys name → IsOneOf (xs ++ ys) name
one_of_others [] ys name h = h
one_of_others (x ∷ xs) ys name h = inr (one_of_others xs ys name h)

-- an earlier name is one behind more keys
earlier_behind : (es : List PlacedEntry) (earlier : List (List ℕ)) (name : List ℕ) → IsOneOf earlier name → IsOneOf (names_behind earlier es) name
earlier_behind [] earlier name h = h
earlier_behind (e ∷ es) earlier name h = earlier_behind es (names_in e.key ++ earlier) name (one_of_others (names_in e.key) earlier name h)

-- an entry that is for the name gives it
for_behind : (es : List PlacedEntry) (earlier : List (List ℕ)) (name : List ℕ) → SomeOf (IsFor name) es → IsOneOf (names_behind earlier es) name
for_behind [] earlier name h = absurd h
for_behind (e ∷ es) earlier name (inl for) = earlier_behind es (names_in e.key ++ earlier) name (subst (λ (ns : List (List ℕ)). IsOneOf (ns ++ earlier) name) (sym for) (inl refl))
for_behind (e ∷ es) earlier name (inr h) = for_behind es (names_in e.key ++ earlier) name h

one_of_one : (ns : List (List ℕ)) (x name : List ℕ) → ns ≡ x ∷ [] → IsOneOf ns name → ns ≡ name ∷ []
one_of_one ns x name e h = elim (subst (λ (l : List (List ℕ)). IsOneOf l name) e h) [ inl same ↦ e ∙ ap (λ (y : List ℕ). y ∷ []) (sym same) | inr none ↦ absurd none ]

-- a key gives one name at most
one_for : (t : Token) (name : List ℕ) → IsOneOf (names_in t) name → names_in t ≡ name ∷ []
one_for (token.label text) name h = one_of_one (names_in (token.label text)) (name_of text) name refl h
one_for _ name h = absurd h

-- a name behind keys is an earlier one or some entry is for it
behind_for : (es : List PlacedEntry) (earlier : List (List ℕ)) (name : List ℕ) → IsOneOf (names_behind earlier es) name → IsOneOf earlier name ⊎ SomeOf (IsFor name) es
behind_for [] earlier name h = inl h
behind_for (e ∷ es) earlier name h = by (behind_for es (names_in e.key ++ earlier) name h)
  where
    by : IsOneOf (names_in e.key ++ earlier) name ⊎ SomeOf (IsFor name) es → IsOneOf earlier name ⊎ SomeOf (IsFor name) (e ∷ es)
    by (inl g) = elim (one_of_either (names_in e.key) earlier name g) [ inl here ↦ inr (inl (one_for e.key name here)) | inr before ↦ inl before ]
    by (inr g) = inr (inr g)

-- where the name was seen, no field of it is left out
pub not_left_out : (es : List PlacedEntry) (name : List ℕ) (T : TypeTree) (p : Range ℕ) → IsOneOf (names_behind [] es) name → BlamesNothing (LeftOut name T es p)
not_left_out es name T p h k q f = elim (behind_for es [] name h) [ inl none ↦ absurd none | inr some ↦ f.1 some ]

-- where it was not, no entry is for it
pub none_for : (es : List PlacedEntry) (name : List ℕ) → IsNoneOf (names_behind [] es) name → SomeOf (IsFor name) es → ⊥
none_for es name none some = not_both (names_behind [] es) name (for_behind es [] name some) none

-- ---- keys

-- a key that is no label
pub label_missing : {X : Type 0} (earlier : List (List ℕ)) (e : PlacedEntry) (source : List ℕ) (key : NodeTree) (d : Diagnostic) (seen : BTreeMap (Bor (List ℕ)) X) (old new : List Diagnostic) → HasNames seen earlier → IsTokenOf source key e.place e.key → type_of key ≢ kind.Label → Says d InvalidType (place_of key) (Some field_label_expected) → new ≡ old ++ d ∷ [] → KeyTold earlier e None seen old new
label_missing earlier e source key d seen old new has token apart says is =
    let none : names_in e.key ≡ [] = nameless source key e.place e.key token apart in
    record {
      told = adds_error old new d is (inl (none, (says.is, says.stands ∙ sym (key_at source key e.place e.key token))));
      has = subst (λ (ns : List (List ℕ)). HasNames seen (ns ++ earlier)) (sym none) has;
      named = none;
    }

-- a label that an earlier key has
pub label_repeated : {X : Type 0} (earlier : List (List ℕ)) (e : PlacedEntry) (source : List ℕ) (key : NodeTree) (name : Bor (List ℕ)) (d : Diagnostic) (x y : X) (before seen : BTreeMap (Bor (List ℕ)) X) (old new : List Diagnostic) → HasNames before earlier → IsTokenOf source key e.place e.key → type_of key ≡ kind.Label → name.now ≡ name_of (node_text source key)
    → Some x ≡ held_at before name.now → Updated name.now before seen y → Says d DuplicateField (place_of key) (Some (repeated_name name.now)) → new ≡ old ++ d ∷ [] → KeyTold earlier e (Some name) seen old new
label_repeated earlier e source key name d x y before seen old new has token labelled named_so held updated says is =
    let own : names_in e.key ≡ name.now ∷ [] = named source key e.place e.key token labelled ∙ ap (λ (w : List ℕ). w ∷ []) (sym named_so) in
    let one : IsOneOf earlier name.now = is_seen before earlier name.now x has held in
    record {
      told = adds_error old new d is (inr (subst (SomeOf (λ (w : List ℕ). IsOneOf earlier w × RefusesWith DuplicateField (Some (repeated_name w)) e.place (refusal_of d) d.span)) (sym own) (inl (one, (says.is, says.stands ∙ sym (key_at source key e.place e.key token))))));
      has = subst (λ (ns : List (List ℕ)). HasNames seen (ns ++ earlier)) (sym own) (names_next before seen earlier name.now y has updated);
      named = own;
    }

-- a new label
pub label_new : {X : Type 0} (earlier : List (List ℕ)) (e : PlacedEntry) (source : List ℕ) (key : NodeTree) (name : Bor (List ℕ)) (y : X) (before seen : BTreeMap (Bor (List ℕ)) X) (old : List Diagnostic) → HasNames before earlier → IsTokenOf source key e.place e.key → type_of key ≡ kind.Label → name.now ≡ name_of (node_text source key)
    → None ≡ held_at before name.now → Updated name.now before seen y → KeyTold earlier e (Some name) seen old old
label_new earlier e source key name y before seen old has token labelled named_so held updated =
    let own : names_in e.key ≡ name.now ∷ [] = named source key e.place e.key token labelled ∙ ap (λ (w : List ℕ). w ∷ []) (sym named_so) in
    record {
      told = adds_none old (key_fine earlier e name.now own (is_new before earlier name.now has held));
      has = subst (λ (ns : List (List ℕ)). HasNames seen (ns ++ earlier)) (sym own) (names_next before seen earlier name.now y has updated);
      named = own;
    }

-- ---- the loop over the entries

-- what is left of the entries
pub record EntriesLeft {X : Type 0} (fs : Fields) (source : List ℕ) (es : List PlacedEntry) (p : Range ℕ) (pairs : List (NodeTree × NodeTree)) (seen : BTreeMap (Bor (List ℕ)) X) (unknown : Bool) (old told : List Diagnostic) : Type 0 where
  pub earlier : List (List ℕ)
  pub rest : List PlacedEntry
  pub nodes : AreEntriesOf source pairs rest
  pub leads : Leads (OfEntries (field_names fs) (λ e. AreFaultsOfValue fs e) [] es p) (OfEntries (field_names fs) (λ e. AreFaultsOfValue fs e) earlier rest p) old told
  pub has : HasNames seen earlier
  pub known : MatchBool unknown (SomeOf (IsNoneOf (field_names fs)) earlier) (AllOf (IsOneOf (field_names fs)) earlier)
  pub behind : names_behind earlier rest ≡ names_behind [] es

-- the next entry
pub record NextOf (source : List ℕ) (n : NodeTree × NodeTree) (pairs : List (NodeTree × NodeTree)) (rest : List PlacedEntry) : Type 0 where
  pub here : PlacedEntry
  pub others : List PlacedEntry
  pub is : rest ≡ here ∷ others
  pub key : IsTokenOf source n.0 here.place here.key
  pub value : IsNodeOf source n.1 here.value
  pub nodes : AreEntriesOf source pairs others

pub next_of : (source : List ℕ) (n : NodeTree × NodeTree) (pairs : List (NodeTree × NodeTree)) (rest : List PlacedEntry) → AreEntriesOf source (n ∷ pairs) rest → NextOf source n pairs rest
next_of source n pairs [] h = absurd h
next_of source n pairs (e ∷ rest) h = record { here = e; others = rest; is = refl; key = h.0; value = h.1; nodes = h.2 }

-- nothing is left
pub none_left : (source : List ℕ) (rest : List PlacedEntry) → AreEntriesOf source [] rest → rest ≡ []
none_left source [] h = refl
none_left source (e ∷ rest) h = absurd h

-- no label of the entry
pub nameless_known : (names earlier : List (List ℕ)) (e : PlacedEntry) (p : Range ℕ) → names_in e.key ≡ [] → BlamesNothing (FirstUnknown names earlier e p)
nameless_known names earlier e p none k q (all, (inl some, r)) = subst (SomeOf (IsNoneOf names)) none some
nameless_known names earlier e p none k q (all, (inr more, r)) = more

-- the label of a field
pub field_known : (names earlier : List (List ℕ)) (e : PlacedEntry) (p : Range ℕ) (name : List ℕ) → IsFor name e → IsOneOf names name → BlamesNothing (FirstUnknown names earlier e p)
field_known names earlier e p name for one k q (all, (inl some, r)) = elim (subst (SomeOf (IsNoneOf names)) for some) [ inl none ↦ not_both names name one none | inr more ↦ more ]
field_known names earlier e p name for one k q (all, (inr more, r)) = more

not_some : (names earlier : List (List ℕ)) → AllOf (IsOneOf names) earlier → SomeOf (IsNoneOf names) earlier → ⊥
not_some names [] all some = some
not_some names (x ∷ earlier) all (inl none) = not_both names x all.0 none
not_some names (x ∷ earlier) all (inr some) = not_some names earlier all.1 some

-- a label behind another that is no field
pub later_unknown : (names earlier : List (List ℕ)) (e : PlacedEntry) (p : Range ℕ) → SomeOf (IsNoneOf names) earlier → BlamesNothing (FirstUnknown names earlier e p)
later_unknown names earlier e p some k q (all, u) = not_some names earlier all some

-- the first label that is no field
pub now_unknown : (names earlier : List (List ℕ)) (e : PlacedEntry) (p : Range ℕ) (name : List ℕ) (d : Diagnostic) → IsFor name e → IsNoneOf names name → AllOf (IsOneOf names) earlier → IsRefusalOf InvalidValue p (refusal_of d) d.span → Alone (FirstUnknown names earlier e p) (d ∷ [])
now_unknown names earlier e p name d for none all r = (all, (inl (subst (SomeOf (IsNoneOf names)) (sym for) (inl none)), r))

module _ {X : Type 0} (fs : Fields) (source : List ℕ) (es : List PlacedEntry) (p : Range ℕ) (n : NodeTree × NodeTree) (pairs : List (NodeTree × NodeTree)) (before seen : BTreeMap (Bor (List ℕ)) X) where
  -- one entry more
  entries_step : (u v : Bool) (old told mid after new : List Diagnostic) (l : EntriesLeft fs source es p (n ∷ pairs) before u old told) (x : NextOf source n pairs l.rest) (name : Option (Bor (List ℕ))) → KeyTold l.earlier x.here name seen told mid
      → Adds (Alone (FirstUnknown (field_names fs) l.earlier x.here p)) mid after → Adds (AreFaultsOfValue fs x.here) after new → MatchBool v (SomeOf (IsNoneOf (field_names fs)) (names_in x.here.key ++ l.earlier)) (AllOf (IsOneOf (field_names fs)) (names_in x.here.key ++ l.earlier))
      → EntriesLeft fs source es p pairs seen v old new
  entries_step u v old told mid after new l x name key unknown value known = record {
    earlier = names_in x.here.key ++ l.earlier;
    rest = x.others;
    nodes = x.nodes;
    leads = lead_on (lead_on (lead_on (lead_so (λ errors h. subst (λ (r : List PlacedEntry). OfEntries (field_names fs) (λ e. AreFaultsOfValue fs e) l.earlier r p errors) (sym x.is) h) l.leads) key.told) unknown) value;
    has = key.has;
    known = known;
    behind = ap (names_behind l.earlier) (sym x.is) ∙ l.behind;
  }

  -- the names that are known, and none more
  same_known : (u : Bool) (names earlier more : List (List ℕ)) → more ≡ [] → MatchBool u (SomeOf (IsNoneOf names) earlier) (AllOf (IsOneOf names) earlier) → MatchBool u (SomeOf (IsNoneOf names) (more ++ earlier)) (AllOf (IsOneOf names) (more ++ earlier))
  same_known u names earlier more none h = subst (λ (ns : List (List ℕ)). MatchBool u (SomeOf (IsNoneOf names) (ns ++ earlier)) (AllOf (IsOneOf names) (ns ++ earlier))) (sym none) h

  -- and that of a field
  one_known : (u : Bool) (names earlier more : List (List ℕ)) (name : List ℕ) → more ≡ name ∷ [] → IsOneOf names name → MatchBool u (SomeOf (IsNoneOf names) earlier) (AllOf (IsOneOf names) earlier) → MatchBool u (SomeOf (IsNoneOf names) (more ++ earlier)) (AllOf (IsOneOf names) (more ++ earlier))
  one_known true names earlier more name is one h = subst (λ (ns : List (List ℕ)). SomeOf (IsNoneOf names) (ns ++ earlier)) (sym is) (inr h)
  one_known false names earlier more name is one h = subst (λ (ns : List (List ℕ)). AllOf (IsOneOf names) (ns ++ earlier)) (sym is) (one, h)

  -- an entry whose key is no label
  pub step_nameless : (u : Bool) (old told new : List Diagnostic) (l : EntriesLeft fs source es p (n ∷ pairs) before u old told) (x : NextOf source n pairs l.rest) → KeyTold l.earlier x.here None seen told new → EntriesLeft fs source es p pairs seen u old new
  step_nameless u old told new l x key =
      entries_step u u old told new new new l x None key (adds_none new (nameless_known (field_names fs) l.earlier x.here p key.named)) (adds_none new (value_nameless fs x.here key.named))
      (same_known u (field_names fs) l.earlier (names_in x.here.key) key.named l.known)

  -- an entry for a field
  pub step_found : (u : Bool) (old told mid new : List Diagnostic) (l : EntriesLeft fs source es p (n ∷ pairs) before u old told) (x : NextOf source n pairs l.rest) (name : Bor (List ℕ)) (T : TypeTree) → KeyTold l.earlier x.here (Some name) seen told mid → look_up (field_list fs) name.now ≡ Some T → Adds (AreFaults T x.here.value) mid new → EntriesLeft fs source es p pairs seen u old new
  step_found u old told mid new l x name T key found value =
      let one = found_is_one fs name.now T found in
      entries_step u u old told mid mid new l x (Some name) key (adds_none mid (field_known (field_names fs) l.earlier x.here p name.now key.named one)) (adds_so (λ errors h. value_found fs x.here name.now T errors key.named found h) value)
      (one_known u (field_names fs) l.earlier (names_in x.here.key) name.now key.named one l.known)

  -- the first entry for no field
  pub step_unknown : (old told mid new : List Diagnostic) (d : Diagnostic) (l : EntriesLeft fs source es p (n ∷ pairs) before false old told) (x : NextOf source n pairs l.rest) (name : Bor (List ℕ)) → KeyTold l.earlier x.here (Some name) seen told mid → look_up (field_list fs) name.now ≡ None → IsRefusalOf InvalidValue p (refusal_of d) d.span → new ≡ mid ++ d ∷ [] → EntriesLeft fs source es p pairs seen true old new
  step_unknown old told mid new d l x name key missing r is =
      let none = missing_is_none fs name.now missing in
      entries_step false true old told mid new new l x (Some name) key (adds_error mid new d is (now_unknown (field_names fs) l.earlier x.here p name.now d key.named none l.known r)) (adds_none new (value_unknown fs x.here name.now key.named missing))
      (subst (λ (ns : List (List ℕ)). SomeOf (IsNoneOf (field_names fs)) (ns ++ l.earlier)) (sym key.named) (inl none))

  -- another entry for no field
  pub step_again : (old told new : List Diagnostic) (l : EntriesLeft fs source es p (n ∷ pairs) before true old told) (x : NextOf source n pairs l.rest) (name : Bor (List ℕ)) → KeyTold l.earlier x.here (Some name) seen told new → look_up (field_list fs) name.now ≡ None → EntriesLeft fs source es p pairs seen true old new
  step_again old told new l x name key missing =
      let none = missing_is_none fs name.now missing in
      entries_step true true old told new new new l x (Some name) key (adds_none new (later_unknown (field_names fs) l.earlier x.here p l.known)) (adds_none new (value_unknown fs x.here name.now key.named missing))
      (subst (λ (ns : List (List ℕ)). SomeOf (IsNoneOf (field_names fs)) (ns ++ l.earlier)) (sym key.named) (inl none))

-- ---- fields that are left out

-- the fields from a place on
pub left_next : (name : List ℕ) (T : TypeTree) (i : ℕ) (all : List (List ℕ × TypeTree)) (es : List PlacedEntry) (p : Range ℕ) (old told new : List Diagnostic) → HasAt all i (name, T) → Leads (EachLeftOut (fields_of all) es p) (EachLeftOut (fields_of (drop i all)) es p) old told → Adds (Alone (LeftOut name T es p)) told new → Leads (EachLeftOut (fields_of all) es p) (EachLeftOut (fields_of (drop (i + 1) all)) es p) old new
left_next name T i all es p old told new here l a =
    lead_on (lead_so (λ errors h. subst (λ (ps : List (List ℕ × TypeTree)). EachLeftOut (fields_of ps) es p errors) (sym (drop_has all i (name, T) here)) h) l) a

-- each was gone through
pub left_end : (all : List (List ℕ × TypeTree)) (i : ℕ) (es : List PlacedEntry) (p : Range ℕ) (old told : List Diagnostic) → length all ≤ i → Leads (EachLeftOut (fields_of all) es p) (EachLeftOut (fields_of (drop i all)) es p) old told → Adds (EachLeftOut (fields_of all) es p) old told
left_end all i es p old told le l = lead_end l (subst (λ (ps : List (List ℕ × TypeTree)). EachLeftOut (fields_of ps) es p []) (sym (drop_whole all i le)) refl)

-- ---- maps

-- what is told of an entry of a map
abbrev pub OfEntry : Simple → TypeTree → PlacedEntry → Telling
OfEntry K V e = Then (OfLeaf K e.key (MapKeyFault K e.place e.key)) (AreFaults V e.value)

-- what is left of the entries
pub record PairsLeft (K : Simple) (V : TypeTree) (source : List ℕ) (es : List PlacedEntry) (pairs : List (NodeTree × NodeTree)) (old told : List Diagnostic) : Type 0 where
  pub rest : List PlacedEntry
  pub nodes : AreEntriesOf source pairs rest
  pub leads : Leads (InTurn (OfEntry K V) es) (InTurn (OfEntry K V) rest) old told

pub pairs_start : (K : Simple) (V : TypeTree) (source : List ℕ) (es : List PlacedEntry) (pairs : List (NodeTree × NodeTree)) (old : List Diagnostic) → AreEntriesOf source pairs es → PairsLeft K V source es pairs old old
pairs_start K V source es pairs old h = record { rest = es; nodes = h; leads = lead_start old }

-- the next entry
pub pairs_next : (K : Simple) (V : TypeTree) (source : List ℕ) (es : List PlacedEntry) (n : NodeTree × NodeTree) (pairs : List (NodeTree × NodeTree)) (old told mid new : List Diagnostic) → (l : PairsLeft K V source es (n ∷ pairs) old told) → ((e : PlacedEntry) → IsTokenOf source n.0 e.place e.key → Adds (OfLeaf K e.key (MapKeyFault K e.place e.key)) told mid) → ((e : PlacedEntry) → IsNodeOf source n.1 e.value → Adds (AreFaults V e.value) mid new) → PairsLeft K V source es pairs old new
pairs_next K V source es n pairs old told mid new l key val =
    let x = next_of source n pairs l.rest l.nodes in
    record {
      rest = x.others;
      nodes = x.nodes;
      leads = lead_on (lead_so (λ errors h. subst (λ (r : List PlacedEntry). InTurn (OfEntry K V) r errors) (sym x.is) h) l.leads) (adds_then (key x.here x.key) (val x.here x.value));
    }

-- none is left
pub pairs_end : (K : Simple) (V : TypeTree) (source : List ℕ) (es : List PlacedEntry) (pairs : List (NodeTree × NodeTree)) (old told : List Diagnostic) → pairs ≡ [] → PairsLeft K V source es pairs old told → Adds (InTurn (OfEntry K V) es) old told
pairs_end K V source es pairs old told is l =
    let none = none_left source l.rest (subst (λ (ps : List (NodeTree × NodeTree)). AreEntriesOf source ps l.rest) is l.nodes) in
    lead_end l.leads (subst (λ (r : List PlacedEntry). InTurn (OfEntry K V) r []) (sym none) refl)

-- the beginning of the entries of a record
pub entries_start : {X : Type 0} (fs : Fields) (source : List ℕ) (es : List PlacedEntry) (p : Range ℕ) (pairs : List (NodeTree × NodeTree)) (seen : BTreeMap (Bor (List ℕ)) X) (old : List Diagnostic) → AreEntriesOf source pairs es → HasNames seen [] → EntriesLeft fs source es p pairs seen false old old
entries_start fs source es p pairs seen old h names = record { earlier = []; rest = es; nodes = h; leads = lead_start old; has = names; known = tt; behind = refl }

-- their end
pub entries_end : {X : Type 0} (fs : Fields) (source : List ℕ) (t : SpannedTree) (es : List PlacedEntry) (pairs : List (NodeTree × NodeTree)) (seen : BTreeMap (Bor (List ℕ)) X) (u : Bool) (old told : List Diagnostic) → pairs ≡ [] → record_in (shape_of t) ≡ Some es → EntriesLeft fs source es (span_of t) pairs seen u old told → EntriesTold fs t seen old told
entries_end fs source t es pairs seen u old told is form l =
    let none = none_left source l.rest (subst (λ (ps : List (NodeTree × NodeTree)). AreEntriesOf source ps l.rest) is l.nodes) in
    record {
      entries = es;
      form = form;
      told = lead_end l.leads (subst (λ (r : List PlacedEntry). OfEntries (field_names fs) (λ e. AreFaultsOfValue fs e) l.earlier r (span_of t) []) (sym none) refl);
      has = subst (HasNames seen) (ap (names_behind l.earlier) (sym none) ∙ l.behind) l.has;
    }
