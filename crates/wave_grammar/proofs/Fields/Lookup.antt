-- The fields of records: what the loop over a node's entries keeps.
use Rattle.std.proofs.Common.{rules, ℕ, zero, suc, ◌≡◌, ◌≢◌, ◌⊎◌, inl, inr, ◌<◌, ◌≤◌, ◌+◌, ◌*◌, ◌/◌, Bool, true, false, cond, if◌then◌else◌, List, [], ◌∷◌, ◌++◌, length, get_or, take, drop, map, Option, Some, None, option_map, Bor, refl, sym, ap, ◌∙◌, subst, add-one, arith}
use Rattle.std.specs.Prelude.{IfErr, Result, Ok, Err}
use Rattle.std.specs.Result.{IsErrAnd}
use Rattle.std.specs.Str.{bytes_eq}
use Rattle.std.specs.BTreeMap as tree
use Rattle.std.specs.BTreeMap.{BTreeMap}
use Rattle.std.specs.Cmp.Lexicographic.{slice_cmp}
use Rattle.std.specs.Ordering.{nat_cmp}
use Rattle.std.proofs.lemmas.Slice.Eq.{bytes_eq-Decides}
use Rattle.std.proofs.lemmas.Map.Text.{btree_map_updates_str}
use Rattle.wave_wasm.specs.Lists.{AllOf}
use Rattle.wave_wasm.specs.Names.{IsOneOf, IsNoneOf, AreDistinct}
use Rattle.wave_grammar.specs.LeafTokens.{name_of}
use Rattle.wave_grammar.specs.TypedGrammar.{look_up, names_of}
use Rattle.wave_grammar.specs.NodeTree.{NodeTree, type_of, place_of, children_of}
use Rattle.wave_grammar.specs.NodeAccessors.{node_text, node_pairs}
use Rattle.wave_grammar.specs.NodeFields.{IsLabelled, field_of, RefusesFields, IsFieldsOf, held_at, HoldsFields, fields_at, RefusesKey, RefusesEntry}
use Rattle.std.specs.declared.ops.Range.{Range}
use Rattle.wave_grammar.specs.Token.{Token}
use Rattle.wave_grammar.specs.Token as token
use Rattle.wave_grammar.specs.SpannedTree.{SpannedTree, at, one, label, no_placed, PlacedEntry, entry_list}
use Rattle.wave_grammar.specs.Nodes.{key_of, IsNodeOf, IsTokenOf, IsParsedFrom}
use Rattle.wave_grammar.proofs.ChildNodes.Inside.{Inside, inside}
use Rattle.wave_grammar.proofs.ChildNodes.Entries.{AreEntriesOf, map_nodes, pairs_count}
use Rattle.wave_lex.specs.Errors.{Diagnostic, Says, field_label_expected, repeated_name}
use Rattle.wave_lex.specs.declared.error.ParserErrorKind.TheVariants.{InvalidType, DuplicateField, OutOfMemory}
use Rattle.wave_grammar.specs.declared.form.NodeType.TheVariants as kind
use Rattle.wave_grammar.proofs.ByKind.Lists.{HasAt}
use Rattle.wave_wasm.proofs.Names.NameTests.{distinct_more}
use Rattle.wave_grammar.proofs.Fields.Names.{is_found}

-- ---- lists

-- the list up to a place, what stands there, and the rest
pub cut_at : {A : Type 0} (xs : List A) (i : ℕ) (x : A) → HasAt xs i x → xs ≡ take i xs ++ x ∷ drop (suc i) xs
cut_at [] i x h = absurd h
cut_at (y ∷ ys) zero x h = ap (λ z. z ∷ ys) h
cut_at (y ∷ ys) (suc i) x h = ap (λ zs. y ∷ zs) (cut_at ys i x h)

-- the list up to after a place
pub take_next : {A : Type 0} (xs : List A) (i : ℕ) (x : A) → HasAt xs i x → take (i + 1) xs ≡ take i xs ++ x ∷ []
take_next [] i x h = absurd h
take_next (y ∷ ys) zero x h = ap (λ z. z ∷ []) h
take_next (y ∷ ys) (suc i) x h = rw add-one (ap (λ zs. y ∷ zs) (simp add-one at (take_next ys i x h)))

-- the list up to its end
pub take_whole : {A : Type 0} (xs : List A) (i : ℕ) → length xs ≤ i → take i xs ≡ xs
take_whole [] zero le = refl
take_whole [] (suc i) le = refl
take_whole (y ∷ ys) zero le = absurd (omega (arith, le))
take_whole (y ∷ ys) (suc i) le = ap (λ zs. y ∷ zs) (take_whole ys i (omega (arith, le)))

-- what f makes of a list and one more
pub map_last : {A B : Type 0} (f : A → B) (xs : List A) (x : A) → map f (xs ++ x ∷ []) ≡ map f xs ++ f x ∷ []
map_last f [] x = refl
map_last f (y ∷ ys) x = ap (λ zs. f y ∷ zs) (map_last f ys x)

-- what holds of all, and of one more
pub all_last : {A : Type 0} (P : A → Type 0) (xs : List A) (x : A) → AllOf P xs → P x → AllOf P (xs ++ x ∷ [])
all_last P [] x all p = (p, tt)
all_last P (y ∷ ys) x all p = (all.0, all_last P ys x all.1 p)

-- ---- look-ups

-- a name that is not found is none of the names
pub not_found : {A : Type 0} (fs : List (List ℕ × A)) (name : List ℕ) → look_up fs name ≡ None → IsNoneOf (names_of fs) name
not_found [] name e = tt
not_found (f ∷ fs) name e = by (bytes_eq name f.0) refl (not_found fs name) e
  where
    by : (b : Bool) → bytes_eq name f.0 ≡ b → (look_up fs name ≡ None → IsNoneOf (names_of fs) name) → (if b then Some f.1 else look_up fs name) ≡ None → (name ≢ f.0) × IsNoneOf (names_of fs) name
    by true is more e = absurd (cc)
    by false is more e = ((λ same. cc (sym is ∙ (bytes_eq-Decides name f.0).1 same)), more e)

-- the same test, turned
pub eq_turn : (a b : List ℕ) → bytes_eq a b ≡ bytes_eq b a
eq_turn a b = search (rules, bytes_eq-Decides a b, bytes_eq-Decides b a)

-- a look-up among fields and one of a new name
look_last : {A : Type 0} (fs : List (List ℕ × A)) (name : List ℕ) (x : A) (q : List ℕ) → IsNoneOf (names_of fs) name → look_up (fs ++ (name, x) ∷ []) q ≡ cond (bytes_eq name q) (Some x) (look_up fs q)
look_last [] name x q none = ap (λ b. cond b (Some x) None) (eq_turn q name)
look_last (f ∷ fs) name x q none = by (bytes_eq q f.0) (bytes_eq name q) refl refl (look_last fs name x q none.1)
  where
    by : (a b : Bool) → bytes_eq q f.0 ≡ a → bytes_eq name q ≡ b → look_up (fs ++ (name, x) ∷ []) q ≡ cond (bytes_eq name q) (Some x) (look_up fs q) → (if a then Some f.1 else look_up (fs ++ (name, x) ∷ []) q) ≡ cond b (Some x) (if a then Some f.1 else look_up fs q)
    by true true is same more = absurd (none.0 ((bytes_eq-Decides name q).0 same ∙ (bytes_eq-Decides q f.0).0 is))
    by true false is same more = refl
    by false b is same more = more ∙ ap (λ c. cond c (Some x) (look_up fs q)) same

-- ---- the loop

map_cond : {A B : Type 0} (f : A → B) (b : Bool) (x : A) (o : Option A) → option_map f (cond b (Some x) o) ≡ cond b (Some (f x)) (option_map f o)
map_cond f true x o = refl
map_cond f false x o = refl

-- a map with one more field, of a new name
pub holds_field : (m n : BTreeMap (Bor (List ℕ)) (Bor NodeTree)) (fs : List (List ℕ × NodeTree)) (name : List ℕ) (x : Bor NodeTree) → HoldsFields m fs → IsNoneOf (names_of fs) name →
    tree.UpdatesBy (λ a b. slice_cmp nat_cmp a.now b.now) (λ k. slice_cmp nat_cmp name k.now) m n (Some x) → HoldsFields n (fs ++ (name, x.now) ∷ [])
holds_field m n fs name x h none u = λ q.
    ap (option_map (λ (y : Bor NodeTree). y.now)) (btree_map_updates_str name m n (Some x) u q)
    ∙ (map_cond (λ (y : Bor NodeTree). y.now) (bytes_eq name q) x (held_at m q)
    ∙ (ap (λ o. cond (bytes_eq name q) (Some x.now) o) (h q) ∙ sym (look_last fs name x.now q none)))

-- a name that the map doesn't hold is none of the names
pub new_name : (m : BTreeMap (Bor (List ℕ)) (Bor NodeTree)) (fs : List (List ℕ × NodeTree)) (name : List ℕ) → HoldsFields m fs → None ≡ held_at m name → IsNoneOf (names_of fs) name
new_name m fs name h absent = not_found fs name (sym (h name) ∙ ap (option_map (λ (y : Bor NodeTree). y.now)) (sym absent))

-- a name that the map holds is one of the names
pub old_name : (m : BTreeMap (Bor (List ℕ)) (Bor NodeTree)) (fs : List (List ℕ × NodeTree)) (name : List ℕ) (x : Bor NodeTree) → HoldsFields m fs → Some x ≡ held_at m name → IsOneOf (names_of fs) name
old_name m fs name x h there = is_found fs name x.now (sym (h name) ∙ ap (option_map (λ (y : Bor NodeTree). y.now)) (sym there))

-- the key and the value at a place of the pairs
pub pair_has : (ns : List NodeTree) (i : ℕ) (k v : NodeTree) → 2 * i + 1 < length ns → k ≡ get_or ns (2 * i) k → v ≡ get_or ns (2 * i + 1) v → HasAt (node_pairs ns) i (k, v)
pair_has [] i k v lt key val = absurd (omega (arith, lt))
pair_has (n ∷ []) i k v lt key val = absurd (omega (arith, lt))
pair_has (n ∷ m ∷ ns) zero k v lt key val = λ j. (sym key j, sym val j)
pair_has (n ∷ m ∷ ns) (suc i) k v lt key val =
    let at_key : 2 * suc i ≡ suc (suc (2 * i)) = omega arith in
    let at_val : 2 * suc i + 1 ≡ suc (suc (2 * i + 1)) = omega arith in
    pair_has ns i k v (omega (arith, lt)) (subst (λ (j : ℕ). k ≡ get_or (n ∷ m ∷ ns) j k) at_key key) (subst (λ (j : ℕ). v ≡ get_or (n ∷ m ∷ ns) j v) at_val val)

-- what the loop keeps: the keys of the first entries are labels of distinct names
pub record FieldsSoFar (source : List ℕ) (entries : List (NodeTree × NodeTree)) : Type 0 where
  pub labels : AllOf IsLabelled entries
  pub distinct : AreDistinct (names_of (map (field_of source) entries))

-- the fields of one more entry
fields_next : (source : List ℕ) (ns : List NodeTree) (i : ℕ) (k v : NodeTree) (name : List ℕ) → HasAt (node_pairs ns) i (k, v) → name ≡ name_of (node_text source k) → map (field_of source) (take (i + 1) (node_pairs ns)) ≡ map (field_of source) (take i (node_pairs ns)) ++ (name, v) ∷ []
fields_next source ns i k v name here named =
    ap (map (field_of source)) (take_next (node_pairs ns) i (k, v) here)
    ∙ (map_last (field_of source) (take i (node_pairs ns)) (k, v) ∙ ap (λ (w : List ℕ). map (field_of source) (take i (node_pairs ns)) ++ (w, v) ∷ []) (sym named))

-- ---- keys

-- the entry at a place
pub entry_has : (source : List ℕ) (ps : List (NodeTree × NodeTree)) (es : List PlacedEntry) (i : ℕ) (p : NodeTree × NodeTree) → AreEntriesOf source ps es → HasAt ps i p → (e : PlacedEntry) × HasAt es i e × IsTokenOf source p.0 e.place e.key × IsNodeOf source p.1 e.value
entry_has source [] es i p h here = absurd here
entry_has source (n ∷ ns) [] i p h here = absurd h
entry_has source (n ∷ ns) (e ∷ es) zero p h here = (e, refl, subst (λ (q : NodeTree × NodeTree). IsTokenOf source q.0 e.place e.key) here h.0, subst (λ (q : NodeTree × NodeTree). IsNodeOf source q.1 e.value) here h.1)
entry_has source (n ∷ ns) (e ∷ es) (suc i) p h here = entry_has source ns es i p h.2 here

pub not_key : (source : List ℕ) (n : NodeTree) (t : SpannedTree) (p : Range ℕ) (key : Token) → Inside source n t → key_of t ≡ Some (p, key) → type_of n ≡ kind.TupleSet → ⊥
not_key source n (at q (label r w no_placed)) p key i is e = cc (sym e ∙ i.from.0)
not_key source n (at q (one (token.number w))) p key i is e = cc (sym e ∙ i.from.1)
not_key source n (at q (one (token.char w))) p key i is e = cc (sym e ∙ i.from.1)
not_key source n (at q (one (token.string w))) p key i is e = cc (sym e ∙ i.from.1)
not_key source n (at q (one (token.multiline w))) p key i is e = cc (sym e ∙ i.from.1)
not_key source n _ p key i is e = absurd (cc)

-- a node of entries was parsed as a value
pub set_value : (source : List ℕ) (n : NodeTree) → IsParsedFrom source n → type_of n ≡ kind.TupleSet → (t : SpannedTree) × IsNodeOf source n t
set_value source n (inl t) set = t
set_value source n (inr t) set = absurd (not_key source n t.2.0.0 t.0 t.1 (inside source n t.2.0.0 t.2.0.1) t.2.0.2 set)

-- the key of an entry was parsed from the source
pub key_parsed : (source : List ℕ) (n : NodeTree) (ns : List NodeTree) (i : ℕ) (k v : NodeTree) → IsParsedFrom source n → type_of n ≡ kind.TupleSet → ns ≡ children_of n → HasAt (node_pairs ns) i (k, v) → IsParsedFrom source k
key_parsed source n ns i k v (inl t) set children here =
    let inner = map_nodes source n t.0 t.1 (inl set) in
    let e = entry_has source (node_pairs (children_of n)) (entry_list inner.given) i (k, v) inner.nodes (subst (λ (l : List NodeTree). HasAt (node_pairs l) i (k, v)) children here) in
    inr (e.0.place, e.0.key, e.2)
key_parsed source n ns i k v (inr t) set children here = absurd (not_key source n t.2.0.0 t.0 t.1 (inside source n t.2.0.0 t.2.0.1) t.2.0.2 set)

-- ---- the loop's answers

-- the refusal of a key behind entries that are not refused
refused_key : (source : List ℕ) (n : NodeTree) (ns : List NodeTree) (i : ℕ) (k v : NodeTree) (e : Diagnostic) → type_of n ≡ kind.TupleSet → ns ≡ children_of n → HasAt (node_pairs ns) i (k, v) → FieldsSoFar source (take i (node_pairs ns)) → RefusesKey source (names_of (map (field_of source) (take i (node_pairs ns)))) k e → RefusesEntry source n e
refused_key source n ns i k v e set children here h refused = record {
  is_set = set;
  before = take i (node_pairs ns);
  entry = (k, v);
  behind = drop (suc i) (node_pairs ns);
  entries = ap node_pairs (sym children) ∙ cut_at (node_pairs ns) i (k, v) here;
  labels = h.labels;
  distinct = h.distinct;
  refused = refused;
}

-- the refusal of a key that is no label
pub refused_label : (source : List ℕ) (n : NodeTree) (ns : List NodeTree) (i : ℕ) (k v : NodeTree) (e : Diagnostic) → type_of n ≡ kind.TupleSet → ns ≡ children_of n → HasAt (node_pairs ns) i (k, v) → FieldsSoFar source (take i (node_pairs ns)) → (type_of k ≢ kind.Label) × Says e InvalidType (place_of k) (Some field_label_expected) → RefusesFields source n e
refused_label source n ns i k v e set children here h refused =
    inr (inr (refused_key source n ns i k v e set children here h (inl refused)))

-- the refusal of a label whose name stands earlier
pub refused_name : (source : List ℕ) (n : NodeTree) (ns : List NodeTree) (i : ℕ) (k v : NodeTree) (name : List ℕ) (e : Diagnostic) → type_of n ≡ kind.TupleSet → ns ≡ children_of n → HasAt (node_pairs ns) i (k, v) → FieldsSoFar source (take i (node_pairs ns)) → type_of k ≡ kind.Label → name ≡ name_of (node_text source k) → IsOneOf (names_of (map (field_of source) (take i (node_pairs ns)))) name → (e.kind ≡ OutOfMemory) ⊎ Says e DuplicateField (place_of k) (Some (repeated_name name)) → RefusesFields source n e
refused_name source n ns i k v name e set children here h labelled named old (inl memory) = inl memory
refused_name source n ns i k v name e set children here h labelled named old (inr says) =
    inr (inr (refused_key source n ns i k v e set children here h (inr (labelled, subst (IsOneOf (names_of (map (field_of source) (take i (node_pairs ns))))) named old, subst (λ (w : List ℕ). Says e DuplicateField (place_of k) (Some (repeated_name w))) named says))))

-- all entries, after the last
entries_whole : (n : NodeTree) (ns : List NodeTree) (i : ℕ) → ns ≡ children_of n → length ns / 2 ≤ i → take i (node_pairs ns) ≡ node_pairs (children_of n)
entries_whole n ns i children le = take_whole (node_pairs ns) i (omega (arith, le, pairs_count ns)) ∙ ap node_pairs children

-- all fields, after the last entry
pub fields_whole : (source : List ℕ) (n : NodeTree) (ns : List NodeTree) (i : ℕ) → type_of n ≡ kind.TupleSet → ns ≡ children_of n → length ns / 2 ≤ i → FieldsSoFar source (take i (node_pairs ns)) → IsFieldsOf source n (fields_at source (children_of n))
fields_whole source n ns i set children le h =
    let whole = entries_whole n ns i children le in
    record { is_set = set; labels = subst (AllOf IsLabelled) whole h.labels; given = refl; distinct = subst (λ (es : List (NodeTree × NodeTree)). AreDistinct (names_of (map (field_of source) es))) whole h.distinct }

-- the map holds all fields, after the last entry
pub held_whole : (source : List ℕ) (n : NodeTree) (ns : List NodeTree) (i : ℕ) (m : BTreeMap (Bor (List ℕ)) (Bor NodeTree)) → ns ≡ children_of n → length ns / 2 ≤ i → HoldsFields m (map (field_of source) (take i (node_pairs ns))) → HoldsFields m (fields_at source (children_of n))
held_whole source n ns i m children le h = subst (λ (es : List (NodeTree × NodeTree)). HoldsFields m (map (field_of source) es)) (entries_whole n ns i children le) h

-- the loop goes on with one more entry
pub fields_kept : (source : List ℕ) (ns : List NodeTree) (i : ℕ) (k v : NodeTree) (name : List ℕ) → FieldsSoFar source (take i (node_pairs ns)) → HasAt (node_pairs ns) i (k, v) → type_of k ≡ kind.Label → name ≡ name_of (node_text source k) → IsNoneOf (names_of (map (field_of source) (take i (node_pairs ns)))) name → FieldsSoFar source (take (i + 1) (node_pairs ns))
fields_kept source ns i k v name h here labelled named apart =
    record {
      labels = subst (AllOf IsLabelled) (sym (take_next (node_pairs ns) i (k, v) here)) (all_last IsLabelled (take i (node_pairs ns)) (k, v) h.labels labelled);
      distinct = subst (λ (fs : List (List ℕ × NodeTree)). AreDistinct (names_of fs)) (sym (fields_next source ns i k v name here named)) (subst AreDistinct (sym (map_last (λ f. f.0) (map (field_of source) (take i (node_pairs ns))) (name, v))) (distinct_more (names_of (map (field_of source) (take i (node_pairs ns)))) name h.distinct apart));
    }

-- the map goes on with one more field
pub field_held : (m n : BTreeMap (Bor (List ℕ)) (Bor NodeTree)) (source : List ℕ) (ns : List NodeTree) (i : ℕ) (k v : NodeTree) (name : List ℕ) (x : Bor NodeTree) → v ≡ x.now → HoldsFields m (map (field_of source) (take i (node_pairs ns))) → HasAt (node_pairs ns) i (k, v) → name ≡ name_of (node_text source k) → IsNoneOf (names_of (map (field_of source) (take i (node_pairs ns)))) name →
    tree.UpdatesBy (λ a b. slice_cmp nat_cmp a.now b.now) (λ q. slice_cmp nat_cmp name q.now) m n (Some x) → HoldsFields n (map (field_of source) (take (i + 1) (node_pairs ns)))
field_held m n source ns i k v name x same h here named apart u =
    subst (HoldsFields n) (ap (λ (w : NodeTree). map (field_of source) (take i (node_pairs ns)) ++ (name, w) ∷ []) (sym same) ∙ sym (fields_next source ns i k v name here named)) (holds_field m n (map (field_of source) (take i (node_pairs ns))) name x h apart u)

-- a refusal, handed on
pub err_handed : {A : Type 0} (P : Diagnostic → Type 0) (r : Result A Diagnostic) (e : Diagnostic) → IsErrAnd r (λ f. f ≡ e) → P e → IfErr r P
err_handed P (Ok x) e same p = tt
err_handed P (Err f) e same p = subst P (sym same) p
