-- Records whose fields are read in the order of their type, from a map of the nodes by their names.
use Rattle.std.proofs.Common.{ℕ, zero, suc, ◌≡◌, ◌⊎◌, inl, inr, ◌<◌, ◌≤◌, ◌+◌, ◌*◌, Bool, true, false, ◌||◌, cond, if◌then◌else◌, List, [], ◌∷◌, ◌++◌, length, get_or, take, map, Option, Some, None, option_map, Bor, Result, IfOk, IfErr, MatchResult, refl, sym, ap, ◌∙◌, subst, add-one, arith}
use Rattle.std.proofs.lemmas.List.Folds.{list_any-append}
use Rattle.std.specs.Str.{bytes_eq}
use Rattle.std.specs.BTreeMap as tree_map
use Rattle.std.specs.BTreeMap.{BTreeMap, btree_map_len}
use Rattle.std.specs.Cmp.Lexicographic.{slice_cmp}
use Rattle.std.specs.Ordering.{nat_cmp}
use Rattle.std.proofs.lemmas.Slice.Eq.{bytes_eq-Decides}
use Rattle.std.proofs.lemmas.Map.Text.{btree_map_updates_str, is_eq-slice_cmp}
use Rattle.wave_wasm.specs.Lists.{AllOf, SomeOf}
use Rattle.wave_wasm.specs.Names.{IsOneOf, IsNoneOf, AreDistinct, is_one_of}
use Rattle.wave_wasm.specs.Types as type
use Rattle.wave_wasm.specs.Types.{TypeTree, Fields, HasDistinctNames, field_names}
use Rattle.wave_wasm.specs.Values.{Value}
use Rattle.wave_wasm.specs.Borrowed.{denoted_fields}
use Rattle.wave_wasm.specs.ConstructorContracts.{MakesRecord, FullRecord, TypedRecord}
use Rattle.wave_wasm.specs.declared.wasm.WasmValueError.{WasmValueError}
use Rattle.wave_lex.specs.Errors.{Diagnostic, refusal_of}
use Rattle.wave_lex.specs.declared.error.ParserErrorKind.TheVariants as error
use Rattle.wave_grammar.specs.LeafTokens.{name_of}
use Rattle.wave_grammar.specs.TypedGrammar.{look_up, names_of}
use Rattle.wave_grammar.specs.SpannedTree.{SpannedTree, PlacedEntry, entry_list}
use Rattle.wave_grammar.specs.TypeErrors.{IsRefusalOf, names_in, IsFor}
use Rattle.wave_grammar.specs.FaultOrder.{Order, by_type}
use Rattle.wave_grammar.specs.NodeTree.{NodeTree, NodeTrees, node, no_nodes, node_and, node_list, place_of, children_of, depth, nodes_depth}
use Rattle.wave_grammar.specs.Nodes.{IsNodeOf}
use Rattle.wave_grammar.specs.NodeAccessors.{node_pairs, node_text, denoted_node}
use Rattle.wave_grammar.specs.TypedReading.{IsTypedValue, IsBlamed, IsBuilt, IsValueOf}
use Rattle.wave_grammar.specs.NodeFields.{IsFieldsOf, field_of, held_at, HoldsFields, IsFieldNode, fields_at}
use Rattle.wave_grammar.proofs.ChildNodes.Inside.{inside, some_is}
use Rattle.wave_grammar.proofs.ByKind.MakerAnswers.{built}
use Rattle.wave_wasm.proofs.Names.NameTests.{is_one, none_of}
use Rattle.wave_grammar.proofs.ByKind.Lists.{HasAt}
use Rattle.wave_grammar.proofs.ByKind.Tuples.{place_has, map_has}
use Rattle.wave_grammar.proofs.ByKind.Enums.{none_one}
use Rattle.wave_grammar.proofs.Fields.Lookup.{take_next, take_whole, map_last, eq_turn}
use Rattle.wave_grammar.proofs.Fields.Entries.{AreFieldsOf, record_nodes, fields_of_entries, entry_found, some_map}
use Rattle.wave_grammar.proofs.Fields.FieldOrder.{unknown_blamed}
use Rattle.wave_grammar.proofs.Fields.Reading as reading
use Rattle.wave_grammar.proofs.Fields.Reading.{RecordType, PartsDistinct, names_are, fields_distinct, given_fields, look_all, FieldIsRead, FieldsRead, record_reads, record_full, has_one}
use Rattle.wave_grammar.proofs.ErrorSpans.Nodes.{BelongsTo, PairBelongs, entries_belong}
use Rattle.wave_leaf.specs.Errors.{IsBuiltOrMemory}
use Rattle.wave_leaf.proofs.ReadErrors.HandedOn.{built_anew}

-- the name and the type at a place, where they are borrowed
pub part_at : {S : Type 0} (type_tree : S → TypeTree) (xs : List (Bor (List ℕ) × Bor S)) (i : ℕ) (x : Bor (List ℕ) × Bor S) → i < length xs → x ≡ get_or xs i x → HasAt (denoted_fields type_tree xs) i (x.0.now, type_tree x.1.now)
part_at type_tree xs i x lt is = map_has (λ f. (f.0.now, type_tree f.1.now)) xs i x (place_has xs i x lt is)

-- there are as many parts as references
pub as_parts : {S : Type 0} (type_tree : S → TypeTree) (xs : List (Bor (List ℕ) × Bor S)) → length (denoted_fields type_tree xs) ≡ length xs
as_parts type_tree [] = refl
as_parts type_tree (x ∷ xs) = ap suc (as_parts type_tree xs)

found_one : {A : Type 0} (fs : List (List ℕ × A)) (name : List ℕ) → IsOneOf (names_of fs) name → (x : A) × (look_up fs name ≡ Some x)
found_one [] name h = absurd h
found_one (f ∷ fs) name h = by (bytes_eq name f.0) refl (found_one fs name) h
  where
    by : (b : Bool) → bytes_eq name f.0 ≡ b → (IsOneOf (names_of fs) name → (x : _) × (look_up fs name ≡ Some x)) → (name ≡ f.0) ⊎ IsOneOf (names_of fs) name → (x : _) × ((if b then Some f.1 else look_up fs name) ≡ Some x)
    by true is more one = (f.1, refl)
    by false is more (inl e) = cc (sym is ∙ (bytes_eq-Decides name f.0).1 e)
    by false is more (inr one) = more one

-- the map has what the old one had, but at these names nothing
abbrev pub Removed : List (List ℕ) → BTreeMap (Bor (List ℕ)) (Bor NodeTree) → BTreeMap (Bor (List ℕ)) (Bor NodeTree) → Type 0
Removed names old new = (name : List ℕ) → held_at new name ≡ (if is_one_of names name then None else held_at old name)

either_cond : {A : Type 0} (a b : Bool) (o : Option A) → cond a None (if b then None else o) ≡ (if b || (a || false) then None else o)
either_cond true true o = refl
either_cond true false o = refl
either_cond false true o = refl
either_cond false false o = refl

-- one more was removed
pub removed_more : (names : List (List ℕ)) (old m n : BTreeMap (Bor (List ℕ)) (Bor NodeTree)) (name : List ℕ) → Removed names old m →
    tree_map.UpdatesBy (λ a b. slice_cmp nat_cmp a.now b.now) (λ k. slice_cmp nat_cmp name k.now) m n None → Removed (names ++ name ∷ []) old n
removed_more names old m n name h u = λ q.
    btree_map_updates_str name m n None u q
    ∙ (ap (λ o. cond (bytes_eq name q) None o) (h q)
    ∙ (either_cond (bytes_eq name q) (is_one_of names q) (held_at old q)
    ∙ ap (λ b. if b then None else held_at old q) (ap (λ b. is_one_of names q || (b || false)) (eq_turn name q) ∙ sym (list_any-append (bytes_eq q) names (name ∷ [])))))

not_one : (names : List (List ℕ)) (name : List ℕ) (b : Bool) → is_one_of names name ≡ b → IsNoneOf names name → b ≡ false
not_one names name true is none = absurd (none_one names name none (is_one names name is))
not_one names name false is none = refl

-- the node of a field of another name is still there
pub still_held : (names : List (List ℕ)) (old m : BTreeMap (Bor (List ℕ)) (Bor NodeTree)) (fs : List (List ℕ × NodeTree)) (name : List ℕ) (o : Option (Bor NodeTree)) → HoldsFields old fs → Removed names old m → IsNoneOf names name → o ≡ held_at m name → option_map (λ n. n.now) o ≡ look_up fs name
still_held names old m fs name o held h none is =
    ap (option_map (λ n. n.now)) (is ∙ (h name ∙ ap (λ b. if b then None else held_at old name) (not_one names name (is_one_of names name) refl none))) ∙ held name

kept_or_not : (b : Bool) (o p : Option (Bor NodeTree)) (x : Bor NodeTree) → p ≡ Some x → p ≡ (if b then None else o) → (b ≡ false) × (o ≡ Some x)
kept_or_not true o p x e is = absurd (cc)
kept_or_not false o p x e is = (refl, sym is ∙ e)

-- what the map still has was a field of another name
pub left_over : (names : List (List ℕ)) (old m : BTreeMap (Bor (List ℕ)) (Bor NodeTree)) (fs : List (List ℕ × NodeTree)) (name : List ℕ) (x : Bor NodeTree) → HoldsFields old fs → Removed names old m → held_at m name ≡ Some x → IsNoneOf names name × (look_up fs name ≡ Some x.now)
left_over names old m fs name x held h e =
    let b = kept_or_not (is_one_of names name) (held_at old name) (held_at m name) x e (h name) in
    (none_of names name b.0, sym (held name) ∙ ap (option_map (λ n. n.now)) b.1)

-- the node that the map has at a name is that of a value
pub held_value : (source : List ℕ) (n : NodeTree) (t : SpannedTree) (names : List (List ℕ)) (old m : BTreeMap (Bor (List ℕ)) (Bor NodeTree)) (fs : List (List ℕ × NodeTree)) (name : List ℕ) (o : Option (Bor NodeTree)) → IsNodeOf source n t → IsFieldsOf source n fs → HoldsFields old fs → Removed names old m → o ≡ held_at m name → IsFieldNode source (option_map (λ n. n.now) o)
held_value source n t names old m fs name None stands given held h is = tt
held_value source n t names old m fs name (Some x) stands given held h is =
    let inner = record_nodes source n t stands given.is_set in
    let over = left_over names old m fs name x held h (sym is) in
    let all : AreFieldsOf source fs (entry_list inner.given) = subst (λ (l : List (List ℕ × NodeTree)). AreFieldsOf source l (entry_list inner.given)) (sym given.given) (fields_of_entries source (node_pairs (children_of n)) (entry_list inner.given) given.labels inner.nodes) in
    some_value (entry_list inner.given) (entry_found source fs (entry_list inner.given) name x.now all over.1)
  where
    some_value : (es : List PlacedEntry) → SomeOf (λ e. IsFor name e × IsNodeOf source x.now e.value) es → IsValueOf source x.now
    some_value [] h = absurd h
    some_value (e ∷ es) (inl h) = (e.value, h.1)
    some_value (e ∷ es) (inr h) = some_value es h

cond_true : {A : Type 0} (b : Bool) (x y : A) → b ≡ true → cond b x y ≡ x
cond_true true x y e = refl
cond_true false x y e = absurd (cc)

first_of : (es : List (Bor (List ℕ) × Bor NodeTree)) (m : BTreeMap (Bor (List ℕ)) (Bor NodeTree)) → m.entries ≡ es → (length es ≡ 0 → ⊥) → (name : List ℕ) × (x : Bor NodeTree) × (held_at m name ≡ Some x)
first_of [] m e some = absurd (some refl)
first_of (f ∷ es) m e some = (f.0.now, f.1, rw e (rw (is_eq-slice_cmp f.0.now f.0.now) (cond_true (bytes_eq f.0.now f.0.now) (Some f.1) _ ((bytes_eq-Decides f.0.now f.0.now).1 refl))))

-- a map that is not empty has something at some name
pub some_held : (m : BTreeMap (Bor (List ℕ)) (Bor NodeTree)) → (btree_map_len m ≡ 0 → ⊥) → (name : List ℕ) × (x : Bor NodeTree) × (held_at m name ≡ Some x)
some_held m some = first_of m.entries m refl some

none_of_empty : (es : List (Bor (List ℕ) × Bor NodeTree)) (m : BTreeMap (Bor (List ℕ)) (Bor NodeTree)) (name : List ℕ) → m.entries ≡ es → length es ≡ 0 → held_at m name ≡ None
none_of_empty [] m name e len = rw e refl
none_of_empty (f ∷ es) m name e len = absurd (omega (arith, len))

one_of_empty : (b : Bool) (o p : Option (Bor NodeTree)) (y : NodeTree) → p ≡ None → p ≡ (if b then None else o) → option_map (λ n. n.now) o ≡ Some y → b ≡ true
one_of_empty true o p y e is some = refl
one_of_empty false None p y e is some = absurd (cc)
one_of_empty false (Some x) p y e is some = absurd (cc)

-- where all were removed, each field has one of these names
pub all_known : (source : List ℕ) (names : List (List ℕ)) (old m : BTreeMap (Bor (List ℕ)) (Bor NodeTree)) (fs : List (List ℕ × NodeTree)) (name : List ℕ) → HoldsFields old fs → Removed names old m → btree_map_len m ≡ 0 → IsOneOf (names_of fs) name → IsOneOf names name
all_known source names old m fs name held h empty one =
    let found = found_one fs name one in
    is_one names name (one_of_empty (is_one_of names name) (held_at old name) (held_at m name) found.0 (none_of_empty m.entries m name refl empty) (h name) (held name ∙ found.1))

-- the names of the parts so far, and of one more
pub removed_next : (parts : List (List ℕ × TypeTree)) (i : ℕ) (name : List ℕ) (E : TypeTree) (old m n : BTreeMap (Bor (List ℕ)) (Bor NodeTree)) → HasAt parts i (name, E) → Removed (names_of (take i parts)) old m →
    tree_map.UpdatesBy (λ a b. slice_cmp nat_cmp a.now b.now) (λ k. slice_cmp nat_cmp name k.now) m n None → Removed (names_of (take (i + 1) parts)) old n
removed_next parts i name E old m n typed h u =
    subst (λ (ns : List (List ℕ)). Removed ns old n) (sym (ap names_of (take_next parts i (name, E) typed) ∙ map_last (λ f. f.0) (take i parts) (name, E))) (removed_more (names_of (take i parts)) old m n name h u)

-- the name of a part is none of those before it
pub none_before : (parts : List (List ℕ × TypeTree)) (i : ℕ) (name : List ℕ) (E : TypeTree) → AreDistinct (names_of parts) → HasAt parts i (name, E) → IsNoneOf (names_of (take i parts)) name
none_before [] i name E d h = absurd h
none_before (p ∷ ps) zero name E d h = tt
none_before (p ∷ ps) (suc i) name E d h = ((λ e. none_one (names_of ps) p.0 d.0 (subst (IsOneOf (names_of ps)) e (has_one ps i (name, E) h))), none_before ps i name E d.1 h)

fields_belong : (source : List ℕ) (n : NodeTree) (pairs : List (NodeTree × NodeTree)) → AllOf (PairBelongs n) pairs → AllOf (λ f. BelongsTo n f.1) (map (field_of source) pairs)
fields_belong source n [] h = tt
fields_belong source n (e ∷ es) h = (h.0.1, fields_belong source n es h.1)

-- the value of a field
pub held_belongs : (source : List ℕ) (n : NodeTree) (names : List (List ℕ)) (old m : BTreeMap (Bor (List ℕ)) (Bor NodeTree)) (fs : List (List ℕ × NodeTree)) (name : List ℕ) (o : Option (Bor NodeTree)) → IsValueOf source n → IsFieldsOf source n fs → HoldsFields old fs → Removed names old m → o ≡ held_at m name → (k : NodeTree) → denoted_node o ≡ Some k → BelongsTo n k
held_belongs source n names old m fs name None v given held h is k here = absurd (cc)
held_belongs source n names old m fs name (Some x) v given held h is k here =
    let over = left_over names old m fs name x held h (sym is) in
    let all : AllOf (λ f. BelongsTo n f.1) fs = subst (AllOf (λ f. BelongsTo n f.1)) (sym given.given) (fields_belong source n (node_pairs (children_of n)) (entries_belong source n v)) in
    subst (BelongsTo n) (some_is x.now k here) (look_all (λ q c. BelongsTo n c) fs name x.now all over.1)

-- ---- how deep the node of a field nests

-- five times its levels, and four more; nothing for none
abbrev pub depth_of_maybe : Option NodeTree → ℕ
depth_of_maybe None = 0
depth_of_maybe (Some n) = 5 * depth n + 4

pairs_below : (source : List ℕ) (ns : NodeTrees) (name : List ℕ) (m : NodeTree) → look_up (map (field_of source) (node_pairs (node_list ns))) name ≡ Some m → depth m < nodes_depth ns
pairs_below source no_nodes name m e = absurd (cc)
pairs_below source (node_and k no_nodes) name m e = absurd (cc)
pairs_below source (node_and k (node_and v more)) name m e = by (bytes_eq name (name_of (node_text source k))) e (pairs_below source more name m)
  where
    by : (b : Bool) → (if b then Some v else look_up (map (field_of source) (node_pairs (node_list more))) name) ≡ Some m → (look_up (map (field_of source) (node_pairs (node_list more))) name ≡ Some m → depth m < nodes_depth more) → depth m < nodes_depth (node_and k (node_and v more))
    by true is deeper = omega (arith, ap depth (some_is v m is))
    by false is deeper = omega (arith, deeper is)

field_below : (source : List ℕ) (n : NodeTree) (name : List ℕ) (m : NodeTree) → look_up (fields_at source (children_of n)) name ≡ Some m → depth m < depth n
field_below source (node ty p ns) name m e = pairs_below source ns name m e

-- the node that the map has at a name nests less deep
pub held_below : (source : List ℕ) (n : NodeTree) (names : List (List ℕ)) (old m : BTreeMap (Bor (List ℕ)) (Bor NodeTree)) (name : List ℕ) (o : Option (Bor NodeTree)) → HoldsFields old (fields_at source (children_of n)) → Removed names old m → o ≡ held_at m name → depth_of_maybe (denoted_node o) < 5 * depth n + 1
held_below source (node ty p ns) names old m name None held h is = omega arith
held_below source n names old m name (Some x) held h is =
    omega (arith, field_below source n name x.now (left_over names old m (fields_at source (children_of n)) name x held h (sym is)).1)

module _ {V : Type 0} (tree : V → Value) (of : V → TypeTree → Type 0) (Full : TypeTree → Type 0) (w : Order) where
  read_next : (ps : List (List ℕ × TypeTree)) (es : List PlacedEntry) (fs : List (Bor (List ℕ) × V)) (i : ℕ) (name : List ℕ) (E : TypeTree) (key : Bor (List ℕ)) (v : V) → HasAt ps i (name, E) → FieldsRead tree of Full (take i ps) es fs → key.now ≡ name → FieldIsRead tree of Full E name es v → FieldsRead tree of Full (take (suc i) ps) es (fs ++ (key, v) ∷ [])
  read_next [] es fs i name E key v typed before same now = absurd typed
  read_next (p ∷ ps) es [] zero name E key v typed before same now =
      (same ∙ ap (λ (x : List ℕ × TypeTree). x.0) (sym typed), subst (λ (x : List ℕ × TypeTree). FieldIsRead tree of Full x.1 x.0 es v) (sym typed) now, tt)
  read_next (p ∷ ps) es (f ∷ fs) zero name E key v typed before same now = absurd before
  read_next (p ∷ ps) es [] (suc i) name E key v typed before same now = absurd before
  read_next (p ∷ ps) es (f ∷ fs) (suc i) name E key v typed before same now = (before.0, before.1, read_next ps es fs i name E key v typed before.2 same now)

  -- the invariant of the loop holds behind the next field
  pub fields_kept : (ps : List (List ℕ × TypeTree)) (es : List PlacedEntry) (old new : List (Bor (List ℕ) × V)) (i : ℕ) (name : List ℕ) (E : TypeTree) (key : Bor (List ℕ)) (v : V) → HasAt ps i (name, E) → FieldsRead tree of Full (take i ps) es old → key.now ≡ name → FieldIsRead tree of Full E name es v → new ≡ old ++ (key, v) ∷ [] → FieldsRead tree of Full (take (i + 1) ps) es new
  fields_kept ps es old new i name E key v typed before same now kept = rw (add-one, kept) (read_next ps es old i name E key v typed before same now)

  -- behind the last of the parts a record of the type has the fields
  pub record_typed : (T : TypeTree) (parts : List (List ℕ × TypeTree)) (es : List PlacedEntry) (i : ℕ) (hs : List (Bor (List ℕ) × V)) → RecordType T parts → PartsDistinct parts → length parts ≤ i → FieldsRead tree of Full (take i parts) es hs → TypedRecord of T hs
  record_typed T parts es i hs is apart le read =
      reading.record_typed tree of Full T is.fields es hs is.is (subst (λ (ps : List (List ℕ × TypeTree)). AreDistinct (names_of ps)) is.parts_are apart.names) (subst (λ (ps : List (List ℕ × TypeTree)). FieldsRead tree of Full ps es hs) (take_whole parts i le ∙ is.parts_are) read)

  -- the record was made, or its constructor refused
  record_built : (T : TypeTree) (parts : List (List ℕ × TypeTree)) (source : List ℕ) (n : NodeTree) (t : SpannedTree) (given : List (List ℕ × NodeTree)) (names : List (List ℕ)) (old left : BTreeMap (Bor (List ℕ)) (Bor NodeTree)) (hs : List (Bor (List ℕ) × V)) (m : Result V WasmValueError) (r : Result V Diagnostic) → (is : RecordType T parts) → HasDistinctNames T → (stands : IsNodeOf source n t) → (fields : IsFieldsOf source n given) → HoldsFields old given → names ≡ names_of parts → Removed names old left → btree_map_len left ≡ 0 → FieldsRead tree of Full parts (entry_list (record_nodes source n t stands fields.is_set).given) hs → IfOk m (MakesRecord tree of T hs) → IfErr m (FullRecord of Full T hs) → IsBuilt n m r → MatchResult r (IsTypedValue tree of T t) (IsBlamed Full by_type w T t)
  record_built T parts source n t given names old left hs m r is distinct stands fields held same removed empty h ok full done =
      let inner = record_nodes source n t stands fields.is_set in
      let all : AreFieldsOf source given (entry_list inner.given) = subst (λ (l : List (List ℕ × NodeTree)). AreFieldsOf source l (entry_list inner.given)) (sym fields.given) (fields_of_entries source (node_pairs (children_of n)) (entry_list inner.given) fields.labels inner.nodes) in
      let apart : AreDistinct (names_of (type.field_list is.fields)) = subst (λ (ps : List (List ℕ × TypeTree)). AreDistinct (names_of ps)) is.parts_are (fields_distinct T parts is distinct).names in
      let read : FieldsRead tree of Full (type.field_list is.fields) (entry_list inner.given) hs = subst (λ (ps : List (List ℕ × TypeTree)). FieldsRead tree of Full ps (entry_list inner.given) hs) is.parts_are h in
      built tree of Full by_type w T t n m r done
      (record_reads tree of Full T is.fields source n t given hs inner m is.is distinct all fields.distinct (λ name one. subst (λ (ns : List (List ℕ)). IsOneOf ns name) (same ∙ ap names_of is.parts_are) (all_known source names old left given name held removed empty one)) apart read ok)
      (record_full tree of Full T is.fields (entry_list inner.given) hs m is.is apart read full)

  -- so behind the last of the parts
  pub record_done : (T : TypeTree) (parts : List (List ℕ × TypeTree)) (source : List ℕ) (n : NodeTree) (t : SpannedTree) (given : List (List ℕ × NodeTree)) (i : ℕ) (old left : BTreeMap (Bor (List ℕ)) (Bor NodeTree)) (hs : List (Bor (List ℕ) × V)) (m : Result V WasmValueError) (r : Result V Diagnostic) → (is : RecordType T parts) → HasDistinctNames T → (stands : IsNodeOf source n t) → (fields : IsFieldsOf source n given) → HoldsFields old given → length parts ≤ i → Removed (names_of (take i parts)) old left → btree_map_len left ≡ 0 → FieldsRead tree of Full (take i parts) (entry_list (record_nodes source n t stands fields.is_set).given) hs → IfOk m (MakesRecord tree of T hs) → IfErr m (FullRecord of Full T hs) → IsBuiltOrMemory n m r → MatchResult r (IsTypedValue tree of T t) (IsBlamed Full by_type w T t)
  record_done T parts source n t given i old left hs m r is distinct stands fields held le removed empty h ok full done =
      let whole : take i parts ≡ parts = take_whole parts i le in
      built_anew (MakesRecord tree of T hs) (FullRecord of Full T hs) n m r (λ a f fs is apart ordered same of. tt) ok full done (λ m ok full done.
      record_built T parts source n t given (names_of (take i parts)) old left hs m r is distinct stands fields held (ap names_of whole) removed empty (subst (λ (ps : List (List ℕ × TypeTree)). FieldsRead tree of Full ps (entry_list (record_nodes source n t stands fields.is_set).given) hs) whole h) ok full done)

  -- an entry whose name is no field, where all fields were read
  pub unknown_blame : (T : TypeTree) (parts : List (List ℕ × TypeTree)) (source : List ℕ) (n : NodeTree) (t : SpannedTree) (given : List (List ℕ × NodeTree)) (i : ℕ) (old left : BTreeMap (Bor (List ℕ)) (Bor NodeTree)) (hs : List (Bor (List ℕ) × V)) (e : Diagnostic) → RecordType T parts → HasDistinctNames T → (stands : IsNodeOf source n t) → (fields : IsFieldsOf source n given) → HoldsFields old given → length parts ≤ i → Removed (names_of (take i parts)) old left → (btree_map_len left ≡ 0 → ⊥) → FieldsRead tree of Full (take i parts) (entry_list (record_nodes source n t stands fields.is_set).given) hs → IsRefusalOf error.InvalidValue (place_of n) (refusal_of e) e.span → IsBlamed Full by_type w T t e
  unknown_blame T parts source n t given i old left hs e is distinct stands fields held le removed some read refused =
      let es = entry_list (record_nodes source n t stands fields.is_set).given in
      let whole : take i parts ≡ parts = take_whole parts i le in
      let (name, x, there) = some_held left some in
      let over = left_over (names_of (take i parts)) old left given name x held removed there in
      let none : IsNoneOf (field_names is.fields) name = subst (λ (ns : List (List ℕ)). IsNoneOf ns name) (ap names_of (whole ∙ is.parts_are) ∙ names_are is.fields) over.0 in
      let found = entry_found source given es name x.now (given_fields source n t given stands fields) over.1 in
      unknown_blamed tree of Full w T parts source n t given hs e is stands fields distinct (subst (λ (ps : List (List ℕ × TypeTree)). FieldsRead tree of Full ps es hs) whole read)
      (some_map (λ y. IsFor name y × IsNodeOf source x.now y.value) (λ y. SomeOf (IsNoneOf (field_names is.fields)) (names_in y.key)) es (λ y g. subst (SomeOf (IsNoneOf (field_names is.fields))) (sym g.0) (inl none)) found, (refused.0, refused.1 ∙ sym (inside source n t stands.0).place))
