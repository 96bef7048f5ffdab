-- Maps, entry by entry.
use Rattle.std.proofs.Common.{ℕ, suc, ◌≡◌, ◌⊎◌, inl, inr, Bool, List, [], ◌∷◌, ◌++◌, length, map, Option, Some, option_map, Bor, Result, Ok, Err, IfOk, IfErr, MatchResult, refl, sym, ap, ◌∙◌, subst, arith}
use Rattle.std.specs.declared.ops.Range.{Range}
use Rattle.std.specs.Str.{bytes_eq}
use Rattle.wave_wasm.specs.Lists.{AllOf, SomeOf}
use Rattle.wave_wasm.specs.Types as type
use Rattle.wave_wasm.specs.Types.{TypeTree, Simple, HasDistinctNames, map_parts}
use Rattle.wave_wasm.specs.Values as value
use Rattle.wave_wasm.specs.Values.{Value, Leaf, entries}
use Rattle.wave_wasm.specs.HasType.{HasType, IsLeafOf}
use Rattle.wave_wasm.specs.Merge.{merge, leaf_eq}
use Rattle.wave_wasm.specs.Text.{text}
use Rattle.wave_wasm.specs.ConstructorContracts.{IsMemory, MakesMap, FullMap, HasFullParts, entry_trees, leaf_entries}
use Rattle.wave_wasm.specs.declared.wasm.WasmValueError.{WasmValueError}
use Rattle.wave_wasm.proofs.Merging.KeyTexts.{leaf_tests}
use Rattle.wave_writer.proofs.Merging.Congruence.{merge_paired, keys_keep, values_keep}
use Rattle.wave_lex.specs.Errors.{Diagnostic, Refusal, refusal_of}
use Rattle.wave_lex.specs.declared.error.ParserErrorKind.TheVariants.{InvalidType}
use Rattle.wave_grammar.specs.Token.{Token}
use Rattle.wave_grammar.specs.LeafTokens.{Spells}
use Rattle.wave_grammar.specs.Tree as form
use Rattle.wave_grammar.specs.Tree.{Tree, tree_entries}
use Rattle.wave_grammar.specs.Elaborates.{TreeReads, KeyedTree, Each}
use Rattle.wave_grammar.specs.SpannedTree.{SpannedTree, PlacedEntries, PlacedEntry, no_entries, entry, entry_list, entries_of, span_of, shape_of, tree_of}
use Rattle.wave_grammar.specs.SpannedTree as placed
use Rattle.wave_grammar.specs.TypeErrors.{Blame, OfForm, Fault, LeafFault, MapKeyFault}
use Rattle.wave_grammar.specs.FaultOrder.{Order, BlamesNothing, OrElse, FirstOf, FirstFault}
use Rattle.wave_grammar.specs.NodeTree.{NodeTree, place_of}
use Rattle.wave_grammar.specs.Nodes.{placed_of, IsNodeOf, IsTokenOf}
use Rattle.wave_grammar.specs.NodeAccessors.{GivesEntries}
use Rattle.wave_grammar.specs.TypedReading.{IsTypedValue, IsBlamed, ReadsNone, IsBuilt, IsKeyRead}
use Rattle.wave_grammar.specs.PartReading.{IsMapKeyBlamed}
use Rattle.wave_grammar.proofs.ChildNodes.Entries.{AreEntriesOf, IsOfMap, map_given, no_map}
use Rattle.wave_grammar.proofs.ChildNodes.Inside.{inside, some_is}
use Rattle.wave_grammar.proofs.ByKind.Leaves.{tree_is, at_tree, said}
use Rattle.wave_grammar.proofs.OneFault.FirstOfSeveral.{first_behind}
use Rattle.wave_grammar.proofs.ByKind.MakerAnswers.{built}

-- ---- the type

-- the types of keys and values of a map
pub record IsMapOf (T S U : TypeTree) : Type 0 where
  pub key : Simple
  pub key_is : S ≡ type.simple key
  pub is : T ≡ type.map key U

parts_are : (T S U : TypeTree) → Some (S, U) ≡ map_parts T → IsMapOf T S U
parts_are (type.map K V) S U e =
    let same : (S, U) ≡ (type.simple K, V) = some_is _ _ e in
    record { key = K; key_is = ap (λ (p : TypeTree × TypeTree). p.0) same; is = ap (λ (p : TypeTree × TypeTree). type.map K p.1) (sym same) }
parts_are _ S U e = absurd (cc)

-- so where they are answered as the types of T
pub map_is : {S : Type 0} (type_tree : S → TypeTree) (T : TypeTree) (o : Option (Bor S × Bor S)) (x : Bor S × Bor S) → o ≡ Some x → option_map (λ y. (type_tree y.0.now, type_tree y.1.now)) o ≡ map_parts T → IsMapOf T (type_tree x.0.now) (type_tree x.1.now)
map_is type_tree T o x e h = parts_are T (type_tree x.0.now) (type_tree x.1.now) (sym (ap (option_map (λ y. (type_tree y.0.now, type_tree y.1.now))) e) ∙ h)

-- the names of the values' type are those of the map
pub map_distinct : (T S U : TypeTree) → IsMapOf T S U → HasDistinctNames T → HasDistinctNames U
map_distinct T S U m h = subst HasDistinctNames m.is h

-- ---- the entries that are left

-- the next entry that is left
pub record NextEntry (source : List ℕ) (es done : List PlacedEntry) (n : NodeTree × NodeTree) (left : List (NodeTree × NodeTree)) : Type 0 where
  pub here : PlacedEntry
  pub rest : List PlacedEntry
  pub is : es ≡ done ++ here ∷ rest
  pub key : IsTokenOf source n.0 here.place here.key
  pub node : IsNodeOf source n.1 here.value
  pub nodes : AreEntriesOf source left rest

-- ---- faults

-- what is wrong with an entry: its key, or else its value
abbrev pub EntryFault : Order → Simple → TypeTree → PlacedEntry → Blame
EntryFault w K V e = OrElse (MapKeyFault K e.place e.key) (FirstFault w w V e.value)

-- nothing is wrong with these entries
abbrev pub EntriesFine : Order → Simple → TypeTree → List PlacedEntry → Type 0
EntriesFine w K V es = AllOf (λ e. BlamesNothing (EntryFault w K V e)) es

-- a node that gives no entries
pub map_fault : (o w : Order) (K : Simple) (V : TypeTree) (source : List ℕ) (n : NodeTree) (t : SpannedTree) (e : Diagnostic) → placed_of source n ≡ Some t → GivesEntries n (Err e) → FirstFault o w (type.map K V) t (refusal_of e) e.span
map_fault o w K V source n t e is given =
    subst (λ (f : Option (List PlacedEntry)). OfForm f (span_of t) (FirstOf (EntryFault w K V)) (refusal_of e) e.span) (sym (no_map source n t is given.0 given.1)) (at_tree InvalidType (place_of n) (span_of t) (refusal_of e) e.span (inside source n t is).place (said given.2))

entry_fault : (o w : Order) (K : Simple) (V : TypeTree) (t : SpannedTree) (es : PlacedEntries) (done rest : List PlacedEntry) (x : PlacedEntry) (k : Refusal) (q : Range ℕ) → IsOfMap (shape_of t) es → entry_list es ≡ done ++ x ∷ rest → EntriesFine w K V done → EntryFault w K V x k q → FirstFault o w (type.map K V) t k q
entry_fault o w K V t es done rest x k q shape is fine fault =
    subst (λ (f : Option (List PlacedEntry)). OfForm f (span_of t) (FirstOf (EntryFault w K V)) k q) (sym (map_given (shape_of t) es shape ∙ ap (λ (l : List PlacedEntry). Some l) is)) (first_behind (EntryFault w K V) done rest x k q fine fault)

module _ {V : Type 0} (tree : V → Value) (of : V → TypeTree → Type 0) (Full : TypeTree → Type 0) (o w : Order) where
  -- a refusal of the next key is one of the map
  pub key_blame : (source : List ℕ) (T S U : TypeTree) (t : SpannedTree) (es : PlacedEntries) (done : List PlacedEntry) (n : NodeTree × NodeTree) (left : List (NodeTree × NodeTree)) (e : Diagnostic) (m : IsMapOf T S U) (x : NextEntry source (entry_list es) done n left) → IsOfMap (shape_of t) es → HasFullParts Full → EntriesFine w m.key U done → IsMapKeyBlamed Full m.key x.here.place x.here.key e → IsBlamed Full o w T t e
  key_blame source T S U t es done n left e m x shape parts fine (inl memory) = inl memory
  key_blame source T S U t es done n left e m x shape parts fine (inr (inl fault)) =
      inr (inl (subst (λ (W : TypeTree). FirstFault o w W t (refusal_of e) e.span) (sym m.is) (entry_fault o w m.key U t es done x.rest x.here (refusal_of e) e.span shape x.is fine (inl fault))))
  key_blame source T S U t es done n left e m x shape parts fine (inr (inr h)) = inr (inr (h.0, λ full. h.1 (parts (type.map m.key U) (subst Full m.is full)).0))

  -- a refusal of the next value, behind a key that is fine, is one of the map
  pub value_blame : (source : List ℕ) (T S U : TypeTree) (t : SpannedTree) (es : PlacedEntries) (done : List PlacedEntry) (n : NodeTree × NodeTree) (left : List (NodeTree × NodeTree)) (e : Diagnostic) (m : IsMapOf T S U) (x : NextEntry source (entry_list es) done n left) → IsOfMap (shape_of t) es → HasFullParts Full → EntriesFine w m.key U done → BlamesNothing (MapKeyFault m.key x.here.place x.here.key) → IsBlamed Full w w U x.here.value e → IsBlamed Full o w T t e
  value_blame source T S U t es done n left e m x shape parts fine key (inl memory) = inl memory
  value_blame source T S U t es done n left e m x shape parts fine key (inr (inl fault)) =
      inr (inl (subst (λ (W : TypeTree). FirstFault o w W t (refusal_of e) e.span) (sym m.is) (entry_fault o w m.key U t es done x.rest x.here (refusal_of e) e.span shape x.is fine (inr (key, fault)))))
  value_blame source T S U t es done n left e m x shape parts fine key (inr (inr h)) = inr (inr (h.0, λ full. h.1 (parts (type.map m.key U) (subst Full m.is full)).1.0))

module _ {V : Type 0} (tree : V → Value) (of : V → TypeTree → Type 0) (Full : TypeTree → Type 0) where
  -- ---- the entries that were read

  -- each key and each value was read
  abbrev pub EntriesRead : Simple → TypeTree → List PlacedEntry → List (V × V) → Type 0
  EntriesRead K U [] [] = Unit {0}
  EntriesRead K U (e ∷ es) (x ∷ xs) = IsKeyRead tree of K e.key x.0 × IsTypedValue tree of U e.value x.1 × EntriesRead K U es xs
  EntriesRead K U _ _ = ⊥

  -- the keys and the values that were read
  pub record PairsRead (K : Simple) (U : TypeTree) (es : List PlacedEntry) (xs : List (V × V)) : Type 0 where
    pub pairs : List (Leaf × Value)
    pub each : Each (KeyedTree K (TreeReads U)) (map (λ e. (e.key, tree_of e.value)) es) pairs
    pub trees : entry_trees tree xs ≡ leaf_entries pairs
    pub keys : AllOf (λ e. IsLeafOf K e.0) pairs
    pub keys_of : AllOf (λ x. of x.0 (type.simple K)) xs
    pub values_of : AllOf (λ x. of x.1 U) xs

  leaf_of : (K : Simple) (v : V) (l : Leaf) → tree v ≡ value.leaf l → HasType (type.simple K) (tree v) → IsLeafOf K l
  leaf_of K v l e h = subst (IsLeafOf K) (same_leaf h.0 l (sym h.2 ∙ e)) h.1
    where
      same_leaf : (a b : Leaf) → value.leaf a ≡ value.leaf b → a ≡ b
      same_leaf a b e = cc

  pub pairs_read : ((v : V) (T : TypeTree) → of v T → HasType T (tree v)) → (K : Simple) (U : TypeTree) (es : List PlacedEntry) (xs : List (V × V)) → EntriesRead K U es xs → PairsRead K U es xs
  pairs_read fits K U [] [] h = record { pairs = []; each = refl; trees = refl; keys = tt; keys_of = tt; values_of = tt }
  pairs_read fits K U [] (x ∷ xs) h = absurd h
  pairs_read fits K U (e ∷ es) [] h = absurd h
  pairs_read fits K U (e ∷ es) (x ∷ xs) h =
      let more = pairs_read fits K U es xs h.2 in
      record {
        pairs = (h.0.leaf, tree x.1) ∷ more.pairs;
        each = ((h.0.leaf, tree x.1), more.pairs, (h.0.spells, h.1.reads), more.each, refl);
        trees = ap (λ (v : Value). (v, tree x.1) ∷ entry_trees tree xs) h.0.means ∙ ap (λ (l : List (Value × Value)). (value.leaf h.0.leaf, tree x.1) ∷ l) more.trees;
        keys = (leaf_of K x.0 h.0.leaf h.0.means (fits x.0 (type.simple K) h.0.is_of), more.keys);
        keys_of = (h.0.is_of, more.keys_of);
        values_of = (h.1.is_of, more.values_of);
      }

  -- ---- merging

  -- the test of the texts of keys
  abbrev pub same_texts : V → V → Bool
  same_texts a b = bytes_eq (text (tree a)) (text (tree b))

  nothing_asked : (xs : List (V × V)) → AllOf (λ x. Unit {0}) xs
  nothing_asked [] = tt
  nothing_asked (x ∷ xs) = (tt, nothing_asked xs)

  -- merged by texts the values mean the pairs merged
  merged_trees : (K : Simple) (xs : List (V × V)) (pairs : List (Leaf × Value)) → AllOf (λ e. IsLeafOf K e.0) pairs → entry_trees tree xs ≡ leaf_entries pairs → entry_trees tree (merge same_texts xs) ≡ leaf_entries (merge leaf_eq pairs)
  merged_trees K xs pairs keys e =
      sym (merge_paired (λ x. Unit {0}) tree tree same_texts (λ a b. bytes_eq (text a) (text b)) (λ a b p q. refl) xs (nothing_asked xs)) ∙ (ap (merge (λ a b. bytes_eq (text a) (text b))) e ∙ merge_paired (IsLeafOf K) (λ one. value.leaf one) (λ v. v) leaf_eq (λ a b. bytes_eq (text a) (text b)) (leaf_tests K) pairs keys)

  both_of : (K : Simple) (U : TypeTree) (xs : List (V × V)) → AllOf (λ x. of x.0 (type.simple K)) xs → AllOf (λ x. of x.1 U) xs → AllOf (λ x. of x.0 (type.simple K) × of x.1 U) xs
  both_of K U [] h k = tt
  both_of K U (x ∷ xs) h k = ((h.0, k.0), both_of K U xs h.1 k.1)

  pub merged_of : (K : Simple) (U : TypeTree) (xs : List (V × V)) → AllOf (λ x. of x.0 (type.simple K)) xs → AllOf (λ x. of x.1 U) xs → AllOf (λ x. of x.0 (type.simple K) × of x.1 U) (merge same_texts xs)
  merged_of K U xs h k = both_of K U (merge same_texts xs) (keys_keep (λ v. of v (type.simple K)) same_texts xs h) (values_keep (λ v. of v U) same_texts xs k)

one_list : (a b : List (Leaf × Value)) → leaf_entries a ≡ leaf_entries b → a ≡ b
one_list [] [] e = refl
one_list [] (y ∷ b) e = absurd (cc)
one_list (x ∷ a) [] e = absurd (cc)
one_list (x ∷ a) (y ∷ b) e =
    let h = both_parts (value.leaf x.0, x.1) (value.leaf y.0, y.1) (leaf_entries a) (leaf_entries b) e in
    let k : x.0 ≡ y.0 = same_leaf x.0 y.0 (ap (λ (p : Value × Value). p.0) h.0) in
    let v : x.1 ≡ y.1 = ap (λ (p : Value × Value). p.1) h.0 in
    let more = one_list a b h.1 in
    λ i. (k i, v i) ∷ more i
  where
    both_parts : (p q : Value × Value) (ps qs : List (Value × Value)) → p ∷ ps ≡ q ∷ qs → (p ≡ q) × (ps ≡ qs)
    both_parts p q ps qs e = (cc, cc)

    same_leaf : (a b : Leaf) → value.leaf a ≡ value.leaf b → a ≡ b
    same_leaf a b e = cc

entries_spelled : (es : PlacedEntries) → entries_of es ≡ tree_entries (map (λ e. (e.key, tree_of e.value)) (entry_list es))
entries_spelled no_entries = refl
entries_spelled (entry p key t more) = ap (form.entry key (tree_of t)) (entries_spelled more)

keys_count : (es : List PlacedEntry) → length (map {B = Token × Tree} (λ e. (e.key, tree_of e.value)) es) ≡ length es
keys_count [] = refl
keys_count (e ∷ es) = ap suc (keys_count es)

-- the tree of a map gives the merge of its pairs
map_reads : (K : Simple) (U : TypeTree) (t : SpannedTree) (es : PlacedEntries) (pairs : List (Leaf × Value)) → IsOfMap (shape_of t) es → Each (KeyedTree K (TreeReads U)) (map (λ e. (e.key, tree_of e.value)) (entry_list es)) pairs → TreeReads (type.map K U) (tree_of t) (value.map (entries (merge leaf_eq pairs)))
map_reads K U t es pairs (inl (inl e, none)) each = (map (λ e. (e.key, tree_of e.value)) (entry_list es), pairs, inl (inl (tree_is t placed.empty_braces e), ap (λ (l : PlacedEntries). map (λ e. (e.key, tree_of e.value)) (entry_list l)) none), each, refl)
map_reads K U t es pairs (inl (inr e, none)) each = (map (λ e. (e.key, tree_of e.value)) (entry_list es), pairs, inl (inr (tree_is t placed.no_fields e), ap (λ (l : PlacedEntries). map (λ e. (e.key, tree_of e.value)) (entry_list l)) none), each, refl)
map_reads K U t es pairs (inr h) each =
    let count = keys_count (entry_list es) in
    let some = h.1 in
    (map (λ e. (e.key, tree_of e.value)) (entry_list es), pairs, inr (tree_is t (placed.entries es) h.0 ∙ ap form.entries (entries_spelled es), omega arith), each, refl)

module _ {V : Type 0} (tree : V → Value) (of : V → TypeTree → Type 0) (Full : TypeTree → Type 0) where
  map_means : (T S U : TypeTree) (t : SpannedTree) (es : PlacedEntries) (xs handed : List (V × V)) (built_map : Result V WasmValueError) (m : IsMapOf T S U) → HasDistinctNames T → IsOfMap (shape_of t) es → PairsRead tree of Full m.key U (entry_list es) xs → handed ≡ merge (same_texts tree of Full) xs → IfOk built_map (MakesMap tree of T handed) → IfOk built_map (IsTypedValue tree of T t)
  map_means T S U t es xs handed (Ok v) m distinct shape read merged h =
      let makes = h distinct in
      let all : makes.0 ≡ merge leaf_eq read.pairs = one_list makes.0 (merge leaf_eq read.pairs) (sym makes.1 ∙ (ap (entry_trees tree) merged ∙ merged_trees tree of Full m.key xs read.pairs read.keys read.trees)) in
      let given : TreeReads (type.map m.key U) (tree_of t) (value.map (entries (merge leaf_eq read.pairs))) = map_reads m.key U t es read.pairs shape read.each in
      let means : tree v ≡ value.map (entries (merge leaf_eq read.pairs)) = makes.2.means ∙ ap (λ (l : List (Leaf × Value)). value.map (entries l)) all in
      record { reads = subst (λ (W : TypeTree). TreeReads W (tree_of t) (tree v)) (sym m.is) (subst (λ (w : Value). TreeReads (type.map m.key U) (tree_of t) w) (sym means) given); is_of = makes.2.is_of }
  map_means T S U t es xs handed (Err cause) m distinct shape read merged h = tt

  map_full : (T S U : TypeTree) (es : List PlacedEntry) (xs handed : List (V × V)) (built_map : Result V WasmValueError) (m : IsMapOf T S U) → PairsRead tree of Full m.key U es xs → handed ≡ merge (same_texts tree of Full) xs → IfErr built_map (FullMap of Full T handed) → IfErr built_map (λ cause. Full T → IsMemory cause)
  map_full T S U es xs handed (Ok v) m read merged h = tt
  map_full T S U es xs handed (Err cause) m read merged h = λ full.
      h full m.key U m.is (subst (AllOf (λ x. of x.0 (type.simple m.key) × of x.1 U)) (sym merged) (merged_of tree of Full m.key U xs read.keys_of read.values_of))

  -- the map was made of the merged entries, or its constructor refused
  pub map_built : (o w : Order) (T S U : TypeTree) (t : SpannedTree) (es : PlacedEntries) (xs handed : List (V × V)) (n : NodeTree) (built_map : Result V WasmValueError) (r : Result V Diagnostic) (m : IsMapOf T S U) → HasDistinctNames T → IsOfMap (shape_of t) es → ((v : V) (T : TypeTree) → of v T → HasType T (tree v)) → EntriesRead tree of Full m.key U (entry_list es) xs → handed ≡ merge (same_texts tree of Full) xs → IfOk built_map (MakesMap tree of T handed) → IfErr built_map (FullMap of Full T handed) → IsBuilt n built_map r → MatchResult r (IsTypedValue tree of T t) (IsBlamed Full o w T t)
  map_built o w T S U t es xs handed n built_map r m distinct shape fits all merged ok full done =
      let read = pairs_read tree of Full fits m.key U (entry_list es) xs all in
      built tree of Full o w T t n built_map r done (map_means T S U t es xs handed built_map m distinct shape read merged ok) (map_full T S U (entry_list es) xs handed built_map m read merged full)

-- ---- no value

-- the key of a map that spells a value has no fault
pub key_none : (K : Simple) (p : Range ℕ) (t : Token) (k : Refusal) (q : Range ℕ) (l : Leaf) → (LeafFault K p t k q → Spells K t l → ⊥) → MapKeyFault K p t k q → Spells K t l → ⊥
key_none K p t k q l leaf (inl h) spelled = h.1 l spelled
key_none K p t k q l leaf (inr h) spelled = leaf h.1 spelled

module _ (K : Simple) (U : TypeTree) (k : Refusal) (q : Range ℕ) (leaf : (p : Range ℕ) (t : Token) (l : Leaf) → LeafFault K p t k q → Spells K t l → ⊥) (apart : (u : SpannedTree) → Fault U u k q → ReadsNone U u) where
  entries_none : (es : PlacedEntries) (us : List (Token × Tree)) (pairs : List (Leaf × Value)) → SomeOf (λ e. MapKeyFault K e.place e.key k q ⊎ Fault U e.value k q) (entry_list es) → entries_of es ≡ tree_entries us → Each (KeyedTree K (TreeReads U)) us pairs → ⊥
  entries_none no_entries us pairs h e each = h
  entries_none (entry p key t more) [] pairs h e each = cc
  entries_none (entry p key t more) (u ∷ us) pairs (inl (inl fault)) e (a, rest, read, others, f) = key_none K p key k q a.0 (leaf p key a.0) fault (subst (λ (x : Token). Spells K x a.0) (sym (first_key key u.0 (tree_of t) u.1 (entries_of more) (tree_entries us) e)) read.0)
    where
      first_key : (x y : Token) (t u : Tree) (ts us : form.TreeEntries) → form.entry x t ts ≡ form.entry y u us → x ≡ y
      first_key x y t u ts us e = cc
  entries_none (entry p key t more) (u ∷ us) pairs (inl (inr fault)) e (a, rest, read, others, f) = apart t fault a.1 (subst (λ (x : Tree). TreeReads U x a.1) (sym (first_tree key u.0 (tree_of t) u.1 (entries_of more) (tree_entries us) e)) read.1)
    where
      first_tree : (x y : Token) (t u : Tree) (ts us : form.TreeEntries) → form.entry x t ts ≡ form.entry y u us → t ≡ u
      first_tree x y t u ts us e = cc
  entries_none (entry p key t more) (u ∷ us) pairs (inr h) e (a, rest, read, others, f) = entries_none more us rest h (cc) others

  -- a map's fault leaves no value
  pub map_none : (t : SpannedTree) (v : Value) → Fault (type.map K U) t k q → TreeReads (type.map K U) (tree_of t) v → ⊥
  map_none (placed.at p (placed.entries es)) v fault (us, pairs, inl (inl e, none), each, f) = absurd (cc)
  map_none (placed.at p (placed.entries es)) v fault (us, pairs, inl (inr e, none), each, f) = absurd (cc)
  map_none (placed.at p (placed.entries es)) v fault (us, pairs, inr (e, some), each, f) = entries_none es us pairs fault (cc) each
  map_none (placed.at p placed.no_fields) v fault read = fault
  map_none (placed.at p placed.empty_braces) v fault read = fault
  map_none (placed.at p _) v fault (us, pairs, inl (inl e, none), each, f) = absurd (cc)
  map_none (placed.at p _) v fault (us, pairs, inl (inr e, none), each, f) = absurd (cc)
  map_none (placed.at p _) v fault (us, pairs, inr (e, some), each, f) = absurd (cc)
