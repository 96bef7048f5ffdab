-- Maps, whose keys and values are read in turn.
use Rattle.std.proofs.Common.{ℕ, zero, suc, ◌≡◌, ◌≢◌, inl, inr, ◌+◌, List, [], ◌∷◌, ◌++◌, length, Option, Some, None, Result, Ok, Err, IfOk, IfErr, refl, sym, ap, ◌∙◌, subst, append_assoc, arith}
use Rattle.std.specs.declared.ops.Range.{Range}
use Rattle.std.proofs.lemmas.List.{append-nil}
use Rattle.wave_grammar.specs.FaultOrder.{Order, BlamesNothing, FirstFault}
use Rattle.wave_wasm.specs.Lists.{AllOf}
use Rattle.wave_wasm.specs.Types as type
use Rattle.wave_wasm.specs.Types.{TypeTree, Simple, HasDistinctNames, kind_of, simple_kind}
use Rattle.wave_wasm.specs.declared.wasm.WasmTypeKind.TheVariants as kinds
use Rattle.wave_wasm.specs.Values.{Value}
use Rattle.wave_wasm.specs.HasType.{HasType}
use Rattle.wave_wasm.specs.Merge.{merge}
use Rattle.wave_wasm.specs.ConstructorContracts.{MakesMap, FullMap, HasFullParts}
use Rattle.wave_wasm.specs.declared.wasm.WasmValueError.{WasmValueError}
use Rattle.wave_lex.specs.Errors.{Diagnostic, refusal_of}
use Rattle.wave_lex.specs.declared.error.ParserErrorKind.TheVariants as why
use Rattle.wave_grammar.specs.SpannedTree.{SpannedTree, PlacedEntries, PlacedEntry, entry_list, slice, shape_of}
use Rattle.wave_grammar.specs.TypeErrors.{MapKeyFault}
use Rattle.wave_grammar.specs.NodeTree.{NodeTree, node, no_nodes, node_trees, type_of}
use Rattle.wave_grammar.specs.Nodes.{IsNodeOf, IsTokenOf}
use Rattle.wave_grammar.specs.NodeAccessors.{RefusedAs, node_pairs}
use Rattle.wave_grammar.specs.TypedReading.{IsKeyRead, IsValueOf, IsKeyOf}
use Rattle.wave_grammar.specs.PartReading.{AnswersMapKey}
use Rattle.wave_grammar.specs.ErrorSpans.{RefusesIn}
use Rattle.wave_grammar.specs.declared.form.NodeType.TheVariants as kind
use Rattle.wave_grammar.proofs.ChildNodes.Inside.{inside, AreParsed, parsed, nodes_in}
use Rattle.wave_grammar.proofs.ChildNodes.Trees.{list_of_trees}
use Rattle.wave_grammar.proofs.ChildNodes.Cases.{shape_at}
use Rattle.wave_grammar.proofs.ChildNodes.Entries.{AreEntriesOf, IsOfMap, map_nodes}
use Rattle.wave_grammar.proofs.ByKind.Maps.{EntriesFine, key_none, IsMapOf, map_distinct, NextEntry, map_fault, key_blame, value_blame, EntriesRead, map_built, same_texts}
use Rattle.wave_grammar.proofs.OneFault.FaultyTrees.{leaf_none, value_fine}
use Rattle.wave_grammar.proofs.OneFault.FirstOfSeveral.{neither}
use Rattle.wave_grammar.proofs.ErrorSpans.Nodes.{BelongsTo, children_belong, deeper, at_in, form_at, built_in}
use Rattle.wave_leaf.specs.Reading.{IsReadAs}
use Rattle.wave_read.proofs.MapReading.KeyedChildren.{ArePaired, paired_from}
use Rattle.wave_read.specs.MapParts.{AreReadInTurn}
use Rattle.wave_leaf.specs.Errors.{IsBuiltOrMemory}
use Rattle.wave_leaf.proofs.ReadErrors.HandedOn.{built_anew, built_of, anew_of}

-- ---- the type

-- a type of this kind is a map
pub of_map_kind : (T : TypeTree) → kind_of T ≡ kinds.Map → (K : Simple) × (U : TypeTree) × (T ≡ type.map K U)
of_map_kind (type.map K U) e = (K, U, refl)
of_map_kind (type.simple S) e = absurd (no_map_kind S e)
  where
    no_map_kind : (S : Simple) → simple_kind S ≡ kinds.Map → ⊥
    no_map_kind (type.whole type.s8) e = cc
    no_map_kind (type.whole type.s16) e = cc
    no_map_kind (type.whole type.s32) e = cc
    no_map_kind (type.whole type.s64) e = cc
    no_map_kind (type.whole type.u8) e = cc
    no_map_kind (type.whole type.u16) e = cc
    no_map_kind (type.whole type.u32) e = cc
    no_map_kind (type.whole type.u64) e = cc
    no_map_kind _ e = cc
of_map_kind (type.unreadable type.f32) e = absurd (cc)
of_map_kind (type.unreadable type.f64) e = absurd (cc)
of_map_kind (type.unreadable type.unsupported) e = absurd (cc)
of_map_kind _ e = absurd (cc)

-- ---- children in pairs

-- the nodes are the keys and the values of the entries
abbrev AreInTurn : List ℕ → List NodeTree → List PlacedEntry → Type 0
AreInTurn source [] [] = Unit {0}
AreInTurn source (k ∷ n ∷ more) (e ∷ es) = IsTokenOf source k e.place e.key × IsNodeOf source n e.value × AreInTurn source more es
AreInTurn source _ _ = ⊥

in_turn : (source : List ℕ) (ns : List NodeTree) (es : List PlacedEntry) → ArePaired ns → AreEntriesOf source (node_pairs ns) es → AreInTurn source ns es
in_turn source [] [] paired h = tt
in_turn source [] (e ∷ es) paired h = absurd h
in_turn source (k ∷ []) es paired h = absurd paired
in_turn source (k ∷ n ∷ more) [] paired h = absurd h
in_turn source (k ∷ n ∷ more) (e ∷ es) paired h = (h.0, h.1, in_turn source more es paired h.2)

entries_of_nodes : (source : List ℕ) (ns : List NodeTree) (es : List PlacedEntry) → AreInTurn source ns es → AreEntriesOf source (node_pairs ns) es
entries_of_nodes source [] [] h = tt
entries_of_nodes source [] (e ∷ es) h = absurd h
entries_of_nodes source (k ∷ []) [] h = absurd h
entries_of_nodes source (k ∷ []) (e ∷ es) h = absurd h
entries_of_nodes source (k ∷ n ∷ more) [] h = absurd h
entries_of_nodes source (k ∷ n ∷ more) (e ∷ es) h = (h.0, h.1, entries_of_nodes source more es h.2)

-- the entries of a node with these children
record MapChildren (source : List ℕ) (ns : List NodeTree) (t : SpannedTree) : Type 0 where
  given : PlacedEntries
  shape : IsOfMap (shape_of t) given
  nodes : AreInTurn source ns (entry_list given)

map_children : (source : List ℕ) (ns : List NodeTree) (p : Range ℕ) (t : SpannedTree) → IsNodeOf source (node kind.TupleSet p (node_trees ns)) t → MapChildren source ns t
map_children source ns p t h =
    let m : NodeTree = node kind.TupleSet p (node_trees ns) in
    let i = inside source m t h.0 in
    let each : AreParsed source ns i.children = subst (λ (l : List NodeTree). AreParsed source l i.children) (list_of_trees ns) (parsed source (nodes_in m) i.children i.each) in
    let paired : ArePaired ns = paired_from source p (slice source p) ns i.children (shape_of t) each (shape_at kind.TupleSet source m t i refl) in
    let nodes = map_nodes source m t h (inl refl) in
    record { given = nodes.given; shape = nodes.shape; nodes = in_turn source ns (entry_list nodes.given) paired (subst (λ (l : List NodeTree). AreEntriesOf source (node_pairs l) (entry_list nodes.given)) (list_of_trees ns) nodes.nodes) }

-- ---- what was read so far

module _ {V : Type 0} (tree : V → Value) (of : V → TypeTree → Type 0) (Full : TypeTree → Type 0) (o w : Order) where
  -- after an even number of children no key waits
  pub none_waits : (S U : TypeTree) (source : List ℕ) (ns : List NodeTree) (xs : List (V × V)) (waits : Option V) (half : ℕ) → AreReadInTurn tree of Full w S U source ns xs waits → length ns ≡ half + half → waits ≡ None
  none_waits S U source [] [] None half h even = refl
  none_waits S U source [] [] (Some x) half h even = absurd h
  none_waits S U source [] (e ∷ es) waits half h even = absurd h
  none_waits S U source (k ∷ []) xs waits half h even = absurd (omega (arith, even))
  none_waits S U source (k ∷ n ∷ more) [] waits half h even = absurd h
  none_waits S U source (k ∷ n ∷ more) (e ∷ es) waits zero h even = absurd (omega (arith, even))
  none_waits S U source (k ∷ n ∷ more) (e ∷ es) waits (suc half) h even = none_waits S U source more es waits half h.2 (omega (arith, even))

  -- after an odd number of children one does
  pub one_waits : (S U : TypeTree) (source : List ℕ) (ns : List NodeTree) (xs : List (V × V)) (waits : Option V) (half : ℕ) → AreReadInTurn tree of Full w S U source ns xs waits → length ns ≡ half + half + 1 → (x : V) × (waits ≡ Some x)
  one_waits S U source [] xs waits half h odd = absurd (omega (arith, odd))
  one_waits S U source (k ∷ []) [] None half h odd = absurd h
  one_waits S U source (k ∷ []) [] (Some x) half h odd = (x, refl)
  one_waits S U source (k ∷ []) (e ∷ es) waits half h odd = absurd h
  one_waits S U source (k ∷ n ∷ more) [] waits half h odd = absurd h
  one_waits S U source (k ∷ n ∷ more) (e ∷ es) waits zero h odd = absurd (omega (arith, odd))
  one_waits S U source (k ∷ n ∷ more) (e ∷ es) waits (suc half) h odd = one_waits S U source more es waits half h.2 (omega (arith, odd))

  -- a key was read
  pub key_more : (S U : TypeTree) (source : List ℕ) (ns : List NodeTree) (xs : List (V × V)) (k : NodeTree) (x : V) → AreReadInTurn tree of Full w S U source ns xs None → AnswersMapKey tree of Full S source k (Ok x) → AreReadInTurn tree of Full w S U source (ns ++ k ∷ []) xs (Some x)
  key_more S U source [] [] k x h read = read
  key_more S U source [] (e ∷ es) k x h read = absurd h
  key_more S U source (a ∷ []) [] k x h read = absurd h
  key_more S U source (a ∷ []) (e ∷ es) k x h read = absurd h
  key_more S U source (a ∷ b ∷ ns) [] k x h read = absurd h
  key_more S U source (a ∷ b ∷ ns) (e ∷ es) k x h read = (h.0, h.1, key_more S U source ns es k x h.2 read)

  -- the value after it was read
  pub value_more : (S U : TypeTree) (source : List ℕ) (ns : List NodeTree) (xs : List (V × V)) (n : NodeTree) (x v : V) → AreReadInTurn tree of Full w S U source ns xs (Some x) → IsReadAs tree of Full w w U source n (Ok v) → AreReadInTurn tree of Full w S U source (ns ++ n ∷ []) (xs ++ (x, v) ∷ []) None
  value_more S U source [] [] n x v h read = absurd h
  value_more S U source [] (e ∷ es) n x v h read = absurd h
  value_more S U source (k ∷ []) [] n x v h read = (h, read, tt)
  value_more S U source (k ∷ []) (e ∷ es) n x v h read = absurd h
  value_more S U source (a ∷ b ∷ ns) [] n x v h read = absurd h
  value_more S U source (a ∷ b ∷ ns) (e ∷ es) n x v h read = (h.0, h.1, value_more S U source ns es n x v h.2 read)

  -- the entries of which the first were read, and the rest are of these nodes
  record Divided (K : Simple) (U : TypeTree) (source : List ℕ) (xs : List (V × V)) (rest : List NodeTree) (es : List PlacedEntry) : Type 0 where
    done : List PlacedEntry
    left : List PlacedEntry
    is : es ≡ done ++ left
    read : HasDistinctNames U → EntriesRead tree of Full K U done xs
    nodes : AreInTurn source rest left

  divided : (K : Simple) (S U : TypeTree) (source : List ℕ) (ns rest : List NodeTree) (xs : List (V × V)) (es : List PlacedEntry) → S ≡ type.simple K → AreReadInTurn tree of Full w S U source ns xs None → AreInTurn source (ns ++ rest) es → Divided K U source xs rest es
  divided K S U source [] rest [] es is h nodes = record { done = []; left = es; is = refl; read = λ distinct. tt; nodes = nodes }
  divided K S U source [] rest (x ∷ xs) es is h nodes = absurd h
  divided K S U source (k ∷ []) rest [] es is h nodes = absurd h
  divided K S U source (k ∷ []) rest (x ∷ xs) es is h nodes = absurd h
  divided K S U source (k ∷ n ∷ ns) rest [] es is h nodes = absurd h
  divided K S U source (k ∷ n ∷ ns) rest (x ∷ xs) [] is h nodes = absurd nodes
  divided K S U source (k ∷ n ∷ ns) rest (x ∷ xs) (e ∷ es) is h nodes =
      let more = divided K S U source ns rest xs es is h.2 nodes.2 in
      record {
        done = e ∷ more.done;
        left = more.left;
        is = ap (λ (l : List PlacedEntry). e ∷ l) more.is;
        read = λ distinct. (h.0 K e.place e.key is nodes.0, h.1.answer e.value nodes.1 distinct, more.read distinct);
        nodes = more.nodes;
      }

  -- so where a key waits: the next entry's key was read, and its value is the first of these nodes
  record Between (K : Simple) (U : TypeTree) (source : List ℕ) (xs : List (V × V)) (x : V) (rest : List NodeTree) (es : List PlacedEntry) : Type 0 where
    done : List PlacedEntry
    here : PlacedEntry
    left : List PlacedEntry
    is : es ≡ done ++ here ∷ left
    read : HasDistinctNames U → EntriesRead tree of Full K U done xs
    key : NodeTree
    key_node : IsTokenOf source key here.place here.key
    key_read : IsKeyRead tree of K here.key x
    value : NodeTree
    more : List NodeTree
    rest_is : rest ≡ value ∷ more
    value_node : IsNodeOf source value here.value
    nodes : AreInTurn source more left

  between : (K : Simple) (S U : TypeTree) (source : List ℕ) (ns rest : List NodeTree) (xs : List (V × V)) (x : V) (es : List PlacedEntry) → S ≡ type.simple K → AreReadInTurn tree of Full w S U source ns xs (Some x) → AreInTurn source (ns ++ rest) es → Between K U source xs x rest es
  between K S U source [] rest [] x es is h nodes = absurd h
  between K S U source [] rest (y ∷ xs) x es is h nodes = absurd h
  between K S U source (k ∷ []) rest (y ∷ xs) x es is h nodes = absurd h
  between K S U source (k ∷ []) [] [] x [] is h nodes = absurd nodes
  between K S U source (k ∷ []) [] [] x (e ∷ es) is h nodes = absurd nodes
  between K S U source (k ∷ []) (n ∷ rest) [] x [] is h nodes = absurd nodes
  between K S U source (k ∷ []) (n ∷ rest) [] x (e ∷ es) is h nodes = record { done = []; here = e; left = es; is = refl; read = λ distinct. tt; key = k; key_node = nodes.0; key_read = h K e.place e.key is nodes.0; value = n; more = rest; rest_is = refl; value_node = nodes.1; nodes = nodes.2 }
  between K S U source (k ∷ n ∷ ns) rest [] x es is h nodes = absurd h
  between K S U source (k ∷ n ∷ ns) rest (y ∷ xs) x [] is h nodes = absurd nodes
  between K S U source (k ∷ n ∷ ns) rest (y ∷ xs) x (e ∷ es) is h nodes =
      let b = between K S U source ns rest xs x es is h.2 nodes.2 in
      record {
        done = e ∷ b.done;
        here = b.here;
        left = b.left;
        is = ap (λ (l : List PlacedEntry). e ∷ l) b.is;
        read = λ distinct. (h.0 K e.place e.key is nodes.0, h.1.answer e.value nodes.1 distinct, b.read distinct);
        key = b.key;
        key_node = b.key_node;
        key_read = b.key_read;
        value = b.value;
        more = b.more;
        rest_is = b.rest_is;
        value_node = b.value_node;
        nodes = b.nodes;
      }

  -- ---- refusals

  belongs_behind : (P : NodeTree → Type 0) (before after : List NodeTree) (n : NodeTree) → AllOf P (before ++ n ∷ after) → P n
  belongs_behind P [] after n h = h.0
  belongs_behind P (x ∷ before) after n h = belongs_behind P before after n h.1

  -- a child's refusal stands in the node
  child_in : (source : List ℕ) (before more : List NodeTree) (k : NodeTree) (p : Range ℕ) (e : Diagnostic) → IsValueOf source (node kind.TupleSet p (node_trees ((before ++ k ∷ []) ++ more))) → RefusesIn k e → RefusesIn (node kind.TupleSet p (node_trees ((before ++ k ∷ []) ++ more))) e
  child_in source before more k p e value reported =
      let m : NodeTree = node kind.TupleSet p (node_trees ((before ++ k ∷ []) ++ more)) in
      let all : AllOf (BelongsTo m) (before ++ k ∷ more) = subst (AllOf (BelongsTo m)) (list_of_trees ((before ++ k ∷ []) ++ more) ∙ append_assoc before (k ∷ []) more) (children_belong source m value) in
      deeper m k e (belongs_behind (BelongsTo m) before more k all) reported

  -- the next entry, where its key is the first of the nodes
  record KeyHere (source : List ℕ) (k : NodeTree) (es done left : List PlacedEntry) : Type 0 where
    value : NodeTree
    rest : List (NodeTree × NodeTree)
    next : NextEntry source es done (k, value) rest

  key_here : (source : List ℕ) (es done left : List PlacedEntry) (k : NodeTree) (more : List NodeTree) → es ≡ done ++ left → AreInTurn source (k ∷ more) left → KeyHere source k es done left
  key_here source es done left k [] is h = absurd h
  key_here source es done [] k (n ∷ more) is h = absurd h
  key_here source es done (e ∷ left) k (n ∷ more) is h =
      record { value = n; rest = node_pairs more; next = record { here = e; rest = left; is = is; key = h.0; node = h.1; nodes = entries_of_nodes source more left h.2 } }

  -- the entry of a key after entries that were read
  record KeyPlaced (K : Simple) (U : TypeTree) (source : List ℕ) (xs : List (V × V)) (k : NodeTree) (es : List PlacedEntry) : Type 0 where
    done : List PlacedEntry
    left : List PlacedEntry
    read : HasDistinctNames U → EntriesRead tree of Full K U done xs
    here : KeyHere source k es done left

  key_placed : (K : Simple) (S U : TypeTree) (source : List ℕ) (ns more : List NodeTree) (k : NodeTree) (xs : List (V × V)) (es : List PlacedEntry) → S ≡ type.simple K → AreReadInTurn tree of Full w S U source ns xs None → AreInTurn source ((ns ++ k ∷ []) ++ more) es → KeyPlaced K U source xs k es
  key_placed K S U source ns more k xs es is h nodes =
      let d = divided K S U source ns (k ∷ more) xs es is h (subst (λ (l : List NodeTree). AreInTurn source l es) (append_assoc ns (k ∷ []) more) nodes) in
      record { done = d.done; left = d.left; read = d.read; here = key_here source es d.done d.left k more d.is d.nodes }

  -- nothing is wrong with a key that was read
  key_fine : (K : Simple) (e : PlacedEntry) (v : V) → IsKeyRead tree of K e.key v → BlamesNothing (MapKeyFault K e.place e.key)
  key_fine K e v read k q fault = key_none K e.place e.key k q read.leaf (λ leaf spelled. leaf_none K e.place e.key k q read.leaf leaf spelled) fault read.spells

  -- nor with entries that were read
  entries_fine : (K : Simple) (U : TypeTree) (es : List PlacedEntry) (xs : List (V × V)) → HasDistinctNames U → EntriesRead tree of Full K U es xs → EntriesFine w K U es
  entries_fine K U [] [] distinct h = tt
  entries_fine K U [] (x ∷ xs) distinct h = absurd h
  entries_fine K U (e ∷ es) [] distinct h = absurd h
  entries_fine K U (e ∷ es) (x ∷ xs) distinct h =
      (neither (MapKeyFault K e.place e.key) (FirstFault w w U e.value) (key_fine K e x.0 h.0) (value_fine w w U e.value (tree x.1) distinct h.1.reads), entries_fine K U es xs distinct h.2)

  -- a key that is refused dooms the map
  pub key_rejects : (T S U : TypeTree) (source : List ℕ) (ns more : List NodeTree) (xs : List (V × V)) (k : NodeTree) (p : Range ℕ) (e : Diagnostic) → IsMapOf T S U → HasFullParts Full → AreReadInTurn tree of Full w S U source ns xs None → AnswersMapKey tree of Full S source k (Err e) → (IsKeyOf source k → RefusesIn k e) → IsReadAs tree of Full o w T source (node kind.TupleSet p (node_trees ((ns ++ k ∷ []) ++ more))) (Err e)
  key_rejects T S U source ns more xs k p e m parts h blamed reported =
      record {
        answer = λ t is distinct.
            let c = map_children source ((ns ++ k ∷ []) ++ more) p t is in
            let x = key_placed m.key S U source ns more k xs (entry_list c.given) m.key_is h c.nodes in
            let next = x.here.next in
            let within = map_distinct T S U m distinct in
            key_blame tree of Full o w source T S U t c.given x.done (k, x.here.value) x.here.rest e m next c.shape parts (entries_fine m.key U x.done xs within (x.read within)) (blamed m.key next.here.place next.here.key m.key_is next.key);
        within = λ value.
            let c = map_children source ((ns ++ k ∷ []) ++ more) p value.0 value.1 in
            let x = key_placed m.key S U source ns more k xs (entry_list c.given) m.key_is h c.nodes in
            let next = x.here.next in
            child_in source ns more k p e value (reported (next.here.place, next.here.key, next.key));
        typed = tt;
      }

  -- the entry of a value after its key, which was read
  record ValuePlaced (K : Simple) (U : TypeTree) (source : List ℕ) (xs : List (V × V)) (x : V) (n : NodeTree) (es : List PlacedEntry) : Type 0 where
    done : List PlacedEntry
    key : NodeTree
    rest : List (NodeTree × NodeTree)
    next : NextEntry source es done (key, n) rest
    read : HasDistinctNames U → EntriesRead tree of Full K U done xs
    key_read : IsKeyRead tree of K next.here.key x

  value_placed : (K : Simple) (S U : TypeTree) (source : List ℕ) (ns more : List NodeTree) (n : NodeTree) (xs : List (V × V)) (x : V) (es : List PlacedEntry) → S ≡ type.simple K → AreReadInTurn tree of Full w S U source ns xs (Some x) → AreInTurn source ((ns ++ n ∷ []) ++ more) es → ValuePlaced K U source xs x n es
  value_placed K S U source ns more n xs x es is h nodes =
      let b = between K S U source ns (n ∷ more) xs x es is h (subst (λ (l : List NodeTree). AreInTurn source l es) (append_assoc ns (n ∷ []) more) nodes) in
      let same : n ≡ b.value = first_is n b.value more b.more b.rest_is in
      record {
        done = b.done;
        key = b.key;
        rest = node_pairs b.more;
        next = record { here = b.here; rest = b.left; is = b.is; key = b.key_node; node = subst (λ (m : NodeTree). IsNodeOf source m b.here.value) (sym same) b.value_node; nodes = entries_of_nodes source b.more b.left b.nodes };
        read = b.read;
        key_read = b.key_read;
      }
    where
      first_is : (a b : NodeTree) (xs ys : List NodeTree) → a ∷ xs ≡ b ∷ ys → a ≡ b
      first_is a b xs ys e = cc

  -- a value that is refused dooms the map
  pub value_rejects : (T S U : TypeTree) (source : List ℕ) (ns more : List NodeTree) (xs : List (V × V)) (x : V) (n : NodeTree) (p : Range ℕ) (e : Diagnostic) → IsMapOf T S U → HasFullParts Full → AreReadInTurn tree of Full w S U source ns xs (Some x) → IsReadAs tree of Full w w U source n (Err e) → IsReadAs tree of Full o w T source (node kind.TupleSet p (node_trees ((ns ++ n ∷ []) ++ more))) (Err e)
  value_rejects T S U source ns more xs x n p e m parts h read =
      record {
        answer = λ t is distinct.
            let c = map_children source ((ns ++ n ∷ []) ++ more) p t is in
            let v = value_placed m.key S U source ns more n xs x (entry_list c.given) m.key_is h c.nodes in
            let within = map_distinct T S U m distinct in
            value_blame tree of Full o w source T S U t c.given v.done (v.key, n) v.rest e m v.next c.shape parts (entries_fine m.key U v.done xs within (v.read within)) (key_fine m.key v.next.here x v.key_read) (read.answer v.next.here.value v.next.node within);
        within = λ value.
            let c = map_children source ((ns ++ n ∷ []) ++ more) p value.0 value.1 in
            let v = value_placed m.key S U source ns more n xs x (entry_list c.given) m.key_is h c.nodes in
            child_in source ns more n p e value (read.within (v.next.here.value, v.next.node));
        typed = tt;
      }

  -- ---- the whole

  left_is_none : (source : List ℕ) (left : List PlacedEntry) → AreInTurn source [] left → left ≡ []
  left_is_none source [] h = refl
  left_is_none source (e ∷ left) h = absurd h

  -- a key without a value is no map
  key_alone : (K : Simple) (S U : TypeTree) (source : List ℕ) (ns : List NodeTree) (xs : List (V × V)) (x : V) (p : Range ℕ) (t : SpannedTree) → S ≡ type.simple K → AreReadInTurn tree of Full w S U source ns xs (Some x) → IsNodeOf source (node kind.TupleSet p (node_trees ns)) t → ⊥
  key_alone K S U source ns xs x p t key h is =
      let c = map_children source ns p t is in
      let b = between K S U source ns [] xs x (entry_list c.given) key h (subst (λ (l : List NodeTree). AreInTurn source l (entry_list c.given)) (sym (append-nil ns)) c.nodes) in
      none_is b.value b.more b.rest_is
    where
      none_is : (a : NodeTree) (xs : List NodeTree) → [] ≡ a ∷ xs → ⊥
      none_is a xs e = cc

  -- each entry was read
  all_read : (K : Simple) (S U : TypeTree) (source : List ℕ) (ns : List NodeTree) (xs : List (V × V)) (es : List PlacedEntry) → S ≡ type.simple K → AreReadInTurn tree of Full w S U source ns xs None → AreInTurn source ns es → HasDistinctNames U → EntriesRead tree of Full K U es xs
  all_read K S U source ns xs es is h nodes distinct =
      let d = divided K S U source ns [] xs es is h (subst (λ (l : List NodeTree). AreInTurn source l es) (sym (append-nil ns)) nodes) in
      let same : d.done ≡ es = sym (d.is ∙ (ap (λ (l : List PlacedEntry). d.done ++ l) (left_is_none source d.left d.nodes) ∙ append-nil d.done)) in
      subst (λ (l : List PlacedEntry). EntriesRead tree of Full K U l xs) same (d.read distinct)

  -- the map was made of the merged entries, or its constructor refused
  pub entries_built : (T S U : TypeTree) (source : List ℕ) (ns : List NodeTree) (xs handed : List (V × V)) (waits : Option V) (p : Range ℕ) (built_map : Result V WasmValueError) (r : Result V Diagnostic) → IsMapOf T S U → AreReadInTurn tree of Full w S U source ns xs waits → ((v : V) (T : TypeTree) → of v T → HasType T (tree v)) → handed ≡ merge (same_texts tree of Full) xs → IfOk built_map (MakesMap tree of T handed) → IfErr built_map (FullMap of Full T handed) → IsBuiltOrMemory (node kind.TupleSet p (node_trees ns)) built_map r → IsReadAs tree of Full o w T source (node kind.TupleSet p (node_trees ns)) r
  entries_built T S U source ns xs handed (Some x) p built_map r m h fits merged ok full done =
      record {
        answer = λ t is distinct. absurd (key_alone m.key S U source ns xs x p t m.key_is h is);
        within = λ value. absurd (key_alone m.key S U source ns xs x p value.0 m.key_is h value.1);
        typed = anew_of of T (MakesMap tree of T handed) (node kind.TupleSet p (node_trees ns)) built_map r (λ v makes distinct. (makes distinct).2.is_of) ok done;
      }
  entries_built T S U source ns xs handed None p built_map r m h fits merged ok full done =
      built_anew (MakesMap tree of T handed) (FullMap of Full T handed) (node kind.TupleSet p (node_trees ns)) built_map r (λ a f K V is all. tt) ok full done (λ built_map ok full done.
      record {
        answer = λ t is distinct.
            let c = map_children source ns p t is in
            let all = all_read m.key S U source ns xs (entry_list c.given) m.key_is h c.nodes (map_distinct T S U m distinct) in
            map_built tree of Full o w T S U t c.given xs handed (node kind.TupleSet p (node_trees ns)) built_map r m distinct c.shape fits all merged ok full done;
        within = λ value. built_in source (node kind.TupleSet p (node_trees ns)) built_map r (inl value) done;
        typed = built_of of T (MakesMap tree of T handed) (node kind.TupleSet p (node_trees ns)) built_map r (λ v makes distinct. (makes distinct).2.is_of) ok done;
      })

  -- the map of `{}` was made, or its constructor refused
  pub none_built : (T : TypeTree) (source : List ℕ) (p : Range ℕ) (handed : List (V × V)) (built_map : Result V WasmValueError) (r : Result V Diagnostic) → kind_of T ≡ kinds.Map → ((v : V) (T : TypeTree) → of v T → HasType T (tree v)) → handed ≡ [] → IfOk built_map (MakesMap tree of T handed) → IfErr built_map (FullMap of Full T handed) → IsBuiltOrMemory (node kind.EmptySet p no_nodes) built_map r → IsReadAs tree of Full o w T source (node kind.EmptySet p no_nodes) r
  none_built T source p handed built_map r is_map fits none ok full done =
      built_anew (MakesMap tree of T handed) (FullMap of Full T handed) (node kind.EmptySet p no_nodes) built_map r (λ a f K V is all. tt) ok full done (λ built_map ok full done.
      let (K, U, same) = of_map_kind T is_map in
      record {
        answer = λ t is distinct.
            let c = map_nodes source (node kind.EmptySet p no_nodes) t is (inr refl) in
            map_built tree of Full o w T (type.simple K) U t c.given [] handed (node kind.EmptySet p no_nodes) built_map r (record { key = K; key_is = refl; is = same }) distinct c.shape fits (nothing K U (entry_list c.given) c.nodes) none ok full done;
        within = λ value. built_in source (node kind.EmptySet p no_nodes) built_map r (inl value) done;
        typed = built_of of T (MakesMap tree of T handed) (node kind.EmptySet p no_nodes) built_map r (λ v makes distinct. (makes distinct).2.is_of) ok done;
      })
    where
      nothing : (K : Simple) (U : TypeTree) (es : List PlacedEntry) → AreEntriesOf source [] es → EntriesRead tree of Full K U es []
      nothing K U [] h = tt
      nothing K U (e ∷ es) h = absurd h

  -- a node of another form
  pub other_form : (T : TypeTree) (source : List ℕ) (n : NodeTree) (e : Diagnostic) → kind_of T ≡ kinds.Map → type_of n ≢ kind.TupleSet → type_of n ≢ kind.EmptySet → RefusedAs why.InvalidType n e → IsReadAs tree of Full o w T source n (Err e)
  other_form T source n e is set empty refused =
      let (K, U, same) = of_map_kind T is in
      record {
        answer = λ t node distinct. inr (inl (subst (λ (W : TypeTree). FirstFault o w W t (refusal_of e) e.span) (sym same) (map_fault o w K U source n t e node.0 (set, empty, refused))));
        within = λ value. at_in source n e (inl value) (form_at n e refused);
        typed = tt;
      }
