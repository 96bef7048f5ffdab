-- Tuples, whose items were read one after the other.
use Rattle.std.proofs.Common.{ℕ, ◌≡◌, ◌≢◌, inl, inr, ◌<◌, true, false, List, [], ◌∷◌, ◌++◌, length, get_or, take, Bor, Result, Ok, Err, IfOk, IfErr, refl, sym, ◌∙◌, subst, is_some, length-append, arith}
use Rattle.std.specs.List.{slice_get}
use Rattle.std.specs.declared.ops.Range.{Range}
use Rattle.wave_grammar.specs.FaultOrder.{Order, in_text, BlamesNothing, FirstItem}
use Rattle.wave_grammar.proofs.OneFault.FaultyTrees.{value_fine}
use Rattle.wave_wasm.specs.Lists.{AllOf}
use Rattle.wave_wasm.specs.Types as type
use Rattle.wave_wasm.specs.Types.{TypeTree, Types, HasDistinctNames, tuple_parts, type_list, kind_of}
use Rattle.wave_wasm.specs.Values.{Value}
use Rattle.wave_wasm.specs.ValueErrors.{wrong_number}
use Rattle.wave_wasm.specs.Borrowed.{denoted, denoted_all}
use Rattle.wave_wasm.specs.ConstructorContracts.{MakesTuple, FullTuple, HasFullParts, TypedTuple, AreOf}
use Rattle.wave_wasm.specs.declared.wasm.WasmTypeKind.TheVariants as kinds
use Rattle.wave_wasm.specs.declared.wasm.WasmValueError.{WasmValueError}
use Rattle.wave_lex.specs.Errors.{Diagnostic, refusal_of, caused}
use Rattle.wave_lex.specs.declared.error.ParserErrorKind.TheVariants.{InvalidType, OutOfMemory}
use Rattle.wave_grammar.specs.SpannedTree.{SpannedTree}
use Rattle.wave_grammar.specs.NodeTree.{NodeTree, node, node_trees, type_of, children_of}
use Rattle.wave_grammar.specs.NodeAccessors.{RefusedAs}
use Rattle.wave_grammar.specs.TypedReading.{IsBlamed}
use Rattle.wave_grammar.specs.declared.form.NodeType.{NodeType}
use Rattle.wave_grammar.specs.declared.form.NodeType.TheVariants as kind
use Rattle.wave_grammar.proofs.ByKind.Leaves.{said}
use Rattle.wave_grammar.proofs.ByKind.Lists.{AreNodesOf, HasAt}
use Rattle.wave_grammar.proofs.ByKind.Tuples.{ItemsBlamed, ItemsFine, items_blame, TupleType, tuple_is, parts_distinct, tuple_nodes, given_items, tuple_item, tuple_fault, count_blame, ReadAt, tuple_built}
use Rattle.wave_grammar.proofs.ChildNodes.Trees.{list_of_trees}
use Rattle.wave_grammar.proofs.ErrorSpans.Nodes.{at_in, form_at, caused_at, deeper_at, built_in}
use Rattle.wave_leaf.specs.Reading.{IsReadAs, IsReadWhereExpected}
use Rattle.wave_leaf.specs.Faults.{IsRefusedWhateverFollows}
use Rattle.wave_read.specs.TupleParts.{AreReadEach}
use Rattle.wave_leaf.specs.declared.fault.Fault.TheVariants as fault
use Rattle.wave_read.proofs.ReadErrors.RejectedValues.{reported_rejects}
use Rattle.wave_leaf.specs.declared.error.Reason.TheVariants as reason
use Rattle.wave_leaf.specs.Errors.{IsBuiltOrMemory}
use Rattle.wave_leaf.proofs.ReadErrors.HandedOn.{built_anew, built_of, plain_says, no_memory}

-- the one after the first ones
at_last : {A : Type 0} (xs more : List A) (x : A) → x ≡ get_or ((xs ++ x ∷ []) ++ more) (length xs) x
at_last [] more x = refl
at_last (y ∷ ys) more x = at_last ys more x

last_before : {A : Type 0} (xs more : List A) (x : A) → length xs < length ((xs ++ x ∷ []) ++ more)
last_before xs more x = omega (arith, length-append (xs ++ x ∷ []) more, length-append xs (x ∷ []))

module _ {V : Type 0} (tree : V → Value) (of : V → TypeTree → Type 0) (Full : TypeTree → Type 0) (o w : Order) where
  -- a node that is no tuple, at a type of tuples
  pub other_than_tuple : (T : TypeTree) (source : List ℕ) (n : NodeTree) (e : Diagnostic) → kind_of T ≡ kinds.Tuple → type_of n ≢ kind.Tuple → RefusedAs InvalidType n e → IsReadAs tree of Full o w T source n (Err e)
  other_than_tuple T source n e tuples apart refused =
      let is = tuple_is T (tuple_parts T) (sym tuples) refl in
      record {
        answer = λ t node distinct. subst (λ (U : TypeTree). IsBlamed Full o w U t e) (sym is.is) (inr (inl (tuple_fault o w is.types source n t (refusal_of e) e.span node.0 apart (said refused))));
        within = λ value. at_in source n e (inl value) (form_at n e refused);
        typed = tt;
      }

  -- where there was no memory for the parts, whatever they are
  pub memory_rejects : (T : TypeTree) (source : List ℕ) (ty : NodeType) (ns : List NodeTree) → IsRefusedWhateverFollows tree of Full o w T source ty ns (fault.Whole (reason.Plain OutOfMemory))
  memory_rejects T source ty ns more p e tells = no_memory tree of Full o w T source (node ty p (node_trees (ns ++ more))) e (plain_says OutOfMemory p e tells)

  -- ---- the first fault of an item

  -- items that were read have no fault
  pub items_fine : (Ts : Types) (source : List ℕ) (ns : List NodeTree) (vs : List V) (ts : List SpannedTree) → AllOf HasDistinctNames (type_list Ts) → AreReadEach tree of Full w (type_list Ts) source ns vs → AreNodesOf source ns ts → BlamesNothing (FirstItem w Ts ts)
  items_fine type.no_types source ns vs ts distinct h nodes k q fault = fault
  items_fine (type.type_and T more) source [] vs [] distinct h nodes k q fault = fault
  items_fine (type.type_and T more) source [] vs (t ∷ ts) distinct h nodes k q fault = absurd nodes
  items_fine (type.type_and T more) source (n ∷ ns) vs [] distinct h nodes k q fault = fault
  items_fine (type.type_and T more) source (n ∷ ns) [] (t ∷ ts) distinct h nodes k q fault = absurd h
  items_fine (type.type_and T more) source (n ∷ ns) (v ∷ vs) (t ∷ ts) distinct h nodes k q (inl fault) = value_fine w w T t (tree v) distinct.0 (h.0.answer t nodes.0 distinct.0).reads k q fault
  items_fine (type.type_and T more) source (n ∷ ns) (v ∷ vs) (t ∷ ts) distinct h nodes k q (inr fault) = items_fine more source ns vs ts distinct.1 h.1 nodes.1 k q fault.1

  -- the refusal of the next item is the first
  next_blamed : (Ts : Types) (source : List ℕ) (ns : List NodeTree) (vs : List V) (n : NodeTree) (more : List NodeTree) (ts : List SpannedTree) (E : TypeTree) (e : Diagnostic) → AllOf HasDistinctNames (type_list Ts) → AreReadEach tree of Full w (type_list Ts) source ns vs → HasAt (type_list Ts) (length ns) E → IsReadAs tree of Full w w E source n (Err e) → AreNodesOf source ((ns ++ n ∷ []) ++ more) ts → ItemsBlamed tree of Full o w Ts ts e
  next_blamed type.no_types source ns vs n more ts E e distinct h expected refused nodes = absurd expected
  next_blamed (type.type_and T rest) source [] vs n more [] E e distinct h expected refused nodes = absurd nodes
  next_blamed (type.type_and T rest) source [] vs n more (t ∷ ts) E e distinct h expected refused nodes =
      here (subst (λ (U : TypeTree). IsBlamed Full w w U t e) (sym expected) (refused.answer t nodes.0 (subst HasDistinctNames expected distinct.0)))
    where
      here : IsBlamed Full w w T t e → ItemsBlamed tree of Full o w (type.type_and T rest) (t ∷ ts) e
      here (inl memory) = inl memory
      here (inr (inl fault)) = inr (inl (inl fault))
      here (inr (inr apart)) = inr (inr (apart.0, λ full. apart.1 full.0))
  next_blamed (type.type_and T rest) source (m ∷ ns) vs n more [] E e distinct h expected refused nodes = absurd nodes
  next_blamed (type.type_and T rest) source (m ∷ ns) [] n more (t ∷ ts) E e distinct h expected refused nodes = absurd h
  next_blamed (type.type_and T rest) source (m ∷ ns) (v ∷ vs) n more (t ∷ ts) E e distinct h expected refused nodes =
      later (next_blamed rest source ns vs n more ts E e distinct.1 h.1 expected refused nodes.1)
    where
      later : ItemsBlamed tree of Full o w rest ts e → ItemsBlamed tree of Full o w (type.type_and T rest) (t ∷ ts) e
      later (inl memory) = inl memory
      later (inr (inl fault)) = inr (inl (inr (value_fine w w T t (tree v) distinct.0 (h.0.answer t nodes.0 distinct.0).reads, fault)))
      later (inr (inr apart)) = inr (inr (apart.0, λ full. apart.1 full.1))

  -- ---- item by item

  module _ {S : Type 0} (type_tree : S → TypeTree) (source : List ℕ) where
    -- an item where none is expected
    pub each_beyond : (types : List (Bor S)) (ns : List NodeTree) (vs : List V) (n : NodeTree) → is_some (slice_get types (length vs)) ≡ false → AreReadEach tree of Full w (denoted_all type_tree types) source ns vs → AreReadEach tree of Full w (denoted_all type_tree types) source (ns ++ n ∷ []) vs
    each_beyond [] [] [] n none h = tt
    each_beyond [] [] (v ∷ vs) n none h = absurd h
    each_beyond [] (m ∷ ns) [] n none h = tt
    each_beyond [] (m ∷ ns) (v ∷ vs) n none h = absurd h
    each_beyond (x ∷ xs) [] [] n none h = absurd (cc)
    each_beyond (x ∷ xs) [] (v ∷ vs) n none h = absurd h
    each_beyond (x ∷ xs) (m ∷ ns) [] n none h = absurd h
    each_beyond (x ∷ xs) (m ∷ ns) (v ∷ vs) n none h = (h.0, each_beyond xs ns vs n none h.1)

    -- an item that was read
    pub each_next : (types : List (Bor S)) (ns : List NodeTree) (vs : List V) (n : NodeTree) (v : V) → is_some (slice_get types (length vs)) ≡ true → AreReadEach tree of Full w (denoted_all type_tree types) source ns vs → IsReadWhereExpected tree of Full w w (denoted type_tree (slice_get types (length vs))) source n (Ok v) → AreReadEach tree of Full w (denoted_all type_tree types) source (ns ++ n ∷ []) (vs ++ v ∷ [])
    each_next [] ns vs n v some h now = absurd (cc)
    each_next (x ∷ xs) [] [] n v some h now = (now, tt)
    each_next (x ∷ xs) [] (u ∷ vs) n v some h now = absurd h
    each_next (x ∷ xs) (m ∷ ns) [] n v some h now = absurd h
    each_next (x ∷ xs) (m ∷ ns) (u ∷ vs) n v some h now = (h.0, each_next xs ns vs n v some h.1 now)

    -- the type that is expected, where what was read was refused
    record TypeExpected (types : List (Bor S)) (ns : List NodeTree) (n : NodeTree) (e : Diagnostic) : Type 0 where
      pub part : TypeTree
      pub here : HasAt (denoted_all type_tree types) (length ns) part
      pub refused : IsReadAs tree of Full w w part source n (Err e)

    type_expected : (types : List (Bor S)) (ns : List NodeTree) (vs : List V) (n : NodeTree) (e : Diagnostic) → is_some (slice_get types (length vs)) ≡ true → AreReadEach tree of Full w (denoted_all type_tree types) source ns vs → IsReadWhereExpected tree of Full w w (denoted type_tree (slice_get types (length vs))) source n (Err e) → TypeExpected types ns n e
    type_expected [] ns vs n e some h now = absurd (cc)
    type_expected (x ∷ xs) [] [] n e some h now = record { part = type_tree x.now; here = refl; refused = now }
    type_expected (x ∷ xs) [] (u ∷ vs) n e some h now = absurd h
    type_expected (x ∷ xs) (m ∷ ns) [] n e some h now = absurd h
    type_expected (x ∷ xs) (m ∷ ns) (u ∷ vs) n e some h now =
        let expected = type_expected xs ns vs n e some h.1 now in
        record { part = expected.part; here = expected.here; refused = expected.refused }

    item_rejects : (T E : TypeTree) (parts : List TypeTree) (ns : List NodeTree) (vs : List V) (n : NodeTree) (e : Diagnostic) → HasFullParts Full → TupleType T parts → AreReadEach tree of Full w parts source ns vs → HasAt parts (length ns) E → IsReadAs tree of Full w w E source n (Err e) → IsRefusedWhateverFollows tree of Full in_text w T source kind.Tuple (ns ++ n ∷ []) (fault.Part e)
    item_rejects T E parts ns vs n e full is h here refused = reported_rejects tree of Full in_text w T source kind.Tuple (ns ++ n ∷ []) e (λ more p.
        let all : List NodeTree = (ns ++ n ∷ []) ++ more in
        let m : NodeTree = node kind.Tuple p (node_trees all) in
        let children : all ≡ children_of m = sym (list_of_trees all) in
        record {
          answer = λ t node distinct. items_blame tree of Full o w source T parts m t all e is node refl children full (λ items nodes.
              next_blamed is.types source ns vs n more items E e (subst (AllOf HasDistinctNames) is.parts_are (parts_distinct T parts is distinct))
              (subst (λ (l : List TypeTree). AreReadEach tree of Full w l source ns vs) is.parts_are h) (subst (λ (l : List TypeTree). HasAt l (length ns) E) is.parts_are here) refused nodes);
          within = λ value. deeper_at source m all (length ns) n e value children (last_before ns more n) (at_last ns more n) (refused.within (tuple_item source m all (length ns) n value refl children (last_before ns more n) (at_last ns more n)));
          typed = tt;
        })

    -- an item that was refused
    pub item_refused : (T : TypeTree) (types : List (Bor S)) (ns : List NodeTree) (vs : List V) (n : NodeTree) (e : Diagnostic) → HasFullParts Full → kind_of T ≡ kinds.Tuple → denoted_all type_tree types ≡ tuple_parts T → is_some (slice_get types (length vs)) ≡ true → AreReadEach tree of Full w (denoted_all type_tree types) source ns vs → IsReadWhereExpected tree of Full w w (denoted type_tree (slice_get types (length vs))) source n (Err e) → IsRefusedWhateverFollows tree of Full in_text w T source kind.Tuple (ns ++ n ∷ []) (fault.Part e)
    item_refused T types ns vs n e full tuples parts some h now =
        let expected = type_expected types ns vs n e some h now in
        item_rejects T expected.part (denoted_all type_tree types) ns vs n e full (tuple_is T (denoted_all type_tree types) (sym tuples) parts) h expected.here expected.refused

  -- ---- the whole

  each_placed : (parts : List TypeTree) (source : List ℕ) (ns : List NodeTree) (ts : List SpannedTree) (vs : List V) → AllOf HasDistinctNames parts → length ns ≡ length parts → AreNodesOf source ns ts → AreReadEach tree of Full w parts source ns vs → ReadAt tree of Full o w (take (length ns) parts) (take (length ns) ts) vs
  each_placed [] source [] [] [] distinct many nodes h = tt
  each_placed [] source [] [] (v ∷ vs) distinct many nodes h = absurd h
  each_placed parts source [] (t ∷ ts) vs distinct many nodes h = absurd nodes
  each_placed parts source (n ∷ ns) [] vs distinct many nodes h = absurd nodes
  each_placed [] source (n ∷ ns) (t ∷ ts) vs distinct many nodes h = absurd (omega (arith, many))
  each_placed (T ∷ Ts) source [] ts vs distinct many nodes h = absurd (omega (arith, many))
  each_placed (T ∷ Ts) source (n ∷ ns) (t ∷ ts) [] distinct many nodes h = absurd h
  each_placed (T ∷ Ts) source (n ∷ ns) (t ∷ ts) (v ∷ vs) distinct many nodes h = (h.0.answer t nodes.0 distinct.0, each_placed Ts source ns ts vs distinct.1 (omega (arith, many)) nodes.1 h.1)

  -- another number of items than of types
  pub count_refused : (T : TypeTree) (parts : List TypeTree) (source : List ℕ) (p : Range ℕ) (ns : List NodeTree) (want count : ℕ) (e : Diagnostic) → kind_of T ≡ kinds.Tuple → parts ≡ tuple_parts T → want ≡ length parts → count ≡ length ns → count ≢ want → ((Ts : Types) → parts ≡ type_list Ts → AllOf HasDistinctNames (type_list Ts) → (items : List SpannedTree) → AreNodesOf source ns items → ItemsFine o w Ts items) → refusal_of e ≡ caused (wrong_number want count) → e.span ≡ p → IsReadAs tree of Full o w T source (node kind.Tuple p (node_trees ns)) (Err e)
  count_refused T parts source p ns want count e tuples parts_are wanted many apart fine says place =
      let m : NodeTree = node kind.Tuple p (node_trees ns) in
      let is : TupleType T parts = tuple_is T parts (sym tuples) parts_are in
      let cause : refusal_of e ≡ caused (wrong_number (length parts) (length ns)) = subst (λ (c : ℕ). refusal_of e ≡ caused (wrong_number c (length ns))) wanted (subst (λ (c : ℕ). refusal_of e ≡ caused (wrong_number want c)) many says) in
      record {
        answer = λ t node distinct. count_blame tree of Full o w T parts source m t ns e is node refl (sym (list_of_trees ns)) (fine is.types is.parts_are (subst (AllOf HasDistinctNames) is.parts_are (parts_distinct T parts is distinct))) (λ same. apart (many ∙ (same ∙ sym wanted))) (cause, place);
        within = λ value. at_in source m e (inl value) (caused_at _ m e (inr (cause, place)) place);
        typed = tt;
      }

  -- each item is of its type
  each_of : (Ts : List TypeTree) (source : List ℕ) (ns : List NodeTree) (vs : List V) → AllOf HasDistinctNames Ts → length ns ≡ length Ts → AreReadEach tree of Full w Ts source ns vs → AreOf of Ts vs
  each_of [] source [] [] distinct counts h = tt
  each_of (T ∷ Ts) source [] [] distinct counts h = absurd (omega (arith, counts))
  each_of [] source (n ∷ ns) [] distinct counts h = absurd (omega (arith, counts))
  each_of [] source (n ∷ ns) (v ∷ vs) distinct counts h = absurd h
  each_of [] source [] (v ∷ vs) distinct counts h = absurd h
  each_of (T ∷ Ts) source [] (v ∷ vs) distinct counts h = absurd h
  each_of (T ∷ Ts) source (n ∷ ns) [] distinct counts h = absurd h
  each_of (T ∷ Ts) source (n ∷ ns) (v ∷ vs) distinct counts h = (h.0.typed distinct.0, each_of Ts source ns vs distinct.1 (omega (arith, counts)) h.1)

  -- a tuple of the type has the items
  pub row_typed : (T : TypeTree) (parts : List TypeTree) (source : List ℕ) (ns : List NodeTree) (vs : List V) (want count : ℕ) → kind_of T ≡ kinds.Tuple → parts ≡ tuple_parts T → want ≡ length parts → count ≡ length ns → count ≡ want → AreReadEach tree of Full w parts source ns vs → HasDistinctNames T → TypedTuple of T vs
  row_typed T parts source ns vs want count tuples parts_are wanted many same all distinct =
      let is : TupleType T parts = tuple_is T parts (sym tuples) parts_are in
      subst (λ (U : TypeTree). TypedTuple of U vs) (sym is.is) (subst (λ (Ts : List TypeTree). AreOf of Ts vs) is.parts_are (each_of parts source ns vs (parts_distinct T parts is distinct) (sym many ∙ (same ∙ wanted)) all))

  -- the tuple was made, or its constructor refused
  pub tuple_read : (T : TypeTree) (parts : List TypeTree) (source : List ℕ) (p : Range ℕ) (ns : List NodeTree) (vs : List V) (want count : ℕ) (m : Result V WasmValueError) (r : Result V Diagnostic) → kind_of T ≡ kinds.Tuple → parts ≡ tuple_parts T → want ≡ length parts → count ≡ length ns → count ≡ want → AreReadEach tree of Full w parts source ns vs → IfOk m (MakesTuple tree of T vs) → IfErr m (FullTuple of Full T vs) → IsBuiltOrMemory (node kind.Tuple p (node_trees ns)) m r → IsReadAs tree of Full o w T source (node kind.Tuple p (node_trees ns)) r
  tuple_read T parts source p ns vs want count m r tuples parts_are wanted many same all ok full done =
      built_anew (MakesTuple tree of T vs) (FullTuple of Full T vs) (node kind.Tuple p (node_trees ns)) m r (λ a f Ts is all. tt) ok full done (λ m ok full done.
      let n : NodeTree = node kind.Tuple p (node_trees ns) in
      let is : TupleType T parts = tuple_is T parts (sym tuples) parts_are in
      let children : ns ≡ children_of n = sym (list_of_trees ns) in
      let counts : length ns ≡ length parts = sym many ∙ (same ∙ wanted) in
      record {
        answer = λ t node distinct. tuple_built tree of Full o w source T parts n t ns vs (length ns) m r is distinct node refl children counts (omega arith) (each_placed parts source ns (tuple_nodes source n t node refl).items vs (parts_distinct T parts is distinct) counts (given_items source n t ns node refl children) all) ok full done;
        within = λ value. built_in source n m r (inl value) done;
        typed = built_of of T (MakesTuple tree of T vs) n m r (λ v makes distinct. (makes distinct).is_of) ok done;
      })
