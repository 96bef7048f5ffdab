-- Lists, whose items were read one after the other.
use Rattle.std.proofs.Common.{ℕ, zero, suc, ◌≡◌, ◌≢◌, inl, inr, ◌<◌, ◌+◌, true, false, List, [], ◌∷◌, ◌++◌, length, get_or, Option, Some, None, Bor, Result, Ok, Err, IfOk, IfErr, refl, sym, ap, ◌∙◌, subst, is_some, length-append, arith}
use Rattle.std.specs.Result.{IsErrAnd}
use Rattle.std.specs.declared.ops.Range.{Range}
use Rattle.wave_grammar.specs.FaultOrder.{Order}
use Rattle.wave_wasm.specs.Lists.{AllOf}
use Rattle.wave_wasm.specs.Types.{TypeTree, HasDistinctNames, list_part, kind_of}
use Rattle.wave_wasm.specs.Values.{Value}
use Rattle.wave_wasm.specs.Borrowed.{denoted}
use Rattle.wave_wasm.specs.ConstructorContracts.{IsOfListKind, MakesList, FullList, TypedList, HasFullParts}
use Rattle.wave_wasm.specs.declared.wasm.WasmValueError.{WasmValueError}
use Rattle.wave_lex.specs.Errors.{Diagnostic, refusal_of}
use Rattle.wave_lex.specs.declared.error.ParserErrorKind.TheVariants.{InvalidType}
use Rattle.wave_grammar.specs.SpannedTree.{SpannedTree}
use Rattle.wave_grammar.specs.NodeTree.{NodeTree, node, node_trees, type_of, children_of}
use Rattle.wave_grammar.specs.NodeAccessors.{RefusedAs}
use Rattle.wave_grammar.specs.TypedReading.{IsBlamed}
use Rattle.wave_grammar.specs.PartReading.{IsOfLength, IsOtherLength}
use Rattle.wave_grammar.specs.declared.form.NodeType.TheVariants as kind
use Rattle.wave_grammar.proofs.ByKind.Leaves.{said}
use Rattle.wave_grammar.proofs.ByKind.Lists.{ItemsBlamed, AreNodesOf, AllRead, has_element, list_fault, list_is, list_nodes, given_nodes, list_item, list_blame, length_blame, list_built, element_distinct, as_many}
use Rattle.wave_grammar.proofs.ChildNodes.Trees.{list_of_trees}
use Rattle.wave_grammar.proofs.ErrorSpans.Nodes.{at_in, form_at, caused_at, deeper_at, built_in}
use Rattle.wave_leaf.specs.Reading.{IsReadAs, IsReadWhereExpected}
use Rattle.wave_read.specs.ListParts.{unless_held, AllReadAs, IsFirstRefused, ReadOrHeld}
use Rattle.wave_grammar.proofs.OneFault.FaultyTrees.{value_fine}
use Rattle.wave_leaf.specs.Errors.{IsBuiltOrMemory}
use Rattle.wave_leaf.proofs.ReadErrors.HandedOn.{built_anew, built_of}

-- there is one node more
pub one_more : (ns : List NodeTree) (n : NodeTree) (count next : ℕ) → count ≡ length ns → next ≡ count + 1 → next ≡ length (ns ++ n ∷ [])
one_more ns n count next many is = omega (arith, many, is, length-append ns (n ∷ []))

-- what holds of a refusal holds where it is handed on
pub refusal_handed : {X : Type 0} (P : Result X Diagnostic → Type 0) (r : Result X Diagnostic) (e : Diagnostic) → IsErrAnd r (λ f. f ≡ e) → P (Err e) → P r
refusal_handed P (Ok x) e same h = absurd same
refusal_handed P (Err f) e same h = subst (λ (x : Diagnostic). P (Err x)) (sym same) h

module _ {V : Type 0} (tree : V → Value) (of : V → TypeTree → Type 0) (Full : TypeTree → Type 0) (o w : Order) where
  -- a node that is no list, at a type of lists
  pub other_than_list : (T : TypeTree) (source : List ℕ) (n : NodeTree) (e : Diagnostic) → IsOfListKind (kind_of T) → type_of n ≢ kind.List → RefusedAs InvalidType n e → IsReadAs tree of Full o w T source n (Err e)
  other_than_list T source n e lists apart refused =
      let element = has_element T lists in
      record {
        answer = λ t is distinct. inr (inl (list_fault o w T element.0 source n t (refusal_of e) e.span element.1 is.0 apart (said refused)));
        within = λ value. at_in source n e (inl value) (form_at n e refused);
        typed = tt;
      }

  -- ---- item by item

  all_next : (E : TypeTree) (source : List ℕ) (ns : List NodeTree) (vs : List V) (n : NodeTree) (v : V) → AllReadAs tree of Full w E source ns vs → IsReadAs tree of Full w w E source n (Ok v) → AllReadAs tree of Full w E source (ns ++ n ∷ []) (vs ++ v ∷ [])
  all_next E source [] [] n v h now = (now, tt)
  all_next E source [] (x ∷ vs) n v h now = absurd h
  all_next E source (m ∷ ns) [] n v h now = absurd h
  all_next E source (m ∷ ns) (x ∷ vs) n v h now = (h.0, all_next E source ns vs n v h.1 now)

  refused_still : (E : TypeTree) (source : List ℕ) (e : Diagnostic) (ns : List NodeTree) (n : NodeTree) → IsFirstRefused tree of Full w E source e ns → IsFirstRefused tree of Full w E source e (ns ++ n ∷ [])
  refused_still E source e [] n h = absurd h
  refused_still E source e (m ∷ ns) n (inl h) = inl h
  refused_still E source e (m ∷ ns) n (inr h) = inr (h.0, h.1, refused_still E source e ns n h.2)

  refused_next : (E : TypeTree) (source : List ℕ) (e : Diagnostic) (ns : List NodeTree) (vs : List V) (n : NodeTree) → AllReadAs tree of Full w E source ns vs → IsReadAs tree of Full w w E source n (Err e) → IsFirstRefused tree of Full w E source e (ns ++ n ∷ [])
  refused_next E source e [] [] n h now = inl now
  refused_next E source e [] (v ∷ vs) n h now = absurd h
  refused_next E source e (m ∷ ns) [] n h now = absurd h
  refused_next E source e (m ∷ ns) (v ∷ vs) n h now = inr (v, h.0, refused_next E source e ns vs n h.1 now)

  -- after a refused item
  pub held_still : (E : TypeTree) (source : List ℕ) (ns : List NodeTree) (vs : List V) (held : Option Diagnostic) (n : NodeTree) → is_some held ≡ true → ReadOrHeld tree of Full w E source ns vs held → ReadOrHeld tree of Full w E source (ns ++ n ∷ []) vs held
  held_still E source ns vs None n some h = absurd (cc)
  held_still E source ns vs (Some e) n some h = refused_still E source e ns n h

  -- an item that was read
  pub item_kept : {S : Type 0} (type_tree : S → TypeTree) (element : Bor S) (source : List ℕ) (ns : List NodeTree) (vs ws : List V) (held : Option Diagnostic) (n : NodeTree) (v : V) → is_some held ≡ false → ReadOrHeld tree of Full w (type_tree element.now) source ns vs held → IsReadWhereExpected tree of Full w w (denoted type_tree (unless_held held element)) source n (Ok v) → ws ≡ vs ++ v ∷ [] → ReadOrHeld tree of Full w (type_tree element.now) source (ns ++ n ∷ []) ws held
  item_kept type_tree element source ns vs ws None n v none h now is = rw is (all_next (type_tree element.now) source ns vs n v h now)
  item_kept type_tree element source ns vs ws (Some e) n v none h now is = absurd (cc)

  -- so where none was refused before it
  pub item_read_at_once : {S : Type 0} (type_tree : S → TypeTree) (element : Bor S) (source : List ℕ) (ns : List NodeTree) (vs ws : List V) (held : Option Diagnostic) (n : NodeTree) (v : V) → is_some held ≡ false → ReadOrHeld tree of Full w (type_tree element.now) source ns vs held → IsReadAs tree of Full w w (type_tree element.now) source n (Ok v) → ws ≡ vs ++ v ∷ [] → ReadOrHeld tree of Full w (type_tree element.now) source (ns ++ n ∷ []) ws held
  item_read_at_once type_tree element source ns vs ws None n v none h now is = item_kept type_tree element source ns vs ws None n v none h now is
  item_read_at_once type_tree element source ns vs ws (Some e) n v none h now is = absurd (cc)

  -- the first that was refused
  pub refusal_held : {S : Type 0} (type_tree : S → TypeTree) (element : Bor S) (source : List ℕ) (ns : List NodeTree) (vs : List V) (held : Option Diagnostic) (n : NodeTree) (e : Diagnostic) → is_some held ≡ false → ReadOrHeld tree of Full w (type_tree element.now) source ns vs held → IsReadWhereExpected tree of Full w w (denoted type_tree (unless_held held element)) source n (Err e) → ReadOrHeld tree of Full w (type_tree element.now) source (ns ++ n ∷ []) vs (Some e)
  refusal_held type_tree element source ns vs None n e none before now = refused_next (type_tree element.now) source e ns vs n before now
  refusal_held type_tree element source ns vs (Some f) n e none before now = absurd (cc)

  -- ---- the whole

  all_placed : (E : TypeTree) (source : List ℕ) (ns : List NodeTree) (ts : List SpannedTree) (vs : List V) → HasDistinctNames E → AreNodesOf source ns ts → AllReadAs tree of Full w E source ns vs → AllRead tree of Full o w E ts vs
  all_placed E source [] [] [] distinct nodes h = tt
  all_placed E source [] [] (v ∷ vs) distinct nodes h = absurd h
  all_placed E source [] (t ∷ ts) vs distinct nodes h = absurd nodes
  all_placed E source (n ∷ ns) [] vs distinct nodes h = absurd nodes
  all_placed E source (n ∷ ns) (t ∷ ts) [] distinct nodes h = absurd h
  all_placed E source (n ∷ ns) (t ∷ ts) (v ∷ vs) distinct nodes h = (h.0.answer t nodes.0 distinct, all_placed E source ns ts vs distinct nodes.1 h.1)

  -- another number of items than of elements
  pub length_refused : (T : TypeTree) (source : List ℕ) (p : Range ℕ) (ns : List NodeTree) (count : ℕ) (e : Diagnostic) → count ≡ length ns → IsOtherLength T count (node kind.List p (node_trees ns)) e → IsReadAs tree of Full o w T source (node kind.List p (node_trees ns)) (Err e)
  length_refused T source p ns count e many other = record {
    answer = λ t is distinct. length_blame tree of Full o w T source (node kind.List p (node_trees ns)) t ns e is refl (sym (list_of_trees ns)) (subst (λ (c : ℕ). IsOtherLength T c (node kind.List p (node_trees ns)) e) many other);
    within = λ value. at_in source (node kind.List p (node_trees ns)) e (inl value) (caused_at _ (node kind.List p (node_trees ns)) e (inr other.3) other.3.1);
    typed = tt;
  }

  -- the first refusal among the items of their trees
  first_blamed : (E : TypeTree) (source : List ℕ) (e : Diagnostic) (ns : List NodeTree) (ts : List SpannedTree) → HasDistinctNames E → AreNodesOf source ns ts → IsFirstRefused tree of Full w E source e ns → ItemsBlamed tree of Full o w E ts e
  first_blamed E source e [] ts distinct nodes h = absurd h
  first_blamed E source e (n ∷ ns) [] distinct nodes h = absurd nodes
  first_blamed E source e (n ∷ ns) (t ∷ ts) distinct nodes (inl h) = here (h.answer t nodes.0 distinct)
    where
      here : IsBlamed Full w w E t e → ItemsBlamed tree of Full o w E (t ∷ ts) e
      here (inl memory) = inl memory
      here (inr (inl fault)) = inr (inl (inl fault))
      here (inr (inr apart)) = inr (inr apart)
  first_blamed E source e (n ∷ ns) (t ∷ ts) distinct nodes (inr h) = later (first_blamed E source e ns ts distinct nodes.1 h.2)
    where
      later : ItemsBlamed tree of Full o w E ts e → ItemsBlamed tree of Full o w E (t ∷ ts) e
      later (inl memory) = inl memory
      later (inr (inl fault)) = inr (inl (inr (value_fine w w E t (tree h.0) distinct (h.1.answer t nodes.0 distinct).reads, fault)))
      later (inr (inr apart)) = inr (inr apart)

  -- where the first refused item stands
  refused_place : (E : TypeTree) (source : List ℕ) (e : Diagnostic) (ns : List NodeTree) → IsFirstRefused tree of Full w E source e ns → (i : ℕ) × (n : NodeTree) × (i < length ns) × (n ≡ get_or ns i n) × IsReadAs tree of Full w w E source n (Err e)
  refused_place E source e [] h = absurd h
  refused_place E source e (n ∷ ns) (inl h) = (zero, n, omega arith, refl, h)
  refused_place E source e (n ∷ ns) (inr h) = let (i, m, lt, is, read) = refused_place E source e ns h.2 in (suc i, m, omega (arith, lt), is, read)

  -- an item that was refused
  pub item_refused : (T E : TypeTree) (source : List ℕ) (p : Range ℕ) (ns : List NodeTree) (count : ℕ) (e : Diagnostic) → HasFullParts Full → list_part T ≡ Some E → count ≡ length ns → IsOfLength T count → IsFirstRefused tree of Full w E source e ns → IsReadAs tree of Full o w T source (node kind.List p (node_trees ns)) (Err e)
  item_refused T E source p ns count e full part many long first =
      let children : ns ≡ children_of (node kind.List p (node_trees ns)) = sym (list_of_trees ns) in
      let (i, n, lt, is_at, read) = refused_place E source e ns first in
      record {
        answer = λ t is distinct. list_blame tree of Full o w source T E (node kind.List p (node_trees ns)) t ns e (list_is T E (length ns) part (subst (IsOfLength T) many long)) is refl children full (λ items nodes. first_blamed E source e ns items (element_distinct T E part distinct) nodes first);
        within = λ value. deeper_at source (node kind.List p (node_trees ns)) ns i n e value children lt is_at (read.within (list_item source (node kind.List p (node_trees ns)) ns i n value refl children lt is_at));
        typed = tt;
      }

  -- each item is of the element type
  all_of : (E : TypeTree) (source : List ℕ) (ns : List NodeTree) (vs : List V) → HasDistinctNames E → AllReadAs tree of Full w E source ns vs → AllOf (λ v. of v E) vs
  all_of E source [] [] distinct h = tt
  all_of E source [] (v ∷ vs) distinct h = absurd h
  all_of E source (n ∷ ns) [] distinct h = absurd h
  all_of E source (n ∷ ns) (v ∷ vs) distinct h = (h.0.typed distinct, all_of E source ns vs distinct h.1)

  -- there are as many as nodes
  as_nodes : (E : TypeTree) (source : List ℕ) (ns : List NodeTree) (vs : List V) → AllReadAs tree of Full w E source ns vs → length ns ≡ length vs
  as_nodes E source [] [] h = refl
  as_nodes E source [] (v ∷ vs) h = absurd h
  as_nodes E source (n ∷ ns) [] h = absurd h
  as_nodes E source (n ∷ ns) (v ∷ vs) h = ap suc (as_nodes E source ns vs h.1)

  -- a list of the type has the items
  pub items_typed : (T E : TypeTree) (source : List ℕ) (ns : List NodeTree) (vs : List V) (count : ℕ) → list_part T ≡ Some E → count ≡ length ns → IsOfLength T count → AllReadAs tree of Full w E source ns vs → HasDistinctNames T → TypedList of T vs
  items_typed T E source ns vs count part many long all distinct =
      let typed = all_of E source ns vs (element_distinct T E part distinct) all in
      elim (list_is T E (length vs) part (subst (IsOfLength T) (many ∙ as_nodes E source ns vs all) long)) [
        | inl is ↦ subst (λ (U : TypeTree). TypedList of U vs) (sym is) typed
        | inr is ↦ subst (λ (U : TypeTree). TypedList of U vs) (sym is) (refl, typed)
      ]

  -- the list was made, or its constructor refused
  pub list_read : (T E : TypeTree) (source : List ℕ) (p : Range ℕ) (ns : List NodeTree) (vs : List V) (count : ℕ) (m : Result V WasmValueError) (r : Result V Diagnostic) → list_part T ≡ Some E → count ≡ length ns → IsOfLength T count → AllReadAs tree of Full w E source ns vs → IfOk m (MakesList tree of T vs) → IfErr m (FullList of Full T vs) → IsBuiltOrMemory (node kind.List p (node_trees ns)) m r → IsReadAs tree of Full o w T source (node kind.List p (node_trees ns)) r
  list_read T E source p ns vs count m r part many long all ok full done =
      built_anew (MakesList tree of T vs) (FullList of Full T vs) (node kind.List p (node_trees ns)) m r (λ a f E is all. tt) ok full done (λ m ok full done.
      record {
        answer = λ t is distinct.
            let children : ns ≡ children_of (node kind.List p (node_trees ns)) = sym (list_of_trees ns) in
            let inner = list_nodes source (node kind.List p (node_trees ns)) t is refl in
            let nodes : AreNodesOf source ns inner.items = given_nodes source (node kind.List p (node_trees ns)) t ns is refl children in
            list_built tree of Full o w T E t inner.items vs (node kind.List p (node_trees ns)) m r (list_is T E (length inner.items) part (subst (IsOfLength T) (many ∙ as_many source ns inner.items nodes) long)) distinct inner.shape (all_placed E source ns inner.items vs (element_distinct T E part distinct) nodes all) ok full done;
        within = λ value. built_in source (node kind.List p (node_trees ns)) m r (inl value) done;
        typed = built_of of T (MakesList tree of T vs) (node kind.List p (node_trees ns)) m r (λ v makes distinct. (makes distinct).is_of) ok done;
      })
