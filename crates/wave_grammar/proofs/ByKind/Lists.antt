-- The items of lists and tuples, one by one.
use Rattle.std.proofs.Common.{ℕ, zero, suc, ◌≡◌, ◌≢◌, ◌⊎◌, inl, inr, ◌<◌, List, [], ◌∷◌, length, get_or, map, Option, Some, None, Result, Ok, Err, IfOk, IfErr, MatchResult, refl, sym, ap, ◌∙◌, subst, arith}
use Rattle.std.proofs.lemmas.List.{length-map}
use Rattle.std.specs.declared.ops.Range.{Range}
use Rattle.wave_wasm.specs.Lists.{AllOf, SomeOf}
use Rattle.wave_wasm.specs.Types as type
use Rattle.wave_wasm.specs.Types.{TypeTree, HasDistinctNames, list_part, kind_of}
use Rattle.wave_wasm.specs.Values.{Value}
use Rattle.wave_wasm.specs.ConstructorContracts.{IsOfListKind, IsListOf, IsMemory, MakesList, FullList, HasFullParts, list_value}
use Rattle.wave_wasm.specs.ValueErrors.{wrong_length}
use Rattle.wave_wasm.specs.declared.wasm.WasmValueError.{WasmValueError}
use Rattle.wave_lex.specs.Errors.{Diagnostic, Refusal, refusal_of, caused}
use Rattle.wave_lex.specs.declared.error.ParserErrorKind.TheVariants as error
use Rattle.wave_lex.specs.declared.error.ParserErrorKind.TheVariants.{InvalidType}
use Rattle.wave_grammar.specs.Tree as form
use Rattle.wave_grammar.specs.Tree.{Tree}
use Rattle.wave_grammar.specs.Elaborates.{TreeReads, Each}
use Rattle.wave_grammar.specs.SpannedTree.{SpannedTree, SpannedShape, at, list, placed_trees, placed_list, slice, span_of, shape_of, tree_of, trees_of, SpellsEach, SpellsAll}
use Rattle.wave_grammar.specs.TypeErrors.{Blame, IsRefusalOf, RefusesFor, OfForm, list_in}
use Rattle.wave_grammar.specs.FaultOrder.{Order, FirstOf, FirstFault}
use Rattle.wave_grammar.specs.NodeTree.{NodeTree, type_of, place_of, children_of}
use Rattle.wave_grammar.specs.Nodes.{placed_of, IsNodeOf}
use Rattle.wave_grammar.specs.TypedReading.{IsTypedValue, IsBlamed, IsBuilt, IsValueOf}
use Rattle.wave_grammar.specs.PartReading.{IsOfLength, IsOtherLength}
use Rattle.wave_grammar.proofs.ChildNodes.Inside.{From, inside, some_is, AreParsed, all_parsed}
use Rattle.wave_grammar.proofs.ChildNodes.Cases.{shape_at}
use Rattle.wave_grammar.proofs.ByKind.Leaves.{tree_is, at_tree}
use Rattle.wave_grammar.proofs.ByKind.MakerAnswers.{built}
use Rattle.wave_grammar.specs.declared.form.NodeType.{NodeType}
use Rattle.wave_grammar.specs.declared.form.NodeType.TheVariants as kind

-- the nodes are those of the trees
abbrev pub AreNodesOf : List ℕ → List NodeTree → List SpannedTree → Type 0
AreNodesOf source [] [] = Unit {0}
AreNodesOf source (n ∷ ns) (t ∷ ts) = IsNodeOf source n t × AreNodesOf source ns ts
AreNodesOf source _ _ = ⊥

-- the list has this at this place
abbrev pub HasAt : {A : Type 0} → List A → ℕ → A → Type 0
HasAt [] i a = ⊥
HasAt (x ∷ xs) zero a = x ≡ a
HasAt (x ∷ xs) (suc i) a = HasAt xs i a

-- what holds of what stands at a place holds of one of them
pub some_at : {A : Type 0} (P : A → Type 0) (xs : List A) (i : ℕ) (a : A) → HasAt xs i a → P a → SomeOf P xs
some_at P [] i a h p = absurd h
some_at P (x ∷ xs) zero a h p = inl (subst P (sym h) p)
some_at P (x ∷ xs) (suc i) a h p = inr (some_at P xs i a h p)

-- the tree of the node at a place
pub node_at : (source : List ℕ) (ns : List NodeTree) (ts : List SpannedTree) (i : ℕ) (n : NodeTree) → AreNodesOf source ns ts → i < length ns → n ≡ get_or ns i n → (t : SpannedTree) × HasAt ts i t × IsNodeOf source n t
node_at source [] ts i n h lt is = absurd (omega (arith, lt))
node_at source (m ∷ ns) [] i n h lt is = absurd h
node_at source (m ∷ ns) (t ∷ ts) zero n h lt is = (t, refl, subst (λ (k : NodeTree). IsNodeOf source k t) (sym is) h.0)
node_at source (m ∷ ns) (t ∷ ts) (suc i) n h lt is = node_at source ns ts i n h.1 (omega (arith, lt)) is

-- the nodes of trees that are spelled
pub spelled_nodes : (source : List ℕ) (ns : List NodeTree) (ts : List SpannedTree) (from to : ℕ) → AreParsed source ns ts → SpellsAll source from to (placed_trees ts) → AreNodesOf source ns ts
spelled_nodes source [] [] from to h s = tt
spelled_nodes source [] (t ∷ ts) from to h s = absurd h
spelled_nodes source (n ∷ ns) [] from to h s = absurd h
spelled_nodes source (n ∷ ns) (t ∷ ts) from to h s = ((h.0, s.1), spelled_nodes source ns ts (span_of t).end to h.1 s.2)

-- as many nodes as trees
pub as_many : (source : List ℕ) (ns : List NodeTree) (ts : List SpannedTree) → AreNodesOf source ns ts → length ns ≡ length ts
as_many source [] [] h = refl
as_many source [] (t ∷ ts) h = absurd h
as_many source (n ∷ ns) [] h = absurd h
as_many source (n ∷ ns) (t ∷ ts) h = ap suc (as_many source ns ts h.1)

-- a list made trees and back
pub trees_back : (ts : List SpannedTree) → placed_list (placed_trees ts) ≡ ts
trees_back [] = refl
trees_back (t ∷ ts) = ap (λ (more : List SpannedTree). t ∷ more) (trees_back ts)

-- the trees of placed trees
pub trees_are : (ts : List SpannedTree) → trees_of (placed_trees ts) ≡ form.trees (map tree_of ts)
trees_are [] = refl
trees_are (t ∷ ts) = ap (λ (more : form.Trees). form.tree_and (tree_of t) more) (trees_are ts)

-- ---- lists

-- the items of a list node
pub record ListNodes (source : List ℕ) (n : NodeTree) (t : SpannedTree) : Type 0 where
  pub items : List SpannedTree
  pub shape : shape_of t ≡ list (placed_trees items)
  pub nodes : AreNodesOf source (children_of n) items

pub list_nodes : (source : List ℕ) (n : NodeTree) (t : SpannedTree) → IsNodeOf source n t → type_of n ≡ kind.List → ListNodes source n t
list_nodes source n (at r s) h e =
    let i = inside source n (at r s) h.0 in
    let shape : s ≡ list (placed_trees i.children) = sym (some_is _ _ (shape_at kind.List source n (at r s) i e)) in
    let spelled : SpellsEach source (at r (list (placed_trees i.children))) = subst (λ (x : SpannedShape). SpellsEach source (at r x)) shape h.1 in
    let both : AreParsed source (children_of n) i.children = all_parsed source n (at r s) i in
    record { items = i.children; shape = shape; nodes = spelled_nodes source (children_of n) i.children r.start r.end both spelled.1 }

-- a type of either kind of list has an element type
pub has_element : (T : TypeTree) → IsOfListKind (kind_of T) → (E : TypeTree) × (list_part T ≡ Some E)
has_element (type.list E) h = (E, refl)
has_element (type.fixed E n) h = (E, refl)
has_element (type.simple type.bool) h = absurd h
has_element (type.simple (type.whole type.s8)) h = absurd h
has_element (type.simple (type.whole type.s16)) h = absurd h
has_element (type.simple (type.whole type.s32)) h = absurd h
has_element (type.simple (type.whole type.s64)) h = absurd h
has_element (type.simple (type.whole type.u8)) h = absurd h
has_element (type.simple (type.whole type.u16)) h = absurd h
has_element (type.simple (type.whole type.u32)) h = absurd h
has_element (type.simple (type.whole type.u64)) h = absurd h
has_element (type.simple type.char) h = absurd h
has_element (type.simple type.string) h = absurd h
has_element (type.unreadable type.f32) h = absurd h
has_element (type.unreadable type.f64) h = absurd h
has_element (type.unreadable type.unsupported) h = absurd h
has_element _ h = absurd h

-- what a type with this element type is, where this number of items may be of it
pub list_is : (T E : TypeTree) (count : ℕ) → list_part T ≡ Some E → IsOfLength T count → IsListOf E count T
list_is (type.list F) E count e long = inl (ap type.list (some_is F E e))
list_is (type.fixed F n) E count e long = let f : F ≡ E = some_is F E e in let g : n ≡ count = sym (long n refl) in inr (cc)
list_is _ E count e long = absurd (cc)

-- the names of the items' type are those of the list
pub element_distinct : (T E : TypeTree) → list_part T ≡ Some E → HasDistinctNames T → HasDistinctNames E
element_distinct (type.list F) E e h = subst HasDistinctNames (some_is F E e) h
element_distinct (type.fixed F n) E e h = subst HasDistinctNames (some_is F E e) h
element_distinct _ E e h = absurd (cc)

-- the first fault of an item
abbrev ItemFault : Order → TypeTree → List SpannedTree → Blame
ItemFault w E items = FirstOf (λ item. FirstFault w w E item) items

-- what is wrong with the items of a fixed-length list
abbrev FixedFault : Order → TypeTree → ℕ → Range ℕ → List SpannedTree → Blame
FixedFault w E n p items k q = (length items ≢ n) × RefusesFor (wrong_length n (length items)) p k q ⊎ (length items ≡ n) × ItemFault w E items k q

not_list : (ty : NodeType) (p : Range ℕ) (text : List ℕ) (cs : List SpannedTree) (s : SpannedShape) → From ty p text cs s → ty ≢ kind.List → list_in s ≡ None
not_list ty p text cs (list ts) f apart = absurd (apart f.0)
not_list ty p text cs _ f apart = refl

-- a node that is no list
pub list_fault : (o w : Order) (T E : TypeTree) (source : List ℕ) (n : NodeTree) (t : SpannedTree) (k : Refusal) (q : Range ℕ) → list_part T ≡ Some E → placed_of source n ≡ Some t → type_of n ≢ kind.List → IsRefusalOf InvalidType (place_of n) k q → FirstFault o w T t k q
list_fault o w (type.list F) E source n t k q part e apart refused =
    let i = inside source n t e in
    subst (λ (f : Option (List SpannedTree)). OfForm f (span_of t) (ItemFault w F) k q) (sym (not_list (type_of n) (place_of n) (slice source (place_of n)) i.children (shape_of t) i.from apart)) (at_tree InvalidType (place_of n) (span_of t) k q i.place refused)
list_fault o w (type.fixed F m) E source n t k q part e apart refused =
    let i = inside source n t e in
    subst (λ (f : Option (List SpannedTree)). OfForm f (span_of t) (FixedFault w F m (span_of t)) k q) (sym (not_list (type_of n) (place_of n) (slice source (place_of n)) i.children (shape_of t) i.from apart)) (at_tree InvalidType (place_of n) (span_of t) k q i.place refused)
list_fault o w _ E source n t k q part e apart refused = absurd (cc)

-- the first fault of an item is that of the list
item_fault : (o w : Order) (T E : TypeTree) (t : SpannedTree) (items : List SpannedTree) (k : Refusal) (q : Range ℕ) → IsListOf E (length items) T → shape_of t ≡ list (placed_trees items) → ItemFault w E items k q → FirstFault o w T t k q
item_fault o w T E t items k q (inl is) shape fault =
    subst (λ (U : TypeTree). FirstFault o w U t k q) (sym is)
    (subst (λ (s : SpannedShape). OfForm (list_in s) (span_of t) (ItemFault w E) k q) (sym shape) (subst (λ (us : List SpannedTree). ItemFault w E us k q) (sym (trees_back items)) fault))
item_fault o w T E t items k q (inr is) shape fault =
    subst (λ (U : TypeTree). FirstFault o w U t k q) (sym is)
    (subst (λ (s : SpannedShape). OfForm (list_in s) (span_of t) (FixedFault w E (length items) (span_of t)) k q) (sym shape)
    (subst (λ (us : List SpannedTree). FixedFault w E (length items) (span_of t) us k q) (sym (trees_back items)) (inr (refl, fault))))

-- another number of items than of elements
length_fault : (o w : Order) (T : TypeTree) (source : List ℕ) (m : NodeTree) (t : SpannedTree) (ns : List NodeTree) (e : Diagnostic) → IsNodeOf source m t → type_of m ≡ kind.List → ns ≡ children_of m → IsOtherLength T (length ns) m e → FirstFault o w T t (refusal_of e) e.span
length_fault o w (type.fixed E n) source m t ns e node ty children (want, is, apart, refused) =
    let inner = list_nodes source m t node ty in
    let same : n ≡ want = some_is n want is in
    let many : length ns ≡ length inner.items = as_many source ns inner.items (subst (λ (l : List NodeTree). AreNodesOf source l inner.items) (sym children) inner.nodes) in
    let cause : refusal_of e ≡ caused (wrong_length n (length inner.items)) = refused.0 ∙ ap (λ (c : ℕ). caused (wrong_length c (length ns))) (sym same) ∙ ap (λ (c : ℕ). caused (wrong_length n c)) many in
    let at_t : e.span ≡ span_of t = refused.1 ∙ sym (inside source m t node.0).place in
    subst (λ (s : SpannedShape). OfForm (list_in s) (span_of t) (FixedFault w E n (span_of t)) (refusal_of e) e.span) (sym inner.shape)
    (subst (λ (us : List SpannedTree). FixedFault w E n (span_of t) us (refusal_of e) e.span) (sym (trees_back inner.items)) (inl ((λ f. apart (many ∙ (f ∙ same))), (cause, at_t))))
length_fault o w _ source m t ns e node ty children (want, is, apart, refused) = absurd (cc)

module _ {V : Type 0} (tree : V → Value) (of : V → TypeTree → Type 0) (Full : TypeTree → Type 0) (o w : Order) where
  element_full : (T E : TypeTree) (count : ℕ) → IsListOf E count T → HasFullParts Full → Full T → Full E
  element_full T E count (inl is) parts full = (parts (type.list E) (subst Full is full)).0
  element_full T E count (inr is) parts full = (parts (type.fixed E count) (subst Full is full)).0

  -- out of memory; or the first fault of an item; or, where constructors do not serve all values of the items' type, the refusal of one
  abbrev pub ItemsBlamed : TypeTree → List SpannedTree → Diagnostic → Type 0
  ItemsBlamed E items e = (e.kind ≡ error.OutOfMemory) ⊎ ItemFault w E items (refusal_of e) e.span ⊎ (e.kind ≡ error.WasmValueError) × (Full E → ⊥)

  -- so it is one of the list
  items_blame : (T E : TypeTree) (t : SpannedTree) (items : List SpannedTree) (e : Diagnostic) → IsListOf E (length items) T → shape_of t ≡ list (placed_trees items) → HasFullParts Full → ItemsBlamed E items e → IsBlamed Full o w T t e
  items_blame T E t items e is shape parts (inl memory) = inl memory
  items_blame T E t items e is shape parts (inr (inl fault)) = inr (inl (item_fault o w T E t items (refusal_of e) e.span is shape fault))
  items_blame T E t items e is shape parts (inr (inr h)) = inr (inr (h.0, λ full. h.1 (element_full T E (length items) is parts full)))

  -- a refusal because of the number of items
  pub length_blame : (T : TypeTree) (source : List ℕ) (m : NodeTree) (t : SpannedTree) (ns : List NodeTree) (e : Diagnostic) → IsNodeOf source m t → type_of m ≡ kind.List → ns ≡ children_of m → IsOtherLength T (length ns) m e → IsBlamed Full o w T t e
  length_blame T source m t ns e node ty children other = inr (inl (length_fault o w T source m t ns e node ty children other))

  -- each tree was read at the type
  abbrev pub AllRead : TypeTree → List SpannedTree → List V → Type 0
  AllRead E [] [] = Unit {0}
  AllRead E (t ∷ ts) (v ∷ vs) = IsTypedValue tree of E t v × AllRead E ts vs
  AllRead E _ _ = ⊥

  each_read : (E : TypeTree) (ts : List SpannedTree) (vs : List V) → AllRead E ts vs → Each (TreeReads E) (map tree_of ts) (map tree vs)
  each_read E [] [] h = refl
  each_read E [] (v ∷ vs) h = absurd h
  each_read E (t ∷ ts) [] h = absurd h
  each_read E (t ∷ ts) (v ∷ vs) h = (tree v, map tree vs, h.0.reads, each_read E ts vs h.1, refl)

  each_of : (E : TypeTree) (ts : List SpannedTree) (vs : List V) → AllRead E ts vs → AllOf (λ v. of v E) vs
  each_of E [] [] h = tt
  each_of E [] (v ∷ vs) h = absurd h
  each_of E (t ∷ ts) [] h = absurd h
  each_of E (t ∷ ts) (v ∷ vs) h = (h.0.is_of, each_of E ts vs h.1)

  read_length : (E : TypeTree) (ts : List SpannedTree) (vs : List V) → AllRead E ts vs → length ts ≡ length vs
  read_length E [] [] h = refl
  read_length E [] (v ∷ vs) h = absurd h
  read_length E (t ∷ ts) [] h = absurd h
  read_length E (t ∷ ts) (v ∷ vs) h = ap suc (read_length E ts vs h.1)

  list_given : (T E : TypeTree) (t : SpannedTree) (ts : List SpannedTree) (vs : List V) → IsListOf E (length ts) T → shape_of t ≡ list (placed_trees ts) → AllRead E ts vs → TreeReads T (tree_of t) (list_value T (map tree vs))
  list_given T E t ts vs (inl is) shape all =
      let spelled : tree_of t ≡ form.list (form.trees (map tree_of ts)) = tree_is t (list (placed_trees ts)) shape ∙ ap form.list (trees_are ts) in
      subst (λ (U : TypeTree). TreeReads U (tree_of t) (list_value U (map tree vs))) (sym is) (map tree_of ts, map tree vs, spelled, each_read E ts vs all, refl)
  list_given T E t ts vs (inr is) shape all =
      let spelled : tree_of t ≡ form.list (form.trees (map tree_of ts)) = tree_is t (list (placed_trees ts)) shape ∙ ap form.list (trees_are ts) in
      subst (λ (U : TypeTree). TreeReads U (tree_of t) (list_value U (map tree vs))) (sym is) (map tree_of ts, map tree vs, spelled, length-map ts tree_of, each_read E ts vs all, refl)

  list_reads : (T E : TypeTree) (t : SpannedTree) (ts : List SpannedTree) (vs : List V) (m : Result V WasmValueError) → IsListOf E (length ts) T → HasDistinctNames T → shape_of t ≡ list (placed_trees ts) → AllRead E ts vs → IfOk m (MakesList tree of T vs) → IfOk m (IsTypedValue tree of T t)
  list_reads T E t ts vs (Ok v) is distinct shape all h =
      let makes = h distinct in
      record { reads = subst (λ (w : Value). TreeReads T (tree_of t) w) (sym makes.means) (list_given T E t ts vs is shape all); is_of = makes.is_of }
  list_reads T E t ts vs (Err cause) is distinct shape all h = tt

  list_full : (T E : TypeTree) (ts : List SpannedTree) (vs : List V) (m : Result V WasmValueError) → IsListOf E (length ts) T → AllRead E ts vs → IfErr m (FullList of Full T vs) → IfErr m (λ cause. Full T → IsMemory cause)
  list_full T E ts vs (Ok v) is all h = tt
  list_full T E ts vs (Err cause) is all h = λ full. h full E (subst (λ (count : ℕ). IsListOf E count T) (read_length E ts vs all) is) (each_of E ts vs all)

  -- the list was made, or its constructor refused
  pub list_built : (T E : TypeTree) (t : SpannedTree) (ts : List SpannedTree) (vs : List V) (n : NodeTree) (m : Result V WasmValueError) (r : Result V Diagnostic) → IsListOf E (length ts) T → HasDistinctNames T → shape_of t ≡ list (placed_trees ts) → AllRead E ts vs → IfOk m (MakesList tree of T vs) → IfErr m (FullList of Full T vs) → IsBuilt n m r → MatchResult r (IsTypedValue tree of T t) (IsBlamed Full o w T t)
  list_built T E t ts vs n m r is distinct shape all ok full done = built tree of Full o w T t n m r done (list_reads T E t ts vs m is distinct shape all ok) (list_full T E ts vs m is all full)

  -- the first refusal of an item is that of the list
  pub list_blame : (source : List ℕ) (T E : TypeTree) (m : NodeTree) (t : SpannedTree) (ns : List NodeTree) (e : Diagnostic) → IsListOf E (length ns) T → IsNodeOf source m t → type_of m ≡ kind.List → ns ≡ children_of m → HasFullParts Full → ((items : List SpannedTree) → AreNodesOf source ns items → ItemsBlamed E items e) → IsBlamed Full o w T t e
  list_blame source T E m t ns e is node ty children parts blamed =
      let inner = list_nodes source m t node ty in
      let nodes : AreNodesOf source ns inner.items = subst (λ (l : List NodeTree). AreNodesOf source l inner.items) (sym children) inner.nodes in
      items_blame T E t inner.items e (subst (λ (count : ℕ). IsListOf E count T) (as_many source ns inner.items nodes) is) inner.shape parts (blamed inner.items nodes)

-- an item of a list node is a value
pub list_item : (source : List ℕ) (m : NodeTree) (ns : List NodeTree) (i : ℕ) (n : NodeTree) → IsValueOf source m → type_of m ≡ kind.List → ns ≡ children_of m → i < length ns → n ≡ get_or ns i n → IsValueOf source n
list_item source m ns i n v ty children lt at_i =
    let inner = list_nodes source m v.0 v.1 ty in
    let here = node_at source ns inner.items i n (subst (λ (l : List NodeTree). AreNodesOf source l inner.items) (sym children) inner.nodes) lt at_i in
    (here.0, here.2)

-- the nodes of a list node, where they are answered
pub given_nodes : (source : List ℕ) (m : NodeTree) (t : SpannedTree) (ns : List NodeTree) (node : IsNodeOf source m t) (ty : type_of m ≡ kind.List) → ns ≡ children_of m → AreNodesOf source ns (list_nodes source m t node ty).items
given_nodes source m t ns node ty children = subst (λ (l : List NodeTree). AreNodesOf source l (list_nodes source m t node ty).items) (sym children) (list_nodes source m t node ty).nodes
