-- Tuples: items that are read each at its own type.
use Rattle.std.proofs.Common.{ℕ, zero, suc, ◌≡◌, ◌≢◌, ◌⊎◌, inl, inr, ◌<◌, ◌≤◌, List, [], ◌∷◌, length, get_or, take, map, Option, Some, None, Bor, Result, Ok, Err, IfOk, IfErr, MatchResult, refl, sym, ap, ◌∙◌, subst, arith}
use Rattle.std.specs.declared.ops.Range.{Range}
use Rattle.wave_wasm.specs.Lists.{AllOf}
use Rattle.wave_wasm.specs.Names.{AreDistinct}
use Rattle.wave_wasm.specs.Types as type
use Rattle.wave_wasm.specs.Types.{TypeTree, Types, HasDistinctNames, EachNamesOfTypes, tuple_parts, type_list, count_of, kind_of}
use Rattle.wave_wasm.specs.Values as value
use Rattle.wave_wasm.specs.Values.{Value, values}
use Rattle.wave_wasm.specs.Borrowed.{denoted_all}
use Rattle.wave_wasm.specs.ValueErrors.{wrong_number}
use Rattle.wave_wasm.specs.ConstructorContracts.{IsMemory, MakesTuple, FullTuple, AreOf, HasFullParts}
use Rattle.wave_wasm.specs.declared.wasm.WasmValueError.{WasmValueError}
use Rattle.wave_wasm.specs.declared.wasm.WasmTypeKind.TheVariants as kinds
use Rattle.wave_lex.specs.Errors.{Diagnostic, Refusal, refusal_of}
use Rattle.wave_lex.specs.declared.error.ParserErrorKind.TheVariants as error
use Rattle.wave_lex.specs.declared.error.ParserErrorKind.TheVariants.{InvalidType}
use Rattle.wave_grammar.specs.Token.{Token}
use Rattle.wave_grammar.specs.Token as token
use Rattle.wave_grammar.specs.Tree as form
use Rattle.wave_grammar.specs.Tree.{Tree, Takes, BehindWord, Word, word_of}
use Rattle.wave_grammar.specs.Elaborates.{TreeReads, TreeReadsAll}
use Rattle.wave_grammar.specs.SpannedTree.{SpannedTree, SpannedShape, at, tuple, PlacedTrees, no_more, and_then, placed_trees, placed_list, slice, span_of, shape_of, tree_of, trees_of, SpellsEach}
use Rattle.wave_grammar.specs.TypeErrors.{Blame, IsRefusalOf, RefusesFor, OfForm, tuple_in}
use Rattle.wave_grammar.specs.FaultOrder.{Order, in_text, by_type, BlamesNothing, OrElse, InOrder, WrongCount, FirstFault, FirstItem}
use Rattle.wave_grammar.specs.NodeTree.{NodeTree, type_of, place_of, children_of}
use Rattle.wave_grammar.specs.Nodes.{placed_of, IsNodeOf}
use Rattle.wave_grammar.specs.TypedReading.{IsTypedValue, IsBlamed, IsBuilt, IsValueOf}
use Rattle.wave_grammar.proofs.ChildNodes.Inside.{From, inside, some_is, AreParsed, all_parsed}
use Rattle.wave_grammar.proofs.ChildNodes.Cases.{shape_at}
use Rattle.wave_grammar.proofs.ByKind.Leaves.{tree_is, at_tree}
use Rattle.wave_grammar.proofs.ByKind.MakerAnswers.{built}
use Rattle.wave_grammar.proofs.ByKind.Lists.{AreNodesOf, HasAt, as_many, node_at, spelled_nodes, trees_back, trees_are}
use Rattle.wave_grammar.specs.declared.form.NodeType.{NodeType}
use Rattle.wave_grammar.specs.declared.form.NodeType.TheVariants as kind
use Rattle.wave_wasm.proofs.TypesOfValues.TypeOfKind.{formed_as}

-- ---- types

-- the type of the kind of tuples, and its parts
pub record TupleType (T : TypeTree) (parts : List TypeTree) : Type 0 where
  pub types : Types
  pub is : T ≡ type.tuple types
  pub parts_are : parts ≡ type_list types

-- so is a type of that kind with these parts
pub tuple_is : (T : TypeTree) (parts : List TypeTree) → kinds.Tuple ≡ kind_of T → parts ≡ tuple_parts T → TupleType T parts
tuple_is T parts e h = let (Ts, is) = formed_as kinds.Tuple T e in record { types = Ts; is = is; parts_are = h ∙ ap tuple_parts is }

-- what stands at a place of the list
pub place_has : {A : Type 0} (xs : List A) (i : ℕ) (x : A) → i < length xs → x ≡ get_or xs i x → HasAt xs i x
place_has [] i x lt is = absurd (omega (arith, lt))
place_has (y ∷ ys) zero x lt is = sym is
place_has (y ∷ ys) (suc i) x lt is = place_has ys i x (omega (arith, lt)) is

-- so does what f makes of it in the list of what f makes
pub map_has : {A B : Type 0} (f : A → B) (xs : List A) (i : ℕ) (x : A) → HasAt xs i x → HasAt (map f xs) i (f x)
map_has f [] i x h = absurd h
map_has f (y ∷ ys) zero x h = ap f h
map_has f (y ∷ ys) (suc i) x h = map_has f ys i x h

-- what holds of all holds of what stands at a place
pub all_has : {A : Type 0} (P : A → Type 0) (xs : List A) (i : ℕ) (x : A) → AllOf P xs → HasAt xs i x → P x
all_has P [] i x all h = absurd h
all_has P (y ∷ ys) zero x all h = subst P h all.0
all_has P (y ∷ ys) (suc i) x all h = all_has P ys i x all.1 h

-- there are as many types as references
pub as_denoted : {S : Type 0} (type_tree : S → TypeTree) (xs : List (Bor S)) → length (denoted_all type_tree xs) ≡ length xs
as_denoted type_tree [] = refl
as_denoted type_tree (x ∷ xs) = ap suc (as_denoted type_tree xs)

distinct_all : (Ts : Types) → EachNamesOfTypes AreDistinct Ts → AllOf HasDistinctNames (type_list Ts)
distinct_all type.no_types h = tt
distinct_all (type.type_and T more) h = (h.0, distinct_all more h.1)

-- the names of the items' types are those of the tuple
pub parts_distinct : (T : TypeTree) (parts : List TypeTree) → TupleType T parts → HasDistinctNames T → AllOf HasDistinctNames parts
parts_distinct T parts is h = subst (AllOf HasDistinctNames) (sym is.parts_are) (distinct_all is.types (subst HasDistinctNames is.is h))

pub counted : (Ts : Types) → length (type_list Ts) ≡ count_of Ts
counted type.no_types = refl
counted (type.type_and T more) = ap suc (counted more)

-- ---- nodes

-- the items of a tuple node
pub record TupleNodes (source : List ℕ) (n : NodeTree) (t : SpannedTree) : Type 0 where
  pub items : List SpannedTree
  pub shape : shape_of t ≡ tuple (placed_trees items)
  pub nodes : AreNodesOf source (children_of n) items
  pub some : 0 < length items

tuple_once : (a b : form.Trees) → form.tuple a ≡ form.tuple b → a ≡ b
tuple_once a b e = cc

-- no word stands for a tuple
pub no_word : (w : Word) (text : List ℕ) (n : ℕ) (behind : List Token) (ts : form.Trees) → BehindWord w text (Takes n) behind (form.tuple ts) [] → ⊥
no_word form.leaf_word text n behind ts h = absurd (cc h.1)
no_word form.none_word text n behind ts h = absurd (cc h.1)
no_word form.some_word text n behind ts h = absurd (cc h.2)
no_word form.ok_word text n behind ts h = absurd (cc h.2)
no_word form.err_word text n behind ts h = absurd (cc h.2)
no_word form.case_word text n behind ts h = absurd (cc h.2)

-- a tuple that is spelled is not empty
spelled_some : (tokens : List Token) (n : ℕ) (ts : form.Trees) → Takes n tokens (form.tuple ts) [] → (items : List Tree) × (0 < length items) × (ts ≡ form.trees items)
spelled_some tokens zero ts h = absurd h
spelled_some [] (suc n) ts h = absurd h
spelled_some (token.paren_open ∷ prefix) (suc n) ts h = (h.0, h.1, tuple_once ts (form.trees h.0) h.3)
spelled_some (token.bracket_open ∷ prefix) (suc n) ts h = absurd (cc h.2)
spelled_some (token.brace_open ∷ prefix) (suc n) ts (inl h) = absurd (cc h.1)
spelled_some (token.brace_open ∷ prefix) (suc n) ts (inr (inl h)) = absurd (cc h.1)
spelled_some (token.brace_open ∷ prefix) (suc n) ts (inr (inr (inl h))) = absurd (cc h.3)
spelled_some (token.brace_open ∷ prefix) (suc n) ts (inr (inr (inr h))) = absurd (cc h.4)
spelled_some (token.label text ∷ behind) (suc n) ts h = absurd (no_word (word_of text) text n behind ts h)
spelled_some (token.number text ∷ behind) (suc n) ts h = absurd (cc h.1)
spelled_some (token.char text ∷ behind) (suc n) ts h = absurd (cc h.1)
spelled_some (token.string text ∷ behind) (suc n) ts h = absurd (cc h.1)
spelled_some (token.multiline text ∷ behind) (suc n) ts h = absurd (cc h.1)
spelled_some (_ ∷ behind) (suc n) ts h = absurd h

some_items : (ps : List SpannedTree) (items : List Tree) → form.trees (map tree_of ps) ≡ form.trees items → 0 < length items → 0 < length ps
some_items [] [] e lt = lt
some_items [] (t ∷ ts) e lt = absurd (cc)
some_items (p ∷ ps) items e lt = omega arith

pub tuple_nodes : (source : List ℕ) (n : NodeTree) (t : SpannedTree) → IsNodeOf source n t → type_of n ≡ kind.Tuple → TupleNodes source n t
tuple_nodes source n (at r s) h e =
    let i = inside source n (at r s) h.0 in
    let shape : s ≡ tuple (placed_trees i.children) = sym (some_is _ _ (shape_at kind.Tuple source n (at r s) i e)) in
    let spelled : SpellsEach source (at r (tuple (placed_trees i.children))) = subst (λ (x : SpannedShape). SpellsEach source (at r x)) shape h.1 in
    let both : AreParsed source (children_of n) i.children = all_parsed source n (at r s) i in
    let whole = spelled_some spelled.0.0 spelled.0.2.0 (trees_of (placed_trees i.children)) spelled.0.2.1 in
    record { items = i.children; shape = shape; nodes = spelled_nodes source (children_of n) i.children r.start r.end both spelled.1; some = some_items i.children whole.0 (sym (trees_are i.children) ∙ whole.2) whole.1 }

-- the nodes of a tuple node, where they are answered
pub given_items : (source : List ℕ) (m : NodeTree) (t : SpannedTree) (ns : List NodeTree) (node : IsNodeOf source m t) (ty : type_of m ≡ kind.Tuple) → ns ≡ children_of m → AreNodesOf source ns (tuple_nodes source m t node ty).items
given_items source m t ns node ty children = subst (λ (l : List NodeTree). AreNodesOf source l (tuple_nodes source m t node ty).items) (sym children) (tuple_nodes source m t node ty).nodes

-- an item of a tuple node is a value
pub tuple_item : (source : List ℕ) (m : NodeTree) (ns : List NodeTree) (i : ℕ) (n : NodeTree) → IsValueOf source m → type_of m ≡ kind.Tuple → ns ≡ children_of m → i < length ns → n ≡ get_or ns i n → IsValueOf source n
tuple_item source m ns i n v ty children lt at_i =
    let here = node_at source ns (tuple_nodes source m v.0 v.1 ty).items i n (given_items source m v.0 ns v.1 ty children) lt at_i in
    (here.0, here.2)

-- ---- faults

-- what a tuple's fault is
abbrev TupleFault : Order → Order → Types → Range ℕ → List SpannedTree → Blame
TupleFault o w Ts p items =
    InOrder o
    (OrElse (FirstItem w Ts items) (WrongCount (count_of Ts) (length items) p))
    (OrElse (WrongCount (count_of Ts) (length items) p) (FirstItem w Ts items))

not_tuple : (ty : NodeType) (p : Range ℕ) (text : List ℕ) (cs : List SpannedTree) (s : SpannedShape) → From ty p text cs s → ty ≢ kind.Tuple → tuple_in s ≡ None
not_tuple ty p text cs (tuple ts) f apart = absurd (apart f.0)
not_tuple ty p text cs _ f apart = refl

-- a node that is no tuple
pub tuple_fault : (o w : Order) (Ts : Types) (source : List ℕ) (n : NodeTree) (t : SpannedTree) (k : Refusal) (q : Range ℕ) → placed_of source n ≡ Some t → type_of n ≢ kind.Tuple → IsRefusalOf InvalidType (place_of n) k q → FirstFault o w (type.tuple Ts) t k q
tuple_fault o w Ts source n t k q e apart refused =
    let i = inside source n t e in
    subst (λ (f : Option (List SpannedTree)). OfForm f (span_of t) (TupleFault o w Ts (span_of t)) k q) (sym (not_tuple (type_of n) (place_of n) (slice source (place_of n)) i.children (shape_of t) i.from apart)) (at_tree InvalidType (place_of n) (span_of t) k q i.place refused)

within_fault : (o w : Order) (Ts : Types) (t : SpannedTree) (items : List SpannedTree) (k : Refusal) (q : Range ℕ) → shape_of t ≡ tuple (placed_trees items) → TupleFault o w Ts (span_of t) items k q → FirstFault o w (type.tuple Ts) t k q
within_fault o w Ts t items k q shape fault =
    subst (λ (s : SpannedShape). OfForm (tuple_in s) (span_of t) (TupleFault o w Ts (span_of t)) k q) (sym shape) (subst (λ (us : List SpannedTree). TupleFault o w Ts (span_of t) us k q) (sym (trees_back items)) fault)

-- as the tokens are read no item has a fault
abbrev pub ItemsFine : Order → Order → Types → List SpannedTree → Type 0
ItemsFine in_text w Ts items = BlamesNothing (FirstItem w Ts items)
ItemsFine by_type w Ts items = Unit {0}

counted_wrong : (o w : Order) (Ts : Types) (p : Range ℕ) (items : List SpannedTree) (k : Refusal) (q : Range ℕ) → ItemsFine o w Ts items → WrongCount (count_of Ts) (length items) p k q → TupleFault o w Ts p items k q
counted_wrong in_text w Ts p items k q fine wrong = inr (fine, wrong)
counted_wrong by_type w Ts p items k q fine wrong = inl wrong

-- another number of items than of types
count_fault : (o w : Order) (T : TypeTree) (parts : List TypeTree) (source : List ℕ) (m : NodeTree) (t : SpannedTree) (ns : List NodeTree) (e : Diagnostic) → (is : TupleType T parts) → IsNodeOf source m t → type_of m ≡ kind.Tuple → ns ≡ children_of m → ((items : List SpannedTree) → AreNodesOf source ns items → ItemsFine o w is.types items) → length ns ≢ length parts → RefusesFor (wrong_number (length parts) (length ns)) (place_of m) (refusal_of e) e.span → FirstFault o w (type.tuple is.types) t (refusal_of e) e.span
count_fault o w T parts source m t ns e is node ty children fine apart refused =
    let inner = tuple_nodes source m t node ty in
    let nodes = given_items source m t ns node ty children in
    let many : length ns ≡ length inner.items = as_many source ns inner.items nodes in
    let types : length parts ≡ count_of is.types = ap length is.parts_are ∙ counted is.types in
    let at_t : e.span ≡ span_of t = refused.1 ∙ sym (inside source m t node.0).place in
    within_fault o w is.types t inner.items (refusal_of e) e.span inner.shape
    (counted_wrong o w is.types (span_of t) inner.items (refusal_of e) e.span (fine inner.items nodes)
    ((λ same. apart (many ∙ (same ∙ sym types))), (subst (λ (c : ℕ). RefusesFor (wrong_number c (length inner.items)) (span_of t) (refusal_of e) e.span) types (subst (λ (c : ℕ). RefusesFor (wrong_number (length parts) c) (span_of t) (refusal_of e) e.span) many (refused.0, at_t)))))

module _ {V : Type 0} (tree : V → Value) (of : V → TypeTree → Type 0) (Full : TypeTree → Type 0) (o w : Order) where
  -- out of memory; or the first fault of an item; or, where constructors do not serve all values of the items' types, the refusal of one
  abbrev pub ItemsBlamed : Types → List SpannedTree → Diagnostic → Type 0
  ItemsBlamed Ts items e = (e.kind ≡ error.OutOfMemory) ⊎ FirstItem w Ts items (refusal_of e) e.span ⊎ (e.kind ≡ error.WasmValueError) × (AllOf Full (type_list Ts) → ⊥)

  -- as the tokens are read the first refusal of an item is that of the tuple
  pub items_blame : (source : List ℕ) (T : TypeTree) (parts : List TypeTree) (m : NodeTree) (t : SpannedTree) (ns : List NodeTree) (e : Diagnostic) (is : TupleType T parts) → IsNodeOf source m t → type_of m ≡ kind.Tuple → ns ≡ children_of m → HasFullParts Full → ((items : List SpannedTree) → AreNodesOf source ns items → ItemsBlamed is.types items e) → IsBlamed Full in_text w T t e
  items_blame source T parts m t ns e is node ty children full blamed =
      let inner = tuple_nodes source m t node ty in
      so inner.items inner.shape (blamed inner.items (given_items source m t ns node ty children))
    where
      so : (items : List SpannedTree) → shape_of t ≡ tuple (placed_trees items) → ItemsBlamed is.types items e → IsBlamed Full in_text w T t e
      so items shape (inl memory) = inl memory
      so items shape (inr (inl fault)) = inr (inl (subst (λ (U : TypeTree). FirstFault in_text w U t (refusal_of e) e.span) (sym is.is) (within_fault in_text w is.types t items (refusal_of e) e.span shape (inl fault))))
      so items shape (inr (inr h)) = inr (inr (h.0, λ whole. h.1 (full (type.tuple is.types) (subst Full is.is whole))))

  -- a refusal because of the number of items
  pub count_blame : (T : TypeTree) (parts : List TypeTree) (source : List ℕ) (m : NodeTree) (t : SpannedTree) (ns : List NodeTree) (e : Diagnostic) (is : TupleType T parts) → IsNodeOf source m t → type_of m ≡ kind.Tuple → ns ≡ children_of m → ((items : List SpannedTree) → AreNodesOf source ns items → ItemsFine o w is.types items) → length ns ≢ length parts → RefusesFor (wrong_number (length parts) (length ns)) (place_of m) (refusal_of e) e.span → IsBlamed Full o w T t e
  count_blame T parts source m t ns e is node ty children fine apart refused =
      inr (inl (subst (λ (U : TypeTree). FirstFault o w U t (refusal_of e) e.span) (sym is.is) (count_fault o w T parts source m t ns e is node ty children fine apart refused)))

  -- each tree was read at its own type
  abbrev pub ReadAt : List TypeTree → List SpannedTree → List V → Type 0
  ReadAt [] [] [] = Unit {0}
  ReadAt (T ∷ Ts) (t ∷ ts) (v ∷ vs) = IsTypedValue tree of T t v × ReadAt Ts ts vs
  ReadAt _ _ _ = ⊥

  whole_at : (parts : List TypeTree) (ts : List SpannedTree) (vs : List V) (i : ℕ) → length ts ≡ length parts → length ts ≤ i → ReadAt (take i parts) (take i ts) vs → ReadAt parts ts vs
  whole_at [] [] vs zero e le all = all
  whole_at [] [] vs (suc i) e le all = all
  whole_at [] (t ∷ ts) vs i e le all = absurd (cc)
  whole_at (T ∷ Ts) [] vs i e le all = absurd (cc)
  whole_at (T ∷ Ts) (t ∷ ts) vs zero e le all = absurd (omega (arith, le))
  whole_at (T ∷ Ts) (t ∷ ts) [] (suc i) e le all = absurd all
  whole_at (T ∷ Ts) (t ∷ ts) (v ∷ vs) (suc i) e le all = (all.0, whole_at Ts ts vs i (omega (arith, e)) (omega (arith, le)) all.1)

  each_at : (Ts : Types) (ts : List SpannedTree) (vs : List V) → ReadAt (type_list Ts) ts vs → TreeReadsAll Ts (map tree_of ts) (map tree vs)
  each_at type.no_types [] [] h = (refl, refl)
  each_at type.no_types [] (v ∷ vs) h = absurd h
  each_at type.no_types (t ∷ ts) vs h = absurd h
  each_at (type.type_and T more) [] vs h = absurd h
  each_at (type.type_and T more) (t ∷ ts) [] h = absurd h
  each_at (type.type_and T more) (t ∷ ts) (v ∷ vs) h = (tree_of t, map tree_of ts, tree v, map tree vs, refl, h.0.reads, each_at more ts vs h.1, refl)

  each_is : (Ts : List TypeTree) (ts : List SpannedTree) (vs : List V) → ReadAt Ts ts vs → AreOf of Ts vs
  each_is [] [] [] h = tt
  each_is [] [] (v ∷ vs) h = absurd h
  each_is [] (t ∷ ts) vs h = absurd h
  each_is (T ∷ Ts) [] vs h = absurd h
  each_is (T ∷ Ts) (t ∷ ts) [] h = absurd h
  each_is (T ∷ Ts) (t ∷ ts) (v ∷ vs) h = (h.0.is_of, each_is Ts ts vs h.1)

  tuple_reads : (T : TypeTree) (Ts : Types) (t : SpannedTree) (ts : List SpannedTree) (vs : List V) (m : Result V WasmValueError) → T ≡ type.tuple Ts → HasDistinctNames T → shape_of t ≡ tuple (placed_trees ts) → 0 < length ts → ReadAt (type_list Ts) ts vs → IfOk m (MakesTuple tree of T vs) → IfOk m (IsTypedValue tree of T t)
  tuple_reads T Ts t ts vs (Ok v) is distinct shape some all h =
      let makes = h distinct in
      let spelled : tree_of t ≡ form.tuple (form.trees (map tree_of ts)) = tree_is t (tuple (placed_trees ts)) shape ∙ ap form.tuple (trees_are ts) in
      let given : TreeReads (type.tuple Ts) (tree_of t) (value.tuple (values (map tree vs))) = (map tree_of ts, map tree vs, spelled, some_trees ts some, each_at Ts ts vs all, refl) in
      record { reads = subst (λ (U : TypeTree). TreeReads U (tree_of t) (tree v)) (sym is) (subst (λ (w : Value). TreeReads (type.tuple Ts) (tree_of t) w) (sym makes.means) given); is_of = makes.is_of }
    where
      some_trees : (ps : List SpannedTree) → 0 < length ps → 0 < length (map tree_of ps)
      some_trees [] h = h
      some_trees (p ∷ ps) h = omega arith
  tuple_reads T Ts t ts vs (Err cause) is distinct shape some all h = tt

  tuple_full : (T : TypeTree) (Ts : Types) (ts : List SpannedTree) (vs : List V) (m : Result V WasmValueError) → T ≡ type.tuple Ts → ReadAt (type_list Ts) ts vs → IfErr m (FullTuple of Full T vs) → IfErr m (λ cause. Full T → IsMemory cause)
  tuple_full T Ts ts vs (Ok v) is all h = tt
  tuple_full T Ts ts vs (Err cause) is all h = λ full. h full Ts is (each_is (type_list Ts) ts vs all)

  -- the tuple was made, or its constructor refused
  pub tuple_built : (source : List ℕ) (T : TypeTree) (parts : List TypeTree) (n : NodeTree) (t : SpannedTree) (ns : List NodeTree) (vs : List V) (i : ℕ) (m : Result V WasmValueError) (r : Result V Diagnostic) → TupleType T parts → HasDistinctNames T → (node : IsNodeOf source n t) → (ty : type_of n ≡ kind.Tuple) → ns ≡ children_of n → length ns ≡ length parts → length ns ≤ i → ReadAt (take i parts) (take i (tuple_nodes source n t node ty).items) vs → IfOk m (MakesTuple tree of T vs) → IfErr m (FullTuple of Full T vs) → IsBuilt n m r → MatchResult r (IsTypedValue tree of T t) (IsBlamed Full o w T t)
  tuple_built source T parts n t ns vs i m r is distinct node ty children same le before ok full done =
      let inner = tuple_nodes source n t node ty in
      let many : length ns ≡ length inner.items = as_many source ns inner.items (given_items source n t ns node ty children) in
      let all : ReadAt parts inner.items vs = whole_at parts inner.items vs i (sym many ∙ same) (omega (arith, many, le)) before in
      let typed : ReadAt (type_list is.types) inner.items vs = subst (λ (l : List TypeTree). ReadAt l inner.items vs) is.parts_are all in
      built tree of Full o w T t n m r done (tuple_reads T is.types t inner.items vs m is.is distinct inner.shape inner.some typed ok) (tuple_full T is.types inner.items vs m is.is typed full)

-- ---- no value

inner_trees : (ts us : form.Trees) → form.tuple ts ≡ form.tuple us → ts ≡ us
inner_trees ts us e = cc

more_trees : (t u : Tree) (ts us : form.Trees) → form.tree_and t ts ≡ form.tree_and u us → (t ≡ u) × (ts ≡ us)
more_trees t u ts us e = (cc, cc)

-- as many trees as types
pub as_types : (Ts : Types) (ps : PlacedTrees) (us : List Tree) (vs : List Value) → trees_of ps ≡ form.trees us → TreeReadsAll Ts us vs → length (placed_list ps) ≡ count_of Ts
as_types type.no_types no_more us vs e h = refl
as_types type.no_types (and_then p ps) [] vs e h = absurd (cc)
as_types type.no_types (and_then p ps) (u ∷ us) vs e h = absurd (cc h.0)
as_types (type.type_and T more) no_more [] vs e h = absurd (cc h.4)
as_types (type.type_and T more) no_more (u ∷ us) vs e h = absurd (cc)
as_types (type.type_and T more) (and_then p ps) [] vs e h = absurd (cc)
as_types (type.type_and T more) (and_then p ps) (u ∷ us) vs e (w, others, x, xs, f, read, rest, g) =
    ap suc (as_types more ps others xs ((more_trees (tree_of p) u (trees_of ps) (form.trees us) e).1 ∙ ap form.trees (ap tail_of f)) rest)
  where
    tail_of : List Tree → List Tree
    tail_of [] = []
    tail_of (a ∷ as') = as'

-- what a tuple's trees are, where the type reads them
pub tuple_items : (ps : PlacedTrees) (us : List Tree) → form.tuple (trees_of ps) ≡ form.tuple (form.trees us) → trees_of ps ≡ form.trees us
tuple_items ps us e = inner_trees (trees_of ps) (form.trees us) e

-- the first tree and the others, where the types read them
pub first_item : (T : TypeTree) (more : Types) (p : SpannedTree) (ps : PlacedTrees) (us : List Tree) (vs : List Value) → form.tree_and (tree_of p) (trees_of ps) ≡ form.trees us → TreeReadsAll (type.type_and T more) us vs → (w : Value) × (others : List Tree) × (ws : List Value) × TreeReads T (tree_of p) w × (trees_of ps ≡ form.trees others) × TreeReadsAll more others ws
first_item T more p ps [] vs e h = absurd (cc)
first_item T more p ps (u ∷ us) vs e (a, others, w, ws, f, read, rest, g) =
    let both = more_trees (tree_of p) u (trees_of ps) (form.trees us) e in
    let here : u ≡ a = cc in
    let there : us ≡ others = cc in
    (w, others, ws, subst (λ (x : Tree). TreeReads T x w) (sym (both.0 ∙ here)) read, both.1 ∙ ap form.trees there, rest)
