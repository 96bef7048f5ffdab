-- The items of lists and tuples, one by one.
use Rattle.std.proofs.Common.{ℕ, ◌≡◌, ◌≢◌, ◌⊎◌, inl, inr, ◌≤◌, ◌<◌, ◌+◌, List, [], ◌∷◌, length, get_or, drop, Option, Some, refl, sym, ap, ◌∙◌, subst}
use Rattle.wave_wasm.specs.Types.{TypeTree, Types, types_of, count_of}
use Rattle.wave_wasm.specs.ValueErrors.{Cause, wrong_length, wrong_number}
use Rattle.wave_lex.specs.Errors.{Diagnostic, refusal_of, refused_by}
use Rattle.wave_grammar.specs.SpannedTree.{SpannedTree, span_of}
use Rattle.wave_grammar.specs.TypeErrors.{RefusesFor}
use Rattle.wave_grammar.specs.FaultOrder.{WrongCount}
use Rattle.wave_grammar.specs.NodeTree.{NodeTree, type_of, place_of, children_of}
use Rattle.wave_grammar.specs.Nodes.{IsNodeOf}
use Rattle.wave_grammar.proofs.ByKind.Lists.{HasAt, as_many, node_at, list_nodes, given_nodes}
use Rattle.wave_grammar.proofs.ByKind.Tuples.{TupleType, tuple_nodes, given_items}
use Rattle.wave_grammar.proofs.ChildNodes.Inside.{inside}
use Rattle.wave_grammar.specs.declared.form.NodeType.TheVariants as kind
use Rattle.wave_faults.specs.AllFaults.{Alone, InTurn, AreFaults, AreFaultsOfItems}
use Rattle.wave_faults.specs.Private.Told.{Adds, AddsFaults, AddsCause, list_of}
use Rattle.wave_faults.proofs.Walk.Adding.{adds_so, adds_none, adds_then, Leads, lead_on, lead_so, lead_end}
use Rattle.wave_faults.proofs.Walk.Forms.{drop_has, drop_whole, IsOfLength, list_told, length_told, tuple_told, items_end, counted, types_back}

-- ---- lists

-- a list of another number of items
pub list_counted : (source : List ℕ) (n : NodeTree) (t : SpannedTree) (ns : List NodeTree) (E : TypeTree) (o : Option ℕ) (want got : ℕ) (cause : Cause) (old new : List Diagnostic) → IsNodeOf source n t → type_of n ≡ kind.List → ns ≡ children_of n → got ≡ length ns → o ≡ Some want → got ≢ want → cause ≡ wrong_length want got → AddsCause cause (place_of n) old new → Adds (AreFaults (list_of E o) t) old new
list_counted source n t ns E o want got cause old new h ty children many is apart cause_is a =
    let l = list_nodes source n t h ty in
    let count : length l.items ≡ got = sym (as_many source (children_of n) l.items l.nodes) ∙ (ap length (sym children) ∙ sym many) in
    let refused : RefusesFor (wrong_length want got) (span_of t) (refusal_of a.error) a.error.span = (a.blamed.0 ∙ ap refused_by cause_is, a.blamed.1 ∙ sym (inside source n t h.0).place) in
    subst (λ (p : Option ℕ). Adds (AreFaults (list_of E p) t) old new) (sym is) (record { added = a.error ∷ []; is = a.is; these = length_told t l.items E want got a.error l.shape count apart refused })

-- one item more
pub list_next : (source : List ℕ) (n : NodeTree) (t : SpannedTree) (ns : List NodeTree) (E : TypeTree) (i : ℕ) (m : NodeTree) (old told new : List Diagnostic) → (h : IsNodeOf source n t) (ty : type_of n ≡ kind.List) → ns ≡ children_of n → i < length ns → m ≡ get_or ns i m
    → Leads (InTurn (λ item. AreFaults E item) (list_nodes source n t h ty).items) (InTurn (λ item. AreFaults E item) (drop i (list_nodes source n t h ty).items)) old told → AddsFaults E source m told new
    → Leads (InTurn (λ item. AreFaults E item) (list_nodes source n t h ty).items) (InTurn (λ item. AreFaults E item) (drop (i + 1) (list_nodes source n t h ty).items)) old new
list_next source n t ns E i m old told new h ty children lt is l added =
    let items = (list_nodes source n t h ty).items in
    let here = node_at source ns items i m (given_nodes source n t ns h ty children) lt is in
    lead_on (lead_so (λ errors f. subst (λ (us : List SpannedTree). InTurn (λ item. AreFaults E item) us errors) (sym (drop_has items i here.0 here.1)) f) l) (added here.0 here.2)

-- the whole list
pub list_end : (source : List ℕ) (n : NodeTree) (t : SpannedTree) (ns : List NodeTree) (E : TypeTree) (o : Option ℕ) (i : ℕ) (old told : List Diagnostic) → (h : IsNodeOf source n t) (ty : type_of n ≡ kind.List) → ns ≡ children_of n → length ns ≤ i → IsOfLength o (length ns)
    → Leads (InTurn (λ item. AreFaults E item) (list_nodes source n t h ty).items) (InTurn (λ item. AreFaults E item) (drop i (list_nodes source n t h ty).items)) old told → Adds (AreFaults (list_of E o) t) old told
list_end source n t ns E o i old told h ty children le long l =
    let inner = list_nodes source n t h ty in
    let many : length ns ≡ length inner.items = as_many source ns inner.items (given_nodes source n t ns h ty children) in
    let none : drop i inner.items ≡ [] = drop_whole inner.items i (subst (λ (k : ℕ). k ≤ i) many le) in
    adds_so (λ errors f. list_told t inner.items E o errors inner.shape (λ want is. sym many ∙ long want is) f)
    (lead_end l (subst (λ (us : List SpannedTree). InTurn (λ item. AreFaults E item) us []) (sym none) refl))

-- ---- tuples

-- one item more
pub tuple_next : (source : List ℕ) (n : NodeTree) (t : SpannedTree) (ns : List NodeTree) (parts : List TypeTree) (U : TypeTree) (i : ℕ) (m : NodeTree) (old told new : List Diagnostic) → (h : IsNodeOf source n t) (ty : type_of n ≡ kind.Tuple) → ns ≡ children_of n → i < length ns → m ≡ get_or ns i m → HasAt parts i U
    → Leads (AreFaultsOfItems (types_of parts) (tuple_nodes source n t h ty).items) (AreFaultsOfItems (types_of (drop i parts)) (drop i (tuple_nodes source n t h ty).items)) old told → AddsFaults U source m told new
    → Leads (AreFaultsOfItems (types_of parts) (tuple_nodes source n t h ty).items) (AreFaultsOfItems (types_of (drop (i + 1) parts)) (drop (i + 1) (tuple_nodes source n t h ty).items)) old new
tuple_next source n t ns parts U i m old told new h ty children lt is at l added =
    let items = (tuple_nodes source n t h ty).items in
    let here = node_at source ns items i m (given_items source n t ns h ty children) lt is in
    lead_on
    (lead_so
    (λ errors f. subst (λ (Ts : List TypeTree). AreFaultsOfItems (types_of Ts) (drop i items) errors) (sym (drop_has parts i U at))
    (subst (λ (us : List SpannedTree). AreFaultsOfItems (types_of (U ∷ drop (i + 1) parts)) us errors) (sym (drop_has items i here.0 here.1)) f)) l)
    (added here.0 here.2)

-- each item that has a type
tuple_gone : (source : List ℕ) (n : NodeTree) (t : SpannedTree) (ns : List NodeTree) (parts : List TypeTree) (i : ℕ) (old told : List Diagnostic) → (h : IsNodeOf source n t) (ty : type_of n ≡ kind.Tuple) → ns ≡ children_of n → (length ns ≤ i) ⊎ (length parts ≤ i)
    → Leads (AreFaultsOfItems (types_of parts) (tuple_nodes source n t h ty).items) (AreFaultsOfItems (types_of (drop i parts)) (drop i (tuple_nodes source n t h ty).items)) old told → Adds (AreFaultsOfItems (types_of parts) (tuple_nodes source n t h ty).items) old told
tuple_gone source n t ns parts i old told h ty children le l = lead_end l (items_end (drop i parts) (drop i (tuple_nodes source n t h ty).items) [] (by le) refl)
  where
    by : (length ns ≤ i) ⊎ (length parts ≤ i) → (drop i parts ≡ []) ⊎ (drop i (tuple_nodes source n t h ty).items ≡ [])
    by (inl g) = inr (drop_whole (tuple_nodes source n t h ty).items i (subst (λ (k : ℕ). k ≤ i) (as_many source ns (tuple_nodes source n t h ty).items (given_items source n t ns h ty children)) g))
    by (inr g) = inl (drop_whole parts i g)

-- what is told of the items and of their number is told of the tuple
tuple_whole : (source : List ℕ) (n : NodeTree) (t : SpannedTree) (ns : List NodeTree) (T : TypeTree) (parts : List TypeTree) (old told new : List Diagnostic) → TupleType T parts → (h : IsNodeOf source n t) (ty : type_of n ≡ kind.Tuple) → ns ≡ children_of n
    → Adds (AreFaultsOfItems (types_of parts) (tuple_nodes source n t h ty).items) old told → Adds (Alone (WrongCount (length parts) (length ns) (span_of t))) told new → Adds (AreFaults T t) old new
tuple_whole source n t ns T parts old told new is h ty children items count =
    let inner = tuple_nodes source n t h ty in
    let types : types_of parts ≡ is.types = ap types_of is.parts_are ∙ types_back is.types in
    let want : length parts ≡ count_of is.types = sym (counted parts) ∙ ap count_of types in
    let got : length ns ≡ length inner.items = as_many source ns inner.items (given_items source n t ns h ty children) in
    let of_types : Adds (AreFaultsOfItems is.types inner.items) old told = subst (λ (Ts : Types). Adds (AreFaultsOfItems Ts inner.items) old told) types items in
    let of_count : Adds (Alone (WrongCount (count_of is.types) (length inner.items) (span_of t))) told new =
    subst (λ (k : ℕ). Adds (Alone (WrongCount k (length inner.items) (span_of t))) told new) want (subst (λ (k : ℕ). Adds (Alone (WrongCount (length parts) k (span_of t))) told new) got count) in
    subst (λ (U : TypeTree). Adds (AreFaults U t) old new) (sym is.is) (adds_so (λ errors f. tuple_told t inner.items is.types errors inner.shape f) (adds_then of_types of_count))

-- a tuple of as many items as types
pub tuple_end : (source : List ℕ) (n : NodeTree) (t : SpannedTree) (ns : List NodeTree) (T : TypeTree) (parts : List TypeTree) (i : ℕ) (old told : List Diagnostic) → TupleType T parts → (h : IsNodeOf source n t) (ty : type_of n ≡ kind.Tuple) → ns ≡ children_of n → (length ns ≤ i) ⊎ (length parts ≤ i) → length ns ≡ length parts
    → Leads (AreFaultsOfItems (types_of parts) (tuple_nodes source n t h ty).items) (AreFaultsOfItems (types_of (drop i parts)) (drop i (tuple_nodes source n t h ty).items)) old told → Adds (AreFaults T t) old told
tuple_end source n t ns T parts i old told is h ty children le same l =
    tuple_whole source n t ns T parts old told told is h ty children (tuple_gone source n t ns parts i old told h ty children le l) (adds_none told (λ k q f. f.0 same))

-- a tuple of another number of items
pub tuple_counted : (source : List ℕ) (n : NodeTree) (t : SpannedTree) (ns : List NodeTree) (T : TypeTree) (parts : List TypeTree) (i : ℕ) (want got : ℕ) (old told new : List Diagnostic) → TupleType T parts → (h : IsNodeOf source n t) (ty : type_of n ≡ kind.Tuple) → ns ≡ children_of n → (length ns ≤ i) ⊎ (length parts ≤ i) → got ≡ length ns → want ≡ length parts → got ≢ want
    → Leads (AreFaultsOfItems (types_of parts) (tuple_nodes source n t h ty).items) (AreFaultsOfItems (types_of (drop i parts)) (drop i (tuple_nodes source n t h ty).items)) old told → AddsCause (wrong_number want got) (place_of n) told new → Adds (AreFaults T t) old new
tuple_counted source n t ns T parts i want got old told new is h ty children le many wanted apart l a =
    tuple_whole source n t ns T parts old told new is h ty children (tuple_gone source n t ns parts i old told h ty children le l)
    (record { added = a.error ∷ []; is = a.is; these = ((λ same. apart (many ∙ (same ∙ sym wanted))), (a.blamed.0 ∙ both, a.blamed.1 ∙ sym (inside source n t h.0).place)) })
  where
    both : refused_by (wrong_number want got) ≡ refused_by (wrong_number (length parts) (length ns))
    both = λ j. refused_by (wrong_number (wanted j) (many j))
