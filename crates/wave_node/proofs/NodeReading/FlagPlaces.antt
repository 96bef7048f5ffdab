-- The map of the labels of a node of flags.
use Rattle.std.proofs.Common.{ℕ, ◌≡◌, ◌<◌, ◌≤◌, ◌+◌, inl, true, List, [], ◌∷◌, ◌++◌, length, get_or, take, drop, map, Some, Bor, refl, sym, ap, ◌∙◌, subst}
use Rattle.std.proofs.lemmas.List.{map-append, take_more, take_all, take-append-drop, drop_more}
use Rattle.std.specs.declared.ops.Range.{Range}
use Rattle.std.specs.BTreeMap.{BTreeMap, insert_entry}
use Rattle.std.specs.Cmp.Lexicographic.{slice_cmp, nat_list_cmp_total}
use Rattle.std.specs.Ordering.{nat_cmp, is_lt, ordering_reverse, match_ordering}
use Rattle.std.specs.declared.cmp.Ordering.{Ordering}
use Rattle.std.specs.declared.cmp.Ordering.TheVariants.{Less, Equal, Greater}
use Rattle.wave_wasm.specs.Lists.{AllOf}
use Rattle.wave_grammar.specs.LeafTokens.{name_of}
use Rattle.wave_grammar.specs.SpannedTree.{SpannedTree, at, label, no_placed, slice}
use Rattle.wave_grammar.specs.Tree.{is_before}
use Rattle.wave_grammar.proofs.NodeMeaning.FlagOrder.{before_is, trans}
use Rattle.wave_grammar.specs.NodeTree.{NodeTree, node, no_nodes, type_of, place_of, children_of}
use Rattle.wave_grammar.specs.Nodes.{placed_of, flag_of, flags_of}
use Rattle.wave_grammar.specs.NodeAccessors.{node_text}
use Rattle.wave_grammar.specs.NodeFlags.{AreInOrder, names_at}
use Rattle.wave_grammar.specs.TypedReading.{IsValueOf}
use Rattle.wave_grammar.specs.declared.form.NodeType.{NodeType}
use Rattle.wave_grammar.specs.declared.form.NodeType.TheVariants as kind
use Rattle.wave_grammar.proofs.ChildNodes.Inside.{inside, AreParsed, all_parsed}
use Rattle.wave_grammar.proofs.ChildNodes.Entries.{both_some}
use Rattle.wave_grammar.proofs.NodeMeaning.Flags.{labels_ordered}
use Rattle.wave_grammar.specs.FlagParts.{label_at, flag_nodes, AreFlagsOf}
use Rattle.wave_node.proofs.NodeReading.Children.{childless, flags_shape, whole_is}
use Rattle.wave_node.proofs.ParserCorrectness.FlagsSorted.{entry_of}

-- ---- the labels

-- the node is the label at its place
abbrev IsLabel : NodeTree → Type 0
IsLabel n = n ≡ label_at (place_of n)

label_alone : (source : List ℕ) (n : NodeTree) (c : SpannedTree) (f : Range ℕ × List ℕ) → placed_of source n ≡ Some c → flag_of c ≡ Some f → IsLabel n
label_alone source (node ty p cs) (at q (label r w no_placed)) f is e =
    let i = inside source (node ty p cs) (at q (label r w no_placed)) is in
    childless source (node ty p cs) (at q (label r w no_placed)) i i.from.3 ∙ ap (λ (k : NodeType). node k p no_nodes) i.from.0
label_alone source n (at q _) f is e = absurd (cc)

labels_alone : (source : List ℕ) (ns : List NodeTree) (cs : List SpannedTree) (fs : List (Range ℕ × List ℕ)) → AreParsed source ns cs → flags_of cs ≡ Some fs → AllOf IsLabel ns
labels_alone source [] cs fs h e = tt
labels_alone source (n ∷ ns) [] fs h e = absurd h
labels_alone source (n ∷ ns) (c ∷ cs) fs h e =
    let b = both_some (λ (f : Range ℕ × List ℕ) (more : List (Range ℕ × List ℕ)). f ∷ more) (flag_of c) (flags_of cs) fs e in
    (label_alone source n c b.0 h.0 b.2, labels_alone source ns cs b.1 h.1 b.3)

labels_are : (source : List ℕ) (n : NodeTree) → IsValueOf source n → type_of n ≡ kind.Flags → AllOf IsLabel (children_of n)
labels_are source n (at r s, is) e =
    let i = inside source n (at r s) is.0 in
    let c = flags_shape source n r s i e in
    labels_alone source (children_of n) i.children c.0 (all_parsed source n (at r s) i) c.1

-- ---- the map

-- a label's name and place
abbrev named : List ℕ → NodeTree → List ℕ × Range ℕ
named source n = (name_of (node_text source n), place_of n)

-- the map has the first labels by their names, in their order
abbrev pub HoldsFirst : List ℕ → List NodeTree → ℕ → BTreeMap (Bor (List ℕ)) (Range ℕ) → Type 0
HoldsFirst source ns i flags = map entry_of flags.entries ≡ map (named source) (take i ns)

-- the name is after each of these
abbrev AllBefore : List ℕ → List (List ℕ × Range ℕ) → Type 0
AllBefore name es = AllOf (λ e. is_before e.0 name ≡ true) es

in_front : (source : List ℕ) (ns ms : List NodeTree) (m : NodeTree) → AreInOrder (names_at source (ns ++ m ∷ ms)) → AllBefore (name_of (node_text source m)) (map (named source) ns)
in_front source [] ms m h = tt
in_front source (n ∷ []) ms m h = (h.0, tt)
in_front source (n ∷ k ∷ ns) ms m h =
    let more = in_front source (k ∷ ns) ms m h.1 in
    (trans (name_of (node_text source n)) (name_of (node_text source k)) (name_of (node_text source m)) h.0 more.0, more)

greater_at : (o p : Ordering) → o ≡ ordering_reverse p → is_lt p ≡ true → o ≡ Greater
greater_at o Less e h = e
greater_at o Equal e h = cc
greater_at o Greater e h = cc

-- a name after the others is put last
put_last : (es : List (Bor (List ℕ) × Range ℕ)) (k : Bor (List ℕ)) (v : Range ℕ) → AllBefore k.now (map entry_of es) → map entry_of (insert_entry (λ a b. slice_cmp nat_cmp a.now b.now) es k v) ≡ map entry_of es ++ (k.now, v) ∷ []
put_last [] k v h = refl
put_last (e ∷ es) k v h =
    let behind = greater_at (slice_cmp nat_cmp k.now e.0.now) (slice_cmp nat_cmp e.0.now k.now) (nat_list_cmp_total.antisymm k.now e.0.now) (sym (before_is e.0.now k.now) ∙ h.0) in
    ap (λ (o : Ordering). map entry_of (match_ordering o ((k, v) ∷ e ∷ es) ((e.0, v) ∷ es) (e ∷ insert_entry (λ a b. slice_cmp nat_cmp a.now b.now) es k v))) behind
    ∙ ap (λ (l : List (List ℕ × Range ℕ)). entry_of e ∷ l) (put_last es k v h.1)

next_held : (source : List ℕ) (n : NodeTree) (ns : List NodeTree) (i : ℕ) (m : NodeTree) (old new : BTreeMap (Bor (List ℕ)) (Range ℕ)) (k : Bor (List ℕ)) (v : Range ℕ) →
    AreInOrder (names_at source ns) → i < length ns → m ≡ get_or ns i m → HoldsFirst source ns i old →
    k.now ≡ name_of (node_text source m) → v ≡ place_of m → new.entries ≡ insert_entry (λ a b. slice_cmp nat_cmp a.now b.now) old.entries k v → HoldsFirst source ns (i + 1) new
next_held source n ns i m old new k v sorted lt here held name place put =
    let split : ns ≡ take i ns ++ m ∷ drop (i + 1) ns = sym (take-append-drop i ns) ∙ ap (λ (l : List NodeTree). take i ns ++ l) (drop_more ns i m lt ∙ ap (λ (x : NodeTree). x ∷ drop (i + 1) ns) (sym here)) in
    let ordered : AreInOrder (names_at source (take i ns ++ m ∷ drop (i + 1) ns)) = subst (λ (l : List NodeTree). AreInOrder (names_at source l)) split sorted in
    let behind : AllBefore k.now (map entry_of old.entries) = subst (λ (x : List ℕ). AllBefore x (map entry_of old.entries)) (sym name) (subst (AllBefore (name_of (node_text source m))) (sym held) (in_front source (take i ns) (drop (i + 1) ns) m ordered)) in
    let pair : (k.now, v) ≡ named source m = λ j. (name j, place j) in
    let more : take (i + 1) ns ≡ take i ns ++ m ∷ [] = take_more ns i m lt ∙ ap (λ (x : NodeTree). take i ns ++ x ∷ []) (sym here) in
    ap (map entry_of) put ∙ (put_last old.entries k v behind ∙ ((λ j. held j ++ pair j ∷ []) ∙ sym (ap (map (named source)) more ∙ map-append (named source) (take i ns) (m ∷ []))))

-- the next label
pub holds_next : (source : List ℕ) (n : NodeTree) (ns : List NodeTree) (i : ℕ) (m : NodeTree) (old new : BTreeMap (Bor (List ℕ)) (Range ℕ)) (k : Bor (List ℕ)) (v : Range ℕ) →
    IsValueOf source n → type_of n ≡ kind.Flags → ns ≡ children_of n → i < length ns → m ≡ get_or ns i m → HoldsFirst source (children_of n) i old →
    k.now ≡ name_of (node_text source m) → v ≡ place_of m → new.entries ≡ insert_entry (λ a b. slice_cmp nat_cmp a.now b.now) old.entries k v → HoldsFirst source (children_of n) (i + 1) new
holds_next source n ns i m old new k v value e is lt here held name place put =
    next_held source n (children_of n) i m old new k v (labels_ordered source n (inl value) (inl e)) (subst (λ (l : List NodeTree). i < length l) is lt) (subst (λ (l : List NodeTree). m ≡ get_or l i m) is here) held name place put

-- ---- all labels

heads : {x y : List ℕ × Range ℕ} {xs ys : List (List ℕ × Range ℕ)} → x ∷ xs ≡ y ∷ ys → (x ≡ y) × (xs ≡ ys)
heads e = (cc, cc)

-- each is held by its name
all_named : (source : List ℕ) (es : List (Bor (List ℕ) × Range ℕ)) (ns : List NodeTree) → map entry_of es ≡ map (named source) ns → AllOf (λ e. e.0.now ≡ name_of (slice source e.1)) es
all_named source [] ns h = tt
all_named source (e ∷ es) [] h = absurd (let wrong : entry_of e ∷ map entry_of es ≡ [] = h in cc)
all_named source (e ∷ es) (n ∷ ns) h =
    let (q, more) = heads h in
    (ap (λ (z : List ℕ × Range ℕ). z.0) q ∙ ap (λ (z : List ℕ × Range ℕ). name_of (slice source z.1)) (sym q), all_named source es ns more)

-- their nodes are those at their places
all_nodes : (source : List ℕ) (es : List (Bor (List ℕ) × Range ℕ)) (ns : List NodeTree) → map entry_of es ≡ map (named source) ns → AllOf IsLabel ns → ns ≡ map label_at (map (λ e. e.1) es)
all_nodes source [] [] h all = refl
all_nodes source [] (n ∷ ns) h all = absurd (let wrong : [] ≡ named source n ∷ map (named source) ns = h in cc)
all_nodes source (e ∷ es) [] h all = absurd (let wrong : entry_of e ∷ map entry_of es ≡ [] = h in cc)
all_nodes source (e ∷ es) (n ∷ ns) h all =
    let (q, more) = heads h in
    let here : n ≡ label_at e.1 = all.0 ∙ ap (λ (z : List ℕ × Range ℕ). label_at z.1) (sym q) in
    λ i. here i ∷ all_nodes source es ns more all.1 i

-- the whole map
pub all_held : (source : List ℕ) (n : NodeTree) (ns : List NodeTree) (i : ℕ) (flags : BTreeMap (Bor (List ℕ)) (Range ℕ)) → ns ≡ children_of n → length ns ≤ i → HoldsFirst source (children_of n) i flags → AreFlagsOf source flags
all_held source n ns i flags is le h = all_named source flags.entries (children_of n) (h ∙ ap (map (named source)) (take_all i (children_of n) (subst (λ (l : List NodeTree). length l ≤ i) is le)))

-- the node is made of it
pub flags_whole : (source : List ℕ) (n : NodeTree) (ns : List NodeTree) (i : ℕ) (flags : BTreeMap (Bor (List ℕ)) (Range ℕ)) → IsValueOf source n → type_of n ≡ kind.Flags → ns ≡ children_of n → length ns ≤ i → HoldsFirst source (children_of n) i flags → n ≡ node kind.Flags (place_of n) (flag_nodes flags)
flags_whole source n ns i flags value e is le h =
    let nodes = all_nodes source flags.entries (children_of n) (h ∙ ap (map (named source)) (take_all i (children_of n) (subst (λ (l : List NodeTree). length l ≤ i) is le))) (labels_are source n value e) in
    sym (whole_is n (map label_at (map (λ e. e.1) flags.entries)) nodes) ∙ ap (λ (k : NodeType). node k (place_of n) (flag_nodes flags)) e
