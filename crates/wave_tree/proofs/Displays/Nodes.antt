-- What shows a node of each type.
use Rattle.std.proofs.Common.{◌≡◌, ℕ, zero, suc, ◌+◌, ◌<◌, inl, inr, Bool, true, false, List, [], ◌∷◌, ◌++◌, map, length, drop, get_or, codes, sym, ap, ◌∙◌, refl, subst, arith, Option, Some, None, option_map}
use Rattle.std.specs.Prelude.{All, ◌⊎◌, if◌then◌else◌}
use Rattle.std.specs.declared.ops.Range.{Range}
use Rattle.std.proofs.lemmas.List.{drop_more}
use Rattle.wave_wasm.specs.Commas.{joined, behind_name, in_parens, in_braces, enclosed}
use Rattle.wave_wasm.specs.Keywords.{case_label}
use Rattle.wave_grammar.specs.Token.{Token, text_of}
use Rattle.wave_grammar.specs.Token as token
use Rattle.wave_grammar.specs.LeafTokens.{name_of}
use Rattle.wave_grammar.specs.Tree.{display, display_trees, display_entries}
use Rattle.wave_grammar.specs.SpannedTree.{SpannedTree, SpannedShape, at, one, tuple, list, empty_braces, no_fields, entries, flags, label, none, some, ok, err, no_placed, a_placed, PlacedEntries, no_entries, entry, placed_trees, span_of, shape_of, tree_of, tree_of_shape, trees_of, entries_of, SpellsEach, SpellsEntries, SpellsFlags}
use Rattle.wave_grammar.specs.NodeTree.{NodeTree, NodeTrees, node, no_nodes, node_and, type_of, place_of, children_of, node_list, node_trees, depth, nodes_depth}
use Rattle.wave_grammar.specs.Nodes.{placed_of, shape_from, pairs_of, flags_of, flag_of, key_of, with_both, IsParsedFrom}
use Rattle.wave_grammar.specs.NodeAccessors.{node_text}
use Rattle.wave_grammar.specs.TypedReading.{IsValueOf}
use Rattle.wave_tree.specs.NodeDisplay.{display_placed, display_at}
use Rattle.wave_tree.specs.Private.NodeDisplay.{name_at, entries_at, braces_at, payload_at, AreEntriesOf}
use Rattle.wave_grammar.proofs.ChildNodes.Inside.{From, inside, some_is, flag_key, AreParsed, pair_parsed, is_number_word, all_parsed}
use Rattle.wave_grammar.proofs.ChildNodes.Cases.{shape_at, case_shape}
use Rattle.wave_grammar.proofs.ByKind.Leaves.{tree_is}
use Rattle.wave_grammar.proofs.ByKind.Lists.{AreNodesOf, spelled_nodes}
use Rattle.wave_grammar.specs.declared.form.NodeType.{NodeType}
use Rattle.wave_grammar.specs.declared.form.NodeType.TheVariants as kind

-- what shows a node whose tree is known
pub display_known : (source : List ℕ) (n : NodeTree) (t : SpannedTree) → placed_of source n ≡ Some t → display_at source n ≡ display (tree_of t)
unfolding display_at
display_known source n t e = ap display_placed e

display_shape : (source : List ℕ) (n : NodeTree) (t : SpannedTree) (s : SpannedShape) → placed_of source n ≡ Some t → s ≡ shape_of t → display (tree_of_shape s) ≡ display_at source n
display_shape source n t s e k = sym (display_known source n t e ∙ ap display (tree_is t s (sym k)))

-- a node of this type, and its shape
pub record Opened (ty : NodeType) (source : List ℕ) (n : NodeTree) : Type 0 where
  pub place : Range ℕ
  pub shape : SpannedShape
  pub children : List SpannedTree
  pub means : placed_of source n ≡ Some (at place shape)
  pub from : shape_from ty (place_of n) (node_text source n) children ≡ Some shape
  pub nodes : AreParsed source (children_of n) children
  pub spelled : SpellsEach source (at place shape)

pub opened : (ty : NodeType) (source : List ℕ) (n : NodeTree) → IsValueOf source n → type_of n ≡ ty → Opened ty source n
opened ty source n (at r s, h) e =
    let i = inside source n (at r s) h.0 in
    record { place = r; shape = s; children = i.children; means = h.0; from = shape_at ty source n (at r s) i e; nodes = all_parsed source n (at r s) i; spelled = h.1 }

-- what shows it is what shows its shape
display_opened : (ty : NodeType) (source : List ℕ) (n : NodeTree) (o : Opened ty source n) (s : SpannedShape) → s ≡ o.shape → display (tree_of_shape s) ≡ display_at source n
display_opened ty source n o s e = display_shape source n (at o.place o.shape) s o.means e

-- ---- leaves

-- nodes of these types are displayed as they stand
abbrev pub IsText : NodeType → Type 0
IsText kind.Number = Unit {0}
IsText kind.Char = Unit {0}
IsText kind.String = Unit {0}
IsText kind.MultilineString = Unit {0}
IsText kind.Label = Unit {0}
IsText _ = ⊥

number_text : (b : Bool) (text : List ℕ) → text_of (if b then token.label text else token.number text) ≡ text
number_text true text = refl
number_text false text = refl

text_shape : (ty : NodeType) (p : Range ℕ) (text : List ℕ) (cs : List SpannedTree) (s : SpannedShape) → IsText ty → shape_from ty p text cs ≡ Some s → text ≡ display (tree_of_shape s)
text_shape kind.Number p text [] s is e = sym (number_text (is_number_word text) text) ∙ ap (λ (x : SpannedShape). display (tree_of_shape x)) (some_is _ _ e)
text_shape kind.Char p text [] s is e = ap (λ (x : SpannedShape). display (tree_of_shape x)) (some_is (one (token.char text)) s e)
text_shape kind.String p text [] s is e = ap (λ (x : SpannedShape). display (tree_of_shape x)) (some_is (one (token.string text)) s e)
text_shape kind.MultilineString p text [] s is e = ap (λ (x : SpannedShape). display (tree_of_shape x)) (some_is (one (token.multiline text)) s e)
text_shape kind.Label p text [] s is e = ap (λ (x : SpannedShape). display (tree_of_shape x)) (some_is (label p text no_placed) s e)
text_shape kind.Number p text (c ∷ cs) s is e = absurd (cc)
text_shape kind.Char p text (c ∷ cs) s is e = absurd (cc)
text_shape kind.String p text (c ∷ cs) s is e = absurd (cc)
text_shape kind.MultilineString p text (c ∷ cs) s is e = absurd (cc)
text_shape kind.Label p text (c ∷ cs) s is e = absurd (cc)
text_shape _ p text cs s is e = absurd is

-- numbers, chars, strings and labels alone
pub text_display : (ty : NodeType) (source : List ℕ) (n : NodeTree) → IsText ty → IsValueOf source n → type_of n ≡ ty → node_text source n ≡ display_at source n
text_display ty source n is v e =
    let o = opened ty source n v e in
    text_shape ty (place_of n) (node_text source n) o.children o.shape is o.from ∙ display_opened ty source n o o.shape refl

-- so where a node is of one of them
pub plain_display : (source : List ℕ) (n : NodeTree) (k : NodeType) → k ≡ type_of n → (k ≡ kind.Number) ⊎ ((k ≡ kind.Char) ⊎ ((k ≡ kind.String) ⊎ ((k ≡ kind.MultilineString) ⊎ (k ≡ kind.Label)))) → IsValueOf source n → node_text source n ≡ display_at source n
plain_display source n k e (inl f) v = text_display kind.Number source n tt v (sym e ∙ f)
plain_display source n k e (inr (inl f)) v = text_display kind.Char source n tt v (sym e ∙ f)
plain_display source n k e (inr (inr (inl f))) v = text_display kind.String source n tt v (sym e ∙ f)
plain_display source n k e (inr (inr (inr (inl f)))) v = text_display kind.MultilineString source n tt v (sym e ∙ f)
plain_display source n k e (inr (inr (inr (inr f)))) v = text_display kind.Label source n tt v (sym e ∙ f)

-- the nodes of these types without children
abbrev pub word_shape : NodeType → Option SpannedShape
word_shape kind.BoolTrue = Some (one (token.label (codes "true")))
word_shape kind.BoolFalse = Some (one (token.label (codes "false")))
word_shape kind.EmptySet = Some empty_braces
word_shape kind.OptionNone = Some none
word_shape _ = None

word_is : (ty : NodeType) (p : Range ℕ) (text : List ℕ) (cs : List SpannedTree) (s w : SpannedShape) → word_shape ty ≡ Some w → shape_from ty p text cs ≡ Some s → w ≡ s
word_is kind.BoolTrue p text [] s w k e = sym (some_is _ _ k) ∙ some_is _ _ e
word_is kind.BoolFalse p text [] s w k e = sym (some_is _ _ k) ∙ some_is _ _ e
word_is kind.EmptySet p text [] s w k e = sym (some_is _ _ k) ∙ some_is _ _ e
word_is kind.OptionNone p text [] s w k e = sym (some_is _ _ k) ∙ some_is _ _ e
word_is _ p text cs s w k e = absurd (cc)

-- bools, `{}` and `none`
pub word_display : (ty : NodeType) (w : SpannedShape) (source : List ℕ) (n : NodeTree) → word_shape ty ≡ Some w → IsValueOf source n → type_of n ≡ ty → display (tree_of_shape w) ≡ display_at source n
word_display ty w source n k v e = let o = opened ty source n v e in display_opened ty source n o w (word_is ty (place_of n) (node_text source n) o.children o.shape w k o.from)

-- ---- items

items_display : (source : List ℕ) (ns : List NodeTree) (ts : List SpannedTree) → AreNodesOf source ns ts → map (display_at source) ns ≡ display_trees (trees_of (placed_trees ts))
items_display source [] [] h = refl
items_display source [] (t ∷ ts) h = absurd h
items_display source (n ∷ ns) [] h = absurd h
items_display source (n ∷ ns) (t ∷ ts) h = λ i. display_known source n t h.0.0 i ∷ items_display source ns ts h.1 i

-- nodes of trees are values
pub are_values : (source : List ℕ) (ns : List NodeTree) (ts : List SpannedTree) → AreNodesOf source ns ts → All (IsValueOf source) ns
are_values source [] ts h k d lt = absurd (omega (arith, lt))
are_values source (n ∷ ns) [] h k d lt = absurd h
are_values source (n ∷ ns) (t ∷ ts) h zero d lt = (t, h.0)
are_values source (n ∷ ns) (t ∷ ts) h (suc k) d lt = are_values source ns ts h.1 k d (omega (arith, lt))

pub tuple_display : (source : List ℕ) (n : NodeTree) → IsValueOf source n → type_of n ≡ kind.Tuple → All (IsValueOf source) (children_of n) × (enclosed (codes "(") (map (display_at source) (children_of n)) (codes ")") ≡ display_at source n)
tuple_display source n v e =
    let o = opened kind.Tuple source n v e in
    let shape : tuple (placed_trees o.children) ≡ o.shape = some_is _ _ o.from in
    let spelled : SpellsEach source (at o.place (tuple (placed_trees o.children))) = subst (λ (x : SpannedShape). SpellsEach source (at o.place x)) (sym shape) o.spelled in
    let nodes = spelled_nodes source (children_of n) o.children o.place.start o.place.end o.nodes spelled.1 in
    (are_values source (children_of n) o.children nodes, ap (λ xs. enclosed (codes "(") xs (codes ")")) (items_display source (children_of n) o.children nodes) ∙ display_opened kind.Tuple source n o (tuple (placed_trees o.children)) shape)

pub list_display : (source : List ℕ) (n : NodeTree) → IsValueOf source n → type_of n ≡ kind.List → All (IsValueOf source) (children_of n) × (enclosed (codes "[") (map (display_at source) (children_of n)) (codes "]") ≡ display_at source n)
list_display source n v e =
    let o = opened kind.List source n v e in
    let shape : list (placed_trees o.children) ≡ o.shape = some_is _ _ o.from in
    let spelled : SpellsEach source (at o.place (list (placed_trees o.children))) = subst (λ (x : SpannedShape). SpellsEach source (at o.place x)) (sym shape) o.spelled in
    let nodes = spelled_nodes source (children_of n) o.children o.place.start o.place.end o.nodes spelled.1 in
    (are_values source (children_of n) o.children nodes, ap (λ xs. enclosed (codes "[") xs (codes "]")) (items_display source (children_of n) o.children nodes) ∙ display_opened kind.List source n o (list (placed_trees o.children)) shape)

-- ---- payloads

-- the payload's node, and what shows it
abbrev HasPayload : List ℕ → List NodeTree → List ℕ → Type 0
HasPayload source ns text = All (IsValueOf source) ns × (payload_at source ns ≡ text)

no_payload : (source : List ℕ) (ns : List NodeTree) → AreParsed source ns [] → HasPayload source ns []
no_payload source [] h = ((λ k d lt. absurd (omega (arith, lt))), refl)
no_payload source (n ∷ ns) h = absurd h

one_payload : (source : List ℕ) (ns : List NodeTree) (t : SpannedTree) → AreParsed source ns (t ∷ []) → SpellsEach source t → HasPayload source ns (in_parens (display (tree_of t)))
one_payload source [] t h s = absurd h
one_payload source (m ∷ n ∷ ns) t h s = absurd h.1
one_payload source (n ∷ []) t h s = (are_values source (n ∷ []) (t ∷ []) ((h.0, s), tt), ap in_parens (display_known source n t h.0))

-- after its word
word_payload : (source : List ℕ) (ns : List NodeTree) (r : Range ℕ) (word : List ℕ) (t : SpannedTree) (form s : SpannedShape) → AreParsed source ns (t ∷ []) → form ≡ s → SpellsEach source (at r s) → (SpellsEach source (at r form) → SpellsEach source t) →
    word ++ in_parens (display (tree_of t)) ≡ display (tree_of_shape form) → All (IsValueOf source) ns × (word ++ payload_at source ns ≡ display (tree_of_shape s))
word_payload source ns r word t form s h shape k within shows =
    let it = one_payload source ns t h (within (subst (λ (x : SpannedShape). SpellsEach source (at r x)) (sym shape) k)) in
    (it.0, ap (λ z. word ++ z) it.1 ∙ (shows ∙ ap (λ (x : SpannedShape). display (tree_of_shape x)) shape))

some_payload : (source : List ℕ) (ns : List NodeTree) (p r : Range ℕ) (text : List ℕ) (cs : List SpannedTree) (s : SpannedShape) → AreParsed source ns cs → SpellsEach source (at r s) → shape_from kind.OptionSome p text cs ≡ Some s →
    All (IsValueOf source) ns × (codes "some" ++ payload_at source ns ≡ display (tree_of_shape s))
some_payload source ns p r text [] s h k e = absurd (cc)
some_payload source ns p r text (t ∷ u ∷ cs) s h k e = absurd (cc)
some_payload source ns p r text (t ∷ []) s h k e = word_payload source ns r (codes "some") t (some t) s h (some_is _ _ e) k (λ f. f.1.1) refl

ok_payload : (source : List ℕ) (ns : List NodeTree) (p r : Range ℕ) (text : List ℕ) (cs : List SpannedTree) (s : SpannedShape) → AreParsed source ns cs → SpellsEach source (at r s) → shape_from kind.ResultOk p text cs ≡ Some s →
    All (IsValueOf source) ns × (codes "ok" ++ payload_at source ns ≡ display (tree_of_shape s))
ok_payload source ns p r text [] s h k e = let it = no_payload source ns h in (it.0, ap (λ z. codes "ok" ++ z) it.1 ∙ ap (λ (x : SpannedShape). display (tree_of_shape x)) (some_is (ok no_placed) s e))
ok_payload source ns p r text (t ∷ u ∷ cs) s h k e = absurd (cc)
ok_payload source ns p r text (t ∷ []) s h k e = word_payload source ns r (codes "ok") t (ok (a_placed t)) s h (some_is _ _ e) k (λ f. f.1.1) refl

err_payload : (source : List ℕ) (ns : List NodeTree) (p r : Range ℕ) (text : List ℕ) (cs : List SpannedTree) (s : SpannedShape) → AreParsed source ns cs → SpellsEach source (at r s) → shape_from kind.ResultErr p text cs ≡ Some s →
    All (IsValueOf source) ns × (codes "err" ++ payload_at source ns ≡ display (tree_of_shape s))
err_payload source ns p r text [] s h k e = let it = no_payload source ns h in (it.0, ap (λ z. codes "err" ++ z) it.1 ∙ ap (λ (x : SpannedShape). display (tree_of_shape x)) (some_is (err no_placed) s e))
err_payload source ns p r text (t ∷ u ∷ cs) s h k e = absurd (cc)
err_payload source ns p r text (t ∷ []) s h k e = word_payload source ns r (codes "err") t (err (a_placed t)) s h (some_is _ _ e) k (λ f. f.1.1) refl

pub some_display : (source : List ℕ) (n : NodeTree) → IsValueOf source n → type_of n ≡ kind.OptionSome → All (IsValueOf source) (children_of n) × (codes "some" ++ payload_at source (children_of n) ≡ display_at source n)
some_display source n v e =
    let o = opened kind.OptionSome source n v e in
    let it = some_payload source (children_of n) (place_of n) o.place (node_text source n) o.children o.shape o.nodes o.spelled o.from in
    (it.0, it.1 ∙ display_opened kind.OptionSome source n o o.shape refl)

pub ok_display : (source : List ℕ) (n : NodeTree) → IsValueOf source n → type_of n ≡ kind.ResultOk → All (IsValueOf source) (children_of n) × (codes "ok" ++ payload_at source (children_of n) ≡ display_at source n)
ok_display source n v e =
    let o = opened kind.ResultOk source n v e in
    let it = ok_payload source (children_of n) (place_of n) o.place (node_text source n) o.children o.shape o.nodes o.spelled o.from in
    (it.0, it.1 ∙ display_opened kind.ResultOk source n o o.shape refl)

pub err_display : (source : List ℕ) (n : NodeTree) → IsValueOf source n → type_of n ≡ kind.ResultErr → All (IsValueOf source) (children_of n) × (codes "err" ++ payload_at source (children_of n) ≡ display_at source n)
err_display source n v e =
    let o = opened kind.ResultErr source n v e in
    let it = err_payload source (children_of n) (place_of n) o.place (node_text source n) o.children o.shape o.nodes o.spelled o.from in
    (it.0, it.1 ∙ display_opened kind.ResultErr source n o o.shape refl)

-- ---- keys, entries, flags and cases

-- the text of a key is that of its node
key_from : (ty : NodeType) (q : Range ℕ) (text : List ℕ) (cs : List SpannedTree) (t : SpannedTree) (p : Range ℕ) (key : Token) → From ty q text cs (shape_of t) → key_of t ≡ Some (p, key) → text ≡ text_of key
key_from ty q text cs (at r (label u w no_placed)) p key f e = sym f.2 ∙ ap (λ (k : Range ℕ × Token). text_of k.1) (some_is (u, token.label w) (p, key) e)
key_from ty q text cs (at r (one (token.number w))) p key f e = sym f.2 ∙ ap (λ (k : Range ℕ × Token). text_of k.1) (some_is (r, token.number w) (p, key) e)
key_from ty q text cs (at r (one (token.char w))) p key f e = sym f.2 ∙ ap (λ (k : Range ℕ × Token). text_of k.1) (some_is (r, token.char w) (p, key) e)
key_from ty q text cs (at r (one (token.string w))) p key f e = sym f.2 ∙ ap (λ (k : Range ℕ × Token). text_of k.1) (some_is (r, token.string w) (p, key) e)
key_from ty q text cs (at r (one (token.multiline w))) p key f e = sym f.2 ∙ ap (λ (k : Range ℕ × Token). text_of k.1) (some_is (r, token.multiline w) (p, key) e)
key_from ty q text cs _ p key f e = absurd (cc)

key_text : (source : List ℕ) (n : NodeTree) (t : SpannedTree) (p : Range ℕ) (key : Token) → placed_of source n ≡ Some t → key_of t ≡ Some (p, key) → node_text source n ≡ text_of key
key_text source n t p key is e = let i = inside source n t is in key_from (type_of n) (place_of n) (node_text source n) i.children t p key i.from e

-- the parts of what is there by both
both_of : {A B C : Type 0} (f : A → B → C) (a : Option A) (b : Option B) (c : C) → with_both f a b ≡ Some c → (x : A) × (y : B) × (a ≡ Some x) × (b ≡ Some y) × (f x y ≡ c)
both_of f (Some x) (Some y) c e = (x, y, refl, refl, some_is _ _ e)
both_of f (Some x) None c e = absurd (cc)
both_of f None (Some y) c e = absurd (cc)
both_of f None None c e = absurd (cc)

pairs_display : (source : List ℕ) (from to : ℕ) (ns : List NodeTree) (cs : List SpannedTree) (es : PlacedEntries) → AreParsed source ns cs → pairs_of cs ≡ Some es → SpellsEntries source from to es → AreEntriesOf source ns × (entries_at source ns ≡ display_entries (entries_of es))
pairs_display source from to [] [] es h e s = (tt, ap (λ (z : PlacedEntries). display_entries (entries_of z)) (some_is no_entries es e))
pairs_display source from to [] (c ∷ cs) es h e s = absurd h
pairs_display source from to (k ∷ ns) [] es h e s = absurd h
pairs_display source from to (k ∷ []) (c ∷ d ∷ cs) es h e s = absurd h.1
pairs_display source from to (k ∷ ns) (c ∷ []) es h e s = absurd (cc)
pairs_display source from to (k ∷ v ∷ ns) (c ∷ d ∷ cs) es h e s =
    let (key, rest, key_is, rest_is, whole) = both_of (λ (x : Range ℕ × Token) (more : PlacedEntries). entry x.0 x.1 d more) (key_of c) (pairs_of cs) es e in
    let spelled : SpellsEntries source from to (entry key.0 key.1 d rest) = subst (SpellsEntries source from to) (sym whole) s in
    let more = pairs_display source (span_of d).end to ns cs rest h.1.1 rest_is spelled.4 in
    let text : behind_name (node_text source k) (display_at source v) ≡ behind_name (text_of key.1) (display (tree_of d)) = λ i. behind_name (key_text source k c key.0 key.1 h.0 key_is i) (display_known source v d h.1.0 i) in (
      (inr (key.0, key.1, ((c, h.0, key_is), spelled.1)), (d, (h.1.0, spelled.3)), more.0),
      (λ i. text i ∷ more.1 i) ∙ ap (λ (z : PlacedEntries). display_entries (entries_of z)) whole,
    )

mapped : {A B : Type 0} (f : A → B) (o : Option A) (b : B) → option_map f o ≡ Some b → (a : A) × (o ≡ Some a) × (f a ≡ b)
mapped f (Some a) b e = (a, refl, some_is _ _ e)
mapped f None b e = absurd (cc)

fields_shape : (source : List ℕ) (ns : List NodeTree) (p r : Range ℕ) (text : List ℕ) (cs : List SpannedTree) (s : SpannedShape) → AreParsed source ns cs → SpellsEach source (at r s) → shape_from kind.TupleSet p text cs ≡ Some s →
    AreEntriesOf source ns × (braces_at source ns ≡ display (tree_of_shape s))
fields_shape source [] p r text [] s h k e = (tt, ap (λ (x : SpannedShape). display (tree_of_shape x)) (some_is no_fields s e))
fields_shape source [] p r text (c ∷ cs) s h k e = absurd h
fields_shape source (n ∷ ns) p r text [] s h k e = absurd h
fields_shape source (n ∷ ns) p r text (c ∷ cs) s h k e =
    let (es, is, shape) = mapped entries (pairs_of (c ∷ cs)) s e in
    let spelled : SpellsEach source (at r (entries es)) = subst (λ (x : SpannedShape). SpellsEach source (at r x)) (sym shape) k in
    let it = pairs_display source r.start r.end (n ∷ ns) (c ∷ cs) es h is spelled.1 in
    (it.0, ap (λ z. in_braces (joined z)) it.1 ∙ ap (λ (x : SpannedShape). display (tree_of_shape x)) shape)

pub fields_display : (source : List ℕ) (n : NodeTree) → IsValueOf source n → type_of n ≡ kind.TupleSet → AreEntriesOf source (children_of n) × (braces_at source (children_of n) ≡ display_at source n)
fields_display source n v e =
    let o = opened kind.TupleSet source n v e in
    let it = fields_shape source (children_of n) (place_of n) o.place (node_text source n) o.children o.shape o.nodes o.spelled o.from in
    (it.0, it.1 ∙ display_opened kind.TupleSet source n o o.shape refl)

names_display : (source : List ℕ) (p : Range ℕ) (ns : List NodeTree) (cs : List SpannedTree) (fs : List (Range ℕ × List ℕ)) → AreParsed source ns cs → flags_of cs ≡ Some fs → SpellsFlags source p fs → All (IsParsedFrom source) ns × (map (name_at source) ns ≡ map name_of (map (λ f. f.1) fs))
names_display source p [] [] fs h e s = ((λ k d lt. absurd (omega (arith, lt))), ap (λ (z : List (Range ℕ × List ℕ)). map name_of (map (λ f. f.1) z)) (some_is [] fs e))
names_display source p [] (c ∷ cs) fs h e s = absurd h
names_display source p (n ∷ ns) [] fs h e s = absurd h
names_display source p (n ∷ ns) (c ∷ cs) fs h e s =
    let (f, rest, flag_is, rest_is, whole) = both_of (λ (x : Range ℕ × List ℕ) (more : List (Range ℕ × List ℕ)). x ∷ more) (flag_of c) (flags_of cs) fs e in
    let spelled : SpellsFlags source p (f ∷ rest) = subst (SpellsFlags source p) (sym whole) s in
    let more = names_display source p ns cs rest h.1 rest_is spelled.2 in
    let key_is : key_of c ≡ Some (f.0, token.label f.1) = flag_key c f.0 f.1 flag_is in
    let name : name_at source n ≡ name_of f.1 = ap name_of (key_text source n c f.0 (token.label f.1) h.0 key_is) in (
      all_more (inr (f.0, token.label f.1, ((c, h.0, key_is), spelled.1))) more.0,
      (λ i. name i ∷ more.1 i) ∙ ap (λ (z : List (Range ℕ × List ℕ)). map name_of (map (λ g. g.1) z)) whole,
    )
  where
    all_more : IsParsedFrom source n → All (IsParsedFrom source) ns → All (IsParsedFrom source) (n ∷ ns)
    all_more here there zero d lt = here
    all_more here there (suc k) d lt = there k d (omega (arith, lt))

pub flags_display : (source : List ℕ) (n : NodeTree) → IsValueOf source n → type_of n ≡ kind.Flags → All (IsParsedFrom source) (children_of n) × (in_braces (joined (map (name_at source) (children_of n))) ≡ display_at source n)
flags_display source n v e =
    let o = opened kind.Flags source n v e in
    let (fs, is, shape) = mapped flags (flags_of o.children) o.shape o.from in
    let spelled : SpellsEach source (at o.place (flags fs)) = subst (λ (x : SpannedShape). SpellsEach source (at o.place x)) (sym shape) o.spelled in
    let it = names_display source o.place (children_of n) o.children fs o.nodes is spelled.1 in
    (it.0, ap (λ z. in_braces (joined z)) it.1 ∙ display_opened kind.Flags source n o (flags fs) shape)

-- a case: its label, its payload, and what shows it
pub record DisplayedCase (source : List ℕ) (n : NodeTree) : Type 0 where
  pub name : NodeTree
  pub payload : NodeTree
  pub children : children_of n ≡ name ∷ payload ∷ []
  pub named : IsParsedFrom source name
  pub value : IsValueOf source payload
  pub shows : case_label (name_at source name) ++ in_parens (display_at source payload) ≡ display_at source n

pub case_display : (source : List ℕ) (n : NodeTree) → IsValueOf source n → type_of n ≡ kind.VariantWithPayload → DisplayedCase source n
case_display source n v e =
    let o = opened kind.VariantWithPayload source n v e in
    let c = case_shape (place_of n) (node_text source n) o.children o.shape o.from in
    let k = pair_parsed source (children_of n) c.name c.payload (subst (λ (ts : List SpannedTree). AreParsed source (children_of n) ts) c.children o.nodes) in
    let spelled : SpellsEach source (at o.place (label c.place c.text (a_placed c.payload))) = subst (λ (x : SpannedShape). SpellsEach source (at o.place x)) c.shape o.spelled in
    let key_is = flag_key c.name c.place c.text c.labelled in
    let name : name_at source k.0 ≡ name_of c.text = ap name_of (key_text source k.0 c.name c.place (token.label c.text) k.3 key_is) in
    record {
      name = k.0;
      payload = k.1;
      children = k.2;
      named = inr (c.place, token.label c.text, ((c.name, k.3, key_is), spelled.1.1));
      value = (c.payload, (k.4, spelled.1.2.1));
      shows = (λ i. case_label (name i) ++ in_parens (display_known source k.1 c.payload k.4 i)) ∙ display_opened kind.VariantWithPayload source n o (label c.place c.text (a_placed c.payload)) (sym c.shape);
    }

-- ---- entries, one by one

-- a key's node has a value's node after it
pub entries_two : (source : List ℕ) (ns : List NodeTree) (i : ℕ) → i < length ns → AreEntriesOf source (drop i ns) → i + 1 < length ns
entries_two source [] i lt h = absurd (omega (arith, lt))
entries_two source (k ∷ []) zero lt h = absurd h
entries_two source (k ∷ v ∷ more) zero lt h = omega arith
entries_two source (n ∷ ns) (suc i) lt h = let k = entries_two source ns i (omega (arith, lt)) h in omega (arith, k)

-- the entry at a place
pub entry_at : (source : List ℕ) (ns : List NodeTree) (i : ℕ) (k v : NodeTree) → i + 1 < length ns → k ≡ get_or ns i k → v ≡ get_or ns (i + 1) v → drop i ns ≡ k ∷ v ∷ drop (i + 2) ns
entry_at source ns i k v lt first second =
    drop_more ns i k (omega (arith, lt)) ∙ (λ j. sym first j ∷ (drop_more ns (i + 1) v lt ∙ λ l. sym second l ∷ drop (plus l) ns) j)
  where
    plus : i + 1 + 1 ≡ i + 2
    plus = omega arith

-- ---- how deep children nest

trees_same : (ns : NodeTrees) → node_trees (node_list ns) ≡ ns
trees_same no_nodes = refl
trees_same (node_and n more) = ap (λ (z : NodeTrees). node_and n z) (trees_same more)

-- the children nest as deep as their node
pub children_deep : (n : NodeTree) (ns : List NodeTree) → ns ≡ children_of n → nodes_depth (node_trees ns) ≡ depth n
children_deep (node ty p cs) ns e = ap (λ (z : List NodeTree). nodes_depth (node_trees z)) e ∙ ap nodes_depth (trees_same cs)
