-- The labels of a node of flags.
use Rattle.std.proofs.Common.{ℕ, zero, suc, ◌≡◌, ◌≢◌, ◌⊎◌, inl, inr, Bool, true, false, if◌then◌else◌, List, [], ◌∷◌, map, Option, Some, None, option_map, refl, sym, ap, ◌∙◌, subst}
use Rattle.std.specs.declared.ops.Range.{Range}
use Rattle.wave_wasm.specs.Names.{IsNoneOf, AreDistinct}
use Rattle.wave_grammar.specs.Token.{Token}
use Rattle.wave_grammar.specs.Token as token
use Rattle.wave_grammar.specs.Tree as form
use Rattle.wave_grammar.specs.Tree.{Word, SpellsTree, Takes, BehindWord, is_before, put_in_order, in_order, word_of}
use Rattle.wave_grammar.specs.LeafTokens.{name_of}
use Rattle.wave_grammar.specs.SpannedTree.{SpannedTree, SpannedShape, at, empty_braces, flags, slice, shape_of, SpellsEach, SpellsFlags}
use Rattle.wave_grammar.specs.NodeTree.{NodeTree, type_of, place_of, children_of}
use Rattle.wave_grammar.specs.Nodes.{placed_of, shape_from, flag_of, flags_of, key_of, with_both, IsNodeOf, IsParsedFrom}
use Rattle.wave_grammar.specs.NodeAccessors.{node_text}
use Rattle.wave_grammar.specs.NodeFlags.{names_at, AreFlags, AreInOrder, AreAllParsed}
use Rattle.wave_grammar.proofs.ChildNodes.Inside.{inside, some_is, flag_key, AreParsed, all_parsed}
use Rattle.wave_grammar.proofs.ChildNodes.Cases.{shape_at}
use Rattle.wave_grammar.proofs.ByKind.Variants.{flag_text}
use Rattle.wave_grammar.proofs.NodeMeaning.FlagOrder.{total}
use Rattle.wave_wasm.proofs.CanonicalText.ValueParts.{map_map}
use Rattle.wave_grammar.specs.declared.form.NodeType.TheVariants as kind

-- ---- labels in order

none_put : (name text : List ℕ) (us : List (List ℕ)) → name ≢ name_of text → IsNoneOf (map name_of us) name → IsNoneOf (map name_of (put_in_order text us)) name
none_put name text [] apart none = (apart, tt)
none_put name text (other ∷ more) apart none = by_test (is_before (name_of text) (name_of other)) (none_put name text more apart none.1)
  where
    by_test : (b : Bool) → IsNoneOf (map name_of (put_in_order text more)) name → IsNoneOf (map name_of (if b then text ∷ other ∷ more else other ∷ put_in_order text more)) name
    by_test true h = (apart, none)
    by_test false h = (none.0, h)

none_sorted : (name : List ℕ) (us : List (List ℕ)) → IsNoneOf (map name_of us) name → IsNoneOf (map name_of (in_order us)) name
none_sorted name [] none = tt
none_sorted name (text ∷ more) none = none_put name text (in_order more) none.0 (none_sorted name more none.1)

put_behind : (other text : List ℕ) (us : List (List ℕ)) → is_before (name_of other) (name_of text) ≡ true → IsNoneOf (map name_of us) (name_of text) → AreInOrder (name_of other ∷ map name_of us) → AreInOrder (name_of other ∷ map name_of (put_in_order text us))
put_behind other text [] before none sorted = (before, tt)
put_behind other text (next ∷ more) before none sorted = by_test (is_before (name_of text) (name_of next)) refl (λ later. put_behind next text more later none.1 sorted.1)
  where
    by_test : (b : Bool) → is_before (name_of text) (name_of next) ≡ b
        → (is_before (name_of next) (name_of text) ≡ true → AreInOrder (name_of next ∷ map name_of (put_in_order text more)))
        → AreInOrder (name_of other ∷ map name_of (if b then text ∷ next ∷ more else next ∷ put_in_order text more))
    by_test true is later = (before, (is, sorted.1))
    by_test false is later = (sorted.0, later (total (name_of text) (name_of next) none.0 is))

put_sorted : (text : List ℕ) (us : List (List ℕ)) → IsNoneOf (map name_of us) (name_of text) → AreInOrder (map name_of us) → AreInOrder (map name_of (put_in_order text us))
put_sorted text [] none sorted = tt
put_sorted text (other ∷ more) none sorted = by_test (is_before (name_of text) (name_of other)) refl
  where
    by_test : (b : Bool) → is_before (name_of text) (name_of other) ≡ b → AreInOrder (map name_of (if b then text ∷ other ∷ more else other ∷ put_in_order text more))
    by_test true is = (is, sorted)
    by_test false is = put_behind other text more (total (name_of text) (name_of other) none.0 is) none.1 sorted

all_sorted : (us : List (List ℕ)) → AreDistinct (map name_of us) → AreInOrder (map name_of (in_order us))
all_sorted [] distinct = tt
all_sorted (text ∷ more) distinct = put_sorted text (in_order more) (none_sorted (name_of text) more distinct.0) (all_sorted more distinct.1)

no_word : (w : Word) (text : List ℕ) (n : ℕ) (behind rest : List Token) (us : List (List ℕ)) → BehindWord w text (Takes n) behind (form.flags us) rest → ⊥
no_word form.leaf_word text n behind rest us h = cc
no_word form.none_word text n behind rest us h = cc
no_word form.some_word text n behind rest us h = absurd (cc h.2)
no_word form.ok_word text n behind rest us h = absurd (cc h.2)
no_word form.err_word text n behind rest us h = absurd (cc h.2)
no_word form.case_word text n behind rest us h = absurd (cc h.2)

pub same_flags : (us ws : List (List ℕ)) → form.flags us ≡ form.flags ws → us ≡ ws
same_flags us ws e = cc

spelled_flags : (n : ℕ) (tokens rest : List Token) (us : List (List ℕ)) → Takes n tokens (form.flags us) rest → AreInOrder (map name_of us)
spelled_flags zero tokens rest us h = absurd h
spelled_flags (suc n) (token.paren_open ∷ prefix) rest us h = absurd (cc h.3)
spelled_flags (suc n) (token.bracket_open ∷ prefix) rest us h = absurd (cc h.2)
spelled_flags (suc n) (token.brace_open ∷ prefix) rest us (inl h) = absurd (cc h.1)
spelled_flags (suc n) (token.brace_open ∷ prefix) rest us (inr (inl h)) = absurd (cc h.1)
spelled_flags (suc n) (token.brace_open ∷ prefix) rest us (inr (inr (inl h))) = absurd (cc h.3)
spelled_flags (suc n) (token.brace_open ∷ prefix) rest us (inr (inr (inr (ws, some, items, distinct, e)))) =
    subst (λ (l : List (List ℕ)). AreInOrder (map name_of l)) (sym (same_flags us (in_order ws) e)) (all_sorted ws distinct)
spelled_flags (suc n) (token.label text ∷ behind) rest us h = absurd (no_word (word_of text) text n behind rest us h)
spelled_flags (suc n) (token.number text ∷ behind) rest us h = absurd (cc h.1)
spelled_flags (suc n) (token.char text ∷ behind) rest us h = absurd (cc h.1)
spelled_flags (suc n) (token.string text ∷ behind) rest us h = absurd (cc h.1)
spelled_flags (suc n) (token.multiline text ∷ behind) rest us h = absurd (cc h.1)
spelled_flags (suc n) _ rest us h = absurd h

-- ---- the node

-- a node of flags or `{}`: its labels
pub record FlagsNode (source : List ℕ) (n : NodeTree) (t : SpannedTree) : Type 0 where
  pub labels : List (Range ℕ × List ℕ)
  pub form : (shape_of t ≡ empty_braces) × (labels ≡ []) ⊎ (shape_of t ≡ flags labels)
  pub parsed : AreAllParsed source (children_of n)
  pub names : names_at source (children_of n) ≡ map (λ f. name_of f.1) labels
  pub ordered : AreInOrder (names_at source (children_of n))

flags_shape : (p : Range ℕ) (text : List ℕ) (cs : List SpannedTree) (s : SpannedShape) (o : Option (List (Range ℕ × List ℕ))) → flags_of cs ≡ o → option_map flags o ≡ Some s → (fs : List (Range ℕ × List ℕ)) × (flags_of cs ≡ Some fs) × (s ≡ flags fs)
flags_shape p text cs s (Some fs) is e = (fs, is, sym (some_is _ _ e))
flags_shape p text cs s None is e = absurd (cc)

empty_shape : (p : Range ℕ) (text : List ℕ) (cs : List SpannedTree) (s : SpannedShape) → shape_from kind.EmptySet p text cs ≡ Some s → (cs ≡ []) × (s ≡ empty_braces)
empty_shape p text [] s e = (refl, sym (some_is _ _ e))
empty_shape p text (c ∷ more) s e = absurd (cc)

flags_both : (a : Option (Range ℕ × List ℕ)) (b : Option (List (Range ℕ × List ℕ))) (fs : List (Range ℕ × List ℕ)) → with_both (λ f more. f ∷ more) a b ≡ Some fs → (f : Range ℕ × List ℕ) × (more : List (Range ℕ × List ℕ)) × (a ≡ Some f) × (b ≡ Some more) × (fs ≡ f ∷ more)
flags_both (Some f) (Some more) fs e = (f, more, refl, refl, sym (some_is _ _ e))
flags_both (Some f) None fs e = absurd (cc)
flags_both None (Some more) fs e = absurd (cc)
flags_both None None fs e = absurd (cc)

labels_parsed : (source : List ℕ) (p : Range ℕ) (ns : List NodeTree) (cs : List SpannedTree) (fs : List (Range ℕ × List ℕ)) → AreParsed source ns cs → flags_of cs ≡ Some fs → SpellsFlags source p fs → AreAllParsed source ns × (names_at source ns ≡ map (λ f. name_of f.1) fs)
labels_parsed source p [] [] fs h is spelled = (tt, ap (map (λ f. name_of f.1)) (some_is _ _ is))
labels_parsed source p [] (c ∷ cs) fs h is spelled = absurd h
labels_parsed source p (n ∷ ns) [] fs h is spelled = absurd h
labels_parsed source p (n ∷ ns) (c ∷ cs) fs h is spelled =
    let b = flags_both (flag_of c) (flags_of cs) fs is in
    let each : SpellsFlags source p (b.0 ∷ b.1) = subst (SpellsFlags source p) b.4 spelled in
    let rest = labels_parsed source p ns cs b.1 h.1 b.3 each.2 in
    let own : IsParsedFrom source n = inr (b.0.0, token.label b.0.1, ((c, h.0, flag_key c b.0.0 b.0.1 b.2), each.1)) in
    let name : name_of (node_text source n) ≡ name_of b.0.1 = ap name_of (sym (flag_text source n c b.0.0 b.0.1 (inside source n c h.0) b.2)) in
    ((own, rest.0), (λ i. name i ∷ rest.1 i) ∙ ap (map (λ f. name_of f.1)) (sym b.4))

flags_node : (source : List ℕ) (n : NodeTree) (t : SpannedTree) → IsNodeOf source n t → type_of n ≡ kind.Flags → FlagsNode source n t
flags_node source n (at r s) h e =
    let i = inside source n (at r s) h.0 in
    let c = flags_shape (place_of n) (slice source (place_of n)) i.children s (flags_of i.children) refl (shape_at kind.Flags source n (at r s) i e) in
    let spelled : SpellsEach source (at r (flags c.0)) = subst (λ (x : SpannedShape). SpellsEach source (at r x)) c.2 h.1 in
    let nodes : AreParsed source (children_of n) i.children = all_parsed source n (at r s) i in
    let both = labels_parsed source r (children_of n) i.children c.0 nodes c.1 spelled.1 in
    let sorted : AreInOrder (map name_of (map (λ (f : Range ℕ × List ℕ). f.1) c.0)) = spelled_flags spelled.0.2.0 spelled.0.0 [] (map (λ (f : Range ℕ × List ℕ). f.1) c.0) spelled.0.2.1 in
    record { labels = c.0; form = inr c.2; parsed = both.0; names = both.1; ordered = subst AreInOrder (sym (both.1 ∙ sym (map_map name_of (λ (f : Range ℕ × List ℕ). f.1) c.0))) sorted }

empty_node : (source : List ℕ) (n : NodeTree) (t : SpannedTree) → IsNodeOf source n t → type_of n ≡ kind.EmptySet → FlagsNode source n t
empty_node source n t h e =
    let i = inside source n t h.0 in
    let c = empty_shape (place_of n) (slice source (place_of n)) i.children (shape_of t) (shape_at kind.EmptySet source n t i e) in
    let nodes : AreParsed source (children_of n) [] = subst (AreParsed source (children_of n)) c.0 (all_parsed source n t i) in
    let none : children_of n ≡ [] = no_nodes (children_of n) nodes in
    record { labels = []; form = inl (c.1, refl); parsed = subst (AreAllParsed source) (sym none) tt; names = ap (names_at source) none; ordered = subst (λ (ns : List NodeTree). AreInOrder (names_at source ns)) (sym none) tt }
  where
    no_nodes : (ns : List NodeTree) → AreParsed source ns [] → ns ≡ []
    no_nodes [] h = refl
    no_nodes (n ∷ ns) h = absurd h

-- the labels of a node of flags or `{}`
pub flags_given : (source : List ℕ) (n : NodeTree) (t : SpannedTree) → IsNodeOf source n t → AreFlags n → FlagsNode source n t
flags_given source n t h (inl e) = flags_node source n t h e
flags_given source n t h (inr e) = empty_node source n t h e

key_no_flags : (source : List ℕ) (n : NodeTree) (t : SpannedTree) (p : Range ℕ) (key : Token) → placed_of source n ≡ Some t → key_of t ≡ Some (p, key) → AreFlags n → ⊥
key_no_flags source n (at r s) p key is k (inl e) =
    let i = inside source n (at r s) is in
    let c = flags_shape (place_of n) (slice source (place_of n)) i.children s (flags_of i.children) refl (shape_at kind.Flags source n (at r s) i e) in
    cc (sym (ap (λ (x : SpannedShape). key_of (at r x)) c.2) ∙ k)
key_no_flags source n (at r s) p key is k (inr e) =
    let i = inside source n (at r s) is in
    let c = empty_shape (place_of n) (slice source (place_of n)) i.children s (shape_at kind.EmptySet source n (at r s) i e) in
    cc (sym (ap (λ (x : SpannedShape). key_of (at r x)) c.1) ∙ k)

-- the labels are parsed from the source
pub labels_of : (source : List ℕ) (n : NodeTree) → IsParsedFrom source n → AreFlags n → AreAllParsed source (children_of n)
labels_of source n (inl v) e = (flags_given source n v.0 v.1 e).parsed
labels_of source n (inr k) e = absurd (key_no_flags source n k.2.0.0 k.0 k.1 k.2.0.1 k.2.0.2 e)

-- their names are in order
pub labels_ordered : (source : List ℕ) (n : NodeTree) → IsParsedFrom source n → AreFlags n → AreInOrder (names_at source (children_of n))
labels_ordered source n (inl v) e = (flags_given source n v.0 v.1 e).ordered
labels_ordered source n (inr k) e = absurd (key_no_flags source n k.2.0.0 k.0 k.1 k.2.0.1 k.2.0.2 e)
