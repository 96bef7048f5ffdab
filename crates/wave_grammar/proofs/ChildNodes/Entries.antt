-- The entries of records and maps, one by one.
use Rattle.std.proofs.Common.{ℕ, ◌≡◌, ◌≢◌, ◌⊎◌, inl, inr, ◌≤◌, ◌<◌, ◌+◌, ◌*◌, ◌/◌, List, [], ◌∷◌, length, Option, Some, None, option_map, refl, sym, subst, arith}
use Rattle.std.specs.declared.ops.Range.{Range}
use Rattle.wave_grammar.specs.Token.{Token}
use Rattle.wave_grammar.specs.SpannedTree.{SpannedTree, SpannedShape, at, entries, empty_braces, no_fields, PlacedEntries, no_entries, entry, PlacedEntry, entry_list, slice, span_of, shape_of, SpellsEach, SpellsEntries}
use Rattle.wave_grammar.specs.TypeErrors.{map_in}
use Rattle.wave_grammar.specs.NodeTree.{NodeTree, type_of, place_of, children_of}
use Rattle.wave_grammar.specs.Nodes.{placed_of, shape_from, pairs_of, key_of, with_both, IsNodeOf, IsTokenOf}
use Rattle.wave_grammar.specs.NodeAccessors.{node_pairs}
use Rattle.wave_grammar.proofs.ChildNodes.Inside.{From, Inside, inside, some_is, AreParsed, all_parsed}
use Rattle.wave_grammar.proofs.ChildNodes.Cases.{shape_at}
use Rattle.wave_grammar.specs.declared.form.NodeType.{NodeType}
use Rattle.wave_grammar.specs.declared.form.NodeType.TheVariants as kind

-- two nodes are a pair
pairs_fit : (ns : List NodeTree) → (2 * length (node_pairs ns) ≤ length ns) × (length ns < 2 * length (node_pairs ns) + 2)
pairs_fit [] = (omega arith, omega arith)
pairs_fit (k ∷ []) = (omega arith, omega arith)
pairs_fit (k ∷ v ∷ more) = let h = pairs_fit more in (omega (arith, h.0), omega (arith, h.1))

-- how many pairs there are
pub pairs_count : (ns : List NodeTree) → length ns / 2 ≡ length (node_pairs ns)
pairs_count ns = let h = pairs_fit ns in omega (arith, h.0, h.1)

pub both_some : {A B C : Type 0} (f : A → B → C) (a : Option A) (b : Option B) (c : C) → with_both f a b ≡ Some c → (x : A) × (y : B) × (a ≡ Some x) × (b ≡ Some y) × (c ≡ f x y)
both_some f (Some x) (Some y) c e = (x, y, refl, refl, sym (some_is _ _ e))
both_some f (Some x) None c e = absurd (cc)
both_some f None b c e = absurd (cc)

-- the pairs of nodes are the keys and the values of the entries
abbrev pub AreEntriesOf : List ℕ → List (NodeTree × NodeTree) → List PlacedEntry → Type 0
AreEntriesOf source [] [] = Unit {0}
AreEntriesOf source (n ∷ ns) (e ∷ es) = IsTokenOf source n.0 e.place e.key × IsNodeOf source n.1 e.value × AreEntriesOf source ns es
AreEntriesOf source _ _ = ⊥

spelled_entries : (source : List ℕ) (ns : List NodeTree) (cs : List SpannedTree) (es : PlacedEntries) (from to : ℕ) → AreParsed source ns cs → pairs_of cs ≡ Some es → SpellsEntries source from to es → AreEntriesOf source (node_pairs ns) (entry_list es)
spelled_entries source [] [] es from to h e s = subst (λ (x : PlacedEntries). AreEntriesOf source [] (entry_list x)) (some_is no_entries es e) tt
spelled_entries source [] (c ∷ cs) es from to h e s = absurd h
spelled_entries source (n ∷ ns) [] es from to h e s = absurd h
spelled_entries source (n ∷ ns) (k ∷ []) es from to h e s = absurd (cc)
spelled_entries source (n ∷ []) (k ∷ v ∷ cs) es from to h e s = absurd h.1
spelled_entries source (n ∷ m ∷ ns) (k ∷ v ∷ cs) es from to h e s =
    let b = both_some (λ (key : Range ℕ × Token) (rest : PlacedEntries). entry key.0 key.1 v rest) (key_of k) (pairs_of cs) es e in
    let spelled : SpellsEntries source from to (entry b.0.0 b.0.1 v b.1) = subst (SpellsEntries source from to) b.4 s in
    subst (λ (x : PlacedEntries). AreEntriesOf source (node_pairs (n ∷ m ∷ ns)) (entry_list x)) (sym b.4) (((k, h.0, b.2), spelled.1), (h.1.0, spelled.3), spelled_entries source ns cs b.1 (span_of v).end to h.1.1 b.3 spelled.4)

-- the tree of a map: `{}` or `{:}` without entries, or entries
abbrev pub IsOfMap : SpannedShape → PlacedEntries → Type 0
IsOfMap s es = ((s ≡ empty_braces) ⊎ (s ≡ no_fields)) × (es ≡ no_entries) ⊎ (s ≡ entries es) × (0 < length (entry_list es))

pub entries_are : (o : Option PlacedEntries) (s : SpannedShape) → option_map entries o ≡ Some s → (es : PlacedEntries) × (o ≡ Some es) × (s ≡ entries es)
entries_are (Some es) s e = (es, refl, sym (some_is _ _ e))
entries_are None s e = absurd (cc)

some_pair : (k : SpannedTree) (cs : List SpannedTree) (es : PlacedEntries) → pairs_of (k ∷ cs) ≡ Some es → 0 < length (entry_list es)
some_pair k [] es e = absurd (cc)
some_pair k (v ∷ cs) es e =
    let b = both_some (λ (key : Range ℕ × Token) (rest : PlacedEntries). entry key.0 key.1 v rest) (key_of k) (pairs_of cs) es e in
    rw b.4 (omega arith)

set_shape : (p : Range ℕ) (text : List ℕ) (cs : List SpannedTree) (s : SpannedShape) → shape_from kind.TupleSet p text cs ≡ Some s → (es : PlacedEntries) × (pairs_of cs ≡ Some es) × IsOfMap s es
set_shape p text [] s e = (no_entries, refl, inl (inr (sym (some_is _ _ e)), refl))
set_shape p text (k ∷ cs) s e =
    let b = entries_are (pairs_of (k ∷ cs)) s e in
    (b.0, b.1, inr (b.2, some_pair k cs b.0 b.1))

empty_shape : (p : Range ℕ) (text : List ℕ) (cs : List SpannedTree) (s : SpannedShape) → shape_from kind.EmptySet p text cs ≡ Some s → (es : PlacedEntries) × (pairs_of cs ≡ Some es) × IsOfMap s es
empty_shape p text [] s e = (no_entries, refl, inl (inl (sym (some_is _ _ e)), refl))
empty_shape p text (k ∷ cs) s e = absurd (cc)

-- the entries of a node of braces
pub record MapNodes (source : List ℕ) (n : NodeTree) (t : SpannedTree) : Type 0 where
  pub given : PlacedEntries
  pub shape : IsOfMap (shape_of t) given
  pub nodes : AreEntriesOf source (node_pairs (children_of n)) (entry_list given)

entries_nodes : (source : List ℕ) (n : NodeTree) (r : Range ℕ) (s : SpannedShape) (i : Inside source n (at r s)) (es : PlacedEntries) → pairs_of i.children ≡ Some es → IsOfMap s es → SpellsEach source (at r s) → AreEntriesOf source (node_pairs (children_of n)) (entry_list es)
entries_nodes source n r s i es pairs (inl h) spelled =
    let both : AreParsed source (children_of n) i.children = all_parsed source n (at r s) i in
    spelled_entries source (children_of n) i.children es r.start r.end both pairs (subst (SpellsEntries source r.start r.end) (sym h.1) tt)
entries_nodes source n r s i es pairs (inr h) spelled =
    let both : AreParsed source (children_of n) i.children = all_parsed source n (at r s) i in
    let all : SpellsEach source (at r (entries es)) = subst (λ (x : SpannedShape). SpellsEach source (at r x)) h.0 spelled in
    spelled_entries source (children_of n) i.children es r.start r.end both pairs all.1

pub map_nodes : (source : List ℕ) (n : NodeTree) (t : SpannedTree) → IsNodeOf source n t → (type_of n ≡ kind.TupleSet) ⊎ (type_of n ≡ kind.EmptySet) → MapNodes source n t
map_nodes source n (at r s) h (inl e) =
    let i = inside source n (at r s) h.0 in
    let c = set_shape (place_of n) (slice source (place_of n)) i.children s (shape_at kind.TupleSet source n (at r s) i e) in
    record { given = c.0; shape = c.2; nodes = entries_nodes source n r s i c.0 c.1 c.2 h.1 }
map_nodes source n (at r s) h (inr e) =
    let i = inside source n (at r s) h.0 in
    let c = empty_shape (place_of n) (slice source (place_of n)) i.children s (shape_at kind.EmptySet source n (at r s) i e) in
    record { given = c.0; shape = c.2; nodes = entries_nodes source n r s i c.0 c.1 c.2 h.1 }

-- what the tree gives as entries
pub map_given : (s : SpannedShape) (es : PlacedEntries) → IsOfMap s es → map_in s ≡ Some (entry_list es)
map_given s es (inl (inl e, none)) = rw (e, none) refl
map_given s es (inl (inr e, none)) = rw (e, none) refl
map_given s es (inr h) = rw h.0 refl

not_map : (ty : NodeType) (p : Range ℕ) (text : List ℕ) (cs : List SpannedTree) (s : SpannedShape) → From ty p text cs s → ty ≢ kind.TupleSet → ty ≢ kind.EmptySet → map_in s ≡ None
not_map ty p text cs (entries es) f set empty = absurd (set f.0)
not_map ty p text cs no_fields f set empty = absurd (set f.0)
not_map ty p text cs empty_braces f set empty = absurd (empty f.0)
not_map ty p text cs _ f set empty = refl

-- a node of another form gives no entries
pub no_map : (source : List ℕ) (n : NodeTree) (t : SpannedTree) → placed_of source n ≡ Some t → type_of n ≢ kind.TupleSet → type_of n ≢ kind.EmptySet → map_in (shape_of t) ≡ None
no_map source n t e set empty =
    let i = inside source n t e in
    not_map (type_of n) (place_of n) (slice source (place_of n)) i.children (shape_of t) i.from set empty
