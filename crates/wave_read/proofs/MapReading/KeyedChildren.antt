-- Children that are keys and values in turn.
use Rattle.std.proofs.Common.{ℕ, zero, suc, ◌≡◌, ◌+◌, List, [], ◌∷◌, ◌++◌, length, Option, Some, None, option_map, refl, sym, ap, ◌∙◌, subst, arith}
use Rattle.std.specs.declared.ops.Range.{Range}
use Rattle.std.proofs.lemmas.List.{append-nil}
use Rattle.wave_wasm.specs.Lists.{AllOf}
use Rattle.wave_grammar.specs.Token.{Token}
use Rattle.wave_grammar.specs.SpannedTree.{SpannedTree, SpannedShape, PlacedEntries, entry, entries, PlacedEntry, entry_list, slice, shape_of}
use Rattle.wave_grammar.specs.NodeTree.{NodeTree, node, node_trees, type_of, children_of}
use Rattle.wave_grammar.specs.Nodes.{pairs_of, key_of, shape_from, IsNodeOf, IsTokenOf}
use Rattle.wave_grammar.specs.NodeAccessors.{node_pairs}
use Rattle.wave_grammar.specs.TypedReading.{IsValueOf}
use Rattle.wave_grammar.specs.declared.form.NodeType.TheVariants as kind
use Rattle.wave_grammar.proofs.ByKind.Lists.{HasAt}
use Rattle.wave_grammar.proofs.ByKind.Tuples.{all_has}
use Rattle.wave_grammar.proofs.ChildNodes.Inside.{inside, AreParsed, parsed, nodes_in, some_is}
use Rattle.wave_grammar.proofs.ChildNodes.Trees.{list_of_trees}
use Rattle.wave_grammar.proofs.ChildNodes.Cases.{shape_at}
use Rattle.wave_grammar.proofs.ChildNodes.Entries.{AreEntriesOf, both_some}
use Rattle.wave_grammar.proofs.Fields.Entries.{record_nodes}
use Rattle.wave_grammar.proofs.Fields.Lookup.{entry_has}
use Rattle.wave_grammar.proofs.ErrorSpans.Nodes.{PairBelongs, entries_belong}
use Rattle.wave_read.specs.RecordParts.{last_key}
use Rattle.wave_read.proofs.RecordReading.Fields.{has_behind}

-- ---- keys

-- a key after pairs is in no pair
pub pairs_with_key : (children : List NodeTree) (k : NodeTree) (half : ℕ) → length children ≡ half + half → node_pairs (children ++ k ∷ []) ≡ node_pairs children
pairs_with_key [] k half even = refl
pairs_with_key (a ∷ []) k half even = absurd (omega (arith, even))
pairs_with_key (a ∷ b ∷ children) k zero even = absurd (omega (arith, even))
pairs_with_key (a ∷ b ∷ children) k (suc half) even = ap (λ (ps : List (NodeTree × NodeTree)). (a, b) ∷ ps) (pairs_with_key children k half (omega (arith, even)))

-- it waits
pub key_waits : (children : List NodeTree) (k : NodeTree) (half : ℕ) → length children ≡ half + half → last_key (children ++ k ∷ []) ≡ Some k
key_waits [] k half even = refl
key_waits (a ∷ []) k half even = absurd (omega (arith, even))
key_waits (a ∷ b ∷ children) k zero even = absurd (omega (arith, even))
key_waits (a ∷ b ∷ children) k (suc half) even = key_waits children k half (omega (arith, even))

-- what stands after it is its value
pub pairs_behind_key : (children : List NodeTree) (k v : NodeTree) (more : List NodeTree) (half : ℕ) → length children ≡ half + half → node_pairs ((children ++ k ∷ []) ++ v ∷ more) ≡ node_pairs children ++ (k, v) ∷ node_pairs more
pairs_behind_key [] k v more half even = refl
pairs_behind_key (a ∷ []) k v more half even = absurd (omega (arith, even))
pairs_behind_key (a ∷ b ∷ children) k v more zero even = absurd (omega (arith, even))
pairs_behind_key (a ∷ b ∷ children) k v more (suc half) even = ap (λ (ps : List (NodeTree × NodeTree)). (a, b) ∷ ps) (pairs_behind_key children k v more half (omega (arith, even)))

-- ---- values

-- a value after the key that waits makes a pair
pub pairs_behind_value : (children : List NodeTree) (k v : NodeTree) (more : List NodeTree) → last_key children ≡ Some k → node_pairs ((children ++ v ∷ []) ++ more) ≡ node_pairs children ++ (k, v) ∷ node_pairs more
pairs_behind_value [] k v more waits = absurd (cc)
pairs_behind_value (a ∷ []) k v more waits = ap (λ (c : NodeTree). (c, v) ∷ node_pairs more) (some_is a k waits)
pairs_behind_value (a ∷ b ∷ children) k v more waits = ap (λ (ps : List (NodeTree × NodeTree)). (a, b) ∷ ps) (pairs_behind_value children k v more waits)

-- so without more after it
pub pairs_with_value : (children : List NodeTree) (k v : NodeTree) → last_key children ≡ Some k → node_pairs (children ++ v ∷ []) ≡ node_pairs children ++ (k, v) ∷ []
pairs_with_value children k v waits = ap node_pairs (sym (append-nil (children ++ v ∷ []))) ∙ pairs_behind_value children k v [] waits

-- and no key waits after it
pub none_waits : (children : List NodeTree) (k v : NodeTree) → last_key children ≡ Some k → last_key (children ++ v ∷ []) ≡ None
none_waits [] k v waits = absurd (cc)
none_waits (a ∷ []) k v waits = refl
none_waits (a ∷ b ∷ children) k v waits = none_waits children k v waits

-- after an odd number of children a key waits
pub odd_waits : (children : List NodeTree) (half : ℕ) → length children ≡ half + half + 1 → last_key children ≡ None → ⊥
odd_waits [] half odd none = omega (arith, odd)
odd_waits (a ∷ []) half odd none = cc
odd_waits (a ∷ b ∷ children) zero odd none = omega (arith, odd)
odd_waits (a ∷ b ∷ children) (suc half) odd none = odd_waits children half (omega (arith, odd)) none

-- ---- the node

-- as many keys as values
abbrev pub ArePaired : List NodeTree → Type 0
ArePaired [] = Unit {0}
ArePaired (k ∷ []) = ⊥
ArePaired (k ∷ v ∷ more) = ArePaired more

paired_by : (source : List ℕ) (ns : List NodeTree) (cs : List SpannedTree) (es : PlacedEntries) → AreParsed source ns cs → pairs_of cs ≡ Some es → ArePaired ns
paired_by source [] cs es h e = tt
paired_by source (k ∷ []) [] es h e = absurd h
paired_by source (k ∷ []) (c ∷ []) es h e = absurd (cc)
paired_by source (k ∷ []) (c ∷ d ∷ cs) es h e = absurd h.1
paired_by source (k ∷ v ∷ more) [] es h e = absurd h
paired_by source (k ∷ v ∷ more) (c ∷ []) es h e = absurd h.1
paired_by source (k ∷ v ∷ more) (c ∷ d ∷ cs) es h e =
    let b = both_some (λ (key : Range ℕ × Token) (rest : PlacedEntries). entry key.0 key.1 d rest) (key_of c) (pairs_of cs) es e in
    paired_by source more cs b.1 h.1.1 b.3

given_pairs : (o : Option PlacedEntries) (s : SpannedShape) → option_map entries o ≡ Some s → (es : PlacedEntries) × (o ≡ Some es)
given_pairs (Some es) s e = (es, refl)
given_pairs None s e = absurd (cc)

pub paired_from : (source : List ℕ) (p : Range ℕ) (text : List ℕ) (ns : List NodeTree) (cs : List SpannedTree) (s : SpannedShape) → AreParsed source ns cs → shape_from kind.TupleSet p text cs ≡ Some s → ArePaired ns
paired_from source p text [] cs s h e = tt
paired_from source p text (n ∷ ns) [] s h e = absurd h
paired_from source p text (n ∷ ns) (c ∷ cs) s h e =
    let b = given_pairs (pairs_of (c ∷ cs)) s e in
    paired_by source (n ∷ ns) (c ∷ cs) b.0 h b.1

paired : (source : List ℕ) (ns : List NodeTree) (p : Range ℕ) (t : SpannedTree) → IsNodeOf source (node kind.TupleSet p (node_trees ns)) t → ArePaired ns
paired source ns p t h =
    let n : NodeTree = node kind.TupleSet p (node_trees ns) in
    let i = inside source n t h.0 in
    let each : AreParsed source ns i.children = subst (λ (l : List NodeTree). AreParsed source l i.children) (list_of_trees ns) (parsed source (nodes_in n) i.children i.each) in
    paired_from source p (slice source p) ns i.children (shape_of t) each (shape_at kind.TupleSet source n t i refl)

key_alone : (children : List NodeTree) (k : NodeTree) (half : ℕ) → length children ≡ half + half → ArePaired (children ++ k ∷ []) → ⊥
key_alone [] k half even h = h
key_alone (a ∷ []) k half even h = omega (arith, even)
key_alone (a ∷ b ∷ children) k zero even h = omega (arith, even)
key_alone (a ∷ b ∷ children) k (suc half) even h = key_alone children k half (omega (arith, even)) h

-- the entry of this key and this value stands after these in the node
abbrev pub StandsBehind : NodeTree → List NodeTree → NodeTree → NodeTree → Type 0
StandsBehind n children k v = (rest : List (NodeTree × NodeTree)) × (node_pairs (children_of n) ≡ node_pairs children ++ (k, v) ∷ rest)

-- so does that of a key, with some value
pub key_stands : (source : List ℕ) (children : List NodeTree) (k : NodeTree) (more : List NodeTree) (half : ℕ) (p : Range ℕ) (t : SpannedTree) → length children ≡ half + half → IsNodeOf source (node kind.TupleSet p (node_trees ((children ++ k ∷ []) ++ more))) t → (v : NodeTree) × StandsBehind (node kind.TupleSet p (node_trees ((children ++ k ∷ []) ++ more))) children k v
key_stands source children k [] half p t even is =
    absurd (key_alone children k half even (subst ArePaired (append-nil (children ++ k ∷ [])) (paired source ((children ++ k ∷ []) ++ []) p t is)))
key_stands source children k (v ∷ more) half p t even is =
    (v, (node_pairs more, ap node_pairs (list_of_trees ((children ++ k ∷ []) ++ v ∷ more)) ∙ pairs_behind_key children k v more half even))

-- so does that of a value after the key that waits
pub value_stands : (children : List NodeTree) (k v : NodeTree) (more : List NodeTree) (p : Range ℕ) → last_key children ≡ Some k → StandsBehind (node kind.TupleSet p (node_trees ((children ++ v ∷ []) ++ more))) children k v
value_stands children k v more p waits =
    (node_pairs more, ap node_pairs (list_of_trees ((children ++ v ∷ []) ++ more)) ∙ pairs_behind_value children k v more waits)

-- the entry of a pair
pub entry_stands : (source : List ℕ) (n : NodeTree) (t : SpannedTree) (children : List NodeTree) (k v : NodeTree) (is : IsNodeOf source n t) (set : type_of n ≡ kind.TupleSet) → StandsBehind n children k v → (e : PlacedEntry) × HasAt (entry_list (record_nodes source n t is set).given) (length (node_pairs children)) e × IsTokenOf source k e.place e.key × IsNodeOf source v e.value
entry_stands source n t children k v is set here =
    let inner = record_nodes source n t is set in
    entry_has source (node_pairs children ++ (k, v) ∷ here.0) (entry_list inner.given) (length (node_pairs children)) (k, v) (subst (λ (ps : List (NodeTree × NodeTree)). AreEntriesOf source ps (entry_list inner.given)) here.1 inner.nodes) (has_behind (node_pairs children) (k, v) here.0)

-- its key and its value belong to the node
pub pair_belongs : (source : List ℕ) (n : NodeTree) (children : List NodeTree) (k v : NodeTree) → IsValueOf source n → StandsBehind n children k v → PairBelongs n (k, v)
pair_belongs source n children k v value here =
    all_has (PairBelongs n) (node_pairs children ++ (k, v) ∷ here.0) (length (node_pairs children)) (k, v) (subst (AllOf (PairBelongs n)) here.1 (entries_belong source n value)) (has_behind (node_pairs children) (k, v) here.0)
