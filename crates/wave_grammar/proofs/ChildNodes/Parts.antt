-- The nodes within a node that was parsed as a value are parsed too.
use Rattle.std.proofs.Common.{ℕ, ◌≡◌, ◌⊎◌, inl, List, [], ◌∷◌, map, Option, Some, None, Bor, refl, sym, ap, ◌∙◌, subst}
use Rattle.wave_wasm.specs.Lists.{AllOf}
use Rattle.wave_grammar.specs.SpannedTree.{SpannedTree, MaybePlaced, no_placed, a_placed, PlacedEntry, entry_list}
use Rattle.wave_grammar.specs.NodeTree.{NodeTree, type_of, children_of}
use Rattle.wave_grammar.specs.Nodes.{IsNodeOf, IsParsedFrom}
use Rattle.wave_grammar.specs.NodeAccessors.{first_of, denoted_node, node_pairs, AreValuesWithin, IsValueWithin, IsEntryOf, AreEntriesWithin}
use Rattle.wave_grammar.specs.TypedReading.{IsValueOf}
use Rattle.wave_grammar.specs.PartReading.{IsPayloadNodeOf}
use Rattle.wave_grammar.specs.NodeFields.{IsFieldsOf, field_of}
use Rattle.wave_grammar.proofs.ChildNodes.Inside.{some_is}
use Rattle.wave_grammar.proofs.ByKind.Lists.{AreNodesOf, list_nodes}
use Rattle.wave_grammar.proofs.ByKind.Tuples.{tuple_nodes}
use Rattle.wave_grammar.proofs.ChildNodes.Entries.{AreEntriesOf, map_nodes}
use Rattle.wave_grammar.proofs.ByKind.Options.{some_node}
use Rattle.wave_grammar.proofs.Fields.Lookup.{set_value}
use Rattle.wave_grammar.proofs.ByKind.Results.{ok_node, err_node}
use Rattle.wave_grammar.specs.declared.form.NodeType.TheVariants as kind

-- the nodes of trees are values
all_values : (source : List ℕ) (ns : List NodeTree) (ts : List SpannedTree) → AreNodesOf source ns ts → AllOf (IsValueOf source) ns
all_values source [] [] h = tt
all_values source [] (t ∷ ts) h = absurd h
all_values source (n ∷ ns) [] h = absurd h
all_values source (n ∷ ns) (t ∷ ts) h = ((t, h.0), all_values source ns ts h.1)

-- the items of a list
pub list_within : (n : NodeTree) (ns : List NodeTree) → type_of n ≡ kind.List → ns ≡ children_of n → AreValuesWithin n ns
list_within n ns e is = λ source v.
    let nodes = list_nodes source n v.0 v.1 e in
    subst (AllOf (IsValueOf source)) (sym is) (all_values source (children_of n) nodes.items nodes.nodes)

-- the items of a tuple
pub tuple_within : (n : NodeTree) (ns : List NodeTree) → type_of n ≡ kind.Tuple → ns ≡ children_of n → AreValuesWithin n ns
tuple_within n ns e is = λ source v.
    let nodes = tuple_nodes source n v.0 v.1 e in
    subst (AllOf (IsValueOf source)) (sym is) (all_values source (children_of n) nodes.items nodes.nodes)

-- the nodes of entries are keys and values
all_entries : (source : List ℕ) (ns : List (NodeTree × NodeTree)) (es : List PlacedEntry) → AreEntriesOf source ns es → AllOf (IsEntryOf source) ns
all_entries source [] [] h = tt
all_entries source [] (e ∷ es) h = absurd h
all_entries source (n ∷ ns) [] h = absurd h
all_entries source (n ∷ ns) (e ∷ es) h = (((e.place, e.key, h.0), (e.value, h.1)), all_entries source ns es h.2)

-- the keys and the values of entries
pub entries_within : (n : NodeTree) (entries : List (NodeTree × NodeTree)) → (type_of n ≡ kind.TupleSet) ⊎ (type_of n ≡ kind.EmptySet) → entries ≡ node_pairs (children_of n) → AreEntriesWithin n entries
entries_within n entries e is = λ source v.
    let nodes = map_nodes source n v.0 v.1 e in
    subst (AllOf (IsEntryOf source)) (sym is) (all_entries source (node_pairs (children_of n)) (entry_list nodes.given) nodes.nodes)

-- the payload of `some`
pub some_within : (n : NodeTree) (o : Option (Bor NodeTree)) → type_of n ≡ kind.OptionSome → denoted_node o ≡ first_of (children_of n) → IsValueWithin n (denoted_node o)
some_within n None e is = tt
some_within n (Some x) e is = λ source v.
    let k = some_node source n v.0 v.1 e in
    (k.payload, subst (λ (m : NodeTree). IsNodeOf source m k.payload) (sym (some_is x.now k.inner (is ∙ ap first_of k.children))) k.node)

payload_value : (source : List ℕ) (m : NodeTree) (payload : MaybePlaced) → IsPayloadNodeOf source (Some m) payload → IsValueOf source m
payload_value source m no_placed h = absurd h
payload_value source m (a_placed t) h = (t, h)

-- the payload of `ok`
pub ok_within : (n : NodeTree) (o : Option (Bor NodeTree)) → type_of n ≡ kind.ResultOk → denoted_node o ≡ first_of (children_of n) → IsValueWithin n (denoted_node o)
ok_within n None e is = tt
ok_within n (Some x) e is = λ source v.
    let k = ok_node source n v.0 v.1 e in
    payload_value source x.now k.0 (subst (λ (m : Option NodeTree). IsPayloadNodeOf source m k.0) (sym is) k.2)

-- the payload of `err`
pub err_within : (n : NodeTree) (o : Option (Bor NodeTree)) → type_of n ≡ kind.ResultErr → denoted_node o ≡ first_of (children_of n) → IsValueWithin n (denoted_node o)
err_within n None e is = tt
err_within n (Some x) e is = λ source v.
    let k = err_node source n v.0 v.1 e in
    payload_value source x.now k.0 (subst (λ (m : Option NodeTree). IsPayloadNodeOf source m k.0) (sym is) k.2)

all_fields : (source : List ℕ) (ns : List (NodeTree × NodeTree)) → AllOf (IsEntryOf source) ns → AllOf (λ f. IsValueOf source f.1) (map (field_of source) ns)
all_fields source [] h = tt
all_fields source (n ∷ ns) h = (h.0.1, all_fields source ns h.1)

-- the values of a record's fields
pub fields_values : (source : List ℕ) (n : NodeTree) (fields : List (List ℕ × NodeTree)) → IsParsedFrom source n → IsFieldsOf source n fields → AllOf (λ f. IsValueOf source f.1) fields
fields_values source n fields parsed h =
    let all = entries_within n (node_pairs (children_of n)) (inl h.is_set) refl source (set_value source n parsed h.is_set) in
    subst (AllOf (λ (f : List ℕ × NodeTree). IsValueOf source f.1)) (sym h.given) (all_fields source (node_pairs (children_of n)) all)
