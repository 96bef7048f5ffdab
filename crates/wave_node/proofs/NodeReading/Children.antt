-- The parts of a node: which children are keys, which are values.
use Rattle.std.proofs.Common.{ℕ, zero, suc, ◌≡◌, ◌≢◌, ◌⊎◌, inl, inr, ◌<◌, ◌+◌, ◌/◌, ◌%◌, Bool, true, false, not, eqb, MatchBool, List, [], ◌∷◌, ◌++◌, length, get_or, take, Option, Some, None, option_map, refl, sym, ap, ◌∙◌, subst, arith}
use Rattle.std.proofs.lemmas.List.{length-take-le, take_more}
use Rattle.std.proofs.lemmas.Bool.Decides.{nat_tests}
use Rattle.std.specs.declared.ops.Range.{Range}
use Rattle.wave_grammar.specs.Token.{Token}
use Rattle.wave_grammar.specs.Token as token
use Rattle.wave_grammar.specs.SpannedTree.{SpannedTree, SpannedShape, at, one, entries, flags, label, MaybePlaced, no_placed, a_placed, PlacedEntries, entry, slice, span_of, SpellsEach, SpellsEntries}
use Rattle.wave_grammar.specs.NodeTree.{NodeTree, NodeTrees, node, no_nodes, node_and, node_list, node_trees, type_of, place_of, children_of, depth, nodes_depth}
use Rattle.wave_grammar.specs.NodeAccessors.{first_of}
use Rattle.wave_grammar.specs.Nodes.{all_placed, shape_from, pairs_of, flags_of, key_of, IsNodeOf}
use Rattle.wave_grammar.specs.TypedReading.{IsValueOf, IsKeyOf}
use Rattle.wave_grammar.specs.PartReading.{IsPayloadNodeOf}
use Rattle.wave_grammar.specs.declared.form.NodeType.{NodeType}
use Rattle.wave_grammar.specs.declared.form.NodeType.TheVariants as kind
use Rattle.wave_grammar.proofs.ChildNodes.Inside.{Inside, inside, flag_key, AreParsed, parsed, pair_parsed, all_parsed}
use Rattle.wave_grammar.proofs.ChildNodes.Cases.{case_shape, shape_at}
use Rattle.wave_grammar.proofs.ChildNodes.Entries.{both_some, entries_are}
use Rattle.wave_grammar.proofs.ByKind.Lists.{list_item}
use Rattle.wave_grammar.proofs.ByKind.Tuples.{tuple_item}
use Rattle.wave_grammar.proofs.ByKind.Options.{some_node}
use Rattle.wave_grammar.proofs.ByKind.Results.{ok_node, err_node}
use Rattle.wave_grammar.specs.NodeParts.{IsOfParts, IsOneToken, TakesKey, TakesPart}
use Rattle.wave_node.specs.Private.NodeForms.{IsAlone, IsOfOneToken}

-- ---- how deep children nest

below_all : (ns : NodeTrees) (i : ℕ) (m : NodeTree) → i < length (node_list ns) → m ≡ get_or (node_list ns) i m → depth m < nodes_depth ns
below_all no_nodes i m lt is = absurd (omega (arith, lt))
below_all (node_and n more) zero m lt is = omega (arith, ap depth is)
below_all (node_and n more) (suc i) m lt is = omega (arith, below_all more i m (omega (arith, lt)) is)

-- a child nests less deep than the node
pub child_below : (n : NodeTree) (ns : List NodeTree) (i : ℕ) (m : NodeTree) → ns ≡ children_of n → i < length ns → m ≡ get_or ns i m → depth m < depth n
child_below (node ty p cs) ns i m is lt here = below_all cs i m (subst (λ (l : List NodeTree). i < length l) is lt) (subst (λ (l : List NodeTree). m ≡ get_or l i m) is here)

-- ---- nodes of one token

no_trees : (source : List ℕ) (ns : NodeTrees) (cs : List SpannedTree) → all_placed source ns ≡ Some cs → cs ≡ [] → ns ≡ no_nodes
no_trees source no_nodes cs e none = refl
no_trees source (node_and n more) cs e none = absurd (subst (AreParsed source (n ∷ node_list more)) none (parsed source (node_and n more) cs e))

-- a node whose tree has no parts has no children
pub childless : (source : List ℕ) (n : NodeTree) (t : SpannedTree) (i : Inside source n t) → i.children ≡ [] → IsAlone n
childless source (node ty p ns) t i none = ap (λ (cs : NodeTrees). node ty p cs) (no_trees source ns i.children i.each none)

bare_token : (ty : NodeType) (p : Range ℕ) (text : List ℕ) (cs : List SpannedTree) (s : SpannedShape) → shape_from ty p text cs ≡ Some s → IsOneToken ty → ((ty ≡ kind.ResultOk) ⊎ (ty ≡ kind.ResultErr) → cs ≡ []) → cs ≡ []
bare_token ty p text [] s e o bare = refl
bare_token kind.ResultOk p text (c ∷ cs) s e o bare = bare (inl refl)
bare_token kind.ResultErr p text (c ∷ cs) s e o bare = bare (inr refl)
bare_token kind.Tuple p text (c ∷ cs) s e o bare = absurd o
bare_token kind.List p text (c ∷ cs) s e o bare = absurd o
bare_token kind.TupleSet p text (c ∷ cs) s e o bare = absurd o
bare_token kind.VariantWithPayload p text (c ∷ cs) s e o bare = absurd o
bare_token kind.OptionSome p text (c ∷ cs) s e o bare = absurd o
bare_token kind.Flags p text (c ∷ cs) s e o bare = absurd o
bare_token _ p text (c ∷ cs) s e o bare = absurd (cc)

-- as many children as trees of parts
pub as_long : (source : List ℕ) (ns : List NodeTree) (cs : List SpannedTree) → AreParsed source ns cs → length ns ≡ length cs
as_long source [] [] h = refl
as_long source [] (c ∷ cs) h = absurd h
as_long source (n ∷ ns) [] h = absurd h
as_long source (n ∷ ns) (c ∷ cs) h = ap suc (as_long source ns cs h.1)

none_long : {A : Type 0} (xs : List A) → length xs ≡ 0 → xs ≡ []
none_long [] e = refl
none_long (x ∷ xs) e = absurd (omega (arith, e))

-- a value of the type of one token is one; of `ok` and `err`, where it has no children
pub token_alone : (source : List ℕ) (n : NodeTree) → IsValueOf source n → IsOneToken (type_of n) → ((type_of n ≡ kind.ResultOk) ⊎ (type_of n ≡ kind.ResultErr) → length (children_of n) ≡ 0) → IsOfOneToken n
token_alone source n (at r s, is) o bare =
    let i = inside source n (at r s) is.0 in
    (o, childless source n (at r s) i (bare_token (type_of n) (place_of n) (slice source (place_of n)) i.children s i.shape o (λ w. none_long i.children (sym (as_long source (children_of n) i.children (all_parsed source n (at r s) i)) ∙ bare w))))

-- a type that is none of these is that of one token
pub token_type : (ty : NodeType) → ty ≢ kind.Flags → ty ≢ kind.Tuple → ty ≢ kind.List → ty ≢ kind.TupleSet → ty ≢ kind.EmptySet → ty ≢ kind.VariantWithPayload → ty ≢ kind.OptionSome → IsOneToken ty
token_type kind.Flags a b c d e f g = absurd (a refl)
token_type kind.Tuple a b c d e f g = absurd (b refl)
token_type kind.List a b c d e f g = absurd (c refl)
token_type kind.TupleSet a b c d e f g = absurd (d refl)
token_type kind.EmptySet a b c d e f g = absurd (e refl)
token_type kind.VariantWithPayload a b c d e f g = absurd (f refl)
token_type kind.OptionSome a b c d e f g = absurd (g refl)
token_type kind.BoolTrue a b c d e f g = tt
token_type kind.BoolFalse a b c d e f g = tt
token_type kind.Number a b c d e f g = tt
token_type kind.Char a b c d e f g = tt
token_type kind.String a b c d e f g = tt
token_type kind.MultilineString a b c d e f g = tt
token_type kind.Label a b c d e f g = tt
token_type kind.OptionNone a b c d e f g = tt
token_type kind.ResultOk a b c d e f g = tt
token_type kind.ResultErr a b c d e f g = tt

-- so it is, where it is neither `ok` nor `err`
pub token_other : (source : List ℕ) (n : NodeTree) → IsValueOf source n → IsOneToken (type_of n) → type_of n ≢ kind.ResultOk → type_of n ≢ kind.ResultErr → IsOfOneToken n
token_other source n v o ok err = token_alone source n v o none
  where
    none : (type_of n ≡ kind.ResultOk) ⊎ (type_of n ≡ kind.ResultErr) → length (children_of n) ≡ 0
    none (inl e) = absurd (ok e)
    none (inr e) = absurd (err e)

-- `ok` or `err`, with a payload or alone
pub payload_parts : (source : List ℕ) (n : NodeTree) (ns : List NodeTree) (b : Bool) → IsValueOf source n → (type_of n ≡ kind.ResultOk) ⊎ (type_of n ≡ kind.ResultErr) → ns ≡ children_of n → b ≡ eqb (length ns) 0 → MatchBool (not b) (IsOfParts (type_of n)) (IsOfOneToken n)
payload_parts source n ns false v (inl e) is test = subst IsOfParts (sym e) tt
payload_parts source n ns false v (inr e) is test = subst IsOfParts (sym e) tt
payload_parts source n ns true v (inl e) is test = token_alone source n v (subst IsOneToken (sym e) tt) (λ w. sym (ap length is) ∙ grind (arith, nat_tests, test))
payload_parts source n ns true v (inr e) is test = token_alone source n v (subst IsOneToken (sym e) tt) (λ w. sym (ap length is) ∙ grind (arith, nat_tests, test))

-- ---- what stands next

-- in entries
pub key_next : (ns : List NodeTree) (i : ℕ) → i < length ns → i % 2 ≡ 0 → TakesKey kind.TupleSet (take i ns)
key_next ns i lt even = (i / 2, omega (arith, length-take-le i ns (omega arith)))

pub value_next : (ns : List NodeTree) (i : ℕ) → i < length ns → i % 2 ≢ 0 → TakesPart kind.TupleSet (take i ns)
value_next ns i lt odd = (i / 2, omega (arith, length-take-le i ns (omega arith)))

-- by the test of a place
abbrev pub IsNext : NodeType → List NodeTree → ℕ → Bool → Type 0
IsNext ty ns i b = MatchBool b (TakesKey ty (take i ns)) (TakesPart ty (take i ns))

pub set_next : (ns : List NodeTree) (i : ℕ) (b : Bool) → i < length ns → eqb (i % 2) 0 ≡ b → IsNext kind.TupleSet ns i b
set_next ns i true lt e = key_next ns i lt (grind (arith, nat_tests, e))
set_next ns i false lt e = value_next ns i lt (λ z. grind (arith, nat_tests, e, z))

one_next : (ns : List NodeTree) (i : ℕ) → length ns ≡ 1 → i < length ns → take i ns ≡ []
one_next ns zero e lt = refl
one_next ns (suc i) e lt = absurd (omega (arith, e, lt))

part_at : (ty : NodeType) (p : Range ℕ) (text : List ℕ) (cs : List SpannedTree) (s : SpannedShape) (ns : List NodeTree) (i : ℕ) → shape_from ty p text cs ≡ Some s → IsOfParts ty → ty ≢ kind.TupleSet → ty ≢ kind.VariantWithPayload → length ns ≡ length cs → i < length ns → TakesPart ty (take i ns)
part_at kind.Tuple p text cs s ns i e o set case long lt = tt
part_at kind.List p text cs s ns i e o set case long lt = tt
part_at kind.TupleSet p text cs s ns i e o set case long lt = absurd (set refl)
part_at kind.VariantWithPayload p text cs s ns i e o set case long lt = absurd (case refl)
part_at kind.EmptySet p text [] s ns i e o set case long lt = absurd (omega (arith, long, lt))
part_at kind.EmptySet p text (c ∷ cs) s ns i e o set case long lt = absurd (cc)
part_at kind.OptionSome p text [] s ns i e o set case long lt = absurd (omega (arith, long, lt))
part_at kind.OptionSome p text (c ∷ []) s ns i e o set case long lt = one_next ns i long lt
part_at kind.OptionSome p text (c ∷ d ∷ cs) s ns i e o set case long lt = absurd (cc)
part_at kind.ResultOk p text [] s ns i e o set case long lt = absurd (omega (arith, long, lt))
part_at kind.ResultOk p text (c ∷ []) s ns i e o set case long lt = one_next ns i long lt
part_at kind.ResultOk p text (c ∷ d ∷ cs) s ns i e o set case long lt = absurd (cc)
part_at kind.ResultErr p text [] s ns i e o set case long lt = absurd (omega (arith, long, lt))
part_at kind.ResultErr p text (c ∷ []) s ns i e o set case long lt = one_next ns i long lt
part_at kind.ResultErr p text (c ∷ d ∷ cs) s ns i e o set case long lt = absurd (cc)
part_at _ p text cs s ns i e o set case long lt = absurd o

-- in other nodes that have parts, but a case
pub part_next : (source : List ℕ) (n : NodeTree) (i : ℕ) → IsValueOf source n → IsOfParts (type_of n) → type_of n ≢ kind.TupleSet → type_of n ≢ kind.VariantWithPayload → i < length (children_of n) → TakesPart (type_of n) (take i (children_of n))
part_next source n i (at r s, is) o set case lt =
    let k = inside source n (at r s) is.0 in
    part_at (type_of n) (place_of n) (slice source (place_of n)) k.children s (children_of n) i k.shape o set case (as_long source (children_of n) k.children (all_parsed source n (at r s) k)) lt

-- ---- keys

-- a key has no children
key_from : (source : List ℕ) (n : NodeTree) (t : SpannedTree) (p : Range ℕ) (key : Token) (i : Inside source n t) → key_of t ≡ Some (p, key) → i.children ≡ []
key_from source n (at q (label r w no_placed)) p key i is = i.from.3
key_from source n (at q (one (token.number w))) p key i is = i.from.0
key_from source n (at q (one (token.char w))) p key i is = i.from.0
key_from source n (at q (one (token.string w))) p key i is = i.from.0
key_from source n (at q (one (token.multiline w))) p key i is = i.from.0
key_from source n _ p key i is = absurd (cc)

pub key_alone : (source : List ℕ) (n : NodeTree) → IsKeyOf source n → IsAlone n
key_alone source n (p, key, ((t, is, holds), prefix)) =
    let i = inside source n t is in
    childless source n t i (key_from source n t p key i holds)

-- ---- the children in turn

-- keys and values in turn
abbrev AreTurns : List ℕ → List NodeTree → Type 0
AreTurns source [] = Unit {0}
AreTurns source (k ∷ []) = ⊥
AreTurns source (k ∷ v ∷ more) = IsKeyOf source k × IsValueOf source v × AreTurns source more

turns : (source : List ℕ) (ns : List NodeTree) (cs : List SpannedTree) (es : PlacedEntries) (from to : ℕ) → AreParsed source ns cs → pairs_of cs ≡ Some es → SpellsEntries source from to es → AreTurns source ns
turns source [] cs es from to h e s = tt
turns source (n ∷ ns) [] es from to h e s = absurd h
turns source (n ∷ ns) (k ∷ []) es from to h e s = absurd (cc)
turns source (n ∷ []) (k ∷ v ∷ cs) es from to h e s = absurd h.1
turns source (n ∷ m ∷ ns) (k ∷ v ∷ cs) es from to h e s =
    let b = both_some (λ (key : Range ℕ × Token) (rest : PlacedEntries). entry key.0 key.1 v rest) (key_of k) (pairs_of cs) es e in
    let spelled : SpellsEntries source from to (entry b.0.0 b.0.1 v b.1) = subst (SpellsEntries source from to) b.4 s in
    ((b.0.0, b.0.1, ((k, h.0, b.2), spelled.1)), (v, (h.1.0, spelled.3)), turns source ns cs b.1 (span_of v).end to h.1.1 b.3 spelled.4)

-- the labels of flags
pub flags_shape : (source : List ℕ) (n : NodeTree) (r : Range ℕ) (s : SpannedShape) (i : Inside source n (at r s)) → type_of n ≡ kind.Flags → (fs : List (Range ℕ × List ℕ)) × (flags_of i.children ≡ Some fs)
flags_shape source n r s i e = by (flags_of i.children) refl (shape_at kind.Flags source n (at r s) i e)
  where
    by : (o : Option (List (Range ℕ × List ℕ))) → flags_of i.children ≡ o → option_map flags o ≡ Some s → (fs : List (Range ℕ × List ℕ)) × (flags_of i.children ≡ Some fs)
    by (Some fs) is e = (fs, is)
    by None is e = absurd (cc)

set_turns : (source : List ℕ) (n : NodeTree) → IsValueOf source n → type_of n ≡ kind.TupleSet → AreTurns source (children_of n)
set_turns source n (at r s, is) ty = by i.children (children_of n) (all_parsed source n (at r s) i) (shape_at kind.TupleSet source n (at r s) i ty)
  where
    i : Inside source n (at r s)
    i = inside source n (at r s) is.0

    by : (cs : List SpannedTree) (ns : List NodeTree) → AreParsed source ns cs → shape_from kind.TupleSet (place_of n) (slice source (place_of n)) cs ≡ Some s → AreTurns source ns
    by [] [] h e = tt
    by [] (m ∷ ns) h e = absurd h
    by (k ∷ cs) ns h e =
        let b = entries_are (pairs_of (k ∷ cs)) s e in
        let spelled : SpellsEach source (at r (entries b.0)) = subst (λ (x : SpannedShape). SpellsEach source (at r x)) b.2 is.1 in
        turns source ns (k ∷ cs) b.0 r.start r.end h b.1 spelled.1

key_turn : (source : List ℕ) (ns : List NodeTree) (i k : ℕ) (m : NodeTree) → AreTurns source ns → i ≡ k + k → i < length ns → m ≡ get_or ns i m → IsKeyOf source m
key_turn source [] i k m h two lt is = absurd (omega (arith, lt))
key_turn source (a ∷ []) i k m h two lt is = absurd h
key_turn source (a ∷ b ∷ ns) zero k m h two lt is = subst (IsKeyOf source) (sym is) h.0
key_turn source (a ∷ b ∷ ns) (suc zero) k m h two lt is = absurd (omega (arith, two))
key_turn source (a ∷ b ∷ ns) (suc (suc i)) zero m h two lt is = absurd (omega (arith, two))
key_turn source (a ∷ b ∷ ns) (suc (suc i)) (suc k) m h two lt is = key_turn source ns i k m h.2 (omega (arith, two)) (omega (arith, lt)) is

value_turn : (source : List ℕ) (ns : List NodeTree) (i k : ℕ) (m : NodeTree) → AreTurns source ns → i ≡ k + k + 1 → i < length ns → m ≡ get_or ns i m → IsValueOf source m
value_turn source [] i k m h two lt is = absurd (omega (arith, lt))
value_turn source (a ∷ []) i k m h two lt is = absurd h
value_turn source (a ∷ b ∷ ns) zero k m h two lt is = absurd (omega (arith, two))
value_turn source (a ∷ b ∷ ns) (suc zero) k m h two lt is = subst (IsValueOf source) (sym is) h.1
value_turn source (a ∷ b ∷ ns) (suc (suc i)) zero m h two lt is = absurd (omega (arith, two))
value_turn source (a ∷ b ∷ ns) (suc (suc i)) (suc k) m h two lt is = value_turn source ns i k m h.2 (omega (arith, two)) (omega (arith, lt)) is

-- the label and the payload of a case
record CaseTurns (source : List ℕ) (n : NodeTree) : Type 0 where
  name : NodeTree
  payload : NodeTree
  children : children_of n ≡ name ∷ payload ∷ []
  named : IsKeyOf source name
  valued : IsValueOf source payload

case_turns : (source : List ℕ) (n : NodeTree) → IsValueOf source n → type_of n ≡ kind.VariantWithPayload → CaseTurns source n
case_turns source n (at r s, is) e =
    let i = inside source n (at r s) is.0 in
    let c = case_shape (place_of n) (slice source (place_of n)) i.children s (shape_at kind.VariantWithPayload source n (at r s) i e) in
    let k = pair_parsed source (children_of n) c.name c.payload (subst (AreParsed source (children_of n)) c.children (all_parsed source n (at r s) i)) in
    let spelled : SpellsEach source (at r (label c.place c.text (a_placed c.payload))) = subst (λ (x : SpannedShape). SpellsEach source (at r x)) c.shape is.1 in
    record { name = k.0; payload = k.1; children = k.2; named = (c.place, token.label c.text, ((c.name, k.3, flag_key c.name c.place c.text c.labelled), spelled.1.1)); valued = (c.payload, (k.4, spelled.1.2.1)) }

taken_none : (ns : List NodeTree) (i : ℕ) → i < length ns → take i ns ≡ [] → i ≡ 0
taken_none ns i lt e = omega (arith, length-take-le i ns (omega arith), ap length e)

taken_one : (ns : List NodeTree) (i : ℕ) → i < length ns → length (take i ns) ≡ 1 → i ≡ 1
taken_one ns i lt e = omega (arith, length-take-le i ns (omega arith))

-- the child that is expected as a key is one
key_at : (source : List ℕ) (n : NodeTree) (ty : NodeType) (i : ℕ) (m : NodeTree) → type_of n ≡ ty → IsValueOf source n → TakesKey ty (take i (children_of n)) → i < length (children_of n) → m ≡ get_or (children_of n) i m → IsKeyOf source m
key_at source n kind.TupleSet i m e v (k, long) lt is = key_turn source (children_of n) i k m (set_turns source n v e) (sym (length-take-le i (children_of n) (omega arith)) ∙ long) lt is
key_at source n kind.VariantWithPayload i m e v prefix lt is =
    let c = case_turns source n v e in
    let first : m ≡ get_or (children_of n) 0 m = is ∙ ap (λ (j : ℕ). get_or (children_of n) j m) (taken_none (children_of n) i lt prefix) in
    subst (IsKeyOf source) (sym (first ∙ ap (λ (l : List NodeTree). get_or l 0 m) c.children)) c.named
key_at source n _ i m e v prefix lt is = absurd prefix

-- in a case
pub case_next : (source : List ℕ) (n : NodeTree) (i : ℕ) (b : Bool) → IsValueOf source n → type_of n ≡ kind.VariantWithPayload → i < length (children_of n) → eqb i 0 ≡ b → IsNext kind.VariantWithPayload (children_of n) i b
case_next source n i true v e lt is =
    let prefix : i ≡ 0 = grind (arith, nat_tests, is) in
    ap (λ (j : ℕ). take j (children_of n)) prefix
case_next source n i false v e lt is =
    let c = case_turns source n v e in
    let apart : i ≢ 0 = λ z. grind (arith, nat_tests, is, z) in
    omega (arith, length-take-le i (children_of n) (omega arith), ap length c.children, apart)

-- a test that holds
pub if_true : {A : Type 0} (B : Type 0) (b : Bool) → MatchBool b A B → b ≡ true → A
if_true B true h e = h
if_true B false h e = absurd (cc)

-- a test that fails
pub if_false : {B : Type 0} (A : Type 0) (b : Bool) → MatchBool b A B → b ≡ false → B
if_false A true h e = absurd (cc)
if_false A false h e = h

pub key_child : (source : List ℕ) (n : NodeTree) (ns : List NodeTree) (i : ℕ) (m : NodeTree) → IsValueOf source n → ns ≡ children_of n → TakesKey (type_of n) (take i (children_of n)) → i < length ns → m ≡ get_or ns i m → IsKeyOf source m
key_child source n ns i m v same prefix lt is = key_at source n (type_of n) i m refl v prefix (subst (λ (l : List NodeTree). i < length l) same lt) (subst (λ (l : List NodeTree). m ≡ get_or l i m) same is)

first_value : (source : List ℕ) (ns : List NodeTree) (m : NodeTree) (payload : MaybePlaced) → IsPayloadNodeOf source (first_of ns) payload → 0 < length ns → m ≡ get_or ns 0 m → IsValueOf source m
first_value source [] m payload h lt is = absurd (omega (arith, lt))
first_value source (n ∷ ns) m no_placed h lt is = absurd h
first_value source (n ∷ ns) m (a_placed t) h lt is = (t, subst (λ (k : NodeTree). IsNodeOf source k t) (sym is) h)

-- the child that is expected as a value is one
value_at : (source : List ℕ) (n : NodeTree) (ty : NodeType) (i : ℕ) (m : NodeTree) → type_of n ≡ ty → IsValueOf source n → TakesPart ty (take i (children_of n)) → i < length (children_of n) → m ≡ get_or (children_of n) i m → IsValueOf source m
value_at source n kind.Tuple i m e v prefix lt is = tuple_item source n (children_of n) i m v e refl lt is
value_at source n kind.List i m e v prefix lt is = list_item source n (children_of n) i m v e refl lt is
value_at source n kind.TupleSet i m e v (k, long) lt is = value_turn source (children_of n) i k m (set_turns source n v e) (sym (length-take-le i (children_of n) (omega arith)) ∙ long) lt is
value_at source n kind.VariantWithPayload i m e v prefix lt is =
    let c = case_turns source n v e in
    let second : m ≡ get_or (children_of n) 1 m = is ∙ ap (λ (j : ℕ). get_or (children_of n) j m) (taken_one (children_of n) i lt prefix) in
    subst (IsValueOf source) (sym (second ∙ ap (λ (l : List NodeTree). get_or l 1 m) c.children)) c.valued
value_at source n kind.OptionSome i m e v prefix lt is =
    let k = some_node source n v.0 v.1 e in
    let first : m ≡ get_or (children_of n) 0 m = is ∙ ap (λ (j : ℕ). get_or (children_of n) j m) (taken_none (children_of n) i lt prefix) in
    (k.payload, subst (λ (x : NodeTree). IsNodeOf source x k.payload) (sym (first ∙ ap (λ (l : List NodeTree). get_or l 0 m) k.children)) k.node)
value_at source n kind.ResultOk i m e v prefix lt is =
    let k = ok_node source n v.0 v.1 e in
    first_value source (children_of n) m k.0 k.2 (omega (arith, lt)) (is ∙ ap (λ (j : ℕ). get_or (children_of n) j m) (taken_none (children_of n) i lt prefix))
value_at source n kind.ResultErr i m e v prefix lt is =
    let k = err_node source n v.0 v.1 e in
    first_value source (children_of n) m k.0 k.2 (omega (arith, lt)) (is ∙ ap (λ (j : ℕ). get_or (children_of n) j m) (taken_none (children_of n) i lt prefix))
value_at source n _ i m e v prefix lt is = absurd prefix

pub value_child : (source : List ℕ) (n : NodeTree) (ns : List NodeTree) (i : ℕ) (m : NodeTree) → IsValueOf source n → ns ≡ children_of n → TakesPart (type_of n) (take i (children_of n)) → i < length ns → m ≡ get_or ns i m → IsValueOf source m
value_child source n ns i m v same prefix lt is = value_at source n (type_of n) i m refl v prefix (subst (λ (l : List NodeTree). i < length l) same lt) (subst (λ (l : List NodeTree). m ≡ get_or l i m) same is)

one_more : (ns : List NodeTree) (i : ℕ) (m : NodeTree) → i < length ns → m ≡ get_or ns i m → take i ns ++ m ∷ [] ≡ take (i + 1) ns
one_more ns i m lt is = ap (λ (x : NodeTree). take i ns ++ x ∷ []) is ∙ sym (take_more ns i m lt)

-- the children with the next one
pub more_children : (n : NodeTree) (ns : List NodeTree) (i : ℕ) (m : NodeTree) → ns ≡ children_of n → i < length ns → m ≡ get_or ns i m → take i (children_of n) ++ m ∷ [] ≡ take (i + 1) (children_of n)
more_children n ns i m same lt is = one_more (children_of n) i m (subst (λ (l : List NodeTree). i < length l) same lt) (subst (λ (l : List NodeTree). m ≡ get_or l i m) same is)

trees_back : (ns : NodeTrees) → node_trees (node_list ns) ≡ ns
trees_back no_nodes = refl
trees_back (node_and n more) = ap (node_and n) (trees_back more)

-- a node is made of its children
pub whole_is : (n : NodeTree) (ns : List NodeTree) → children_of n ≡ ns → node (type_of n) (place_of n) (node_trees ns) ≡ n
whole_is (node ty p cs) ns e = ap (node ty p) (ap node_trees (sym e) ∙ trees_back cs)

-- of this type and at this place, too
pub whole_at : (n : NodeTree) (ty : NodeType) (p : Range ℕ) → ty ≡ type_of n → p ≡ place_of n → node ty p (node_trees (children_of n)) ≡ n
whole_at n ty p e f = (λ j. node (e j) (f j) (node_trees (children_of n))) ∙ whole_is n (children_of n) refl
