-- A tree with a fault has no value.
use Rattle.std.proofs.Common.{ℕ, suc, ◌≡◌, inl, inr, List, [], ◌∷◌, length, Result, Ok, Err, MatchResult, codes, refl, sym, ap, ◌∙◌, subst}
use Rattle.std.specs.declared.ops.Range.{Range}
use Rattle.wave_wasm.specs.Names.{AreDistinct, IsOneOf}
use Rattle.wave_wasm.specs.Types as type
use Rattle.wave_wasm.specs.Types.{HasDistinctNames, EachNamesOfMaybe, EachNamesOfTypes, TypeTree, MaybeType, no_type, a_type, Simple, Whole, Cases, case_names, EachNamesOfCases, Types, Fields, EachNamesOfFields}
use Rattle.wave_wasm.specs.Values.{Value, MaybeValue, Leaf}
use Rattle.wave_lex.specs.Errors.{Diagnostic, Refusal, refusal_of}
use Rattle.wave_grammar.specs.Token.{Token}
use Rattle.wave_grammar.specs.Tree as tree
use Rattle.wave_grammar.specs.Tree.{Tree, Trees, trees}
use Rattle.wave_wasm.specs.Lists.{SomeOf}
use Rattle.wave_grammar.specs.LeafTokens.{Spells, name_of}
use Rattle.wave_grammar.specs.Elaborates.{SimpleTree, TreeReads, TreeReadsPayload, TreeReadsFlat, Each, TreeReadsCase, TreeReadsAll}
use Rattle.wave_grammar.specs.SpannedTree.{SpannedTree, MaybePlaced, no_placed, a_placed, at, one, list, none, some, ok, err, maybe_of, PlacedTrees, no_more, and_then, placed_list, tree_of, trees_of, label, tuple, PlacedEntry}
use Rattle.wave_grammar.specs.FaultOrder.{Order, BlamesNothing, FirstFault}
use Rattle.wave_grammar.proofs.OneFault.FirstFaults.{first_is_fault}
use Rattle.wave_grammar.specs.TypeErrors.{LeafFault, IsForm, Fault, FaultOfPayload, FaultOfFlat, FaultOfCase, FaultOfItem, FaultOfField}
use Rattle.wave_grammar.proofs.ByKind.Enums.{enum_none, none_one}
use Rattle.wave_grammar.proofs.ByKind.TextLeaves.{string_none}
use Rattle.wave_grammar.proofs.ByKind.Options.{some_none, flat_none}
use Rattle.wave_grammar.proofs.ByKind.Maps.{map_none}
use Rattle.wave_grammar.proofs.ByKind.Results.{ok_none, err_none}
use Rattle.wave_grammar.proofs.ByKind.Flags.{flags_none}
use Rattle.wave_grammar.proofs.ByKind.Variants.{variant_none, read_is_one}
use Rattle.wave_grammar.specs.TypedReading.{IsTypedValue, IsBlamed, IsTypeError, ReadsNone}
use Rattle.wave_grammar.proofs.ByKind.Tuples.{as_types, tuple_items, first_item}
use Rattle.wave_grammar.proofs.Fields.Refused.{HasBadField, some_bad, record_none}

first_tree : (t u : Tree) (ts us : Trees) → tree.tree_and t ts ≡ tree.tree_and u us → t ≡ u
first_tree t u ts us e = cc

only_tree : (t u : Tree) → tree.a_tree t ≡ tree.a_tree u → t ≡ u
only_tree t u e = cc

inner_trees : (ts us : Trees) → tree.list ts ≡ tree.list us → ts ≡ us
inner_trees ts us e = cc

-- what a simple type reads has its form
form_of : (S : Simple) (t : Token) (one_leaf : Leaf) → Spells S t one_leaf → IsForm S t
form_of type.bool t l h = (h.0, h.1)
form_of (type.whole which) t l h = (h.0, inl h.2)
form_of type.char t l h = (h.0, h.2)
form_of type.string t l (text, s, inl h, e) = (text, inl h.0)
form_of type.string t l (text, s, inr h, e) = (text, inr h.0)

pub leaf_none : (S : Simple) (p : Range ℕ) (t : Token) (k : Refusal) (q : Range ℕ) (one_leaf : Leaf) → LeafFault S p t k q → Spells S t one_leaf → ⊥
leaf_none S p t k q l (inl h) spelled = h.0 (form_of S t l spelled)
leaf_none type.bool p t k q l (inr h) spelled = h.1
leaf_none (type.whole which) p t k q l (inr h) spelled = h.1.0 l spelled
leaf_none type.char p t k q l (inr h) spelled = h.1.0 l spelled
leaf_none type.string p t k q l (inr h) spelled = string_none p t k q l h.1 spelled

simple_none : (S : Simple) (t : SpannedTree) (k : Refusal) (q : Range ℕ) (v : Value) → Fault (type.simple S) t k q → SimpleTree S (tree_of t) v → ⊥
simple_none S (at p (one token)) k q v fault (other, l, e, spelled, f) =
    leaf_none S p token k q l fault (subst (λ (u : Token). Spells S u l) (sym (token_is token other e)) spelled)
  where
    token_is : (a b : Token) → tree.one a ≡ tree.one b → a ≡ b
    token_is a b e = cc
simple_none S (at p _) k q v fault (other, l, e, spelled, f) = absurd (cc)

list_none : (E : TypeTree) (ts : PlacedTrees) (k : Refusal) (q : Range ℕ) (us : List Tree) (vs : List Value) → ((t : SpannedTree) → Fault E t k q → ReadsNone E t) → SomeOf (λ item. Fault E item k q) (placed_list ts) → trees_of ts ≡ trees us → Each (TreeReads E) us vs → ⊥
list_none E no_more k q us vs apart h e each = h
list_none E (and_then t more) k q [] vs apart h e each = cc
list_none E (and_then t more) k q (u ∷ us) vs apart (inl fault) e (v, ws, read, others, f) = apart t fault v (subst (λ (w : Tree). TreeReads E w v) (sym (first_tree (tree_of t) u (trees_of more) (trees us) e)) read)
list_none E (and_then t more) k q (u ∷ us) vs apart (inr h) e (v, ws, read, others, f) = list_none E more k q us ws apart h (cc) others

-- as many trees as placed trees
list_length : (ts : PlacedTrees) (us : List Tree) → trees_of ts ≡ trees us → length (placed_list ts) ≡ length us
list_length no_more [] e = refl
list_length no_more (u ∷ us) e = absurd (cc)
list_length (and_then t more) [] e = absurd (cc)
list_length (and_then t more) (u ∷ us) e = ap suc (list_length more us (cc))

mutual
  -- a tree with a fault at a type is given no value by it
  pub no_value : (T : TypeTree) (t : SpannedTree) (k : Refusal) (q : Range ℕ) → HasDistinctNames T → Fault T t k q → ReadsNone T t
  no_value (type.simple S) t k q names fault = λ v read. simple_none S t k q v fault read
  no_value (type.unreadable u) t k q names fault = λ v read. read
  no_value (type.list E) (at p (list ts)) k q names fault = λ v read. list_none E ts k q read.0 read.1 (λ u h. no_value E u k q names h) fault (inner_trees (trees_of ts) (trees read.0) read.2) read.3
  no_value (type.list E) (at p _) k q names fault = λ v read. absurd (cc)
  no_value (type.fixed E n) (at p (list ts)) k q names (inl h) = λ v read. h.0 (list_length ts read.0 (inner_trees (trees_of ts) (trees read.0) read.2) ∙ read.3)
  no_value (type.fixed E n) (at p (list ts)) k q names (inr h) = λ v read. list_none E ts k q read.0 read.1 (λ u g. no_value E u k q names g) h.1 (inner_trees (trees_of ts) (trees read.0) read.2) read.4
  no_value (type.fixed E n) (at p _) k q names fault = λ v read. absurd (cc)
  no_value (type.record_type fs) t k q names fault = λ v read. record_none fs t k q v names.0 (λ es h. no_field fs es k q names.1 h) fault read
  no_value (type.tuple Ts) (at p (tuple ts)) k q names (inl h) = λ v read. h.0 (as_types Ts ts read.0 read.1 (tuple_items ts read.0 read.2) read.4)
  no_value (type.tuple Ts) (at p (tuple ts)) k q names (inr h) = λ v read. no_item Ts ts k q read.0 read.1 names h (tuple_items ts read.0 read.2) read.4
  no_value (type.tuple Ts) (at p _) k q names fault = λ v read. absurd (cc)
  no_value (type.option P) (at p none) k q names fault = absurd fault
  no_value (type.option P) (at p (some u)) k q names fault = λ v read. some_none P u v (no_value P u k q names fault) read
  no_value (type.option P) (at p s) k q names fault = λ v. elim [ inl (inl h) ↦ absurd (cc) | inl (inr h) ↦ absurd (cc) | inr h ↦ flat_none P (at p s) k q p h.0 (λ f. no_value P (at p s) k q names f) fault h.1.0 h.1.1 ]
  no_value (type.result A B) (at p (ok payload)) k q names fault = λ v read. ok_none A B (maybe_of payload) v (no_payload A (codes "ok") payload p k q names.0 fault) read
  no_value (type.result A B) (at p (err payload)) k q names fault = λ v read. err_none A B (maybe_of payload) v (no_payload B (codes "err") payload p k q names.1 fault) read
  no_value (type.result A B) (at p s) k q names fault = λ v. elim [ inl (inl h) ↦ absurd (cc) | inl (inr h) ↦ absurd (cc) | inr h ↦ no_flat A (at p s) k q names.0 fault h.0 h.1 ]
  no_value (type.variant cs) (at p (label r text payload)) k q names fault = λ v read. variant_none cs text (maybe_of payload) v (no_case cs (name_of text) payload p k q names.0 names.1 fault) read
  no_value (type.variant cs) (at p _) k q names fault = λ v read. absurd (cc)
  no_value (type.flags labels) t k q names fault = λ v read. flags_none labels t k q v fault read
  no_value (type.enum cases) t k q names fault = λ v read. enum_none cases t k q v fault read
  no_value (type.map K V) t k q names fault = λ v read. map_none K V k q (λ p token l f s. leaf_none K p token k q l f s) (λ u h. no_value V u k q names h) t v fault read

  -- so is the payload of the case of this name
  no_case : (cs : Cases) (name : List ℕ) (payload : MaybePlaced) (p : Range ℕ) (k : Refusal) (q : Range ℕ) → AreDistinct (case_names cs) → EachNamesOfCases AreDistinct cs → FaultOfCase cs name payload p k q → (w : MaybeValue) → TreeReadsCase cs name (maybe_of payload) w → ⊥
  no_case type.no_cases name payload p k q distinct names fault w read = read
  no_case (type.case_of other A more) name payload p k q distinct names (inl fault) w (inl read) = no_payload A name payload p k q names.0 fault.1 w read.1
  no_case (type.case_of other A more) name payload p k q distinct names (inl fault) w (inr read) = none_one (case_names more) other distinct.0 (subst (IsOneOf (case_names more)) fault.0 (read_is_one more name (maybe_of payload) w read))
  no_case (type.case_of other A more) name payload p k q distinct names (inr fault) w (inl read) = fault.0 read.0
  no_case (type.case_of other A more) name payload p k q distinct names (inr fault) w (inr read) = no_case more name payload p k q distinct.1 names.1 fault.1 w read

  -- so is a payload
  no_payload : (A : MaybeType) (name : List ℕ) (payload : MaybePlaced) (p : Range ℕ) (k : Refusal) (q : Range ℕ) → EachNamesOfMaybe AreDistinct A → FaultOfPayload name A payload p k q → (w : MaybeValue) → TreeReadsPayload A (maybe_of payload) w → ⊥
  no_payload no_type name no_placed p k q names fault = absurd fault
  no_payload no_type name (a_placed u) p k q names fault = λ w read. absurd (cc read.0)
  no_payload (a_type T) name no_placed p k q names fault = λ w read. absurd (cc read.2)
  no_payload (a_type T) name (a_placed u) p k q names fault = λ w read. no_value T u k q names fault read.1 (subst (λ (x : Tree). TreeReads T x read.1) (sym (only_tree (tree_of u) read.0 read.2)) read.3)

  -- so is a tree that would stand for `ok` of itself
  no_flat : (A : MaybeType) (t : SpannedTree) (k : Refusal) (q : Range ℕ) → EachNamesOfMaybe AreDistinct A → FaultOfFlat A t k q → (w : Value) → TreeReadsFlat A (tree_of t) w → ⊥
  no_flat no_type t k q names fault = λ w read. read
  no_flat (a_type T) t k q names (inl h) = λ w read. h.0 read.0
  no_flat (a_type T) t k q names (inr h) = λ w read. no_value T t k q names h.1 w read.1

  -- so is a field's entry that has a fault
  no_field : (fs : Fields) (es : List PlacedEntry) (k : Refusal) (q : Range ℕ) → EachNamesOfFields AreDistinct fs → FaultOfField fs es k q → HasBadField fs es
  no_field type.no_fields es k q names fault = fault
  no_field (type.field name E more) es k q names (inl fault) = inl (some_bad E name es k q (λ u h. no_value E u k q names.0 h) fault)
  no_field (type.field name E more) es k q names (inr fault) = inr (no_field more es k q names.1 fault)

  -- so are the items of a tuple where one has a fault
  no_item : (Ts : Types) (ps : PlacedTrees) (k : Refusal) (q : Range ℕ) (us : List Tree) (vs : List Value) → EachNamesOfTypes AreDistinct Ts → FaultOfItem Ts (placed_list ps) k q → trees_of ps ≡ trees us → TreeReadsAll Ts us vs → ⊥
  no_item type.no_types ps k q us vs names fault e read = fault
  no_item (type.type_and T more) no_more k q us vs names fault e read = fault
  no_item (type.type_and T more) (and_then p ps) k q us vs names (inl fault) e read =
      let first = first_item T more p ps us vs e read in
      no_value T p k q names.0 fault first.0 first.3
  no_item (type.type_and T more) (and_then p ps) k q us vs names (inr fault) e read =
      let first = first_item T more p ps us vs e read in
      no_item more ps k q first.1 first.2 names.1 fault first.4 first.5

-- a type blames nothing in a tree to which it gives a value
pub value_fine : (o w : Order) (T : TypeTree) (t : SpannedTree) (v : Value) → HasDistinctNames T → TreeReads T (tree_of t) v → BlamesNothing (FirstFault o w T t)
value_fine o w T t v distinct read k q fault = no_value T t k q distinct (first_is_fault o w T t k q fault) v read

module _ {V : Type 0} (tree : V → Value) (of : V → TypeTree → Type 0) (Full : TypeTree → Type 0) (o : Order) where
  -- where a fault is the answer there is no value
  pub refused : (T : TypeTree) (t : SpannedTree) (r : Result V Diagnostic) → HasDistinctNames T → MatchResult r (IsTypedValue tree of T t) (IsBlamed Full o o T t) → MatchResult r (IsTypedValue tree of T t) (IsTypeError Full o T t)
  refused T t (Ok v) distinct h = h
  refused T t (Err e) distinct (inl memory) = inl memory
  refused T t (Err e) distinct (inr (inl fault)) = inr (inl (fault, no_value T t (refusal_of e) e.span distinct (first_is_fault o o T t (refusal_of e) e.span fault)))
  refused T t (Err e) distinct (inr (inr h)) = inr (inr h)
