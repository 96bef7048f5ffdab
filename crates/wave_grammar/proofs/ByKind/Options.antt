-- Options, and values that stand for an option that wraps them.
use Rattle.std.proofs.Common.{ℕ, ◌≡◌, ◌≢◌, ◌⊎◌, inl, inr, List, [], ◌∷◌, Option, Some, None, option_map, Result, Ok, Err, IfOk, IfErr, MatchResult, refl, sym, ap, ◌∙◌, subst}
use Rattle.std.specs.declared.ops.Range.{Range}
use Rattle.wave_wasm.specs.Types as type
use Rattle.wave_wasm.specs.Types.{TypeTree, HasDistinctNames, option_part, kind_of, simple_kind, unreadable_kind}
use Rattle.wave_wasm.specs.Values as value
use Rattle.wave_wasm.specs.Values.{Value, no_value, a_value, maybe_value}
use Rattle.wave_wasm.specs.ConstructorContracts.{IsMemory, MakesOption, FullOption, OptionIsOf, HasFullParts}
use Rattle.wave_wasm.specs.declared.wasm.WasmValueError.{WasmValueError}
use Rattle.wave_lex.specs.Errors.{Diagnostic, Refusal, refusal_of}
use Rattle.wave_lex.specs.declared.error.ParserErrorKind.TheVariants.{InvalidType}
use Rattle.wave_grammar.specs.Tree as form
use Rattle.wave_grammar.specs.Elaborates.{TreeReads}
use Rattle.wave_grammar.specs.TypedGrammar.{IsFlat}
use Rattle.wave_grammar.specs.SpannedTree.{SpannedTree, SpannedShape, at, none, some, slice, span_of, shape_of, tree_of, SpellsEach}
use Rattle.wave_grammar.specs.TypeErrors.{Blame, IsRefusalOf, OfOption, Fault}
use Rattle.wave_grammar.specs.FaultOrder.{Order, FirstFault}
use Rattle.wave_grammar.specs.NodeTree.{NodeTree, type_of, place_of, children_of, node_list}
use Rattle.wave_grammar.specs.Nodes.{placed_of, shape_from, IsNodeOf}
use Rattle.wave_grammar.specs.NodeAccessors.{first_of, GivesOption}
use Rattle.wave_grammar.specs.TypedReading.{IsTypedValue, IsBlamed, IsBuilt}
use Rattle.wave_grammar.proofs.ChildNodes.Inside.{From, inside, some_is, AreParsed, parsed, nodes_in, nodes_are}
use Rattle.wave_grammar.proofs.ChildNodes.Cases.{shape_at}
use Rattle.wave_grammar.proofs.ByKind.Leaves.{tree_is, at_tree, said}
use Rattle.wave_grammar.proofs.ByKind.MakerAnswers.{built}
use Rattle.wave_grammar.specs.declared.form.NodeType.{NodeType}
use Rattle.wave_grammar.specs.declared.form.NodeType.TheVariants as kind

-- ---- the nodes

some_shape : (p : Range ℕ) (text : List ℕ) (cs : List SpannedTree) (s : SpannedShape) → shape_from kind.OptionSome p text cs ≡ Some s → (u : SpannedTree) × (cs ≡ u ∷ []) × (s ≡ some u)
some_shape p text [] s e = absurd (cc)
some_shape p text (u ∷ []) s e = (u, refl, sym (some_is _ _ e))
some_shape p text (u ∷ w ∷ more) s e = absurd (cc)

none_shape : (p : Range ℕ) (text : List ℕ) (cs : List SpannedTree) (s : SpannedShape) → shape_from kind.OptionNone p text cs ≡ Some s → s ≡ none
none_shape p text [] s e = sym (some_is _ _ e)
none_shape p text (u ∷ more) s e = absurd (cc)

-- the one node of one tree
pub one_parsed : (source : List ℕ) (ns : List NodeTree) (u : SpannedTree) → AreParsed source ns (u ∷ []) → (m : NodeTree) × (ns ≡ m ∷ []) × (placed_of source m ≡ Some u)
one_parsed source [] u h = absurd h
one_parsed source (m ∷ []) u h = (m, refl, h.0)
one_parsed source (m ∷ n ∷ ns) u h = absurd h.1

-- the payload of `some`
pub record SomeNode (source : List ℕ) (n : NodeTree) (t : SpannedTree) : Type 0 where
  pub payload : SpannedTree
  pub inner : NodeTree
  pub shape : shape_of t ≡ some payload
  pub children : children_of n ≡ inner ∷ []
  pub node : IsNodeOf source inner payload

pub some_node : (source : List ℕ) (n : NodeTree) (t : SpannedTree) → IsNodeOf source n t → type_of n ≡ kind.OptionSome → SomeNode source n t
some_node source n (at r s) h e =
    let i = inside source n (at r s) h.0 in
    let c = some_shape (place_of n) (slice source (place_of n)) i.children s (shape_at kind.OptionSome source n (at r s) i e) in
    let k = one_parsed source (node_list (nodes_in n)) c.0 (subst (λ (ts : List SpannedTree). AreParsed source (node_list (nodes_in n)) ts) c.1 (parsed source (nodes_in n) i.children i.each)) in
    let spelled : SpellsEach source (at r (some c.0)) = subst (λ (x : SpannedShape). SpellsEach source (at r x)) c.2 h.1 in
    record { payload = c.0; inner = k.0; shape = c.2; children = sym (nodes_are n) ∙ k.1; node = (k.2, spelled.1.1) }

none_node : (source : List ℕ) (n : NodeTree) (t : SpannedTree) → IsNodeOf source n t → type_of n ≡ kind.OptionNone → shape_of t ≡ none
none_node source n t h e =
    let i = inside source n t h.0 in
    none_shape (place_of n) (slice source (place_of n)) i.children (shape_of t) (shape_at kind.OptionNone source n t i e)

-- where nothing is answered the node is `none`
pub given_none : (source : List ℕ) (n : NodeTree) (t : SpannedTree) → IsNodeOf source n t → GivesOption n (Ok None) → shape_of t ≡ none
given_none source n t h (inl g) = absurd (cc (g.1 ∙ ap first_of (some_node source n t h g.0).children))
given_none source n t h (inr g) = none_node source n t h g.0

other_form : (ty : NodeType) (p : Range ℕ) (text : List ℕ) (cs : List SpannedTree) (s : SpannedShape) (Within : SpannedTree → Blame) (Flat : Blame) (k : Refusal) (q : Range ℕ) → From ty p text cs s → ty ≢ kind.OptionSome → ty ≢ kind.OptionNone → Flat k q → OfOption s Within Flat k q
other_form ty p text cs none Within Flat k q f x y flat = absurd (y f.0)
other_form ty p text cs (some u) Within Flat k q f x y flat = absurd (x f.0)
other_form ty p text cs _ Within Flat k q f x y flat = flat

-- ---- faults

some_fault : (o w : Order) (P : TypeTree) (t u : SpannedTree) (k : Refusal) (q : Range ℕ) → shape_of t ≡ some u → FirstFault w w P u k q → FirstFault o w (type.option P) t k q
some_fault o w P t u k q shape fault =
    subst (λ (s : SpannedShape). OfOption s (FirstFault w w P) (λ l r. (IsFlat P → ⊥) × IsRefusalOf InvalidType (span_of t) l r ⊎ IsFlat P × FirstFault o w P t l r) k q) (sym shape) fault

-- a node of another form at a payload that is not flat
pub option_fault : (o w : Order) (P : TypeTree) (source : List ℕ) (n : NodeTree) (t : SpannedTree) (e : Diagnostic) → placed_of source n ≡ Some t → GivesOption n (Err e) → (IsFlat P → ⊥) → FirstFault o w (type.option P) t (refusal_of e) e.span
option_fault o w P source n t e is g apart =
    let i = inside source n t is in
    other_form (type_of n) (place_of n) (slice source (place_of n)) i.children (shape_of t) (FirstFault w w P) (λ l r. (IsFlat P → ⊥) × IsRefusalOf InvalidType (span_of t) l r ⊎ IsFlat P × FirstFault o w P t l r) (refusal_of e) e.span i.from g.0 g.1 (inl (apart, at_tree InvalidType (place_of n) (span_of t) (refusal_of e) e.span i.place (said g.2)))

module _ {V : Type 0} (tree : V → Value) (of : V → TypeTree → Type 0) (Full : TypeTree → Type 0) (o w : Order) where
  -- a refusal of the payload of `some`
  pub some_blame : (T P : TypeTree) (t u : SpannedTree) (e : Diagnostic) → T ≡ type.option P → shape_of t ≡ some u → HasFullParts Full → IsBlamed Full w w P u e → IsBlamed Full o w T t e
  some_blame T P t u e is shape parts (inl memory) = inl memory
  some_blame T P t u e is shape parts (inr (inl fault)) = inr (inl (subst (λ (U : TypeTree). FirstFault o w U t (refusal_of e) e.span) (sym is) (some_fault o w P t u (refusal_of e) e.span shape fault)))
  some_blame T P t u e is shape parts (inr (inr h)) = inr (inr (h.0, λ full. h.1 (parts (type.option P) (subst Full is full)).0))

  -- a refusal of the node itself at a flat payload type
  pub flat_blame : (T P : TypeTree) (source : List ℕ) (n : NodeTree) (t : SpannedTree) (g e : Diagnostic) → T ≡ type.option P → placed_of source n ≡ Some t → GivesOption n (Err g) → IsFlat P → HasFullParts Full → IsBlamed Full o w P t e → IsBlamed Full o w T t e
  flat_blame T P source n t g e is node given flat parts (inl memory) = inl memory
  flat_blame T P source n t g e is node given flat parts (inr (inl fault)) =
      let i = inside source n t node in
      inr (inl (subst (λ (U : TypeTree). FirstFault o w U t (refusal_of e) e.span) (sym is) (other_form (type_of n) (place_of n) (slice source (place_of n)) i.children (shape_of t) (FirstFault w w P) (λ l r. (IsFlat P → ⊥) × IsRefusalOf InvalidType (span_of t) l r ⊎ IsFlat P × FirstFault o w P t l r) (refusal_of e) e.span i.from given.0 given.1 (inr (flat, fault)))))
  flat_blame T P source n t g e is node given flat parts (inr (inr h)) = inr (inr (h.0, λ full. h.1 (parts (type.option P) (subst Full is full)).0))

  option_reads : (T P : TypeTree) (t : SpannedTree) (payload : Option V) (m : Result V WasmValueError) → T ≡ type.option P → HasDistinctNames T → TreeReads (type.option P) (tree_of t) (value.option (maybe_value (option_map tree payload))) → IfOk m (MakesOption tree of T payload) → IfOk m (IsTypedValue tree of T t)
  option_reads T P t payload (Ok v) is distinct read h =
      let makes = h distinct in
      record { reads = subst (λ (U : TypeTree). TreeReads U (tree_of t) (tree v)) (sym is) (subst (λ (w : Value). TreeReads (type.option P) (tree_of t) w) (sym makes.means) read); is_of = makes.is_of }
  option_reads T P t payload (Err cause) is distinct read h = tt

  option_full : (T P : TypeTree) (payload : Option V) (m : Result V WasmValueError) → T ≡ type.option P → OptionIsOf of P payload → IfErr m (FullOption of Full T payload) → IfErr m (λ cause. Full T → IsMemory cause)
  option_full T P payload (Ok v) is h f = tt
  option_full T P payload (Err cause) is h f = λ full. f full P is h

  option_built : (T P : TypeTree) (t : SpannedTree) (n : NodeTree) (payload : Option V) (m : Result V WasmValueError) (r : Result V Diagnostic) → T ≡ type.option P → HasDistinctNames T → TreeReads (type.option P) (tree_of t) (value.option (maybe_value (option_map tree payload))) → OptionIsOf of P payload → IfOk m (MakesOption tree of T payload) → IfErr m (FullOption of Full T payload) → IsBuilt n m r → MatchResult r (IsTypedValue tree of T t) (IsBlamed Full o w T t)
  option_built T P t n payload m r is distinct read h ok full done = built tree of Full o w T t n m r done (option_reads T P t payload m is distinct read ok) (option_full T P payload m is h full)

  -- `none`
  pub none_built : (T P : TypeTree) (source : List ℕ) (t : SpannedTree) (n : NodeTree) (m : Result V WasmValueError) (r : Result V Diagnostic) → T ≡ type.option P → HasDistinctNames T → shape_of t ≡ none → IfOk m (MakesOption tree of T None) → IfErr m (FullOption of Full T None) → IsBuilt n m r → MatchResult r (IsTypedValue tree of T t) (IsBlamed Full o w T t)
  none_built T P source t n m r is distinct shape ok full done = option_built T P t n None m r is distinct (inl (inl (tree_is t none shape, refl))) tt ok full done

  -- `some` of its payload
  pub some_built : (T P : TypeTree) (t u : SpannedTree) (n : NodeTree) (v : V) (m : Result V WasmValueError) (r : Result V Diagnostic) → T ≡ type.option P → HasDistinctNames T → shape_of t ≡ some u → IsTypedValue tree of P u v → IfOk m (MakesOption tree of T (Some v)) → IfErr m (FullOption of Full T (Some v)) → IsBuilt n m r → MatchResult r (IsTypedValue tree of T t) (IsBlamed Full o w T t)
  some_built T P t u n v m r is distinct shape read ok full done =
      option_built T P t n (Some v) m r is distinct (inl (inr (tree_of u, tree v, tree_is t (some u) shape, read.reads, refl))) read.is_of ok full done

  -- a flat payload
  pub flat_built : (T P : TypeTree) (t : SpannedTree) (n : NodeTree) (v : V) (m : Result V WasmValueError) (r : Result V Diagnostic) → T ≡ type.option P → HasDistinctNames T → IsFlat P → IsTypedValue tree of P t v → IfOk m (MakesOption tree of T (Some v)) → IfErr m (FullOption of Full T (Some v)) → IsBuilt n m r → MatchResult r (IsTypedValue tree of T t) (IsBlamed Full o w T t)
  flat_built T P t n v m r is distinct flat read ok full done =
      option_built T P t n (Some v) m r is distinct (inr (tree v, (flat, read.reads), refl)) read.is_of ok full done

-- ---- no value

-- `some`, `ok` and `err`
abbrev pub IsWrapped : form.Tree → Type 0
IsWrapped (form.some u) = Unit {0}
IsWrapped (form.ok u) = Unit {0}
IsWrapped (form.err u) = Unit {0}
IsWrapped _ = ⊥

-- no flat type reads them
pub flat_unwrapped : (P : TypeTree) (t : form.Tree) (w : Value) → IsWrapped t → IsFlat P → TreeReads P t w → ⊥
flat_unwrapped (type.simple S) t w is f h = subst IsWrapped h.2 is
flat_unwrapped (type.unreadable k) t w is f h = h
flat_unwrapped (type.list E) t w is f h = subst IsWrapped h.2 is
flat_unwrapped (type.fixed E n) t w is f h = subst IsWrapped h.2 is
flat_unwrapped (type.record_type fs) t w is f (es, found, all, inl a, b, c, d, e) = subst IsWrapped a.0 is
flat_unwrapped (type.record_type fs) t w is f (es, found, all, inr a, b, c, d, e) = subst IsWrapped a.0 is
flat_unwrapped (type.tuple Ts) t w is f h = subst IsWrapped h.2 is
flat_unwrapped (type.variant cs) t w is f h = subst IsWrapped h.3 is
flat_unwrapped (type.enum names) t w is f h = subst IsWrapped h.1 is
flat_unwrapped (type.option P) t w is f h = f
flat_unwrapped (type.result A B) t w is f h = f
flat_unwrapped (type.flags names) t w is f (texts, inl a, b, c) = subst IsWrapped a.0 is
flat_unwrapped (type.flags names) t w is f (texts, inr a, b, c) = subst IsWrapped a is
flat_unwrapped (type.map K W) t w is f (es, pairs, inl (inl a, b), c, d) = subst IsWrapped a is
flat_unwrapped (type.map K W) t w is f (es, pairs, inl (inr a, b), c, d) = subst IsWrapped a is
flat_unwrapped (type.map K W) t w is f (es, pairs, inr a, c, d) = subst IsWrapped a.0 is

-- where the payload of `some` has no value, nor has the option
pub some_none : (P : TypeTree) (u : SpannedTree) (v : Value) → ((w : Value) → TreeReads P (tree_of u) w → ⊥) → TreeReads (type.option P) (form.some (tree_of u)) v → ⊥
some_none P u v apart (inl (inl h)) = absurd (cc h.0)
some_none P u v apart (inl (inr (inner, w, e, read, f))) = apart w (subst (λ (t : form.Tree). TreeReads P t w) (sym (some_once (tree_of u) inner e)) read)
  where
    some_once : (a b : form.Tree) → form.some a ≡ form.some b → a ≡ b
    some_once a b e = cc
some_none P u v apart (inr (w, h, f)) = flat_unwrapped P (form.some (tree_of u)) w tt h.0 h.1

-- where a node of another form has no value at a flat payload type
pub flat_none : (P : TypeTree) (t : SpannedTree) (k : Refusal) (q p : _) (w : Value) → (Fault P t k q → (v : Value) → TreeReads P (tree_of t) v → ⊥) → (IsFlat P → ⊥) × IsRefusalOf InvalidType p k q ⊎ IsFlat P × Fault P t k q → IsFlat P → TreeReads P (tree_of t) w → ⊥
flat_none P t k q p w apart (inl h) flat read = h.0 flat
flat_none P t k q p w apart (inr h) flat read = apart h.1 w read
