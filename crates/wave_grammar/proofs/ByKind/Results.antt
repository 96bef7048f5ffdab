-- Results, and values that stand for `ok` of themselves.
use Rattle.std.proofs.Common.{ℕ, ◌≡◌, ◌≢◌, inl, inr, ◌+◌, List, [], ◌∷◌, Option, Some, None, option_map, Result, Ok, Err, IfOk, IfErr, MatchResult, codes, refl, sym, subst}
use Rattle.std.specs.declared.ops.Range.{Range}
use Rattle.wave_wasm.specs.Lists.{AllOf}
use Rattle.wave_wasm.specs.Types as type
use Rattle.wave_wasm.specs.Types.{TypeTree, MaybeType, HasDistinctNames, maybe_type, type_option, result_parts}
use Rattle.wave_wasm.specs.Values as value
use Rattle.wave_wasm.specs.Values.{Value}
use Rattle.wave_wasm.specs.ConstructorContracts.{IsMemory, MakesResult, FullResult, EitherIsOf, result_value, either_tree, payload_and, HasFullParts}
use Rattle.wave_wasm.specs.declared.wasm.WasmValueError.{WasmValueError}
use Rattle.wave_lex.specs.Errors.{Diagnostic, Refusal, refusal_of}
use Rattle.wave_lex.specs.declared.error.ParserErrorKind.TheVariants.{InvalidType}
use Rattle.wave_grammar.specs.Tree as form
use Rattle.wave_grammar.specs.Elaborates.{TreeReads, TreeReadsPayload}
use Rattle.wave_grammar.specs.TypedGrammar.{IsFlat}
use Rattle.wave_grammar.specs.SpannedTree.{SpannedTree, SpannedShape, MaybePlaced, at, ok, err, no_placed, a_placed, slice, span_of, shape_of, tree_of, maybe_of, SpellsEach, SpellsMaybe}
use Rattle.wave_grammar.specs.TypeErrors.{Blame, IsRefusalOf, OfResult}
use Rattle.wave_grammar.specs.FaultOrder.{Order, FirstFault, FirstOfPayload, FirstOfFlat}
use Rattle.wave_grammar.specs.NodeTree.{NodeTree, type_of, place_of, children_of, node_list}
use Rattle.wave_grammar.specs.Nodes.{placed_of, all_placed, shape_from, IsNodeOf}
use Rattle.wave_grammar.specs.NodeAccessors.{first_of, GivesResult}
use Rattle.wave_grammar.specs.TypedReading.{IsTypedValue, IsBlamed, IsBuilt}
use Rattle.wave_grammar.specs.PartReading.{IsPayloadNodeOf, IsPayloadRead, IsPayloadBlamed}
use Rattle.wave_grammar.proofs.ChildNodes.Inside.{From, inside, some_is, AreParsed, parsed, nodes_in, nodes_are}
use Rattle.wave_grammar.proofs.ChildNodes.Cases.{shape_at}
use Rattle.wave_grammar.proofs.ByKind.Options.{one_parsed, flat_unwrapped}
use Rattle.wave_grammar.proofs.ByKind.Leaves.{tree_is, at_tree, said}
use Rattle.wave_grammar.proofs.ByKind.MakerAnswers.{built}
use Rattle.wave_grammar.specs.declared.form.NodeType.{NodeType}
use Rattle.wave_grammar.specs.declared.form.NodeType.TheVariants as kind

-- a payload's type, from its option and back
pub maybe_back : (A : MaybeType) → maybe_type (type_option A) ≡ A
maybe_back type.no_type = refl
maybe_back (type.a_type T) = refl

-- ---- the nodes

-- the payload, as a list
abbrev pub payload_list : MaybePlaced → List SpannedTree
payload_list no_placed = []
payload_list (a_placed u) = u ∷ []

ok_shape : (p : Range ℕ) (text : List ℕ) (cs : List SpannedTree) (s : SpannedShape) → shape_from kind.ResultOk p text cs ≡ Some s → (payload : MaybePlaced) × (cs ≡ payload_list payload) × (s ≡ ok payload)
ok_shape p text [] s e = (no_placed, refl, sym (some_is _ _ e))
ok_shape p text (u ∷ []) s e = (a_placed u, refl, sym (some_is _ _ e))
ok_shape p text (u ∷ w ∷ more) s e = absurd (cc)

err_shape : (p : Range ℕ) (text : List ℕ) (cs : List SpannedTree) (s : SpannedShape) → shape_from kind.ResultErr p text cs ≡ Some s → (payload : MaybePlaced) × (cs ≡ payload_list payload) × (s ≡ err payload)
err_shape p text [] s e = (no_placed, refl, sym (some_is _ _ e))
err_shape p text (u ∷ []) s e = (a_placed u, refl, sym (some_is _ _ e))
err_shape p text (u ∷ w ∷ more) s e = absurd (cc)

none_parsed : (source : List ℕ) (ns : List NodeTree) → AreParsed source ns [] → ns ≡ []
none_parsed source [] h = refl
none_parsed source (n ∷ ns) h = absurd h

payload_first : (source : List ℕ) (ns : List NodeTree) (payload : MaybePlaced) (from to : ℕ) → AreParsed source ns (payload_list payload) → SpellsMaybe source from to payload → IsPayloadNodeOf source (first_of ns) payload
payload_first source ns no_placed from to h spelled = subst (λ (l : List NodeTree). IsPayloadNodeOf source (first_of l) no_placed) (sym (none_parsed source ns h)) tt
payload_first source ns (a_placed u) from to h spelled =
    let k = one_parsed source ns u h in
    subst (λ (l : List NodeTree). IsPayloadNodeOf source (first_of l) (a_placed u)) (sym k.1) (k.2, spelled.1)

-- the one child of a node, where there is one, is that of its payload
payload_node : (source : List ℕ) (n : NodeTree) (cs : List SpannedTree) (payload : MaybePlaced) (from to : ℕ) → all_placed source (nodes_in n) ≡ Some cs → cs ≡ payload_list payload → SpellsMaybe source from to payload → IsPayloadNodeOf source (first_of (children_of n)) payload
payload_node source n cs payload from to each is spelled =
    subst (λ (l : List NodeTree). IsPayloadNodeOf source (first_of l) payload) (nodes_are n) (payload_first source (node_list (nodes_in n)) payload from to (subst (λ (ts : List SpannedTree). AreParsed source (node_list (nodes_in n)) ts) is (parsed source (nodes_in n) cs each)) spelled)

-- the payload of `ok`
pub ok_node : (source : List ℕ) (n : NodeTree) (t : SpannedTree) → IsNodeOf source n t → type_of n ≡ kind.ResultOk → (payload : MaybePlaced) × (shape_of t ≡ ok payload) × IsPayloadNodeOf source (first_of (children_of n)) payload
ok_node source n (at r s) h e =
    let i = inside source n (at r s) h.0 in
    let c = ok_shape (place_of n) (slice source (place_of n)) i.children s (shape_at kind.ResultOk source n (at r s) i e) in
    let spelled : SpellsEach source (at r (ok c.0)) = subst (λ (x : SpannedShape). SpellsEach source (at r x)) c.2 h.1 in
    (c.0, c.2, payload_node source n i.children c.0 (r.start + 1) r.end i.each c.1 spelled.1)

-- the payload of `err`
pub err_node : (source : List ℕ) (n : NodeTree) (t : SpannedTree) → IsNodeOf source n t → type_of n ≡ kind.ResultErr → (payload : MaybePlaced) × (shape_of t ≡ err payload) × IsPayloadNodeOf source (first_of (children_of n)) payload
err_node source n (at r s) h e =
    let i = inside source n (at r s) h.0 in
    let c = err_shape (place_of n) (slice source (place_of n)) i.children s (shape_at kind.ResultErr source n (at r s) i e) in
    let spelled : SpellsEach source (at r (err c.0)) = subst (λ (x : SpannedShape). SpellsEach source (at r x)) c.2 h.1 in
    (c.0, c.2, payload_node source n i.children c.0 (r.start + 1) r.end i.each c.1 spelled.1)

other_form : (ty : NodeType) (p : Range ℕ) (text : List ℕ) (cs : List SpannedTree) (s : SpannedShape) (OnOk OnErr : MaybePlaced → Blame) (Flat : Blame) (k : Refusal) (q : Range ℕ) → From ty p text cs s → ty ≢ kind.ResultOk → ty ≢ kind.ResultErr → Flat k q → OfResult s OnOk OnErr Flat k q
other_form ty p text cs (ok no_placed) OnOk OnErr Flat k q f x y flat = absurd (x f.0)
other_form ty p text cs (ok (a_placed u)) OnOk OnErr Flat k q f x y flat = absurd (x f.0)
other_form ty p text cs (err no_placed) OnOk OnErr Flat k q f x y flat = absurd (y f.0)
other_form ty p text cs (err (a_placed u)) OnOk OnErr Flat k q f x y flat = absurd (y f.0)
other_form ty p text cs _ OnOk OnErr Flat k q f x y flat = flat

-- ---- faults

-- what is wrong with the payload of `ok`, and of `err`
abbrev OkFault : Order → MaybeType → Range ℕ → MaybePlaced → Blame
OkFault w A p payload = FirstOfPayload w (codes "ok") A payload p

abbrev ErrFault : Order → MaybeType → Range ℕ → MaybePlaced → Blame
ErrFault w B p payload = FirstOfPayload w (codes "err") B payload p

ok_fault : (o w : Order) (A B : MaybeType) (t : SpannedTree) (payload : MaybePlaced) (k : Refusal) (q : Range ℕ) → shape_of t ≡ ok payload → OkFault w A (span_of t) payload k q → FirstFault o w (type.result A B) t k q
ok_fault o w A B t payload k q shape fault =
    subst (λ (s : SpannedShape). OfResult s (OkFault w A (span_of t)) (ErrFault w B (span_of t)) (FirstOfFlat o w A t) k q) (sym shape) fault

err_fault : (o w : Order) (A B : MaybeType) (t : SpannedTree) (payload : MaybePlaced) (k : Refusal) (q : Range ℕ) → shape_of t ≡ err payload → ErrFault w B (span_of t) payload k q → FirstFault o w (type.result A B) t k q
err_fault o w A B t payload k q shape fault =
    subst (λ (s : SpannedShape). OfResult s (OkFault w A (span_of t)) (ErrFault w B (span_of t)) (FirstOfFlat o w A t) k q) (sym shape) fault

flat_fault : (o w : Order) (A B : MaybeType) (source : List ℕ) (n : NodeTree) (t : SpannedTree) (g : Diagnostic) (k : Refusal) (q : Range ℕ) → placed_of source n ≡ Some t → GivesResult n (Err g) → FirstOfFlat o w A t k q → FirstFault o w (type.result A B) t k q
flat_fault o w A B source n t g k q is given fault =
    let i = inside source n t is in
    other_form (type_of n) (place_of n) (slice source (place_of n)) i.children (shape_of t) (OkFault w A (span_of t)) (ErrFault w B (span_of t)) (FirstOfFlat o w A t) k q i.from given.0 given.1 fault

refused_flat : (o w : Order) (P : Option TypeTree) (t : SpannedTree) (k : Refusal) (q : Range ℕ) → ((U : TypeTree) → P ≡ Some U → IsFlat U → ⊥) → IsRefusalOf InvalidType (span_of t) k q → FirstOfFlat o w (maybe_type P) t k q
refused_flat o w None t k q apart refused = refused
refused_flat o w (Some U) t k q apart refused = inl (apart U refl, refused)

-- a node of another form where `ok` has no flat payload
pub result_fault : (o w : Order) (T : TypeTree) (P : Option TypeTree) (B : MaybeType) (source : List ℕ) (n : NodeTree) (t : SpannedTree) (e : Diagnostic) → T ≡ type.result (maybe_type P) B → placed_of source n ≡ Some t → GivesResult n (Err e) → ((U : TypeTree) → P ≡ Some U → IsFlat U → ⊥) → FirstFault o w T t (refusal_of e) e.span
result_fault o w T P B source n t e is node given apart =
    let i = inside source n t node in
    subst (λ (U : TypeTree). FirstFault o w U t (refusal_of e) e.span) (sym is) (flat_fault o w (maybe_type P) B source n t e (refusal_of e) e.span node given (refused_flat o w P t (refusal_of e) e.span apart (at_tree InvalidType (place_of n) (span_of t) (refusal_of e) e.span i.place (said given.2))))

module _ {V : Type 0} (tree : V → Value) (of : V → TypeTree → Type 0) (Full : TypeTree → Type 0) (o w : Order) where
  ok_full : (A B : MaybeType) → AllOf Full (payload_and A (payload_and B [])) → AllOf Full (payload_and A [])
  ok_full type.no_type B h = tt
  ok_full (type.a_type U) B h = (h.0, tt)

  err_full : (A B : MaybeType) → AllOf Full (payload_and A (payload_and B [])) → AllOf Full (payload_and B [])
  err_full type.no_type B h = h
  err_full (type.a_type U) B h = h.1

  -- a refusal of the payload of `ok`
  pub ok_blame : (T : TypeTree) (A B : MaybeType) (source : List ℕ) (n : NodeTree) (t : SpannedTree) (payload : MaybePlaced) (e : Diagnostic) → T ≡ type.result A B → placed_of source n ≡ Some t → shape_of t ≡ ok payload → HasFullParts Full → IsPayloadBlamed Full w (codes "ok") A n payload e → IsBlamed Full o w T t e
  ok_blame T A B source n t payload e is node shape parts (inl memory) = inl memory
  ok_blame T A B source n t payload e is node shape parts (inr (inl fault)) =
      inr (inl (subst (λ (U : TypeTree). FirstFault o w U t (refusal_of e) e.span) (sym is) (ok_fault o w A B t payload (refusal_of e) e.span shape (subst (λ (p : Range ℕ). OkFault w A p payload (refusal_of e) e.span) (sym (inside source n t node).place) fault))))
  ok_blame T A B source n t payload e is node shape parts (inr (inr h)) = inr (inr (h.0, λ full. h.1 (ok_full A B (parts (type.result A B) (subst Full is full)))))

  -- a refusal of the payload of `err`
  pub err_blame : (T : TypeTree) (A B : MaybeType) (source : List ℕ) (n : NodeTree) (t : SpannedTree) (payload : MaybePlaced) (e : Diagnostic) → T ≡ type.result A B → placed_of source n ≡ Some t → shape_of t ≡ err payload → HasFullParts Full → IsPayloadBlamed Full w (codes "err") B n payload e → IsBlamed Full o w T t e
  err_blame T A B source n t payload e is node shape parts (inl memory) = inl memory
  err_blame T A B source n t payload e is node shape parts (inr (inl fault)) =
      inr (inl (subst (λ (U : TypeTree). FirstFault o w U t (refusal_of e) e.span) (sym is) (err_fault o w A B t payload (refusal_of e) e.span shape (subst (λ (p : Range ℕ). ErrFault w B p payload (refusal_of e) e.span) (sym (inside source n t node).place) fault))))
  err_blame T A B source n t payload e is node shape parts (inr (inr h)) = inr (inr (h.0, λ full. h.1 (err_full A B (parts (type.result A B) (subst Full is full)))))

  -- a refusal of the node itself at a flat payload type
  pub result_flat_blame : (T U : TypeTree) (B : MaybeType) (source : List ℕ) (n : NodeTree) (t : SpannedTree) (g e : Diagnostic) → T ≡ type.result (type.a_type U) B → placed_of source n ≡ Some t → GivesResult n (Err g) → IsFlat U → HasFullParts Full → IsBlamed Full o w U t e → IsBlamed Full o w T t e
  result_flat_blame T U B source n t g e is node given flat parts (inl memory) = inl memory
  result_flat_blame T U B source n t g e is node given flat parts (inr (inl fault)) =
      inr (inl (subst (λ (W : TypeTree). FirstFault o w W t (refusal_of e) e.span) (sym is) (flat_fault o w (type.a_type U) B source n t g (refusal_of e) e.span node given (inr (flat, fault)))))
  result_flat_blame T U B source n t g e is node given flat parts (inr (inr h)) = inr (inr (h.0, λ full. h.1 (parts (type.result (type.a_type U) B) (subst Full is full)).0))

  result_reads : (T : TypeTree) (A B : MaybeType) (t : SpannedTree) (payload : Result (Option V) (Option V)) (m : Result V WasmValueError) → T ≡ type.result A B → HasDistinctNames T → TreeReads (type.result A B) (tree_of t) (result_value (either_tree tree payload)) → IfOk m (MakesResult tree of T payload) → IfOk m (IsTypedValue tree of T t)
  result_reads T A B t payload (Ok v) is distinct read h =
      let makes = h distinct in
      record { reads = subst (λ (U : TypeTree). TreeReads U (tree_of t) (tree v)) (sym is) (subst (λ (w : Value). TreeReads (type.result A B) (tree_of t) w) (sym makes.means) read); is_of = makes.is_of }
  result_reads T A B t payload (Err cause) is distinct read h = tt

  result_full : (T : TypeTree) (A B : MaybeType) (payload : Result (Option V) (Option V)) (m : Result V WasmValueError) → T ≡ type.result A B → EitherIsOf of (type_option A) (type_option B) payload → IfErr m (FullResult of Full T payload) → IfErr m (λ cause. Full T → IsMemory cause)
  result_full T A B payload (Ok v) is h f = tt
  result_full T A B payload (Err cause) is h f = λ full. f full A B is h

  result_built : (T : TypeTree) (A B : MaybeType) (t : SpannedTree) (n : NodeTree) (payload : Result (Option V) (Option V)) (m : Result V WasmValueError) (r : Result V Diagnostic) → T ≡ type.result A B → HasDistinctNames T → TreeReads (type.result A B) (tree_of t) (result_value (either_tree tree payload)) → EitherIsOf of (type_option A) (type_option B) payload → IfOk m (MakesResult tree of T payload) → IfErr m (FullResult of Full T payload) → IsBuilt n m r → MatchResult r (IsTypedValue tree of T t) (IsBlamed Full o w T t)
  result_built T A B t n payload m r is distinct read h makes full done = built tree of Full o w T t n m r done (result_reads T A B t payload m is distinct read makes) (result_full T A B payload m is h full)

  -- `ok` with its payload
  pub ok_built : (T : TypeTree) (A B : MaybeType) (t : SpannedTree) (n : NodeTree) (payload : MaybePlaced) (v : Option V) (m : Result V WasmValueError) (r : Result V Diagnostic) → T ≡ type.result A B → HasDistinctNames T → shape_of t ≡ ok payload → IsPayloadRead tree of A payload v → IfOk m (MakesResult tree of T (Ok v)) → IfErr m (FullResult of Full T (Ok v)) → IsBuilt n m r → MatchResult r (IsTypedValue tree of T t) (IsBlamed Full o w T t)
  ok_built T A B t n payload v m r is distinct shape read makes full done =
      result_built T A B t n (Ok v) m r is distinct (inl (inl (maybe_of payload, value.maybe_value (option_map tree v), tree_is t (ok payload) shape, read.reads, refl))) read.is_of makes full done

  -- `err` with its payload
  pub err_built : (T : TypeTree) (A B : MaybeType) (t : SpannedTree) (n : NodeTree) (payload : MaybePlaced) (v : Option V) (m : Result V WasmValueError) (r : Result V Diagnostic) → T ≡ type.result A B → HasDistinctNames T → shape_of t ≡ err payload → IsPayloadRead tree of B payload v → IfOk m (MakesResult tree of T (Err v)) → IfErr m (FullResult of Full T (Err v)) → IsBuilt n m r → MatchResult r (IsTypedValue tree of T t) (IsBlamed Full o w T t)
  err_built T A B t n payload v m r is distinct shape read makes full done =
      result_built T A B t n (Err v) m r is distinct (inl (inr (maybe_of payload, value.maybe_value (option_map tree v), tree_is t (err payload) shape, read.reads, refl))) read.is_of makes full done

  -- a flat payload of `ok`
  pub result_flat_built : (T U : TypeTree) (B : MaybeType) (t : SpannedTree) (n : NodeTree) (v : V) (m : Result V WasmValueError) (r : Result V Diagnostic) → T ≡ type.result (type.a_type U) B → HasDistinctNames T → IsFlat U → IsTypedValue tree of U t v → IfOk m (MakesResult tree of T (Ok (Some v))) → IfErr m (FullResult of Full T (Ok (Some v))) → IsBuilt n m r → MatchResult r (IsTypedValue tree of T t) (IsBlamed Full o w T t)
  result_flat_built T U B t n v m r is distinct flat read makes full done =
      result_built T (type.a_type U) B t n (Ok (Some v)) m r is distinct (inr (tree v, (flat, read.reads), refl)) read.is_of makes full done

-- ---- no value

-- where the payload of `ok` has no value, nor has the result
pub ok_none : (A B : MaybeType) (u : form.MaybeTree) (v : Value) → ((w : value.MaybeValue) → TreeReadsPayload A u w → ⊥) → TreeReads (type.result A B) (form.ok u) v → ⊥
ok_none A B u v apart (inl (inl (inner, w, e, read, f))) = apart w (subst (λ (t : form.MaybeTree). TreeReadsPayload A t w) (sym (ok_once u inner e)) read)
  where
    ok_once : (a b : form.MaybeTree) → form.ok a ≡ form.ok b → a ≡ b
    ok_once a b e = cc
ok_none A B u v apart (inl (inr (inner, w, e, read, f))) = absurd (cc)
ok_none type.no_type B u v apart (inr (w, h, f)) = h
ok_none (type.a_type U) B u v apart (inr (w, h, f)) = flat_unwrapped U (form.ok u) w tt h.0 h.1

-- where the payload of `err` has no value, nor has the result
pub err_none : (A B : MaybeType) (u : form.MaybeTree) (v : Value) → ((w : value.MaybeValue) → TreeReadsPayload B u w → ⊥) → TreeReads (type.result A B) (form.err u) v → ⊥
err_none A B u v apart (inl (inl (inner, w, e, read, f))) = absurd (cc)
err_none A B u v apart (inl (inr (inner, w, e, read, f))) = apart w (subst (λ (t : form.MaybeTree). TreeReadsPayload B t w) (sym (err_once u inner e)) read)
  where
    err_once : (a b : form.MaybeTree) → form.err a ≡ form.err b → a ≡ b
    err_once a b e = cc
err_none type.no_type B u v apart (inr (w, h, f)) = h
err_none (type.a_type U) B u v apart (inr (w, h, f)) = flat_unwrapped U (form.err u) w tt h.0 h.1
