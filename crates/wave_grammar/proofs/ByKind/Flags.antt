-- Flags at their types.
use Rattle.std.proofs.Common.{ℕ, ◌≡◌, ◌≢◌, ◌⊎◌, inl, inr, true, List, [], ◌∷◌, map, filter, Bor, Result, Ok, Err, IfOk, IfErr, MatchResult, refl, sym, ap, ◌∙◌, subst}
use Rattle.std.specs.declared.ops.Range.{Range}
use Rattle.wave_wasm.specs.Lists.{SomeOf}
use Rattle.wave_wasm.specs.Names.{IsNoneOf, AreAllOf, AreDistinct, ArePicked, is_one_of, found_in}
use Rattle.wave_wasm.specs.Types as type
use Rattle.wave_wasm.specs.Types.{TypeTree, HasDistinctNames, flags_names, kind_of}
use Rattle.wave_wasm.specs.Values as value
use Rattle.wave_wasm.specs.Values.{Value}
use Rattle.wave_wasm.specs.Borrowed.{texts}
use Rattle.wave_wasm.specs.ValueErrors.{unknown_case}
use Rattle.wave_wasm.specs.ConstructorContracts.{IsMemory, MakesFlags, FullFlags}
use Rattle.wave_wasm.specs.declared.wasm.WasmTypeKind.TheVariants as kinds
use Rattle.wave_wasm.specs.declared.wasm.WasmValueError.{WasmValueError}
use Rattle.wave_lex.specs.Errors.{Diagnostic, Refusal, refusal_of}
use Rattle.wave_lex.specs.declared.error.ParserErrorKind.TheVariants.{InvalidType}
use Rattle.wave_grammar.specs.Tree as form
use Rattle.wave_grammar.specs.LeafTokens.{name_of}
use Rattle.wave_grammar.specs.Elaborates.{TreeReads}
use Rattle.wave_grammar.specs.SpannedTree.{SpannedTree, SpannedShape, at, empty_braces, flags, slice, span_of, shape_of, tree_of}
use Rattle.wave_grammar.specs.TypeErrors.{Blame, IsRefusalOf, RefusesFor, OfForm, Fault, flags_in}
use Rattle.wave_grammar.specs.FaultOrder.{Order, FirstOf, FirstFault}
use Rattle.wave_grammar.specs.NodeTree.{NodeTree, type_of, place_of, children_of}
use Rattle.wave_grammar.specs.Nodes.{IsNodeOf}
use Rattle.wave_grammar.specs.NodeFlags.{names_at, AreFlags, IsFirstUnknown, RefusesFlags}
use Rattle.wave_grammar.specs.TypedReading.{IsTypedValue, IsBlamed, IsBuilt}
use Rattle.wave_grammar.proofs.ChildNodes.Inside.{From, inside}
use Rattle.wave_grammar.proofs.ByKind.Leaves.{tree_is, at_tree, said}
use Rattle.wave_grammar.proofs.ByKind.MakerAnswers.{built}
use Rattle.wave_wasm.proofs.Names.NameTests.{passes}
use Rattle.wave_grammar.proofs.ByKind.Enums.{none_one}
use Rattle.wave_wasm.proofs.Names.Subsequences.{picked_distinct, picked_of}
use Rattle.wave_grammar.proofs.RoundTrip.Typed.{found_picked}
use Rattle.wave_grammar.proofs.NodeMeaning.Flags.{FlagsNode, flags_given, same_flags}
use Rattle.wave_wasm.proofs.CanonicalText.ValueParts.{map_map}
use Rattle.wave_grammar.specs.declared.form.NodeType.{NodeType}
use Rattle.wave_grammar.specs.declared.form.NodeType.TheVariants as kind
use Rattle.wave_wasm.proofs.TypesOfValues.TypeOfKind.{formed_as}

-- the type of the kind of flags
pub flags_is : (T : TypeTree) → kinds.Flags ≡ kind_of T → (names : List (List ℕ)) → names ≡ flags_names T → T ≡ type.flags names
flags_is T e names h = let (all, is) = formed_as kinds.Flags T e in is ∙ ap type.flags (sym (h ∙ ap flags_names is))

-- ---- faults

-- what a flag's fault is: it is none of the names
abbrev FlagFault : List (List ℕ) → Range ℕ → List ℕ → Blame
FlagFault names p name k q = IsNoneOf names name × RefusesFor (unknown_case name) p k q

-- so for the first flag that is so
abbrev FlagsFault : List (List ℕ) → Range ℕ → List (Range ℕ × List ℕ) → Blame
FlagsFault names p fs = FirstOf (λ f k q. FlagFault names p (name_of f.1) k q) fs

-- so for some flag
abbrev SomeFlagFault : List (List ℕ) → Range ℕ → List (Range ℕ × List ℕ) → Blame
SomeFlagFault names p fs k q = SomeOf (λ f. FlagFault names p (name_of f.1) k q) fs

no_flags : (names : List (List ℕ)) (ty : NodeType) (p r : Range ℕ) (text : List ℕ) (cs : List SpannedTree) (s : SpannedShape) (k : Refusal) (q : Range ℕ) → From ty p text cs s → ty ≢ kind.Flags → ty ≢ kind.EmptySet → IsRefusalOf InvalidType r k q → OfForm (flags_in s) r (FlagsFault names r) k q
no_flags names ty p r text cs (flags fs) k q f x y refused = absurd (x f.0)
no_flags names ty p r text cs empty_braces k q f x y refused = absurd (y f.0)
no_flags names ty p r text cs _ k q f x y refused = refused

first_label : (names : List (List ℕ)) (p : Range ℕ) (fs : List (Range ℕ × List ℕ)) (n : NodeTree) (e : Diagnostic) → p ≡ place_of n → IsFirstUnknown names (map (λ f. name_of f.1) fs) n e → FlagsFault names p fs (refusal_of e) e.span
first_label names p [] n e place h = h
first_label names p (f ∷ fs) n e place (inl h) = inl (h.0, (h.1.0, h.1.1 ∙ sym place))
first_label names p (f ∷ fs) n e place (inr h) = inr ((λ k q fault. none_one names (name_of f.1) fault.0 h.0), first_label names p fs n e place h.1)

label_fault : (o w : Order) (names : List (List ℕ)) (source : List ℕ) (n : NodeTree) (t : SpannedTree) (e : Diagnostic) (g : FlagsNode source n t) → span_of t ≡ place_of n → IsFirstUnknown names (names_at source (children_of n)) n e → FirstFault o w (type.flags names) t (refusal_of e) e.span
label_fault o w names source n t e g place some = in_form g.form
  where
    here : FlagsFault names (span_of t) g.labels (refusal_of e) e.span
    here = first_label names (span_of t) g.labels n e place (subst (λ (flags : List (List ℕ)). IsFirstUnknown names flags n e) g.names some)

    in_form : (shape_of t ≡ empty_braces) × (g.labels ≡ []) ⊎ (shape_of t ≡ flags g.labels) → FirstFault o w (type.flags names) t (refusal_of e) e.span
    in_form (inl h) = absurd (subst (λ (fs : List (Range ℕ × List ℕ)). FlagsFault names (span_of t) fs (refusal_of e) e.span) h.1 here)
    in_form (inr h) = subst (λ (s : SpannedShape). OfForm (flags_in s) (span_of t) (FlagsFault names (span_of t)) (refusal_of e) e.span) (sym h) here

module _ {V : Type 0} (tree : V → Value) (of : V → TypeTree → Type 0) (Full : TypeTree → Type 0) (o w : Order) where
  -- a refusal of the node's flags
  pub flags_blame : (T : TypeTree) (names : List (List ℕ)) (source : List ℕ) (n : NodeTree) (t : SpannedTree) (e : Diagnostic) → T ≡ type.flags names → IsNodeOf source n t → RefusesFlags names source n e → IsBlamed Full o w T t e
  flags_blame T names source n t e is node (inl memory) = inl memory
  flags_blame T names source n t e is node (inr (inl h)) =
      let i = inside source n t node.0 in
      let fault : FirstFault o w (type.flags names) t (refusal_of e) e.span = no_flags names (type_of n) (place_of n) (span_of t) (slice source (place_of n)) i.children (shape_of t) (refusal_of e) e.span i.from h.0 h.1 (at_tree InvalidType (place_of n) (span_of t) (refusal_of e) e.span i.place (said h.2)) in
      inr (inl (subst (λ (U : TypeTree). FirstFault o w U t (refusal_of e) e.span) (sym is) fault))
  flags_blame T names source n t e is node (inr (inr h)) =
      inr (inl (subst (λ (U : TypeTree). FirstFault o w U t (refusal_of e) e.span) (sym is) (label_fault o w names source n t e (flags_given source n t node h.0) (inside source n t node.0).place h.1)))

  flags_reads : (T : TypeTree) (names : List (List ℕ)) (t : SpannedTree) (picked : List (Bor (List ℕ))) (m : Result V WasmValueError) → T ≡ type.flags names → HasDistinctNames T → TreeReads (type.flags names) (tree_of t) (value.flags (texts picked)) → AreDistinct (texts picked) → ArePicked names (filter (is_one_of names) (texts picked)) → IfOk m (MakesFlags tree of T picked) → IfOk m (IsTypedValue tree of T t)
  flags_reads T names t picked (Ok v) is distinct read apart some h =
      let makes = h distinct apart (subst (λ (U : TypeTree). ArePicked (flags_names U) (filter (is_one_of (flags_names U)) (texts picked))) (sym is) some) in
      record { reads = subst (λ (U : TypeTree). TreeReads U (tree_of t) (tree v)) (sym is) (subst (λ (w : Value). TreeReads (type.flags names) (tree_of t) w) (sym makes.means) read); is_of = makes.is_of }
  flags_reads T names t picked (Err cause) is distinct read apart some h = tt

  flags_full : (T : TypeTree) (names : List (List ℕ)) (picked : List (Bor (List ℕ))) (m : Result V WasmValueError) → T ≡ type.flags names → AreDistinct (texts picked) → ArePicked names (texts picked) → IfErr m (FullFlags of Full T picked) → IfErr m (λ cause. Full T → IsMemory cause)
  flags_full T names picked (Ok v) is apart some f = tt
  flags_full T names picked (Err cause) is apart some f = λ full. f full names is apart some

  all_pass : (names some : List (List ℕ)) → AreAllOf names some → filter (is_one_of names) some ≡ some
  all_pass names [] h = refl
  all_pass names (one ∷ more) h = let here : is_one_of names one ≡ true = passes names one h.0 in rw here (ap (λ (l : List (List ℕ)). one ∷ l) (all_pass names more h.1))

  -- flags that were made of names in the type's order are of the type
  pub flags_of : (T : TypeTree) (names found : List (List ℕ)) (picked : List (Bor (List ℕ))) (v : V) → T ≡ type.flags names → HasDistinctNames T → texts picked ≡ found_in found names → MakesFlags tree of T picked v → of v T
  flags_of T names found picked v is distinct same makes =
      let some : ArePicked names (texts picked) = subst (ArePicked names) (sym same) (found_picked found names) in
      let apart : AreDistinct (texts picked) = picked_distinct names (texts picked) some (subst HasDistinctNames is distinct) in
      let all : filter (is_one_of names) (texts picked) ≡ texts picked = all_pass names (texts picked) (picked_of names (texts picked) some) in
      (makes distinct apart (subst (λ (U : TypeTree). ArePicked (flags_names U) (filter (is_one_of (flags_names U)) (texts picked))) (sym is) (subst (ArePicked names) (sym all) some))).is_of

  -- the flags were made, or their constructor refused
  pub flags_built : (T : TypeTree) (names : List (List ℕ)) (source : List ℕ) (n : NodeTree) (t : SpannedTree) (picked : List (Bor (List ℕ))) (m : Result V WasmValueError) (r : Result V Diagnostic) → T ≡ type.flags names → HasDistinctNames T → IsNodeOf source n t → AreFlags n → AreAllOf names (names_at source (children_of n)) → texts picked ≡ found_in (names_at source (children_of n)) names → IfOk m (MakesFlags tree of T picked) → IfErr m (FullFlags of Full T picked) → IsBuilt n m r → MatchResult r (IsTypedValue tree of T t) (IsBlamed Full o w T t)
  flags_built T names source n t picked m r is distinct node ok known found makes full done =
      let g = flags_given source n t node ok in
      let words = map (λ (f : Range ℕ × List ℕ). f.1) g.labels in
      let named : names_at source (children_of n) ≡ map name_of words = g.names ∙ sym (map_map name_of (λ (f : Range ℕ × List ℕ). f.1) g.labels) in
      let some : ArePicked names (texts picked) = subst (ArePicked names) (sym found) (found_picked (names_at source (children_of n)) names) in
      let apart : AreDistinct (texts picked) = picked_distinct names (texts picked) some (subst HasDistinctNames is distinct) in
      let same : filter (is_one_of names) (texts picked) ≡ texts picked = all_pass names (texts picked) (picked_of names (texts picked) some) in
      let read : TreeReads (type.flags names) (tree_of t) (value.flags (texts picked)) = (words, spelled g, subst (AreAllOf names) named known, ap value.flags (found ∙ ap (λ (l : List (List ℕ)). found_in l names) named)) in
      built tree of Full o w T t n m r done (flags_reads T names t picked m is distinct read apart (subst (ArePicked names) (sym same) some) makes) (flags_full T names picked m is apart some full)
    where
      spelled : (g : FlagsNode source n t) → (tree_of t ≡ form.empty_braces) × (map (λ (f : Range ℕ × List ℕ). f.1) g.labels ≡ []) ⊎ (tree_of t ≡ form.flags (map (λ (f : Range ℕ × List ℕ). f.1) g.labels))
      spelled g = in_form g.form
        where
          in_form : (shape_of t ≡ empty_braces) × (g.labels ≡ []) ⊎ (shape_of t ≡ flags g.labels) → (tree_of t ≡ form.empty_braces) × (map (λ (f : Range ℕ × List ℕ). f.1) g.labels ≡ []) ⊎ (tree_of t ≡ form.flags (map (λ (f : Range ℕ × List ℕ). f.1) g.labels))
          in_form (inl h) = inl (tree_is t empty_braces h.0, ap (map (λ (f : Range ℕ × List ℕ). f.1)) h.1)
          in_form (inr h) = inr (tree_is t (flags g.labels) h)

-- ---- no value

some_unknown : (names : List (List ℕ)) (p : Range ℕ) (fs : List (Range ℕ × List ℕ)) (k : Refusal) (q : Range ℕ) → SomeFlagFault names p fs k q → AreAllOf names (map name_of (map (λ (f : Range ℕ × List ℕ). f.1) fs)) → ⊥
some_unknown names p [] k q fault all = fault
some_unknown names p (f ∷ fs) k q (inl fault) all = none_one names (name_of f.1) fault.0 all.0
some_unknown names p (f ∷ fs) k q (inr fault) all = some_unknown names p fs k q fault all.1

-- a flag that is none of the names leaves no value
pub flags_none : (names : List (List ℕ)) (t : SpannedTree) (k : Refusal) (q : Range ℕ) (v : Value) → Fault (type.flags names) t k q → TreeReads (type.flags names) (tree_of t) v → ⊥
flags_none names (at p (flags fs)) k q v fault (words, inl a, all, f) = absurd (cc a.0)
flags_none names (at p (flags fs)) k q v fault (words, inr a, all, f) =
    some_unknown names p fs k q fault (subst (λ (l : List (List ℕ)). AreAllOf names (map name_of l)) (sym (same_flags (map (λ (f : Range ℕ × List ℕ). f.1) fs) words a)) all)
flags_none names (at p empty_braces) k q v fault read = fault
flags_none names (at p _) k q v fault (words, inl a, all, f) = absurd (cc a.0)
flags_none names (at p _) k q v fault (words, inr a, all, f) = absurd (cc a)
