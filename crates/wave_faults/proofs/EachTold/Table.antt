-- All faults of a tree are told, and no other.
use Rattle.std.proofs.Common.{ℕ, ◌⊎◌, inl, inr, List, [], ◌∷◌, codes}
use Rattle.std.specs.declared.ops.Range.{Range}
use Rattle.wave_wasm.specs.Lists.{AllOf, SomeOf}
use Rattle.wave_wasm.specs.Names.{AreDistinct, IsNoneOf}
use Rattle.wave_wasm.specs.Types as type
use Rattle.wave_wasm.specs.Types.{TypeTree, MaybeType, Types, Fields, Cases, no_type, a_type, no_types, type_and, field, no_cases, case_of, field_names}
use Rattle.wave_wasm.specs.Types.{HasDistinctNames, EachNamesOfMaybe, EachNamesOfTypes, EachNamesOfCases}
use Rattle.wave_wasm.specs.Types.{Simple}
use Rattle.wave_wasm.specs.Values.{Leaf}
use Rattle.wave_lex.specs.Errors.{Diagnostic, Refusal}
use Rattle.wave_grammar.specs.Token.{Token}
use Rattle.wave_grammar.specs.LeafTokens.{Spells, name_of}
use Rattle.wave_grammar.specs.SpannedTree.{SpannedTree, at, MaybePlaced, no_placed, a_placed, PlacedEntry, label, none, some, ok, err, span_of}
use Rattle.wave_grammar.specs.TypeErrors.{Fault, MapKeyFault, IsFor, FaultOfPayload, FaultOfFlat, FaultOfItem, FaultOfField, FaultOfCase}
use Rattle.wave_grammar.specs.FaultOrder.{in_text, BlamesNothing, FirstFault, FaultOfValue, FirstOfPayload, FirstOfFlat, FirstItem, FirstOfCase}
use Rattle.wave_grammar.proofs.OneFault.OneBlame.{one_said, one_within, one_where, one_of_two, one_leaf_fault, one_key_fault}
use Rattle.wave_grammar.proofs.OneFault.FaultyTrees.{leaf_none}
use Rattle.wave_faults.specs.AllFaults.{AreFaults, AreFaultsOfValue, AreFaultsOfPayload, AreFaultsAlone, AreFaultsOfItems, AreFaultsOfCase}
use Rattle.wave_faults.specs.FaultsLaws.{Tells, OnlyFaultsAreTold, EachFaultIsTold, FirstIsAnswered, NoneIsAnswered}
use Rattle.wave_faults.proofs.EachTold.Lists.{all_so}
use Rattle.wave_faults.proofs.EachTold.Combined.{TellsAll, Blames, under, reworded, alone, nothing, then, in_turn, within_form, in_case, of_leaf}
use Rattle.wave_faults.proofs.EachTold.Entries.{left_out, of_entries}

-- a key that spells a value has no fault
pub key_none : (K : Simple) (p : Range ℕ) (t : Token) (one : Leaf) → Spells K t one → BlamesNothing (MapKeyFault K p t)
key_none K p t one spelled k q (inl h) = h.1 one spelled
key_none K p t one spelled k q (inr h) = leaf_none K p t k q one h.1 spelled

-- the other way round
turned : (A B : Type 0) → A ⊎ B → B ⊎ A
turned A B (inl h) = inr h
turned A B (inr h) = inl h

-- an entry that is for one of these fields is for no field of another name
for_no_other : (fs : Fields) (name : List ℕ) (e : PlacedEntry) (k : Refusal) (q : Range ℕ) → IsNoneOf (field_names fs) name → FaultOfField fs (e ∷ []) k q → IsFor name e → ⊥
for_no_other type.no_fields name e k q apart h for = h
for_no_other (field other T more) name e k q apart (inl (inl h)) for = apart.0 (cc (h.0))
for_no_other (field other T more) name e k q apart (inl (inr h)) for = h
for_no_other (field other T more) name e k q apart (inr h) for = for_no_other more name e k q apart.1 h for

-- an entry's value, at the first of the fields and at the others
of_value : {N : Type 0} (name : List ℕ) (T : TypeTree) (more : Fields) (e : PlacedEntry) → (N → IsNoneOf (field_names more) name) → TellsAll N (AreFaults T e.value) (FirstFault in_text in_text T e.value) (Fault T e.value)
    → TellsAll N (AreFaultsOfValue more e) (FaultOfValue in_text more e) (FaultOfField more (e ∷ [])) → TellsAll N (AreFaultsOfValue (field name T more) e) (FaultOfValue in_text (field name T more) e) (FaultOfField (field name T more) (e ∷ []))
of_value {N} name T more e apart a b = record { none = both.none; first = both.first; only = only; each = each }
  where
    both : TellsAll N (AreFaultsOfValue (field name T more) e) (FaultOfValue in_text (field name T more) e) (λ k q. IsFor name e × Fault T e.value k q ⊎ (IsFor name e → ⊥) × FaultOfField more (e ∷ []) k q)
    both = in_case (λ for other. other for) a b

    only : (errors : List Diagnostic) → AreFaultsOfValue (field name T more) e errors → AllOf (Blames (FaultOfField (field name T more) (e ∷ []))) errors
    only errors h =
        all_so (Blames (λ k q. IsFor name e × Fault T e.value k q ⊎ (IsFor name e → ⊥) × FaultOfField more (e ∷ []) k q)) (Blames (FaultOfField (field name T more) (e ∷ []))) errors
        (λ d. elim [ inl f ↦ inl (inl f) | inr f ↦ inr f.1 ]) (both.only errors h)

    each : N → (errors : List Diagnostic) (k : Refusal) (q : Range ℕ) → AreFaultsOfValue (field name T more) e errors → FaultOfField (field name T more) (e ∷ []) k q → SomeOf (Tells k q) errors
    each n errors k q h (inl (inl f)) = both.each n errors k q h (inl f)
    each n errors k q h (inl (inr f)) = absurd f
    each n errors k q h (inr f) = both.each n errors k q h (inr (for_no_other more name e k q (apart n) f, f))

mutual
  -- what is told of a tree
  pub tells : (T : TypeTree) (t : SpannedTree) → TellsAll (HasDistinctNames T) (AreFaults T t) (FirstFault in_text in_text T t) (Fault T t)
  tells (type.simple S) t = within_form _ _ (λ token. of_leaf S token (one_leaf_fault S (span_of t) token) (λ one spelled k q f. leaf_none S (span_of t) token k q one f spelled))
  tells (type.unreadable u) t = alone one_said
  tells (type.list E) t = within_form _ _ (λ items. in_turn items (λ item. tells E item))
  tells (type.fixed E n) t = within_form _ _ (λ items. in_case (λ other same. other same) (alone one_said) (in_turn items (λ item. tells E item)))
  tells (type.record_type fs) t =
      within_form _ _ (λ es.
      reworded
      (λ k q. elim [ inl (inl h) ↦ inl h | inl (inr (inl h)) ↦ inr (inl h) | inl (inr (inr (inl h))) ↦ inr (inr (inl h)) | inl (inr (inr (inr h))) ↦ inr (inr (inr (inr h))) | inr h ↦ inr (inr (inr (inl h))) ])
      (λ k q. elim [ inl h ↦ inl (inl h) | inr (inl h) ↦ inl (inr (inl h)) | inr (inr (inl h)) ↦ inl (inr (inr (inl h))) | inr (inr (inr (inl h))) ↦ inr h | inr (inr (inr (inr h))) ↦ inl (inr (inr (inr h))) ])
      (then (of_entries fs (λ e. AreFaultsOfValue fs e) (λ e. FaultOfValue in_text fs e) (λ e. tells_value fs e) (span_of t) es) (left_out fs es (span_of t))))
  tells (type.tuple Ts) t = within_form _ _ (λ items. reworded (λ k q. turned _ _) (λ k q. turned _ _) (then (tells_items Ts items) (alone (one_where one_said))))
  tells (type.variant cs) t = within_form _ _ (λ l. under (λ n. n.1) (tells_case cs (name_of l.0) l.1 (span_of t)))
  tells (type.enum names) (at p (label r text payload)) = alone (one_within (λ k q. elim [ inl h ↦ inl h | inr h ↦ inr (h.0, h.2) ]) (one_of_two (λ some none. some none) one_said one_said))
  tells (type.enum names) (at p _) = alone one_said
  tells (type.option P) (at p none) = nothing
  tells (type.option P) (at p (some t)) = tells P t
  tells (type.option P) (at p s) = in_case (λ other flat. other flat) (alone one_said) (tells P (at p s))
  tells (type.result A B) (at p (ok payload)) = under (λ n. n.0) (tells_payload (codes "ok") A payload p)
  tells (type.result A B) (at p (err payload)) = under (λ n. n.1) (tells_payload (codes "err") B payload p)
  tells (type.result A B) (at p s) = under (λ n. n.0) (tells_alone A (at p s))
  tells (type.flags names) t = within_form _ _ (λ fs. in_turn fs (λ f. alone (one_where one_said)))
  tells (type.map K V) t =
      within_form _ _ (λ es. in_turn es (λ e. then (of_leaf K e.key (one_key_fault K e.place e.key) (λ one spelled. key_none K e.place e.key one spelled)) (tells V e.value)))

  -- what is told of an entry's value
  tells_value : (fs : Fields) (e : PlacedEntry) → TellsAll (HasDistinctNames (type.record_type fs)) (AreFaultsOfValue fs e) (FaultOfValue in_text fs e) (FaultOfField fs (e ∷ []))
  tells_value type.no_fields e = nothing
  tells_value (field name T more) e = of_value name T more e (λ n. n.0.0) (under (λ n. n.1.0) (tells T e.value)) (under (λ n. (n.0.1, n.1.1)) (tells_value more e))

  -- what is told of a payload
  tells_payload : (name : List ℕ) (A : MaybeType) (payload : MaybePlaced) (p : Range ℕ) → TellsAll (EachNamesOfMaybe AreDistinct A) (AreFaultsOfPayload name A payload p) (FirstOfPayload in_text name A payload p) (FaultOfPayload name A payload p)
  tells_payload name no_type no_placed p = alone (λ k l q r h g. absurd h)
  tells_payload name no_type (a_placed t) p = alone one_said
  tells_payload name (a_type T) no_placed p = alone one_said
  tells_payload name (a_type T) (a_placed t) p = tells T t

  -- what is told of a tree that would stand for `ok` of itself
  tells_alone : (A : MaybeType) (t : SpannedTree) → TellsAll (EachNamesOfMaybe AreDistinct A) (AreFaultsAlone A t) (FirstOfFlat in_text in_text A t) (FaultOfFlat A t)
  tells_alone no_type t = alone one_said
  tells_alone (a_type T) t = in_case (λ other flat. other flat) (alone one_said) (tells T t)

  -- what is told of the items of a tuple
  tells_items : (Ts : Types) (items : List SpannedTree) → TellsAll (EachNamesOfTypes AreDistinct Ts) (AreFaultsOfItems Ts items) (FirstItem in_text Ts items) (FaultOfItem Ts items)
  tells_items no_types items = nothing
  tells_items (type_and T more) [] = nothing
  tells_items (type_and T more) (t ∷ others) = then (under (λ n. n.0) (tells T t)) (under (λ n. n.1) (tells_items more others))

  -- what is told of the payload of a case
  tells_case : (cs : Cases) (name : List ℕ) (payload : MaybePlaced) (p : Range ℕ) → TellsAll (EachNamesOfCases AreDistinct cs) (AreFaultsOfCase cs name payload p) (FirstOfCase in_text cs name payload p) (FaultOfCase cs name payload p)
  tells_case no_cases name payload p = alone one_said
  tells_case (case_of other A more) name payload p = in_case (λ same apart. apart same) (under (λ n. n.0) (tells_payload name A payload p)) (under (λ n. n.1) (tells_case more name payload p))

-- each error that is told is a fault
pub only_faults : OnlyFaultsAreTold
only_faults T t = (tells T t).only

-- each fault is told
pub each_fault : EachFaultIsTold
each_fault T t errors k q names = (tells T t).each names errors k q

-- the first is answered
pub first_answered : FirstIsAnswered
first_answered T t = (tells T t).first

-- where none is told none is answered
pub none_answered : NoneIsAnswered
none_answered T t = (tells T t).none
