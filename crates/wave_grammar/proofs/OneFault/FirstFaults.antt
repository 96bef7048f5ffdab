-- At most one fault is answered, and that is one; where none is answered there is none.
use Rattle.std.proofs.Common.{ℕ, ◌⊎◌, inl, inr, ◌++◌, List, [], ◌∷◌, Option, Some, None, codes}
use Rattle.std.specs.declared.ops.Range.{Range}
use Rattle.wave_wasm.specs.Lists.{AllOf, SomeOf}
use Rattle.wave_wasm.specs.Names.{AreDistinct, IsNoneOf}
use Rattle.wave_wasm.specs.Types as type
use Rattle.wave_wasm.specs.Types.{TypeTree, MaybeType, Types, Fields, Cases, no_type, a_type, no_types, type_and, field, no_cases, case_of, field_names}
use Rattle.wave_wasm.specs.Types.{HasDistinctNames, EachNamesOfMaybe, EachNamesOfTypes, EachNamesOfCases}
use Rattle.wave_lex.specs.Errors.{Refusal}
use Rattle.wave_grammar.specs.LeafTokens.{name_of}
use Rattle.wave_grammar.specs.SpannedTree.{SpannedTree, at, MaybePlaced, no_placed, a_placed, PlacedEntry, label, none, some, ok, err, span_of}
use Rattle.wave_grammar.specs.TypeErrors.{Blame, Fault, OfForm, names_in}
use Rattle.wave_grammar.specs.TypeErrors.{KeyFault, UnknownField, RepeatedField, IsFor, MissingField, FaultOfPayload, FaultOfFlat, FaultOfItem, FaultOfField, FaultOfCase}
use Rattle.wave_grammar.specs.FaultOrder.{Order, in_text, by_type, BlamesNothing, OrElse, FirstOf, InOrder, FaultOfKey, FaultOfKeys, FaultOfEntries, FirstLeftOut}
use Rattle.wave_grammar.specs.FaultOrder.{FirstFault, FaultOfValue, FaultOfFields, FirstOfPayload, FirstOfFlat, FirstItem, FirstOfCase}
use Rattle.wave_grammar.specs.FaultLaws.{BlamesOne}
use Rattle.wave_grammar.proofs.OneFault.OneBlame.{one_said, none_said, one_within, one_where, one_of_two, one_or_else, one_leaf_fault, one_key_fault, one_label_fault, one_left_out}

-- where none is blamed, none is blamed first
pub nothing_first : {X : Type 0} (F : X → Blame) (xs : List X) → AllOf (λ x. BlamesNothing (F x)) xs → BlamesNothing (FirstOf F xs)
nothing_first F [] all k q h = h
nothing_first F (x ∷ xs) all k q (inl h) = all.0 k q h
nothing_first F (x ∷ xs) all k q (inr h) = nothing_first F xs all.1 k q h.1

-- ---- what answers for what

-- A blames at most one thing, and that B blames too; where N holds and A blames nothing, B blames nothing
record Answers (N : Type 0) (A B : Blame) : Type 0 where
  one : BlamesOne A
  fault : (k : Refusal) (q : Range ℕ) → A k q → B k q
  none_left : N → BlamesNothing A → BlamesNothing B

-- the one or the other
abbrev Either : Blame → Blame → Blame
Either A B k q = A k q ⊎ B k q

-- what blames at most one thing answers for itself
itself : {N : Type 0} {A : Blame} → BlamesOne A → Answers N A A
itself one = record { one = one; fault = λ k q h. h; none_left = λ n nothing. nothing }

-- where more holds
under : {N M : Type 0} {A B : Blame} → (N → M) → Answers M A B → Answers N A B
under f a = record { one = a.one; fault = a.fault; none_left = λ n. a.none_left (f n) }

-- for what is blamed in other words
reworded : {N : Type 0} {A B C : Blame} → ((k : Refusal) (q : Range ℕ) → B k q → C k q) → ((k : Refusal) (q : Range ℕ) → C k q → B k q) → Answers N A B → Answers N A C
reworded f g a = record { one = a.one; fault = λ k q h. f k q (a.fault k q h); none_left = λ n nothing k q h. a.none_left n nothing k q (g k q h) }

-- the first of two, for both
or_else : {N : Type 0} {A B C D : Blame} → Answers N A C → Answers N B D → Answers N (OrElse A B) (Either C D)
or_else {N} {A} {B} {C} {D} a b = record { one = one_or_else a.one b.one; fault = fault; none_left = none_left }
  where
    fault : (k : Refusal) (q : Range ℕ) → OrElse A B k q → Either C D k q
    fault k q (inl h) = inl (a.fault k q h)
    fault k q (inr h) = inr (b.fault k q h.1)

    none_left : N → BlamesNothing (OrElse A B) → BlamesNothing (Either C D)
    none_left n nothing k q (inl h) = a.none_left n (λ l r g. nothing l r (inl g)) k q h
    none_left n nothing k q (inr h) = b.none_left n (λ l r g. nothing l r (inr ((λ m s f. nothing m s (inl f)), g))) k q h

-- the first of several, for all
first : {X N : Type 0} {F G : X → Blame} (xs : List X) → ((x : X) → Answers N (F x) (G x)) → Answers N (FirstOf F xs) (λ k q. SomeOf (λ x. G x k q) xs)
first [] f = itself none_said
first (x ∷ xs) f = or_else (f x) (first xs f)

-- where something holds beside
where_so : {N P : Type 0} {A B : Blame} → Answers N A B → Answers N (λ k q. P × A k q) (λ k q. P × B k q)
where_so a = record { one = one_where a.one; fault = λ k q h. (h.0, a.fault k q h.1); none_left = λ n nothing k q h. a.none_left n (λ l r g. nothing l r (h.0, g)) k q h.1 }

-- each where something else holds
in_case : {N P Q : Type 0} {A B C D : Blame} → (P → Q → ⊥) → Answers N A C → Answers N B D → Answers N (λ k q. P × A k q ⊎ Q × B k q) (λ k q. P × C k q ⊎ Q × D k q)
in_case {N} {P} {Q} {A} {B} {C} {D} apart a b = record { one = one_of_two apart a.one b.one; fault = fault; none_left = none_left }
  where
    fault : (k : Refusal) (q : Range ℕ) → P × A k q ⊎ Q × B k q → P × C k q ⊎ Q × D k q
    fault k q (inl h) = inl (h.0, a.fault k q h.1)
    fault k q (inr h) = inr (h.0, b.fault k q h.1)

    none_left : N → BlamesNothing (λ k q. P × A k q ⊎ Q × B k q) → BlamesNothing (λ k q. P × C k q ⊎ Q × D k q)
    none_left n nothing k q (inl h) = a.none_left n (λ l r g. nothing l r (inl (h.0, g))) k q h.1
    none_left n nothing k q (inr h) = b.none_left n (λ l r g. nothing l r (inr (h.0, g))) k q h.1

-- within a form
of_form : {X N : Type 0} (o : Option X) (p : Range ℕ) {F G : X → Blame} → ((x : X) → Answers N (F x) (G x)) → Answers N (OfForm o p F) (OfForm o p G)
of_form None p f = itself one_said
of_form (Some x) p f = f x

-- in both orders
in_order : {N : Type 0} (o : Order) {A B C : Blame} → Answers N A C → Answers N B C → Answers N (InOrder o A B) C
in_order in_text a b = a
in_order by_type a b = b

-- the other way round
turned : (A B : Type 0) → A ⊎ B → B ⊎ A
turned A B (inl h) = inr h
turned A B (inr h) = inl h

-- the inner two the other way round
crossed : (A B C D : Type 0) → (A ⊎ B) ⊎ (C ⊎ D) → (A ⊎ C) ⊎ (B ⊎ D)
crossed A B C D (inl (inl h)) = inl (inl h)
crossed A B C D (inl (inr h)) = inr (inl h)
crossed A B C D (inr (inl h)) = inl (inr h)
crossed A B C D (inr (inr h)) = inr (inr h)

-- ---- records

-- a field that is left out
left_out : {N : Type 0} (fs : Fields) (es : List PlacedEntry) (p : Range ℕ) → Answers N (FirstLeftOut fs es p) (MissingField fs es p)
left_out type.no_fields es p = itself none_said
left_out (field name T more) es p = or_else (itself (one_left_out name T es p)) (left_out more es p)

-- the keys
of_keys : {N : Type 0} (earlier : List (List ℕ)) (es : List PlacedEntry) → Answers N (FaultOfKeys earlier es) (Either (KeyFault es) (RepeatedField earlier es))
of_keys earlier [] = record { one = none_said; fault = λ k q h. absurd h; none_left = λ n nothing k q. elim [ inl h ↦ h | inr h ↦ h ] }
of_keys earlier (e ∷ es) = reworded (λ k q. crossed _ _ _ _) (λ k q. crossed _ _ _ _) (or_else (itself (one_label_fault earlier e.place e.key e.value)) (of_keys (names_in e.key ++ earlier) es))

-- a fault of an entry's value is one of the first entry's or of the others'
value_apart : (fs : Fields) (e : PlacedEntry) (es : List PlacedEntry) (k : Refusal) (q : Range ℕ) → FaultOfField fs (e ∷ es) k q → FaultOfField fs (e ∷ []) k q ⊎ FaultOfField fs es k q
value_apart type.no_fields e es k q h = absurd h
value_apart (field name T more) e es k q (inl (inl h)) = inl (inl (inl h))
value_apart (field name T more) e es k q (inl (inr h)) = inr (inl h)
value_apart (field name T more) e es k q (inr h) = elim (value_apart more e es k q h) [ inl g ↦ inl (inr g) | inr g ↦ inr (inr g) ]

-- and back
value_back : (fs : Fields) (e : PlacedEntry) (es : List PlacedEntry) (k : Refusal) (q : Range ℕ) → FaultOfField fs (e ∷ []) k q ⊎ FaultOfField fs es k q → FaultOfField fs (e ∷ es) k q
value_back type.no_fields e es k q h = elim h [ inl g ↦ g | inr g ↦ g ]
value_back (field name T more) e es k q (inl (inl (inl h))) = inl (inl h)
value_back (field name T more) e es k q (inl (inl (inr h))) = absurd h
value_back (field name T more) e es k q (inl (inr h)) = inr (value_back more e es k q (inl h))
value_back (field name T more) e es k q (inr (inl h)) = inl (inr h)
value_back (field name T more) e es k q (inr (inr h)) = inr (value_back more e es k q (inr h))

-- what is wrong with entries
abbrev EntryParts : Fields → List (List ℕ) → List PlacedEntry → Range ℕ → Blame
EntryParts fs earlier es p k q = KeyFault es k q ⊎ UnknownField (field_names fs) es p k q ⊎ RepeatedField earlier es k q ⊎ FaultOfField fs es k q

-- what is wrong with the first entry or with the others
abbrev FirstParts : Fields → List (List ℕ) → PlacedEntry → List PlacedEntry → Range ℕ → Blame
FirstParts fs earlier e es p =
    Either (FaultOfKey earlier e) (Either (UnknownField (field_names fs) (e ∷ []) p) (Either (FaultOfField fs (e ∷ [])) (EntryParts fs (names_in e.key ++ earlier) es p)))

-- a fault of the entries is one of the first or of the others
entries_apart : (fs : Fields) (earlier : List (List ℕ)) (e : PlacedEntry) (es : List PlacedEntry) (p : Range ℕ) (k : Refusal) (q : Range ℕ) → EntryParts fs earlier (e ∷ es) p k q → FirstParts fs earlier e es p k q
entries_apart fs earlier e es p k q (inl (inl h)) = inl (inl h)
entries_apart fs earlier e es p k q (inl (inr h)) = inr (inr (inr (inl h)))
entries_apart fs earlier e es p k q (inr (inl (inl h, f))) = inr (inl (inl h, f))
entries_apart fs earlier e es p k q (inr (inl (inr h, f))) = inr (inr (inr (inr (inl (h, f)))))
entries_apart fs earlier e es p k q (inr (inr (inl (inl h)))) = inl (inr h)
entries_apart fs earlier e es p k q (inr (inr (inl (inr h)))) = inr (inr (inr (inr (inr (inl h)))))
entries_apart fs earlier e es p k q (inr (inr (inr h))) = elim (value_apart fs e es k q h) [ inl g ↦ inr (inr (inl g)) | inr g ↦ inr (inr (inr (inr (inr (inr g))))) ]

-- and back
entries_back : (fs : Fields) (earlier : List (List ℕ)) (e : PlacedEntry) (es : List PlacedEntry) (p : Range ℕ) (k : Refusal) (q : Range ℕ) → FirstParts fs earlier e es p k q → EntryParts fs earlier (e ∷ es) p k q
entries_back fs earlier e es p k q (inl (inl h)) = inl (inl h)
entries_back fs earlier e es p k q (inl (inr h)) = inr (inr (inl (inl h)))
entries_back fs earlier e es p k q (inr (inl (inl h, f))) = inr (inl (inl h, f))
entries_back fs earlier e es p k q (inr (inl (inr h, f))) = absurd h
entries_back fs earlier e es p k q (inr (inr (inl h))) = inr (inr (inr (value_back fs e es k q (inl h))))
entries_back fs earlier e es p k q (inr (inr (inr (inl h)))) = inl (inr h)
entries_back fs earlier e es p k q (inr (inr (inr (inr (inl h))))) = inr (inl (inr h.0, h.1))
entries_back fs earlier e es p k q (inr (inr (inr (inr (inr (inl h)))))) = inr (inr (inl (inr h)))
entries_back fs earlier e es p k q (inr (inr (inr (inr (inr (inr h)))))) = inr (inr (inr (value_back fs e es k q (inr h))))

-- the entries, where each value's fault answers
of_entries : {N : Type 0} (fs : Fields) (Within : PlacedEntry → Blame) → ((e : PlacedEntry) → Answers N (Within e) (FaultOfField fs (e ∷ []))) → (earlier : List (List ℕ)) (es : List PlacedEntry) (p : Range ℕ) → Answers N (FaultOfEntries (field_names fs) Within earlier es p) (EntryParts fs earlier es p)
of_entries fs Within within earlier [] p = record { one = none_said; fault = λ k q h. absurd h; none_left = λ n nothing k q. elim [ inl h ↦ h | inr (inl h) ↦ h.0 | inr (inr (inl h)) ↦ h | inr (inr (inr h)) ↦ no_value fs k q h ] }
  where
    no_value : (gs : Fields) (k : Refusal) (q : Range ℕ) → FaultOfField gs [] k q → ⊥
    no_value type.no_fields k q h = h
    no_value (field name T more) k q (inl h) = h
    no_value (field name T more) k q (inr h) = no_value more k q h
of_entries fs Within within earlier (e ∷ es) p =
    reworded (entries_back fs earlier e es p) (entries_apart fs earlier e es p)
    (or_else (itself (one_label_fault earlier e.place e.key e.value)) (or_else (itself (one_where one_said)) (or_else (within e) (of_entries fs Within within (names_in e.key ++ earlier) es p))))

-- what is wrong with a record, in parts
abbrev RecordParts : Fields → List PlacedEntry → Range ℕ → Blame
RecordParts fs es p k q = KeyFault es k q ⊎ UnknownField (field_names fs) es p k q ⊎ RepeatedField [] es k q ⊎ MissingField fs es p k q ⊎ FaultOfField fs es k q

-- a record, where its values' faults answer
of_record : {N : Type 0} (o w : Order) (fs : Fields) (es : List PlacedEntry) (p : Range ℕ) → ((e : PlacedEntry) → Answers N (FaultOfValue w fs e) (FaultOfField fs (e ∷ [])))
    → Answers N (FaultOfFields w fs es p) (Either (MissingField fs es p) (FaultOfField fs es))
    → Answers N (InOrder o (OrElse (FaultOfEntries (field_names fs) (λ e. FaultOfValue w fs e) [] es p) (FirstLeftOut fs es p)) (OrElse (FaultOfKeys [] es) (OrElse (FaultOfFields w fs es p) (UnknownField (field_names fs) es p)))) (RecordParts fs es p)
of_record o w fs es p value fields =
    in_order o
    (reworded
    (λ k q. elim [ inl (inl h) ↦ inl h | inl (inr (inl h)) ↦ inr (inl h) | inl (inr (inr (inl h))) ↦ inr (inr (inl h)) | inl (inr (inr (inr h))) ↦ inr (inr (inr (inr h))) | inr h ↦ inr (inr (inr (inl h))) ])
    (λ k q. elim [ inl h ↦ inl (inl h) | inr (inl h) ↦ inl (inr (inl h)) | inr (inr (inl h)) ↦ inl (inr (inr (inl h))) | inr (inr (inr (inl h))) ↦ inr h | inr (inr (inr (inr h))) ↦ inl (inr (inr (inr h))) ])
    (or_else (of_entries fs (λ e. FaultOfValue w fs e) value [] es p) (left_out fs es p)))
    (reworded
    (λ k q. elim [ inl (inl h) ↦ inl h | inl (inr h) ↦ inr (inr (inl h)) | inr (inl h) ↦ inr (inr (inr h)) | inr (inr h) ↦ inr (inl h) ])
    (λ k q. elim [ inl h ↦ inl (inl h) | inr (inl h) ↦ inr (inr h) | inr (inr (inl h)) ↦ inl (inr h) | inr (inr (inr h)) ↦ inr (inl h) ])
    (or_else (of_keys [] es) (or_else fields (itself (one_where one_said)))))

-- an entry that is for one of these fields is for no field of another name
for_no_other : (fs : Fields) (name : List ℕ) (e : PlacedEntry) (k : Refusal) (q : Range ℕ) → IsNoneOf (field_names fs) name → FaultOfField fs (e ∷ []) k q → IsFor name e → ⊥
for_no_other type.no_fields name e k q apart h for = h
for_no_other (field other T more) name e k q apart (inl (inl h)) for = apart.0 (cc (h.0))
for_no_other (field other T more) name e k q apart (inl (inr h)) for = h
for_no_other (field other T more) name e k q apart (inr h) for = for_no_other more name e k q apart.1 h for

-- an entry's value, at the first of the fields and at the others
of_value : {N : Type 0} (w : Order) (name : List ℕ) (T : TypeTree) (more : Fields) (e : PlacedEntry) → (N → IsNoneOf (field_names more) name) → Answers N (FirstFault w w T e.value) (Fault T e.value) → Answers N (FaultOfValue w more e) (FaultOfField more (e ∷ [])) → Answers N (FaultOfValue w (field name T more) e) (FaultOfField (field name T more) (e ∷ []))
of_value {N} w name T more e apart a b = record { one = one_of_two (λ for other. other for) a.one b.one; fault = fault; none_left = none_left }
  where
    fault : (k : Refusal) (q : Range ℕ) → FaultOfValue w (field name T more) e k q → FaultOfField (field name T more) (e ∷ []) k q
    fault k q (inl h) = inl (inl (h.0, a.fault k q h.1))
    fault k q (inr h) = inr (b.fault k q h.1)

    none_left : N → BlamesNothing (FaultOfValue w (field name T more) e) → BlamesNothing (FaultOfField (field name T more) (e ∷ []))
    none_left n nothing k q (inl (inl h)) = a.none_left n (λ l r g. nothing l r (inl (h.0, g))) k q h.1
    none_left n nothing k q (inl (inr h)) = h
    none_left n nothing k q (inr h) = b.none_left n (λ l r g. nothing l r (inr (for_no_other more name e k q (apart n) h, g))) k q h

-- ---- types

mutual
  -- the fault that is answered, for all faults
  answers : (o w : Order) (T : TypeTree) (t : SpannedTree) → Answers (HasDistinctNames T) (FirstFault o w T t) (Fault T t)
  answers o w (type.simple S) t = of_form _ _ (λ token. itself (one_leaf_fault S (span_of t) token))
  answers o w (type.unreadable u) t = itself one_said
  answers o w (type.list E) t = of_form _ _ (λ items. first items (λ item. answers w w E item))
  answers o w (type.fixed E n) t = of_form _ _ (λ items. in_case (λ other same. other same) (itself one_said) (first items (λ item. answers w w E item)))
  answers o w (type.record_type fs) t = of_form _ _ (λ es. of_record o w fs es (span_of t) (λ e. of_its_value w fs e) (of_fields w fs es (span_of t)))
  answers o w (type.tuple Ts) t =
      of_form _ _ (λ items. in_order o (reworded (λ k q. turned _ _) (λ k q. turned _ _) (or_else (of_items w Ts items) (itself (one_where one_said)))) (or_else (itself (one_where one_said)) (of_items w Ts items)))
  answers o w (type.variant cs) t = of_form _ _ (λ l. under (λ n. n.1) (of_case w cs (name_of l.0) l.1 (span_of t)))
  answers o w (type.enum names) (at p (label r text payload)) = itself (one_within (λ k q. elim [ inl h ↦ inl h | inr h ↦ inr (h.0, h.2) ]) (one_of_two (λ some none. some none) one_said one_said))
  answers o w (type.enum names) (at p _) = itself one_said
  answers o w (type.option P) (at p none) = itself none_said
  answers o w (type.option P) (at p (some t)) = answers w w P t
  answers o w (type.option P) (at p s) = in_case (λ other flat. other flat) (itself one_said) (answers o w P (at p s))
  answers o w (type.result A B) (at p (ok payload)) = under (λ n. n.0) (of_payload w (codes "ok") A payload p)
  answers o w (type.result A B) (at p (err payload)) = under (λ n. n.1) (of_payload w (codes "err") B payload p)
  answers o w (type.result A B) (at p s) = under (λ n. n.0) (of_flat o w A (at p s))
  answers o w (type.flags names) t = of_form _ _ (λ fs. first fs (λ f. itself (one_where one_said)))
  answers o w (type.map K V) t = of_form _ _ (λ es. first es (λ e. or_else (itself (one_key_fault K e.place e.key)) (answers w w V e.value)))

  -- that of an entry's value
  of_its_value : (w : Order) (fs : Fields) (e : PlacedEntry) → Answers (HasDistinctNames (type.record_type fs)) (FaultOfValue w fs e) (FaultOfField fs (e ∷ []))
  of_its_value w type.no_fields e = itself none_said
  of_its_value w (field name T more) e =
      of_value w name T more e (λ n. n.0.0) (under (λ n. n.1.0) (answers w w T e.value)) (under (λ n. (n.0.1, n.1.1)) (of_its_value w more e))

  -- that of the first field that is left out or has one
  of_fields : (w : Order) (fs : Fields) (es : List PlacedEntry) (p : Range ℕ) → Answers (HasDistinctNames (type.record_type fs)) (FaultOfFields w fs es p) (Either (MissingField fs es p) (FaultOfField fs es))
  of_fields w type.no_fields es p = record { one = none_said; fault = λ k q h. absurd h; none_left = λ n nothing k q. elim [ inl h ↦ h | inr h ↦ h ] }
  of_fields w (field name T more) es p =
      reworded (λ k q. elim [ inl h ↦ inl (inl h) | inr (inl h) ↦ inr (inl h) | inr (inr (inl h)) ↦ inl (inr h) | inr (inr (inr h)) ↦ inr (inr h) ])
      (λ k q. elim [ inl (inl h) ↦ inl h | inr (inl h) ↦ inr (inl h) | inl (inr h) ↦ inr (inr (inl h)) | inr (inr h) ↦ inr (inr (inr h)) ])
      (or_else (itself (one_left_out name T es p))
      (or_else (under (λ n. n.1.0) (first es (λ e. where_so (answers w w T e.value)))) (under (λ n. (n.0.1, n.1.1)) (of_fields w more es p))))

  -- that of a payload
  of_payload : (w : Order) (name : List ℕ) (A : MaybeType) (payload : MaybePlaced) (p : Range ℕ) → Answers (EachNamesOfMaybe AreDistinct A) (FirstOfPayload w name A payload p) (FaultOfPayload name A payload p)
  of_payload w name no_type no_placed p = itself none_said
  of_payload w name no_type (a_placed t) p = itself one_said
  of_payload w name (a_type T) no_placed p = itself one_said
  of_payload w name (a_type T) (a_placed t) p = answers w w T t

  -- that of a tree that would stand for `ok` of itself
  of_flat : (o w : Order) (A : MaybeType) (t : SpannedTree) → Answers (EachNamesOfMaybe AreDistinct A) (FirstOfFlat o w A t) (FaultOfFlat A t)
  of_flat o w no_type t = itself one_said
  of_flat o w (a_type T) t = in_case (λ other flat. other flat) (itself one_said) (answers o w T t)

  -- that of the items of a tuple
  of_items : (w : Order) (Ts : Types) (items : List SpannedTree) → Answers (EachNamesOfTypes AreDistinct Ts) (FirstItem w Ts items) (FaultOfItem Ts items)
  of_items w no_types items = itself none_said
  of_items w (type_and T more) [] = itself none_said
  of_items w (type_and T more) (t ∷ others) = or_else (under (λ n. n.0) (answers w w T t)) (under (λ n. n.1) (of_items w more others))

  -- that of the payload of a case
  of_case : (w : Order) (cs : Cases) (name : List ℕ) (payload : MaybePlaced) (p : Range ℕ) → Answers (EachNamesOfCases AreDistinct cs) (FirstOfCase w cs name payload p) (FaultOfCase cs name payload p)
  of_case w no_cases name payload p = itself one_said
  of_case w (case_of other A more) name payload p = in_case (λ same apart. apart same) (under (λ n. n.0) (of_payload w name A payload p)) (under (λ n. n.1) (of_case w more name payload p))

-- at most one fault is answered
pub one_fault : (o w : Order) (T : TypeTree) (t : SpannedTree) → BlamesOne (FirstFault o w T t)
one_fault o w T t = (answers o w T t).one

-- the fault that is answered in whatever order is a fault
pub first_is_fault : (o w : Order) (T : TypeTree) (t : SpannedTree) (k : Refusal) (q : Range ℕ) → FirstFault o w T t k q → Fault T t k q
first_is_fault o w T t = (answers o w T t).fault

-- where the names of the type are distinct and no fault is answered, there is none
pub no_fault : (o w : Order) (T : TypeTree) (t : SpannedTree) → HasDistinctNames T → BlamesNothing (FirstFault o w T t) → BlamesNothing (Fault T t)
no_fault o w T t = (answers o w T t).none_left
