-- The faults of a record's entries are told.
use Rattle.std.proofs.Common.{ℕ, ◌≡◌, ◌⊎◌, inl, inr, ◌++◌, Bool, true, false, List, [], ◌∷◌, refl, sym, subst}
use Rattle.std.specs.declared.ops.Range.{Range}
use Rattle.wave_wasm.specs.Lists.{AllOf, SomeOf}
use Rattle.wave_wasm.specs.Names.{IsOneOf, IsNoneOf, is_one_of}
use Rattle.wave_wasm.specs.Types as type
use Rattle.wave_wasm.specs.Types.{TypeTree, Fields, field, field_names}
use Rattle.wave_lex.specs.Errors.{Diagnostic, Refusal, refusal_of, plainly}
use Rattle.wave_lex.specs.declared.error.ParserErrorKind.TheVariants.{InvalidValue}
use Rattle.wave_grammar.specs.SpannedTree.{PlacedEntry}
use Rattle.wave_grammar.specs.TypeErrors.{Blame, IsRefusalOf, names_in, KeyFault, UnknownField, RepeatedField, MissingField, FaultOfField}
use Rattle.wave_grammar.specs.FaultOrder.{BlamesNothing, OrElse, FaultOfKey, FaultOfEntries, FirstLeftOut}
use Rattle.wave_grammar.proofs.OneFault.OneBlame.{one_said, one_where, one_label_fault, one_left_out}
use Rattle.wave_wasm.proofs.Names.NameTests.{is_one, none_of}
use Rattle.wave_faults.specs.AllFaults.{Telling, Alone, Then, FirstUnknown, OfEntries, EachLeftOut}
use Rattle.wave_faults.specs.FaultsLaws.{Tells}
use Rattle.wave_faults.proofs.EachTold.Lists.{all_of_both, some_of_first, some_of_others, all_so}
use Rattle.wave_faults.proofs.EachTold.Combined.{TellsAll, Blames, Either, alone, nothing, then}

-- ---- names

-- the name is one of the names or none
pub one_or_none : (names : List (List ℕ)) (name : List ℕ) → IsOneOf names name ⊎ IsNoneOf names name
one_or_none names name = by (is_one_of names name) refl
  where
    by : (b : Bool) → is_one_of names name ≡ b → IsOneOf names name ⊎ IsNoneOf names name
    by true e = inl (is_one names name e)
    by false e = inr (none_of names name e)

-- no name is both
pub not_both : (names : List (List ℕ)) (name : List ℕ) → IsOneOf names name → IsNoneOf names name → ⊥
not_both [] name one none = one
not_both (other ∷ names) name (inl e) none = none.0 e
not_both (other ∷ names) name (inr one) none = not_both names name one none.1

-- each of the earlier names is one of the names, or some is none
all_or_some : (names earlier : List (List ℕ)) → AllOf (IsOneOf names) earlier ⊎ SomeOf (IsNoneOf names) earlier
all_or_some names [] = inl tt
all_or_some names (name ∷ earlier) = by (one_or_none names name) (all_or_some names earlier)
  where
    by : IsOneOf names name ⊎ IsNoneOf names name → AllOf (IsOneOf names) earlier ⊎ SomeOf (IsNoneOf names) earlier → AllOf (IsOneOf names) (name ∷ earlier) ⊎ SomeOf (IsNoneOf names) (name ∷ earlier)
    by (inl one) (inl all) = inl (one, all)
    by (inl one) (inr some) = inr (inr some)
    by (inr none) more = inr (inl none)

-- one of two lists has it
some_apart : {A : Type 0} (P : A → Type 0) (xs ys : List A) → SomeOf P (xs ++ ys) → SomeOf P xs ⊎ SomeOf P ys
some_apart P [] ys h = inr h
some_apart P (x ∷ xs) ys (inl h) = inl (inl h)
some_apart P (x ∷ xs) ys (inr h) = by (some_apart P xs ys h)
  where
    by : SomeOf P xs ⊎ SomeOf P ys → SomeOf P (x ∷ xs) ⊎ SomeOf P ys
    by (inl g) = inl (inr g)
    by (inr g) = inr g

-- ---- fields that are left out

-- each field that is left out
pub left_out : {N : Type 0} (fs : Fields) (es : List PlacedEntry) (p : Range ℕ) → TellsAll N (EachLeftOut fs es p) (FirstLeftOut fs es p) (MissingField fs es p)
left_out type.no_fields es p = nothing
left_out (field name T more) es p = then (alone (one_left_out name T es p)) (left_out more es p)

-- ---- entries

-- a fault of an entry's value is one of the first entry's or of the others'
value_apart : (fs : Fields) (e : PlacedEntry) (es : List PlacedEntry) (k : Refusal) (q : Range ℕ) → FaultOfField fs (e ∷ es) k q → FaultOfField fs (e ∷ []) k q ⊎ FaultOfField fs es k q
value_apart type.no_fields e es k q h = absurd h
value_apart (field name T more) e es k q (inl (inl h)) = inl (inl (inl h))
value_apart (field name T more) e es k q (inl (inr h)) = inr (inl h)
value_apart (field name T more) e es k q (inr h) = elim (value_apart more e es k q h) [ inl g ↦ inl (inr g) | inr g ↦ inr (inr g) ]

-- that of the first entry is one of all
value_of_first : (fs : Fields) (e : PlacedEntry) (es : List PlacedEntry) (k : Refusal) (q : Range ℕ) → FaultOfField fs (e ∷ []) k q → FaultOfField fs (e ∷ es) k q
value_of_first type.no_fields e es k q h = absurd h
value_of_first (field name T more) e es k q (inl (inl h)) = inl (inl h)
value_of_first (field name T more) e es k q (inl (inr h)) = absurd h
value_of_first (field name T more) e es k q (inr h) = inr (value_of_first more e es k q h)

-- so is that of another
value_of_others : (fs : Fields) (e : PlacedEntry) (es : List PlacedEntry) (k : Refusal) (q : Range ℕ) → FaultOfField fs es k q → FaultOfField fs (e ∷ es) k q
value_of_others type.no_fields e es k q h = absurd h
value_of_others (field name T more) e es k q (inl h) = inl (inr h)
value_of_others (field name T more) e es k q (inr h) = inr (value_of_others more e es k q h)

no_value : (fs : Fields) (k : Refusal) (q : Range ℕ) → FaultOfField fs [] k q → ⊥
no_value type.no_fields k q h = h
no_value (field name T more) k q (inl h) = h
no_value (field name T more) k q (inr h) = no_value more k q h

-- what is wrong with entries
abbrev pub EntryParts : Fields → List (List ℕ) → List PlacedEntry → Range ℕ → Blame
EntryParts fs earlier es p k q = KeyFault es k q ⊎ UnknownField (field_names fs) es p k q ⊎ RepeatedField earlier es k q ⊎ FaultOfField fs es k q

-- a refusal behind an earlier label that is no field
abbrev pub IsToldEarlier : Fields → List (List ℕ) → Range ℕ → Blame
IsToldEarlier fs earlier p k q = IsRefusalOf InvalidValue p k q × SomeOf (IsNoneOf (field_names fs)) earlier

-- a fault of the entries is one of the first or of the others
abbrev FirstParts : Fields → List (List ℕ) → PlacedEntry → List PlacedEntry → Range ℕ → Blame
FirstParts fs earlier e es p =
    Either (FaultOfKey earlier e) (Either (UnknownField (field_names fs) (e ∷ []) p) (Either (FaultOfField fs (e ∷ [])) (EntryParts fs (names_in e.key ++ earlier) es p)))

entries_apart : (fs : Fields) (earlier : List (List ℕ)) (e : PlacedEntry) (es : List PlacedEntry) (p : Range ℕ) (k : Refusal) (q : Range ℕ) → EntryParts fs earlier (e ∷ es) p k q → FirstParts fs earlier e es p k q
entries_apart fs earlier e es p k q (inl (inl h)) = inl (inl h)
entries_apart fs earlier e es p k q (inl (inr h)) = inr (inr (inr (inl h)))
entries_apart fs earlier e es p k q (inr (inl (inl h, f))) = inr (inl (inl h, f))
entries_apart fs earlier e es p k q (inr (inl (inr h, f))) = inr (inr (inr (inr (inl (h, f)))))
entries_apart fs earlier e es p k q (inr (inr (inl (inl h)))) = inl (inr h)
entries_apart fs earlier e es p k q (inr (inr (inl (inr h)))) = inr (inr (inr (inr (inr (inl h)))))
entries_apart fs earlier e es p k q (inr (inr (inr h))) = elim (value_apart fs e es k q h) [ inl g ↦ inr (inr (inl g)) | inr g ↦ inr (inr (inr (inr (inr (inr g))))) ]

-- and back, part by part
key_part : (fs : Fields) (earlier : List (List ℕ)) (e : PlacedEntry) (es : List PlacedEntry) (p : Range ℕ) (k : Refusal) (q : Range ℕ) → FaultOfKey earlier e k q → EntryParts fs earlier (e ∷ es) p k q
key_part fs earlier e es p k q (inl h) = inl (inl h)
key_part fs earlier e es p k q (inr h) = inr (inr (inl (inl h)))

unknown_part : (fs : Fields) (earlier : List (List ℕ)) (e : PlacedEntry) (es : List PlacedEntry) (p : Range ℕ) (k : Refusal) (q : Range ℕ) → UnknownField (field_names fs) (e ∷ []) p k q → EntryParts fs earlier (e ∷ es) p k q
unknown_part fs earlier e es p k q (inl h, f) = inr (inl (inl h, f))
unknown_part fs earlier e es p k q (inr h, f) = absurd h

value_part : (fs : Fields) (earlier : List (List ℕ)) (e : PlacedEntry) (es : List PlacedEntry) (p : Range ℕ) (k : Refusal) (q : Range ℕ) → FaultOfField fs (e ∷ []) k q → EntryParts fs earlier (e ∷ es) p k q
value_part fs earlier e es p k q h = inr (inr (inr (value_of_first fs e es k q h)))

other_parts : (fs : Fields) (earlier : List (List ℕ)) (e : PlacedEntry) (es : List PlacedEntry) (p : Range ℕ) (k : Refusal) (q : Range ℕ) → EntryParts fs (names_in e.key ++ earlier) es p k q → EntryParts fs earlier (e ∷ es) p k q
other_parts fs earlier e es p k q (inl h) = inl (inr h)
other_parts fs earlier e es p k q (inr (inl (h, f))) = inr (inl (inr h, f))
other_parts fs earlier e es p k q (inr (inr (inl h))) = inr (inr (inl (inr h)))
other_parts fs earlier e es p k q (inr (inr (inr h))) = inr (inr (inr (value_of_others fs e es k q h)))

-- what F tells first A blames, and where F tells nothing A blames nothing
record TellsFirst (F : Telling) (A : Blame) : Type 0 where
  none : F [] → BlamesNothing A
  first : (e : Diagnostic) (more : List Diagnostic) → F (e ∷ more) → Blames A e

first_told : {N : Type 0} {F : Telling} {A B : Blame} → TellsAll N F A B → TellsFirst F A
first_told a = record { none = a.none; first = a.first }

head_is : (x e : Diagnostic) (xs more : List Diagnostic) → x ∷ xs ≡ e ∷ more → x ≡ e
head_is x e xs more is = cc

-- the others are looked at where the ones blame nothing
first_of_both : {F G : Telling} {A B : Blame} → TellsFirst F A → (BlamesNothing A → TellsFirst G B) → TellsFirst (Then F G) (OrElse A B)
first_of_both {F} {G} {A} {B} a b = record { none = none; first = first }
  where
    none : Then F G [] → BlamesNothing (OrElse A B)
    none ([], [], is, f, g) k q (inl h) = a.none f k q h
    none ([], [], is, f, g) k q (inr h) = (b (a.none f)).none g k q h.1
    none ([], y ∷ ys, is, f, g) k q h = absurd (cc is)
    none (x ∷ xs, ys, is, f, g) k q h = absurd (cc is)

    first : (e : Diagnostic) (more : List Diagnostic) → Then F G (e ∷ more) → Blames (OrElse A B) e
    first e more ([], ys, is, f, g) = inr (a.none f, (b (a.none f)).first e more (subst G (sym is) g))
    first e more (x ∷ xs, ys, is, f, g) = inl (subst (Blames A) (head_is x e (xs ++ ys) more (sym is)) (a.first x xs f))

-- the first label that is no field
first_unknown : (names earlier : List (List ℕ)) (e : PlacedEntry) (p : Range ℕ) → AllOf (IsOneOf names) earlier → TellsFirst (Alone (FirstUnknown names earlier e p)) (UnknownField names (e ∷ []) p)
first_unknown names earlier e p all = record { none = λ quiet k q h. quiet k q (all, h); first = first }
  where
    first : (d : Diagnostic) (more : List Diagnostic) → Alone (FirstUnknown names earlier e p) (d ∷ more) → Blames (UnknownField names (e ∷ []) p) d
    first d [] h = h.1
    first d (f ∷ more) h = absurd h

-- where no label is refused, each is a field
all_known : (names earlier : List (List ℕ)) (e : PlacedEntry) (p : Range ℕ) → AllOf (IsOneOf names) earlier → BlamesNothing (UnknownField names (e ∷ []) p) → AllOf (IsOneOf names) (names_in e.key ++ earlier)
all_known names earlier e p all quiet = by (all_or_some names (names_in e.key))
  where
    by : AllOf (IsOneOf names) (names_in e.key) ⊎ SomeOf (IsNoneOf names) (names_in e.key) → AllOf (IsOneOf names) (names_in e.key ++ earlier)
    by (inl known) = all_of_both (IsOneOf names) (names_in e.key) earlier known all
    by (inr some) = absurd (quiet (plainly InvalidValue) p (inl some, (refl, refl)))

module _ {N : Type 0} (fs : Fields) (Within : PlacedEntry → Telling) (First : PlacedEntry → Blame) (value : (e : PlacedEntry) → TellsAll N (Within e) (First e) (FaultOfField fs (e ∷ []))) (p : Range ℕ) where
  first_of_entries : (earlier : List (List ℕ)) (es : List PlacedEntry) → AllOf (IsOneOf (field_names fs)) earlier → TellsFirst (OfEntries (field_names fs) Within earlier es p) (FaultOfEntries (field_names fs) First earlier es p)
  first_of_entries earlier [] all = record { none = λ h k q f. f; first = λ e more h. absurd (cc h) }
  first_of_entries earlier (e ∷ es) all =
      first_of_both (first_told (alone {N = N} (one_label_fault earlier e.place e.key e.value))) (λ label.
      first_of_both (first_unknown (field_names fs) earlier e p all) (λ quiet.
      first_of_both (first_told (value e)) (λ none. first_of_entries (names_in e.key ++ earlier) es (all_known (field_names fs) earlier e p all quiet))))

  only_of_entries : (earlier : List (List ℕ)) (es : List PlacedEntry) (errors : List Diagnostic) → OfEntries (field_names fs) Within earlier es p errors → AllOf (Blames (EntryParts fs earlier es p)) errors
  only_of_entries earlier [] errors h = subst (AllOf (Blames (EntryParts fs earlier [] p))) (sym h) tt
  only_of_entries earlier (e ∷ es) errors (xs, behind, is, f, (ys, after, so, g, (zs, ws, same, h, j))) =
      let Parts = Blames (EntryParts fs earlier (e ∷ es) p) in
      let keys = all_so (Blames (FaultOfKey earlier e)) Parts xs (λ d. key_part fs earlier e es p (refusal_of d) d.span) ((alone {N = N} (one_label_fault earlier e.place e.key e.value)).only xs f) in
      let unknown = all_so (Blames (FirstUnknown (field_names fs) earlier e p)) Parts ys (λ d u. unknown_part fs earlier e es p (refusal_of d) d.span u.1) ((alone {N = N} (one_where (one_where one_said))).only ys g) in
      let values = all_so (Blames (FaultOfField fs (e ∷ []))) Parts zs (λ d. value_part fs earlier e es p (refusal_of d) d.span) ((value e).only zs h) in
      let others = all_so (Blames (EntryParts fs (names_in e.key ++ earlier) es p)) Parts ws (λ d. other_parts fs earlier e es p (refusal_of d) d.span) (only_of_entries (names_in e.key ++ earlier) es ws j) in
      subst (AllOf Parts) (sym is) (all_of_both Parts xs behind keys (subst (AllOf Parts) (sym so) (all_of_both Parts ys after unknown (subst (AllOf Parts) (sym same) (all_of_both Parts zs ws values others)))))

  each_of_entries : N → (earlier : List (List ℕ)) (es : List PlacedEntry) (errors : List Diagnostic) (k : Refusal) (q : Range ℕ) → OfEntries (field_names fs) Within earlier es p errors → EntryParts fs earlier es p k q → SomeOf (Tells k q) errors ⊎ IsToldEarlier fs earlier p k q
  each_of_entries n earlier [] errors k q told (inl h) = absurd h
  each_of_entries n earlier [] errors k q told (inr (inl h)) = absurd h.0
  each_of_entries n earlier [] errors k q told (inr (inr (inl h))) = absurd h
  each_of_entries n earlier [] errors k q told (inr (inr (inr h))) = absurd (no_value fs k q h)
  each_of_entries n earlier (e ∷ es) errors k q (xs, behind, is, f, (ys, after, so, g, (zs, ws, same, h, j))) fault = by (λ more. each_of_entries n (names_in e.key ++ earlier) es ws k q j more) (entries_apart fs earlier e es p k q fault)
    where
      in_behind : SomeOf (Tells k q) behind → SomeOf (Tells k q) errors
      in_behind s = subst (SomeOf (Tells k q)) (sym is) (some_of_others (Tells k q) xs behind s)

      in_after : SomeOf (Tells k q) after → SomeOf (Tells k q) errors
      in_after s = in_behind (subst (SomeOf (Tells k q)) (sym so) (some_of_others (Tells k q) ys after s))

      of_unknown : UnknownField (field_names fs) (e ∷ []) p k q → SomeOf (Tells k q) errors ⊎ IsToldEarlier fs earlier p k q
      of_unknown u = decided (all_or_some (field_names fs) earlier)
        where
          decided : AllOf (IsOneOf (field_names fs)) earlier ⊎ SomeOf (IsNoneOf (field_names fs)) earlier → SomeOf (Tells k q) errors ⊎ IsToldEarlier fs earlier p k q
          decided (inl all) = inl (in_behind (subst (SomeOf (Tells k q)) (sym so) (some_of_first (Tells k q) ys after ((alone {N = N} (one_where (one_where one_said))).each n ys k q g (all, u)))))
          decided (inr some) = inr (u.1, some)

      of_earlier : IsToldEarlier fs (names_in e.key ++ earlier) p k q → SomeOf (Tells k q) errors ⊎ IsToldEarlier fs earlier p k q
      of_earlier (r, some) = elim (some_apart (IsNoneOf (field_names fs)) (names_in e.key) earlier some) [ inl here ↦ of_unknown (inl here, r) | inr before ↦ inr (r, before) ]

      of_others : SomeOf (Tells k q) ws ⊎ IsToldEarlier fs (names_in e.key ++ earlier) p k q → SomeOf (Tells k q) errors ⊎ IsToldEarlier fs earlier p k q
      of_others (inl s) = inl (in_after (subst (SomeOf (Tells k q)) (sym same) (some_of_others (Tells k q) zs ws s)))
      of_others (inr before) = of_earlier before

      by : (EntryParts fs (names_in e.key ++ earlier) es p k q → SomeOf (Tells k q) ws ⊎ IsToldEarlier fs (names_in e.key ++ earlier) p k q) → FirstParts fs earlier e es p k q → SomeOf (Tells k q) errors ⊎ IsToldEarlier fs earlier p k q
      by later (inl label) = inl (subst (SomeOf (Tells k q)) (sym is) (some_of_first (Tells k q) xs behind ((alone {N = N} (one_label_fault earlier e.place e.key e.value)).each n xs k q f label)))
      by later (inr (inl u)) = of_unknown u
      by later (inr (inr (inl v))) = inl (in_after (subst (SomeOf (Tells k q)) (sym same) (some_of_first (Tells k q) zs ws ((value e).each n zs k q h v))))
      by later (inr (inr (inr more))) = of_others (later more)

  -- the entries of a record
  pub of_entries : (es : List PlacedEntry) → TellsAll N (OfEntries (field_names fs) Within [] es p) (FaultOfEntries (field_names fs) First [] es p) (EntryParts fs [] es p)
  of_entries es = record {
    none = (first_of_entries [] es tt).none;
    first = (first_of_entries [] es tt).first;
    only = only_of_entries [] es;
    each = λ n errors k q told fault. elim (each_of_entries n [] es errors k q told fault) [ inl h ↦ h | inr h ↦ absurd h.1 ];
  }
