-- A record with a fault has no value.
use Rattle.std.proofs.Common.{ℕ, zero, suc, ◌≡◌, ◌⊎◌, inl, inr, List, [], ◌∷◌, ◌++◌, Option, Some, None, refl, sym, ap, ◌∙◌, subst}
use Rattle.std.specs.declared.ops.Range.{Range}
use Rattle.wave_wasm.specs.Lists.{AllOf, SomeOf}
use Rattle.wave_wasm.specs.Names.{IsOneOf, IsNoneOf, AreDistinct}
use Rattle.wave_wasm.specs.Types as type
use Rattle.wave_wasm.specs.Types.{TypeTree, Fields, field_names}
use Rattle.wave_wasm.specs.Values.{Value, FieldValues}
use Rattle.wave_lex.specs.Errors.{Refusal, repeated_name}
use Rattle.wave_lex.specs.declared.error.ParserErrorKind.TheVariants.{DuplicateField}
use Rattle.wave_grammar.specs.Token.{Token}
use Rattle.wave_grammar.specs.Token as token
use Rattle.wave_grammar.specs.LeafTokens.{name_of}
use Rattle.wave_grammar.specs.TypedGrammar.{IsOption, FieldIs, Fills, look_up, names_of}
use Rattle.wave_grammar.specs.Tree as form
use Rattle.wave_grammar.specs.Tree.{Tree, TreeEntries}
use Rattle.wave_grammar.specs.Elaborates.{TreeReads, TreeReadsField, Each, NamedTree}
use Rattle.wave_grammar.specs.SpannedTree.{SpannedTree, at, entries, no_fields, PlacedEntries, no_entries, entry, PlacedEntry, entry_list, tree_of, entries_of}
use Rattle.wave_grammar.specs.TypeErrors.{RefusesWith, Fault, names_in, KeyFault, UnknownField, RepeatedField, IsFor, MissingField, FaultOfField}
use Rattle.wave_grammar.specs.TypedReading.{ReadsNone}
use Rattle.wave_grammar.proofs.ByKind.Lists.{HasAt}
use Rattle.wave_grammar.proofs.ByKind.Enums.{none_one}
use Rattle.wave_grammar.proofs.Fields.Names.{is_found}
use Rattle.wave_grammar.proofs.Fields.Entries.{RecordFault, apart_more, none_at_first}
use Rattle.wave_grammar.proofs.Fields.Reading.{entry_trees}

-- an entry of this field's name has no value at the field's type
abbrev pub HasBadField : Fields → List PlacedEntry → Type 0
HasBadField fs es = SomeOf (λ p. SomeOf (λ e. IsFor p.0 e × ReadsNone p.1 e.value) es) (type.field_list fs)

-- so it is where the type gives a faulty entry no value
pub some_bad : (E : TypeTree) (name : List ℕ) (es : List PlacedEntry) (k : Refusal) (q : Range ℕ) → ((t : SpannedTree) → Fault E t k q → ReadsNone E t) → SomeOf (λ e. IsFor name e × Fault E e.value k q) es → SomeOf (λ e. IsFor name e × ReadsNone E e.value) es
some_bad E name [] k q apart h = h
some_bad E name (e ∷ es) k q apart (inl h) = inl (h.0, apart e.value h.1)
some_bad E name (e ∷ es) k q apart (inr h) = inr (some_bad E name es k q apart h)

-- ---- what the entries of a record are, where it is read

label_names : (key : Token) (text name : List ℕ) → key ≡ token.label text → name_of text ≡ name → names_in key ≡ name ∷ []
label_names key text name e f = ap names_in e ∙ ap (λ (w : List ℕ). w ∷ []) f

-- the entries and the names and values that they give, one by one
abbrev Pairs : Fields → List PlacedEntry → List (List ℕ × Value) → Type 0
Pairs fs [] [] = Unit {0}
Pairs fs (e ∷ es) (f ∷ found) = IsFor f.0 e × TreeReadsField fs f.0 (tree_of e.value) f.1 × Pairs fs es found
Pairs fs _ _ = ⊥

pairs : (fs : Fields) (es : List PlacedEntry) (found : List (List ℕ × Value)) → Each (NamedTree (TreeReadsField fs)) (entry_trees es) found → Pairs fs es found
pairs fs [] found each = subst (Pairs fs []) (sym each) tt
pairs fs (e ∷ es) found (f, more, (text, is, named, read), rest, same) =
    subst (Pairs fs (e ∷ es)) (sym same) (label_names e.key text f.0 is named, read, pairs fs es more rest)

field_one : (fs : Fields) (name : List ℕ) (u : Tree) (w : Value) → TreeReadsField fs name u w → IsOneOf (field_names fs) name
field_one type.no_fields name u w h = h
field_one (type.field other E more) name u w (inl h) = inl h.0
field_one (type.field other E more) name u w (inr h) = inr (field_one more name u w h)

field_only : (fs : Fields) (i : ℕ) (name : List ℕ) (E : TypeTree) (u : Tree) (w : Value) → AreDistinct (field_names fs) → HasAt (type.field_list fs) i (name, E) → TreeReadsField fs name u w → TreeReads E u w
field_only type.no_fields i name E u w d h read = absurd h
field_only (type.field other U more) zero name E u w d h (inl read) = subst (λ (X : TypeTree). TreeReads X u w) (ap (λ (p : List ℕ × TypeTree). p.1) h) read.1
field_only (type.field other U more) zero name E u w d h (inr read) = absurd (none_one (field_names more) other d.0 (subst (IsOneOf (field_names more)) (ap (λ (p : List ℕ × TypeTree). p.0) (sym h)) (field_one more name u w read)))
field_only (type.field other U more) (suc i) name E u w d h (inl read) = absurd (none_one (field_names more) other d.0 (subst (IsOneOf (field_names more)) read.0 (named more i h)))
  where
    named : (gs : Fields) (j : ℕ) → HasAt (type.field_list gs) j (name, E) → IsOneOf (field_names gs) name
    named type.no_fields j h = absurd h
    named (type.field n X rest) zero h = inl (ap (λ (p : List ℕ × TypeTree). p.0) (sym h))
    named (type.field n X rest) (suc j) h = inr (named rest j h)
field_only (type.field other U more) (suc i) name E u w d h (inr read) = field_only more i name E u w d.1 h read

one_of_two : (a b : List ℕ) → a ∷ [] ≡ b ∷ [] → a ≡ b
one_of_two a b e = cc

-- ---- no fault

no_key : (fs : Fields) (es : List PlacedEntry) (found : List (List ℕ × Value)) (k : Refusal) (q : Range ℕ) → Pairs fs es found → KeyFault es k q → ⊥
no_key fs [] [] k q h fault = fault
no_key fs [] (f ∷ found) k q h fault = fault
no_key fs (e ∷ es) [] k q h fault = h
no_key fs (e ∷ es) (f ∷ found) k q h (inl fault) = cc (sym fault.0 ∙ h.0)
no_key fs (e ∷ es) (f ∷ found) k q h (inr fault) = no_key fs es found k q h.2 fault

no_unknown : (fs : Fields) (es : List PlacedEntry) (found : List (List ℕ × Value)) → Pairs fs es found → SomeOf (λ e. SomeOf (IsNoneOf (field_names fs)) (names_in e.key)) es → ⊥
no_unknown fs [] found h some = some
no_unknown fs (e ∷ es) [] h some = h
no_unknown fs (e ∷ es) (f ∷ found) h (inl some) = one (subst (SomeOf (IsNoneOf (field_names fs))) h.0 some)
  where
    one : SomeOf (IsNoneOf (field_names fs)) (f.0 ∷ []) → ⊥
    one (inl none) = none_one (field_names fs) f.0 none (field_one fs f.0 (tree_of e.value) f.1 h.1)
    one (inr none) = none
no_unknown fs (e ∷ es) (f ∷ found) h (inr some) = no_unknown fs es found h.2 some

no_repeated : (fs : Fields) (es : List PlacedEntry) (found : List (List ℕ × Value)) (earlier : List (List ℕ)) (k : Refusal) (q : Range ℕ) → Pairs fs es found → AreDistinct (names_of found) → AllOf (IsNoneOf earlier) (names_of found) → RepeatedField earlier es k q → ⊥
no_repeated fs [] found earlier k q h d apart fault = fault
no_repeated fs (e ∷ es) [] earlier k q h d apart fault = h
no_repeated fs (e ∷ es) (f ∷ found) earlier k q h d apart (inl fault) = one (subst (SomeOf (λ name. IsOneOf earlier name × RefusesWith DuplicateField (Some (repeated_name name)) e.place k q)) h.0 fault)
  where
    one : SomeOf (λ name. IsOneOf earlier name × RefusesWith DuplicateField (Some (repeated_name name)) e.place k q) (f.0 ∷ []) → ⊥
    one (inl old) = none_one earlier f.0 apart.0 old.0
    one (inr old) = old
no_repeated fs (e ∷ es) (f ∷ found) earlier k q h d apart (inr fault) =
    no_repeated fs es found (f.0 ∷ earlier) k q h.2 d.1 (apart_more (names_of found) earlier f.0 apart.1 d.0) (subst (λ (ns : List (List ℕ)). RepeatedField (ns ++ earlier) es k q) h.0 fault)

entry_for : (fs : Fields) (es : List PlacedEntry) (found : List (List ℕ × Value)) (name : List ℕ) → Pairs fs es found → IsOneOf (names_of found) name → SomeOf (IsFor name) es
entry_for fs [] [] name h one = one
entry_for fs [] (f ∷ found) name h one = absurd h
entry_for fs (e ∷ es) [] name h one = absurd h
entry_for fs (e ∷ es) (f ∷ found) name h (inl is) = inl (h.0 ∙ ap (λ (w : List ℕ). w ∷ []) (sym is))
entry_for fs (e ∷ es) (f ∷ found) name h (inr one) = inr (entry_for fs es found name h.2 one)

not_missing : (fs : Fields) (es : List PlacedEntry) (found : List (List ℕ × Value)) (name : List ℕ) (E : TypeTree) (v : Value) (o : Option Value) → Pairs fs es found → look_up found name ≡ o → FieldIs E o v → (IsOption E → ⊥) → (SomeOf (IsFor name) es → ⊥) → ⊥
not_missing fs es found name E v (Some w) h e is apart none = none (entry_for fs es found name h (is_found found name w e))
not_missing fs es found name E v None h e is apart none = apart is.0

no_missing : (fs gs : Fields) (es : List PlacedEntry) (found : List (List ℕ × Value)) (all : FieldValues) (p : Range ℕ) (k : Refusal) (q : Range ℕ) → Pairs fs es found → Fills gs found all → MissingField gs es p k q → ⊥
no_missing fs type.no_fields es found all p k q h fills fault = fault
no_missing fs (type.field name E more) es found all p k q h (v, others, is, rest, e) (inl fault) = not_missing fs es found name E v (look_up found name) h refl is fault.0 fault.1
no_missing fs (type.field name E more) es found all p k q h (v, others, is, rest, e) (inr fault) = no_missing fs more es found others p k q h rest fault

not_bad : (fs : Fields) (i : ℕ) (name : List ℕ) (E : TypeTree) (es : List PlacedEntry) (found : List (List ℕ × Value)) → AreDistinct (field_names fs) → HasAt (type.field_list fs) i (name, E) → Pairs fs es found → SomeOf (λ e. IsFor name e × ReadsNone E e.value) es → ⊥
not_bad fs i name E [] found d typed h bad = bad
not_bad fs i name E (e ∷ es) [] d typed h bad = h
not_bad fs i name E (e ∷ es) (f ∷ found) d typed h (inl bad) =
    let named : f.0 ≡ name = one_of_two f.0 name (sym h.0 ∙ bad.0) in
    bad.1 f.1 (field_only fs i name E (tree_of e.value) f.1 d typed (subst (λ (w : List ℕ). TreeReadsField fs w (tree_of e.value) f.1) named h.1))
not_bad fs i name E (e ∷ es) (f ∷ found) d typed h (inr bad) = not_bad fs i name E es found d typed h.2 bad

some_has : {A : Type 0} (P : A → Type 0) (xs : List A) → SomeOf P xs → (i : ℕ) × (x : A) × HasAt xs i x × P x
some_has P [] h = absurd h
some_has P (x ∷ xs) (inl p) = (zero, x, refl, p)
some_has P (x ∷ xs) (inr h) = let r = some_has P xs h in (suc r.0, r.1, r.2, r.3)

no_bad : (fs : Fields) (es : List PlacedEntry) (found : List (List ℕ × Value)) → AreDistinct (field_names fs) → Pairs fs es found → HasBadField fs es → ⊥
no_bad fs es found d h bad =
    let r = some_has (λ p. SomeOf (λ e. IsFor p.0 e × ReadsNone p.1 e.value) es) (type.field_list fs) bad in
    not_bad fs r.0 r.1.0 r.1.1 es found d r.2 h r.3

-- a fault, or a field without a value, in place of it
abbrev pub HasFault : Fields → Range ℕ → List PlacedEntry → Refusal → Range ℕ → Type 0
HasFault fs p es k q = KeyFault es k q ⊎ UnknownField (field_names fs) es p k q ⊎ RepeatedField [] es k q ⊎ MissingField fs es p k q ⊎ HasBadField fs es

no_fault : (fs : Fields) (es : List PlacedEntry) (found : List (List ℕ × Value)) (all : FieldValues) (p : Range ℕ) (k : Refusal) (q : Range ℕ) → AreDistinct (field_names fs) → Each (NamedTree (TreeReadsField fs)) (entry_trees es) found → AreDistinct (names_of found) → Fills fs found all → HasFault fs p es k q → ⊥
no_fault fs es found all p k q names each d fills (inl fault) = no_key fs es found k q (pairs fs es found each) fault
no_fault fs es found all p k q names each d fills (inr (inl fault)) = no_unknown fs es found (pairs fs es found each) fault.0
no_fault fs es found all p k q names each d fills (inr (inr (inl fault))) = no_repeated fs es found [] k q (pairs fs es found each) d (none_at_first (names_of found)) fault
no_fault fs es found all p k q names each d fills (inr (inr (inr (inl fault)))) = no_missing fs fs es found all p k q (pairs fs es found each) fills fault
no_fault fs es found all p k q names each d fills (inr (inr (inr (inr fault)))) = no_bad fs es found names (pairs fs es found each) fault

first_entry : (k : Token) (t : Tree) (ts : TreeEntries) (l : Token) (u : Tree) (us : TreeEntries) → form.entry k t ts ≡ form.entry l u us → (k ≡ l) × (t ≡ u) × (ts ≡ us)
first_entry k t ts l u us e = (cc, cc, cc)

entries_list : (es : PlacedEntries) (us : List (Token × Tree)) → entries_of es ≡ form.tree_entries us → us ≡ entry_trees (entry_list es)
entries_list no_entries [] e = refl
entries_list no_entries (u ∷ us) e = absurd (cc)
entries_list (entry p key t more) [] e = absurd (cc)
entries_list (entry p key t more) (u ∷ us) e =
    let both = first_entry key (tree_of t) (entries_of more) u.0 u.1 (form.tree_entries us) e in
    let here : u ≡ (key, tree_of t) = λ j. (sym both.0 j, sym both.1 j) in
    ap (λ (x : Token × Tree). x ∷ us) here ∙ ap (λ (xs : List (Token × Tree)). (key, tree_of t) ∷ xs) (entries_list more us both.2)

entries_once : (a b : TreeEntries) → form.entries a ≡ form.entries b → a ≡ b
entries_once a b e = cc

-- a record with a fault is given no value
pub record_none : (fs : Fields) (t : SpannedTree) (k : Refusal) (q : Range ℕ) (v : Value) → AreDistinct (field_names fs) → ((es : List PlacedEntry) → FaultOfField fs es k q → HasBadField fs es) → Fault (type.record_type fs) t k q → TreeReads (type.record_type fs) (tree_of t) v → ⊥
record_none fs (at p no_fields) k q v names bad fault (us, found, all, inl shape, each, d, fills, e) =
    no_fault fs [] found all p k q names (subst (λ (xs : List (Token × Tree)). Each (NamedTree (TreeReadsField fs)) xs found) shape.1 each) d fills (with_bad fault)
  where
    with_bad : RecordFault fs p [] k q → HasFault fs p [] k q
    with_bad (inl h) = inl h
    with_bad (inr (inl h)) = inr (inl h)
    with_bad (inr (inr (inl h))) = inr (inr (inl h))
    with_bad (inr (inr (inr (inl h)))) = inr (inr (inr (inl h)))
    with_bad (inr (inr (inr (inr h)))) = inr (inr (inr (inr (bad [] h))))
record_none fs (at p no_fields) k q v names bad fault (us, found, all, inr shape, each, d, fills, e) = cc shape.0
record_none fs (at p (entries es)) k q v names bad fault (us, found, all, inl shape, each, d, fills, e) = cc shape.0
record_none fs (at p (entries es)) k q v names bad fault (us, found, all, inr shape, each, d, fills, e) =
    let same : us ≡ entry_trees (entry_list es) = entries_list es us (entries_once (entries_of es) (form.tree_entries us) shape.0) in
    no_fault fs (entry_list es) found all p k q names (subst (λ (xs : List (Token × Tree)). Each (NamedTree (TreeReadsField fs)) xs found) same each) d fills (with_bad fault)
  where
    with_bad : RecordFault fs p (entry_list es) k q → HasFault fs p (entry_list es) k q
    with_bad (inl h) = inl h
    with_bad (inr (inl h)) = inr (inl h)
    with_bad (inr (inr (inl h))) = inr (inr (inl h))
    with_bad (inr (inr (inr (inl h)))) = inr (inr (inr (inl h)))
    with_bad (inr (inr (inr (inr h)))) = inr (inr (inr (inr (bad (entry_list es) h))))
record_none fs (at p _) k q v names bad fault (us, found, all, inl shape, each, d, fills, e) = absurd (cc shape.0)
record_none fs (at p _) k q v names bad fault (us, found, all, inr shape, each, d, fills, e) = absurd (cc shape.0)
