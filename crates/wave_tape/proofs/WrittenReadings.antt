-- What a writer of text straight from a tape answers, from what its steps answer.
use Rattle.std.proofs.Common.{◌≡◌, ◌≤◌, take, ℕ, suc, Bool, true, false, cond, List, [], ◌∷◌, ◌++◌, length, map, Some, Result, Ok, Err, Bor, refl, sym, ap, subst, ◌∙◌, append_assoc, codes, ◌⊎◌, inl, inr}
use Rattle.std.specs.Prelude.{OnOk, is_ok}
use Rattle.std.specs.declared.alloc.AllocError.{AllocError}
use Rattle.std.proofs.lemmas.List.{append-nil, map_push, take_all}
use Rattle.wave_wasm.specs.declared.wasm.WasmTypeKind.{WasmTypeKind}
use Rattle.wave_wasm.specs.declared.wasm.WasmTypeKind.TheVariants as kinds
use Rattle.wave_wasm.specs.Lists.{AllOf}
use Rattle.wave_wasm.specs.Commas.{in_braces, joined}
use Rattle.wave_wasm.specs.CommaParts.{comma_if}
use Rattle.wave_wasm.specs.ConstructorContracts.{IsOfListKind, list_value, type_parts}
use Rattle.wave_wasm.specs.Text.{text, leaf_text, is_no_option}
use Rattle.wave_wasm.specs.Types as type
use Rattle.wave_wasm.specs.Types.{TypeTree, MaybeType, Types, Fields, Cases, Simple, no_type, a_type, no_types, type_and, no_cases, case_of, kind_of, list_part, depth}
use Rattle.wave_wasm.specs.Values as value
use Rattle.wave_wasm.specs.Values.{Value, MaybeValue, FieldValues, Leaf, no_value, a_value, values, entries, field_values}
use Rattle.wave_wasm.proofs.CanonicalText.Sequences.{parted, parted_joined}
use Rattle.wave_wasm.proofs.CanonicalText.ValueParts.{fields_left, list_sequence, tuple_sequence, record_is}
use Rattle.wave_tape.specs.declared.error.Stop.{Stop}
use Rattle.wave_tape.specs.Reading.{Fault, Reading, ◌>>=◌, leaf_at, value_at}
use Rattle.wave_tape.specs.Names.{HasTextNames}
use Rattle.wave_tape.specs.Private.Readers.{IsFaultOf, Fails}
use Rattle.wave_tape.specs.Private.TextWriters.{WritesRead, IsWritten}
use Rattle.wave_tape.proofs.Parts.{list_back}
use Rattle.wave_tape.proofs.Readings.{stops_at, fault_of, fails_of, read_as}

-- ---- what a push of the library says

pub pushed : (old new s : List ℕ) (r : Result (Unit {0}) AllocError) → new ≡ cond (is_ok r) (old ++ s) old → OnOk r (new ≡ old ++ s)
pushed old new s (Ok x) e = e
pushed old new s (Err x) e = tt

pub pushed_behind : (old mid new a b : List ℕ) (r : Result (Unit {0}) AllocError) → mid ≡ old ++ a → new ≡ cond (is_ok r) (mid ++ b) mid → OnOk r (new ≡ old ++ (a ++ b))
pushed_behind old mid new a b (Ok x) e f = f ∙ (ap (λ (s : List ℕ). s ++ b) e ∙ append_assoc old a b)
pushed_behind old mid new a b (Err x) e f = tt

-- ---- a part of what is written

module _ {A B : Type 0} (said : A → List ℕ) (says : B → List ℕ) (f : A → B) (Part PartFull Named Full : Type 0) (part : Reading A) (whole : Reading B) (is : whole ≡ (part >>= λ x. Ok (f x.0, x.1))) (old front : List ℕ) where
  -- between two texts
  pub written_between : (close mid : List ℕ) (rest : Bor (List ℕ)) → ((x : A) → says (f x) ≡ front ++ (said x ++ close)) → WritesRead said Part PartFull part (old ++ front) mid (Ok rest) → WritesRead says Named Full whole old (mid ++ close) (Ok rest)
  written_between close mid rest texts h = (
    f h.0,
    is ∙ ap (λ (q : Reading A). q >>= λ x. read_as (f x.0) x.1) h.1,
    ap (λ (s : List ℕ). s ++ close) h.2 ∙ (append_assoc (old ++ front) (said h.0) close ∙ (append_assoc old front (said h.0 ++ close) ∙ ap (λ (s : List ℕ). old ++ s) (sym (texts h.0)))),
  )

  -- behind a text, and it may have stopped
  pub written_behind : (new : List ℕ) (r : Result (Bor (List ℕ)) Stop) → ((x : A) → says (f x) ≡ front ++ said x) → (Named → Part) → (Full → PartFull) → WritesRead said Part PartFull part (old ++ front) new r → WritesRead says Named Full whole old new r
  written_behind new (Ok rest) texts named full h = (
    f h.0,
    is ∙ ap (λ (q : Reading A). q >>= λ x. read_as (f x.0) x.1) h.1,
    h.2 ∙ (append_assoc old front (said h.0) ∙ ap (λ (s : List ℕ). old ++ s) (sym (texts h.0))),
  )
  written_behind new (Err s) texts named full h = λ n. fails_of PartFull Full s part whole full (λ x e. is ∙ stops_at part (λ x. read_as (f x.0) x.1) x e) (h (named n))

-- a part stopped
pub part_stopped : {A B : Type 0} (Part PartFull Named Full : Type 0) (part : Reading A) (whole : Reading B) (s : Stop) → ((x : Fault) → part ≡ Err x → whole ≡ Err x) → (Named → Part) → (Full → PartFull) → (Part → Fails PartFull s part) → Named → Fails Full s whole
part_stopped Part PartFull Named Full part whole s stop named full h = λ n. fails_of PartFull Full s part whole full stop (h (named n))

-- a fault before anything is written
pub fault_first : {A B : Type 0} (Named Full : Type 0) (part : Result A Fault) (whole : Reading B) (s : Stop) → ((x : Fault) → part ≡ Err x → whole ≡ Err x) → IsFaultOf s part → Named → Fails Full s whole
fault_first Named Full part whole s stop h = λ n. fault_of Full s part whole stop h

-- a leaf that was written is a value that was
pub leaf_value : (Full : TypeTree → Type 0) (S : Simple) (bytes old new : List ℕ) (r : Result (Bor (List ℕ)) Stop) → WritesRead leaf_text (Unit {0}) (Full (type.simple S)) (leaf_at S bytes) old new r → IsWritten Full (type.simple S) bytes old new r
leaf_value Full S bytes old new (Ok rest) h = (value.leaf h.0, ap (λ (q : Reading Leaf). q >>= λ x. read_as (value.leaf x.0) x.1) h.1, h.2)
leaf_value Full S bytes old new (Err s) h = λ named. fails_of (Full (type.simple S)) (Full (type.simple S)) s (leaf_at S bytes) (value_at (type.simple S) bytes) (λ full. full) (λ x e. ap (λ (q : Reading Leaf). q >>= λ y. read_as (value.leaf y.0) y.1) e) (h tt)

-- ---- texts with commas between

-- of texts with commas between, some are done behind `old`, and `now` stands so far: whatever is to come
abbrev pub Joining : List ℕ → List (List ℕ) → Bool → List ℕ → Type 0
Joining old done later now = (more : List (List ℕ)) → old ++ parted false (done ++ more) ≡ now ++ parted later more

pub joining_none : (old : List ℕ) → Joining old [] false old
joining_none old = λ more. refl

pub joining_more : (old : List ℕ) (done : List (List ℕ)) (later : Bool) (now t : List ℕ) → Joining old done later now → Joining old (done ++ t ∷ []) true ((now ++ comma_if later) ++ t)
joining_more old done later now t h = λ more.
    ap (λ (l : List (List ℕ)). old ++ parted false l) (append_assoc done (t ∷ []) more)
    ∙ (h (t ∷ more) ∙ (sym (append_assoc now (comma_if later) (t ++ parted true more)) ∙ sym (append_assoc (now ++ comma_if later) t (parted true more))))

pub joining_all : (old : List ℕ) (done : List (List ℕ)) (later : Bool) (now : List ℕ) → Joining old done later now → now ≡ old ++ joined done
joining_all old done later now h =
    sym (append-nil now) ∙ (sym (h []) ∙ (ap (λ (l : List (List ℕ)). old ++ parted false l) (append-nil done) ∙ ap (λ (s : List ℕ). old ++ s) (parted_joined done)))

-- so the fields of a record
abbrev pub Opening : List ℕ → List (List ℕ × Value) → Bool → List ℕ → Type 0
Opening old done later now = (more : List (List ℕ × Value)) → old ++ fields_left false (done ++ more) ≡ now ++ fields_left later more

pub opening_none : (old : List ℕ) → Opening old [] false old
opening_none old = λ more. refl

skipped : (later : Bool) (name : List ℕ) (v : Value) (fs : List (List ℕ × Value)) → is_no_option v ≡ true → fields_left later ((name, v) ∷ fs) ≡ fields_left later fs
skipped later name v fs h = rw h refl

here : (later : Bool) (name : List ℕ) (v : Value) (fs : List (List ℕ × Value)) → is_no_option v ≡ false → fields_left later ((name, v) ∷ fs) ≡ cond later (codes ", ") (codes "{") ++ (name ++ (codes ": " ++ (text v ++ fields_left true fs)))
here later name v fs h = rw h refl

pub opening_skipped : (old : List ℕ) (done : List (List ℕ × Value)) (later : Bool) (now name : List ℕ) (v : Value) → is_no_option v ≡ true → Opening old done later now → Opening old (done ++ (name, v) ∷ []) later now
opening_skipped old done later now name v none h = λ more.
    ap (λ (l : List (List ℕ × Value)). old ++ fields_left false l) (append_assoc done ((name, v) ∷ []) more)
    ∙ (h ((name, v) ∷ more) ∙ ap (λ (s : List ℕ). now ++ s) (skipped later name v more none))

pub opening_more : (old : List ℕ) (done : List (List ℕ × Value)) (later : Bool) (now name : List ℕ) (v : Value) → is_no_option v ≡ false → Opening old done later now → Opening old (done ++ (name, v) ∷ []) true ((((now ++ cond later (codes ", ") (codes "{")) ++ name) ++ codes ": ") ++ text v)
opening_more old done later now name v some h = λ more.
    let front = cond later (codes ", ") (codes "{") in
    let left = fields_left true more in
    ap (λ (l : List (List ℕ × Value)). old ++ fields_left false l) (append_assoc done ((name, v) ∷ []) more)
    ∙ (h ((name, v) ∷ more)
    ∙ (ap (λ (s : List ℕ). now ++ s) (here later name v more some)
    ∙ (sym (append_assoc now front (name ++ (codes ": " ++ (text v ++ left))))
    ∙ (sym (append_assoc (now ++ front) name (codes ": " ++ (text v ++ left)))
    ∙ (sym (append_assoc ((now ++ front) ++ name) (codes ": ") (text v ++ left))
    ∙ sym (append_assoc (((now ++ front) ++ name) ++ codes ": ") (text v) left))))))

pub opening_all : (old : List ℕ) (done : List (List ℕ × Value)) (later : Bool) (now : List ℕ) → Opening old done later now → now ++ cond later (codes "}") (codes "{:}") ≡ old ++ fields_left false done
opening_all old done later now h = sym (h []) ∙ ap (λ (l : List (List ℕ × Value)). old ++ fields_left false l) (append-nil done)

-- ---- the texts of lists, tuples and records

fields_back : (fs : List (List ℕ × Value)) → value.field_list (field_values fs) ≡ fs
fields_back [] = refl
fields_back (f ∷ fs) = ap (λ (l : List (List ℕ × Value)). f ∷ l) (fields_back fs)

pub list_text : (T : TypeTree) (vs : List Value) → IsOfListKind (kind_of T) → text (list_value T vs) ≡ codes "[" ++ (joined (map text vs) ++ codes "]")
list_text (type.list E) vs k = (list_sequence (value.list (values vs)) vs tt (sym (list_back vs))).text_is
list_text (type.fixed E n) vs k = (list_sequence (value.fixed (values vs)) vs tt (sym (list_back vs))).text_is
list_text _ vs k = (list_sequence (value.list (values vs)) vs tt (sym (list_back vs))).text_is

pub tuple_text : (vs : List Value) → text (value.tuple (values vs)) ≡ codes "(" ++ (joined (map text vs) ++ codes ")")
tuple_text vs = (tuple_sequence (value.tuple (values vs)) vs refl (sym (list_back vs))).text_is

pub record_text : (fs : List (List ℕ × Value)) → text (value.record_value (field_values fs)) ≡ fields_left false fs
record_text fs = (record_is (value.record_value (field_values fs)) fs refl (sym (fields_back fs))).text_is

-- ---- how many items a list has

pub list_kind : (T : TypeTree) (k : WasmTypeKind) → k ≡ kind_of T → (k ≡ kinds.List) ⊎ (k ≡ kinds.FixedLengthList) → IsOfListKind (kind_of T)
list_kind T k e (inl is) = subst IsOfListKind (sym is ∙ e) tt
list_kind T k e (inr is) = subst IsOfListKind (sym is ∙ e) tt

-- ---- an item more

-- an item was written behind a comma
pub joining_item : (old : List ℕ) (vs : List Value) (later : Bool) (now mid new : List ℕ) (v : Value) → mid ≡ now ++ comma_if later → new ≡ mid ++ text v → Joining old (map text vs) later now → Joining old (map text (vs ++ v ∷ [])) true new
joining_item old vs later now mid new v comma item h =
    subst (λ (l : List (List ℕ)). Joining old l true new) (sym (map_push text vs v))
    (subst (Joining old (map text vs ++ text v ∷ []) true) (sym (item ∙ ap (λ (s : List ℕ). s ++ text v) comma)) (joining_more old (map text vs) later now (text v) h))

-- so a field, behind its name
pub opening_field : (old : List ℕ) (fs : List (List ℕ × Value)) (later : Bool) (now a b c new name : List ℕ) (v : Value) → a ≡ now ++ cond later (codes ", ") (codes "{") → b ≡ a ++ name → c ≡ b ++ codes ": " → new ≡ c ++ text v → is_no_option v ≡ false → Opening old fs later now → Opening old (fs ++ (name, v) ∷ []) true new
opening_field old fs later now a b c new name v front named colon item some h =
    subst (Opening old (fs ++ (name, v) ∷ []) true) (sym (item ∙ ap (λ (s : List ℕ). s ++ text v) (colon ∙ ap (λ (s : List ℕ). s ++ codes ": ") (named ∙ ap (λ (s : List ℕ). s ++ name) front)))) (opening_more old fs later now name v some h)

-- ---- elements

-- E is the element type of T
pub record IsElement (Full : TypeTree → Type 0) (T E : TypeTree) : Type 0 where
  pub named : HasTextNames T → HasTextNames E
  pub full : AllOf Full (type_parts T) → Full E
  pub deep : depth T ≡ suc (depth E)

pub list_element : (Full : TypeTree → Type 0) (T E : TypeTree) → Some E ≡ list_part T → IsElement Full T E
list_element Full (type.list D) E e = let same : D ≡ E = cc in record { named = subst HasTextNames same; full = λ h. subst Full same h.0; deep = ap (λ (U : TypeTree). suc (depth U)) same }
list_element Full (type.fixed D n) E e = let same : D ≡ E = cc in record { named = subst HasTextNames same; full = λ h. subst Full same h.0; deep = ap (λ (U : TypeTree). suc (depth U)) same }
list_element Full _ E e = absurd cc

-- ---- what was gone through of a list

-- all were, and the brace behind them
pub braces_closed : {X : Type 0} (f : X → List ℕ) (old front : List ℕ) (xs : List X) (i : ℕ) (later : Bool) (now new : List ℕ) (r : Result (Unit {0}) AllocError) → length xs ≤ i → front ≡ old ++ codes "{" → Joining front (map f (take i xs)) later now → new ≡ cond (is_ok r) (now ++ codes "}") now → OnOk r (new ≡ old ++ in_braces (joined (map f xs)))
braces_closed f old front xs i later now new r le opened h e =
    let texts = map f xs in
    let all : now ≡ front ++ joined texts = joining_all front (map f (take i xs)) later now h ∙ ap (λ l. front ++ joined (map f l)) (take_all i xs le) in
    pushed_on r (now ++ codes "}") (old ++ in_braces (joined texts)) new now
    (ap (λ (s : List ℕ). s ++ codes "}") (all ∙ ap (λ (s : List ℕ). s ++ joined texts) opened) ∙ (append_assoc (old ++ codes "{") (joined texts) (codes "}") ∙ append_assoc old (codes "{") (joined texts ++ codes "}"))) e
  where
    pushed_on : (r : Result (Unit {0}) AllocError) (a b new now : List ℕ) → a ≡ b → new ≡ cond (is_ok r) a now → OnOk r (new ≡ b)
    pushed_on (Ok x) a b new now same e = e ∙ same
    pushed_on (Err x) a b new now same e = tt
