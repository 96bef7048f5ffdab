-- Records, from the fields that were read in the type's order.
use Rattle.std.proofs.Common.{◌≡◌, ℕ, zero, suc, ◌≤◌, cond, List, [], ◌∷◌, length, map, Option, Some, None, Result, Ok, Err, Bor, refl, sym, ap, subst, ◌∙◌, arith}
use Rattle.std.specs.Prelude.{IfOk, IfErr}
use Rattle.std.specs.Global.{Vec}
use Rattle.std.specs.List as std_list
use Rattle.std.specs.List.Sorted.{IsPermutation}
use Rattle.std.specs.Str.{bytes_eq}
use Rattle.std.proofs.lemmas.List.Sorted.{All-permutation, IsPermutation-refl}
use Rattle.wave_wasm.specs.Lists.{AllOf}
use Rattle.wave_wasm.specs.Names.{IsNoneOf, AreDistinct}
use Rattle.wave_wasm.specs.Types as type
use Rattle.wave_wasm.specs.Types.{TypeTree, Fields, field_names, HasDistinctNames, EachNames, EachNamesOfFields}
use Rattle.wave_wasm.specs.Values as value
use Rattle.wave_wasm.specs.Values.{Value, FieldValues, field_values}
use Rattle.wave_wasm.specs.HasType.{HasType, HasFields}
use Rattle.wave_wasm.specs.ConstructorContracts.{Makes, MakesRecord, FullRecord, HasFullParts, FieldsAreOf, TypedRecord, field_trees}
use Rattle.wave_wasm.specs.declared.wasm.WasmValueError.{WasmValueError}
use Rattle.wave_wasm.proofs.Names.Subsequences.{unlike, same_bytes}
use Rattle.wave_tape.specs.Names.{AreTexts}
use Rattle.wave_tape.specs.declared.error.Stop.{Stop}
use Rattle.wave_tape.specs.declared.error.Stop.TheVariants as stops
use Rattle.wave_tape.specs.Reading.{Fault, Reading, ◌>>=◌, zero_at, value_at, fields_at, field_row_at}
use Rattle.wave_tape.specs.Private.Readers.{IsFaultOf, IsBuilt, IsRead, FieldsAreRead, each_field_at}
use Rattle.wave_tape.proofs.TypeParts.{IsRecordType}
use Rattle.wave_tape.proofs.Readings.{fails_of, read_as, built_read, fault_read, stops_at}
use Rattle.wave_tape.proofs.Builds.{as_type}

-- ---- what is read

abbrev pub as_fields : List (List ℕ × Value) × List ℕ → Reading FieldValues
as_fields x = Ok (field_values x.0, x.1)

abbrev as_record : FieldValues × List ℕ → Reading Value
as_record x = Ok (value.record_value x.0, x.1)

abbrev pub no_fields_left : List ℕ → Reading FieldValues
no_fields_left rest = Ok (value.no_fields, rest)

one_more : (name : List ℕ) (v : Value) (q : Reading (List (List ℕ × Value))) → ((q >>= as_fields) >>= λ others. read_as (value.field name v others.0) others.1) ≡ ((q >>= λ others. read_as ((name, v) ∷ others.0) others.1) >>= as_fields)
one_more name v (Ok x) = refl
one_more name v (Err f) = refl

fields_each : (fs : Fields) (bytes : List ℕ) → fields_at fs bytes ≡ (each_field_at (type.field_list fs) bytes >>= as_fields)
fields_each type.no_fields bytes = refl
fields_each (type.field name T more) bytes = by (value_at T bytes) (λ rest. fields_each more rest)
  where
    by : (q : Reading Value) → ((rest : List ℕ) → fields_at more rest ≡ (each_field_at (type.field_list more) rest >>= as_fields))
        → (q >>= λ first. fields_at more first.1 >>= λ others. read_as (value.field name first.0 others.0) others.1)
        ≡ ((q >>= λ first. each_field_at (type.field_list more) first.1 >>= λ others. read_as ((name, first.0) ∷ others.0) others.1) >>= as_fields)
    by (Ok x) rest =
        ap (λ (q : Reading FieldValues). q >>= λ others. read_as (value.field name x.0 others.0) others.1) (rest x.1)
        ∙ one_more name x.0 (each_field_at (type.field_list more) x.1)
    by (Err f) rest = refl

pub row_each : (fs : Fields) (bytes : List ℕ) → 1 ≤ length (type.field_list fs) → field_row_at fs bytes ≡ (each_field_at (type.field_list fs) bytes >>= as_fields)
row_each type.no_fields bytes some = absurd (omega (arith, some))
row_each (type.field name T more) bytes some = fields_each (type.field name T more) bytes

pub row_none : (fs : Fields) (bytes rest : List ℕ) → type.field_list fs ≡ [] → zero_at bytes ≡ Ok rest → field_row_at fs bytes ≡ Ok (value.no_fields, rest)
row_none type.no_fields bytes rest none e = ap (λ (q : Result (List ℕ) Fault). q >>= no_fields_left) e
row_none (type.field name T more) bytes rest none e = absurd cc

pub row_none_stop : (fs : Fields) (bytes : List ℕ) (x : Fault) → type.field_list fs ≡ [] → zero_at bytes ≡ Err x → field_row_at fs bytes ≡ Err x
row_none_stop type.no_fields bytes x none e = ap (λ (q : Result (List ℕ) Fault). q >>= no_fields_left) e
row_none_stop (type.field name T more) bytes x none e = absurd cc

-- ---- names

abbrev first_names : {A : Type 0} → List (List ℕ × A) → List (List ℕ)
first_names fs = map (λ f. f.0) fs

list_names : (fs : Fields) → first_names (type.field_list fs) ≡ field_names fs
list_names type.no_fields = refl
list_names (type.field name T more) = ap (λ (l : List (List ℕ)). name ∷ l) (list_names more)

pub fields_all : (P : List (List ℕ) → Type 0) (fs : Fields) → EachNamesOfFields P fs → AllOf (λ f. EachNames P f.1) (type.field_list fs)
fields_all P type.no_fields h = tt
fields_all P (type.field name T more) h = (h.0, fields_all P more h.1)

pub full_all : (Full : TypeTree → Type 0) (fs : List (List ℕ × TypeTree)) → AllOf Full (map (λ f. f.1) fs) → AllOf (λ f. Full f.1) fs
full_all Full [] h = tt
full_all Full (f ∷ fs) h = (h.0, full_all Full fs h.1)

typed_names : (fs : Fields) (all : FieldValues) → HasFields fs all → first_names (value.field_list all) ≡ field_names fs
typed_names type.no_fields all h = ap (λ (x : FieldValues). first_names (value.field_list x)) h
typed_names (type.field name T more) all (w, others, h, hs, e) =
    ap (λ (x : FieldValues). first_names (value.field_list x)) e ∙ ap (λ (l : List (List ℕ)). name ∷ l) (typed_names more others hs)

fields_back : (all : FieldValues) → field_values (value.field_list all) ≡ all
fields_back value.no_fields = refl
fields_back (value.field name v more) = ap (λ (x : FieldValues). value.field name v x) (fields_back more)

-- ---- fields of distinct names are known by their names

abbrev look_up : List (List ℕ × Value) → List ℕ → Option Value
look_up [] name = None
look_up (f ∷ fs) name = cond (bytes_eq name f.0) (Some f.1) (look_up fs name)

abbrev IsAt : List (List ℕ × Value) → List ℕ × Value → Type 0
IsAt fs f = look_up fs f.0 ≡ Some f.1

not_first : (fs : List (List ℕ × Value)) (name : List ℕ) (v : Value) (rest : List (List ℕ × Value)) → IsNoneOf (first_names rest) name → AllOf (IsAt fs) rest → AllOf (IsAt ((name, v) ∷ fs)) rest
not_first fs name v [] none all = tt
not_first fs name v (f ∷ rest) none all = (rw (unlike f.0 name (λ same. none.0 (sym same))) all.0, not_first fs name v rest none.1 all.1)

own_places : (fs : List (List ℕ × Value)) → AreDistinct (first_names fs) → AllOf (IsAt fs) fs
own_places [] distinct = tt
own_places (f ∷ fs) distinct = (rw (same_bytes f.0) refl, not_first fs f.0 f.1 fs distinct.0 (own_places fs distinct.1))

same_fields : (H xs ys : List (List ℕ × Value)) → first_names xs ≡ first_names ys → AllOf (IsAt H) xs → AllOf (IsAt H) ys → xs ≡ ys
same_fields H [] [] names hx hy = refl
same_fields H [] (y ∷ ys) names hx hy = absurd cc
same_fields H (x ∷ xs) [] names hx hy = absurd cc
same_fields H (x ∷ xs) (y ∷ ys) names hx hy =
    let name : x.0 ≡ y.0 = cc in
    let more : first_names xs ≡ first_names ys = cc in
    let found : Some x.1 ≡ Some y.1 = sym hx.0 ∙ (ap (look_up H) name ∙ hy.0) in
    let val : x.1 ≡ y.1 = cc in
    ap (λ (n : List ℕ). (n, x.1) ∷ xs) name ∙ (ap (λ (v : Value). (y.0, v) ∷ xs) val ∙ ap (λ (l : List (List ℕ × Value)). y ∷ l) (same_fields H xs ys more hx.1 hy.1))

all_by_place : {A : Type 0} (P : A → Type 0) (xs : List A) → AllOf P xs → std_list.All P xs
all_by_place P [] h k d lt = absurd (omega (arith, lt))
all_by_place P (x ∷ xs) h zero d lt = h.0
all_by_place P (x ∷ xs) h (suc k) d lt = all_by_place P xs h.1 k d (omega (arith, lt))

all_of_places : {A : Type 0} (P : A → Type 0) (xs : List A) → std_list.All P xs → AllOf P xs
all_of_places P [] h = tt
all_of_places P (x ∷ xs) h = (h zero x (omega arith), all_of_places P xs (λ k d lt. h (suc k) d (omega (arith, lt))))

-- fields of distinct names that are moved and whose names stand as before stand as before
moved_same : (xs ys : List (List ℕ × Value)) → AreDistinct (first_names xs) → first_names xs ≡ first_names ys → IsPermutation xs ys → xs ≡ ys
moved_same xs ys distinct names moved =
    let own = own_places xs distinct in
    same_fields xs xs ys names own (all_of_places (IsAt xs) ys (All-permutation (IsAt xs) xs ys moved (all_by_place (IsAt xs) xs own)))

-- ---- records

once : (a b : FieldValues) → value.record_value a ≡ value.record_value b → a ≡ b
once a b e = cc

module _ {S : Type 0} (tree : S → Value) (of : S → TypeTree → Type 0) (Full : TypeTree → Type 0) (parts : HasFullParts Full) where
  handed_names : (fs : List (List ℕ × TypeTree)) (hs : List (Bor (List ℕ) × S)) → FieldsAreOf of fs hs → map (λ h. h.0.now) hs ≡ first_names fs
  handed_names [] [] h = refl
  handed_names [] (x ∷ hs) h = absurd h
  handed_names (f ∷ fs) [] h = absurd h
  handed_names (f ∷ fs) (x ∷ hs) h = ap (λ (n : List ℕ). n ∷ map (λ h. h.0.now) hs) h.0 ∙ ap (λ (l : List (List ℕ)). f.0 ∷ l) (handed_names fs hs h.2)

  tree_names : (hs : List (Bor (List ℕ) × S)) → first_names (field_trees tree hs) ≡ map (λ h. h.0.now) hs
  tree_names [] = refl
  tree_names (x ∷ hs) = ap (λ (l : List (List ℕ)). x.0.now ∷ l) (tree_names hs)

  -- the names of what was read are those of the type
  record Handed (fs : Fields) (hs : List (Bor (List ℕ) × S)) : Type 0 where
    pub distinct : AreDistinct (map (λ h. h.0.now) hs)
    pub names : first_names (field_trees tree hs) ≡ field_names fs

  handed : (fs : Fields) (hs : List (Bor (List ℕ) × S)) → AreDistinct (field_names fs) → FieldsAreOf of (type.field_list fs) hs → Handed fs hs
  handed fs hs distinct h =
      let same : map (λ f. f.0.now) hs ≡ field_names fs = handed_names (type.field_list fs) hs h ∙ list_names fs in
      record { distinct = subst AreDistinct (sym same) distinct; names = tree_names hs ∙ same }

  pub none_record_stopped : (T : TypeTree) (Ps : List (List ℕ × TypeTree)) (bytes : List ℕ) (s : Stop) → IsRecordType T Ps → Ps ≡ [] → IsFaultOf s (zero_at bytes) → IsRead tree of Full T bytes (Err s)
  none_record_stopped T Ps bytes s is none h =
      as_type tree of Full parts T (type.record_type is.fields) bytes (Err s) is.is
      (fault_read tree of Full (type.record_type is.fields) bytes s (zero_at bytes) (λ x e. ap (λ (q : Reading FieldValues). q >>= as_record) (row_none_stop is.fields bytes x (sym is.parts_are ∙ none) e)) h)

  pub fields_stopped : (T : TypeTree) (Ps : List (List ℕ × TypeTree)) (bytes : List ℕ) (s : Stop) → IsRecordType T Ps → 1 ≤ length Ps → FieldsAreRead tree of Full Ps bytes (Err s) → IsRead tree of Full T bytes (Err s)
  fields_stopped T Ps bytes s is some h =
      let fs = is.fields in
      let each = subst (λ (l : List (List ℕ × TypeTree)). FieldsAreRead tree of Full l bytes (Err s)) is.parts_are h in
      let more = subst (λ (l : List (List ℕ × TypeTree)). 1 ≤ length l) is.parts_are some in
      as_type tree of Full parts T (type.record_type fs) bytes (Err s) is.is (λ distinct named.
      fails_of (AllOf (λ f. Full f.1) (type.field_list fs)) (Full (type.record_type fs)) s (each_field_at (type.field_list fs) bytes) (value_at (type.record_type fs) bytes) (λ full. full_all Full (type.field_list fs) (parts (type.record_type fs) full))
      (λ x e. ap (λ (q : Reading FieldValues). q >>= as_record) (row_each fs bytes more ∙ stops_at (each_field_at (type.field_list fs) bytes) as_fields x e))
      (each (fields_all AreDistinct fs distinct.1) (fields_all AreTexts fs named.1)))

  -- a record of these fields that was made
  record_made : (fs : Fields) (bytes : List ℕ) (rest : List ℕ) (hs : List (Bor (List ℕ) × S)) (made : Result S WasmValueError) (r : Result (S × Bor (List ℕ)) Stop) → (HasDistinctNames (type.record_type fs) → FieldsAreOf of (type.field_list fs) hs) → (HasDistinctNames (type.record_type fs) → field_row_at fs bytes ≡ Ok (field_values (field_trees tree hs), rest)) → IsBuilt made rest r → IfOk made (MakesRecord tree of (type.record_type fs) hs) → IfErr made (FullRecord of Full (type.record_type fs) hs) → IsRead tree of Full (type.record_type fs) bytes r
  record_made fs bytes rest hs (Ok v) (Ok y) each reads b ok err = λ distinct.
      let names = handed fs hs distinct.0 (each distinct) in
      let (all, moved, makes) = ok distinct names.distinct in
      let typed : HasType (type.record_type fs) (value.record_value all) = makes.fits in
      let has : HasFields fs all = subst (HasFields fs) (sym (once all typed.0 typed.2)) typed.1 in
      let same : field_trees tree hs ≡ value.field_list all = moved_same (field_trees tree hs) (value.field_list all) (subst AreDistinct (sym names.names) distinct.0) (names.names ∙ sym (typed_names fs all has)) moved in
      let are : all ≡ field_values (field_trees tree hs) = sym (ap field_values same ∙ fields_back all) in
      built_read tree of Full (type.record_type fs) bytes (value.record_value (field_values (field_trees tree hs))) rest (Ok v) (Ok y) b
      (λ d. subst (λ (x : FieldValues). Makes tree of (value.record_value x) (type.record_type fs) v) are makes) tt
      (λ d. ap (λ (q : Reading FieldValues). q >>= as_record) (reads d)) distinct
  record_made fs bytes rest hs (Ok v) (Err s) each reads b ok err = absurd b
  record_made fs bytes rest hs (Err e) (Ok y) each reads b ok err = absurd b
  record_made fs bytes rest hs (Err e) (Err stops.Memory) each reads b ok err = λ distinct named. tt
  record_made fs bytes rest hs (Err e) (Err (stops.Refused left)) each reads b ok err = λ distinct named full.
      b (err full fs refl (handed fs hs distinct.0 (each distinct)).distinct hs (IsPermutation-refl hs) (each distinct))
  record_made fs bytes rest hs (Err e) (Err (stops.Fault kind left)) each reads b ok err = absurd b

  pub none_record_read : (T : TypeTree) (Ps : List (List ℕ × TypeTree)) (bytes rest : List ℕ) (hs : List (Bor (List ℕ) × S)) (made : Result S WasmValueError) (r : Result (S × Bor (List ℕ)) Stop) → IsRecordType T Ps → Ps ≡ [] → zero_at bytes ≡ Ok rest → hs ≡ [] → IsBuilt made rest r → IfOk made (MakesRecord tree of T hs) → IfErr made (FullRecord of Full T hs) → IsRead tree of Full T bytes r
  none_record_read T Ps bytes rest hs made r is none reads empty b ok err =
      let fs = is.fields in
      let nothing = sym is.parts_are ∙ none in
      as_type tree of Full parts T (type.record_type fs) bytes r is.is (record_made fs bytes rest [] made r
      (λ distinct. subst (λ (l : List (List ℕ × TypeTree)). FieldsAreOf of l []) (sym nothing) tt) (λ distinct. row_none fs bytes rest nothing reads) b
      (subst (λ (l : List (Bor (List ℕ) × S)). IfOk made (MakesRecord tree of (type.record_type fs) l)) empty (subst (λ (U : TypeTree). IfOk made (MakesRecord tree of U hs)) is.is ok))
      (subst (λ (l : List (Bor (List ℕ) × S)). IfErr made (FullRecord of Full (type.record_type fs) l)) empty (subst (λ (U : TypeTree). IfErr made (FullRecord of Full U hs)) is.is err)))

  pub record_typed : (T : TypeTree) (Ps : List (List ℕ × TypeTree)) (bytes : List ℕ) (x : Vec (Bor (List ℕ) × S) × Bor (List ℕ)) → IsRecordType T Ps → FieldsAreRead tree of Full Ps bytes (Ok x) → HasDistinctNames T → TypedRecord of T x.0.items
  record_typed T Ps bytes x is h =
      let fs = is.fields in
      let each = subst (λ (l : List (List ℕ × TypeTree)). FieldsAreRead tree of Full l bytes (Ok x)) is.parts_are h in
      subst (λ (U : TypeTree). HasDistinctNames U → TypedRecord of U x.0.items) (sym is.is) (λ distinct.
      let are = (each (fields_all AreDistinct fs distinct.1)).1 in
      ((handed fs x.0.items distinct.0 are).distinct, x.0.items, IsPermutation-refl x.0.items, are))

  pub record_read : (T : TypeTree) (Ps : List (List ℕ × TypeTree)) (bytes : List ℕ) (x : Vec (Bor (List ℕ) × S) × Bor (List ℕ)) (made : Result S WasmValueError) (r : Result (S × Bor (List ℕ)) Stop) → IsRecordType T Ps → 1 ≤ length Ps → FieldsAreRead tree of Full Ps bytes (Ok x) → IsBuilt made x.1.now r → IfOk made (MakesRecord tree of T x.0.items) → IfErr made (FullRecord of Full T x.0.items) → IsRead tree of Full T bytes r
  record_read T Ps bytes x made r is some h b ok err =
      let fs = is.fields in
      let each = subst (λ (l : List (List ℕ × TypeTree)). FieldsAreRead tree of Full l bytes (Ok x)) is.parts_are h in
      let more = subst (λ (l : List (List ℕ × TypeTree)). 1 ≤ length l) is.parts_are some in
      as_type tree of Full parts T (type.record_type fs) bytes r is.is (record_made fs bytes x.1.now x.0.items made r
      (λ distinct. (each (fields_all AreDistinct fs distinct.1)).1)
      (λ distinct. row_each fs bytes more ∙ ap (λ (q : Reading (List (List ℕ × Value))). q >>= as_fields) (each (fields_all AreDistinct fs distinct.1)).0) b
      (subst (λ (U : TypeTree). IfOk made (MakesRecord tree of U x.0.items)) is.is ok) (subst (λ (U : TypeTree). IfErr made (FullRecord of Full U x.0.items)) is.is err))
