-- Records, from the fields that were read in the type's order.
use Rattle.std.proofs.Common.{◌≡◌, ℕ, zero, suc, cond, List, [], ◌∷◌, map, Option, Some, None, Result, Ok, Err, Bor, refl, sym, ap, subst, ◌∙◌, arith}
use Rattle.std.specs.Prelude.{IfOk, IfErr}
use Rattle.std.specs.Global.{Vec}
use Rattle.std.specs.List as std_list
use Rattle.std.specs.List.Sorted.{IsPermutation}
use Rattle.std.specs.Str.{bytes_eq}
use Rattle.std.proofs.lemmas.List.Sorted.{All-permutation, IsPermutation-refl}
use Rattle.json.specs.Json.{Json, Members}
use Rattle.json.specs.Find.{as_object}
use Rattle.wave_wasm.specs.Lists.{AllOf}
use Rattle.wave_wasm.specs.Names.{IsNoneOf, AreDistinct}
use Rattle.wave_wasm.specs.Types as type
use Rattle.wave_wasm.specs.Types.{TypeTree, Fields, field_names, HasDistinctNames, EachNames, EachNamesOfFields}
use Rattle.wave_wasm.specs.Values as value
use Rattle.wave_wasm.specs.Values.{Value, FieldValues, field_values}
use Rattle.wave_wasm.specs.HasType.{HasType, HasFields}
use Rattle.wave_wasm.specs.ConstructorContracts.{Makes, MakesRecord, FullRecord, HasFullParts, FieldsAreOf, TypedRecord, field_trees}
use Rattle.wave_wasm.specs.Borrowed.{denoted_fields}
use Rattle.wave_wasm.specs.declared.wasm.WasmValueError.{WasmValueError}
use Rattle.wave_wasm.proofs.Names.Subsequences.{unlike, same_bytes}
use Rattle.wave_json.specs.declared.error.JsonErrorKind.TheVariants as kinds
use Rattle.wave_json.specs.declared.error.Stop.{Stop}
use Rattle.wave_json.specs.declared.error.Stop.TheVariants as stops
use Rattle.wave_json.specs.Private.Readers.{IsBuilt, IsRead, FieldsAreRead, each_field_at}
use Rattle.wave_json.specs.Reading.{Fault, Reading, ◌>>=◌, or_fault, distinct_members, known_members, field_at, left_out, member_of, fields_at, value_at}
use Rattle.wave_json.proofs.Builds.{array_read, as_type, built_read}
use Rattle.wave_json.proofs.Stops.{fails_of, stops_at}

-- ---- what is read

abbrev pub as_fields : List (List ℕ × Value) → Reading FieldValues
as_fields fs = Ok (field_values fs)

abbrev as_record : FieldValues → Reading Value
as_record all = Ok (value.record_value all)

one_more : (name : List ℕ) (v : Value) (q : Reading (List (List ℕ × Value))) → ((q >>= as_fields) >>= λ others. Ok (value.field name v others)) ≡ ((q >>= λ others. Ok ((name, v) ∷ others)) >>= as_fields)
one_more name v (Ok x) = refl
one_more name v (Err f) = refl

fields_each : (fs : Fields) (ms : Members) → fields_at fs ms ≡ (each_field_at (type.field_list fs) ms >>= as_fields)
fields_each type.no_fields ms = refl
fields_each (type.field name T more) ms = by (field_at (value_at T) (left_out T name) name (member_of name ms)) (fields_each more ms)
  where
    by : (q : Reading Value) → fields_at more ms ≡ (each_field_at (type.field_list more) ms >>= as_fields) → (q >>= λ v. fields_at more ms >>= λ others. Ok (value.field name v others)) ≡ ((q >>= λ v. each_field_at (type.field_list more) ms >>= λ others. Ok ((name, v) ∷ others)) >>= as_fields)
    by (Ok v) rest = ap (λ (q : Reading FieldValues). q >>= λ others. Ok (value.field name v others)) rest ∙ one_more name v (each_field_at (type.field_list more) ms)
    by (Err f) rest = refl

-- the members are those of an object, distinct and known
pub record AreMembers (T : TypeTree) (fs : Fields) (j : Json) (ms : Members) : Type 0 where
  pub is : T ≡ type.record_type fs
  pub held : Some ms ≡ as_object j
  pub distinct : distinct_members ms ≡ Ok ms
  pub known : known_members (field_names fs) ms ≡ Ok ms

abbrev behind_known : Fields → Members → Reading Value
behind_known fs ms = fields_at fs ms >>= as_record

abbrev behind_distinct : Fields → Members → Reading Value
behind_distinct fs ms = known_members (field_names fs) ms >>= behind_known fs

abbrev behind_members : Fields → Members → Reading Value
behind_members fs ms = distinct_members ms >>= behind_distinct fs

grouped : {A B C : Type 0} (r : Reading A) (f : A → Reading B) (g : B → Reading C) → ((r >>= f) >>= g) ≡ (r >>= λ x. f x >>= g)
grouped (Ok x) f g = refl
grouped (Err e) f g = refl

whole_record : (fs : Fields) (j : Json) → value_at (type.record_type fs) j ≡ (or_fault (as_object j) kinds.Mismatch >>= behind_members fs)
whole_record fs j =
    grouped (or_fault (as_object j) kinds.Mismatch >>= distinct_members) (known_members (field_names fs)) (behind_known fs)
    ∙ grouped (or_fault (as_object j) kinds.Mismatch) distinct_members (behind_distinct fs)

pub record_is : (T : TypeTree) (fs : Fields) (j : Json) (ms : Members) → AreMembers T fs j ms → value_at (type.record_type fs) j ≡ (each_field_at (type.field_list fs) ms >>= λ l. as_fields l >>= as_record)
record_is T fs j ms h =
    whole_record fs j
    ∙ (array_read (as_object j) ms (behind_members fs) h.held
    ∙ (ap (λ (q : Reading Members). q >>= behind_distinct fs) h.distinct
    ∙ (ap (λ (q : Reading Members). q >>= behind_known fs) h.known
    ∙ (ap (λ (q : Reading FieldValues). q >>= as_record) (fields_each fs ms) ∙ grouped (each_field_at (type.field_list fs) ms) as_fields as_record))))

-- members of which one is repeated, and of which one is unknown
pub record_repeated : (T : TypeTree) (fs : Fields) (j : Json) (ms : Members) (x : Fault) → T ≡ type.record_type fs → Some ms ≡ as_object j → distinct_members ms ≡ Err x → value_at T j ≡ Err x
record_repeated T fs j ms x is held e =
    ap (λ (U : TypeTree). value_at U j) is ∙ (whole_record fs j ∙ (array_read (as_object j) ms (behind_members fs) held ∙ stops_at (distinct_members ms) (behind_distinct fs) x e))

pub record_unknown : (T : TypeTree) (fs : Fields) (j : Json) (ms : Members) (x : Fault) → T ≡ type.record_type fs → Some ms ≡ as_object j → distinct_members ms ≡ Ok ms → known_members (field_names fs) ms ≡ Err x → value_at T j ≡ Err x
record_unknown T fs j ms x is held distinct e =
    ap (λ (U : TypeTree). value_at U j) is ∙ (whole_record fs j ∙ (array_read (as_object j) ms (behind_members fs) held ∙ (ap (λ (q : Reading Members). q >>= behind_distinct fs) distinct ∙ stops_at (known_members (field_names fs) ms) (behind_known fs) x e)))

-- ---- names

abbrev first_names : {A : Type 0} → List (List ℕ × A) → List (List ℕ)
first_names fs = map (λ f. f.0) fs

-- the names of fields, as their texts
pub field_texts : {X : Type 0} (tree : X → TypeTree) (fs : List (Bor (List ℕ) × Bor X)) → map (λ f. f.0.now) fs ≡ map (λ f. f.0) (denoted_fields tree fs)
field_texts tree [] = refl
field_texts tree (f ∷ fs) = ap (λ (l : List (List ℕ)). f.0.now ∷ l) (field_texts tree fs)

pub list_names : (fs : Fields) → first_names (type.field_list fs) ≡ field_names fs
list_names type.no_fields = refl
list_names (type.field name T more) = ap (λ (l : List (List ℕ)). name ∷ l) (list_names more)

pub fields_all : (P : List (List ℕ) → Type 0) (fs : Fields) → EachNamesOfFields P fs → AllOf (λ f. EachNames P f.1) (type.field_list fs)
fields_all P type.no_fields h = tt
fields_all P (type.field name T more) h = (h.0, fields_all P more h.1)

pub full_all : (Full : TypeTree → Type 0) (fs : List (List ℕ × TypeTree)) → AllOf Full (map (λ f. f.1) fs) → AllOf (λ f. Full f.1) fs
full_all Full [] h = tt
full_all Full (f ∷ fs) h = (h.0, full_all Full fs h.1)

typed_names : (fs : Fields) (all : FieldValues) → HasFields fs all → first_names (value.field_list all) ≡ field_names fs
typed_names type.no_fields all h = ap (λ (x : FieldValues). first_names (value.field_list x)) h
typed_names (type.field name T more) all (w, others, h, hs, e) =
    ap (λ (x : FieldValues). first_names (value.field_list x)) e ∙ ap (λ (l : List (List ℕ)). name ∷ l) (typed_names more others hs)

fields_back : (all : FieldValues) → field_values (value.field_list all) ≡ all
fields_back value.no_fields = refl
fields_back (value.field name v more) = ap (λ (x : FieldValues). value.field name v x) (fields_back more)

-- ---- fields of distinct names are known by their names

abbrev look_up : List (List ℕ × Value) → List ℕ → Option Value
look_up [] name = None
look_up (f ∷ fs) name = cond (bytes_eq name f.0) (Some f.1) (look_up fs name)

abbrev IsAt : List (List ℕ × Value) → List ℕ × Value → Type 0
IsAt fs f = look_up fs f.0 ≡ Some f.1

not_first : (fs : List (List ℕ × Value)) (name : List ℕ) (v : Value) (rest : List (List ℕ × Value)) → IsNoneOf (first_names rest) name → AllOf (IsAt fs) rest → AllOf (IsAt ((name, v) ∷ fs)) rest
not_first fs name v [] none all = tt
not_first fs name v (f ∷ rest) none all = (rw (unlike f.0 name (λ same. none.0 (sym same))) all.0, not_first fs name v rest none.1 all.1)

own_places : (fs : List (List ℕ × Value)) → AreDistinct (first_names fs) → AllOf (IsAt fs) fs
own_places [] distinct = tt
own_places (f ∷ fs) distinct = (rw (same_bytes f.0) refl, not_first fs f.0 f.1 fs distinct.0 (own_places fs distinct.1))

same_fields : (H xs ys : List (List ℕ × Value)) → first_names xs ≡ first_names ys → AllOf (IsAt H) xs → AllOf (IsAt H) ys → xs ≡ ys
same_fields H [] [] names hx hy = refl
same_fields H [] (y ∷ ys) names hx hy = absurd cc
same_fields H (x ∷ xs) [] names hx hy = absurd cc
same_fields H (x ∷ xs) (y ∷ ys) names hx hy =
    let name : x.0 ≡ y.0 = cc in
    let more : first_names xs ≡ first_names ys = cc in
    let found : Some x.1 ≡ Some y.1 = sym hx.0 ∙ (ap (look_up H) name ∙ hy.0) in
    let val : x.1 ≡ y.1 = cc in
    ap (λ (n : List ℕ). (n, x.1) ∷ xs) name ∙ (ap (λ (v : Value). (y.0, v) ∷ xs) val ∙ ap (λ (l : List (List ℕ × Value)). y ∷ l) (same_fields H xs ys more hx.1 hy.1))

all_by_place : {A : Type 0} (P : A → Type 0) (xs : List A) → AllOf P xs → std_list.All P xs
all_by_place P [] h k d lt = absurd (omega (arith, lt))
all_by_place P (x ∷ xs) h zero d lt = h.0
all_by_place P (x ∷ xs) h (suc k) d lt = all_by_place P xs h.1 k d (omega (arith, lt))

all_of_places : {A : Type 0} (P : A → Type 0) (xs : List A) → std_list.All P xs → AllOf P xs
all_of_places P [] h = tt
all_of_places P (x ∷ xs) h = (h zero x (omega arith), all_of_places P xs (λ k d lt. h (suc k) d (omega (arith, lt))))

-- fields of distinct names that are moved and whose names stand as before stand as before
moved_same : (xs ys : List (List ℕ × Value)) → AreDistinct (first_names xs) → first_names xs ≡ first_names ys → IsPermutation xs ys → xs ≡ ys
moved_same xs ys distinct names moved =
    let own = own_places xs distinct in
    same_fields xs xs ys names own (all_of_places (IsAt xs) ys (All-permutation (IsAt xs) xs ys moved (all_by_place (IsAt xs) xs own)))

-- ---- records

once : (a b : FieldValues) → value.record_value a ≡ value.record_value b → a ≡ b
once a b e = cc

module _ {S : Type 0} (tree : S → Value) (of : S → TypeTree → Type 0) (Full : TypeTree → Type 0) (parts : HasFullParts Full) where
  handed_names : (fs : List (List ℕ × TypeTree)) (hs : List (Bor (List ℕ) × S)) → FieldsAreOf of fs hs → map (λ h. h.0.now) hs ≡ first_names fs
  handed_names [] [] h = refl
  handed_names [] (x ∷ hs) h = absurd h
  handed_names (f ∷ fs) [] h = absurd h
  handed_names (f ∷ fs) (x ∷ hs) h = ap (λ (n : List ℕ). n ∷ map (λ h. h.0.now) hs) h.0 ∙ ap (λ (l : List (List ℕ)). f.0 ∷ l) (handed_names fs hs h.2)

  tree_names : (hs : List (Bor (List ℕ) × S)) → first_names (field_trees tree hs) ≡ map (λ h. h.0.now) hs
  tree_names [] = refl
  tree_names (x ∷ hs) = ap (λ (l : List (List ℕ)). x.0.now ∷ l) (tree_names hs)

  -- the names of what was read are those of the type
  record Handed (fs : Fields) (hs : List (Bor (List ℕ) × S)) : Type 0 where
    pub distinct : AreDistinct (map (λ h. h.0.now) hs)
    pub names : first_names (field_trees tree hs) ≡ field_names fs

  handed : (fs : Fields) (hs : List (Bor (List ℕ) × S)) → AreDistinct (field_names fs) → FieldsAreOf of (type.field_list fs) hs → Handed fs hs
  handed fs hs distinct h =
      let same : map (λ f. f.0.now) hs ≡ field_names fs = handed_names (type.field_list fs) hs h ∙ list_names fs in
      record { distinct = subst AreDistinct (sym same) distinct; names = tree_names hs ∙ same }

  pub fields_stopped : (T : TypeTree) (fs : Fields) (j : Json) (ms : Members) (s : Stop) → AreMembers T fs j ms → FieldsAreRead tree of Full (type.field_list fs) ms (Err s) → IsRead tree of Full T j (Err s)
  fields_stopped T fs j ms s is h =
      as_type tree of Full T (type.record_type fs) j (Err s) is.is (λ distinct.
      fails_of (AllOf (λ f. Full f.1) (type.field_list fs)) (Full (type.record_type fs)) s (each_field_at (type.field_list fs) ms) (value_at (type.record_type fs) j) (λ full. full_all Full (type.field_list fs) (parts (type.record_type fs) full))
      (λ x e. record_is T fs j ms is ∙ stops_at (each_field_at (type.field_list fs) ms) (λ l. as_fields l >>= as_record) x e)
      (h (fields_all AreDistinct fs distinct.1)))

  -- a record of these fields that was made
  record_made : (fs : Fields) (j : Json) (hs : List (Bor (List ℕ) × S)) (made : Result S WasmValueError) (r : Result S Stop) → (HasDistinctNames (type.record_type fs) → FieldsAreOf of (type.field_list fs) hs) → (HasDistinctNames (type.record_type fs) → value_at (type.record_type fs) j ≡ Ok (value.record_value (field_values (field_trees tree hs)))) → IsBuilt made r → IfOk made (MakesRecord tree of (type.record_type fs) hs) → IfErr made (FullRecord of Full (type.record_type fs) hs) → IsRead tree of Full (type.record_type fs) j r
  record_made fs j hs (Ok v) (Ok y) each reads b ok err = λ distinct.
      let names = handed fs hs distinct.0 (each distinct) in
      let (all, moved, makes) = ok distinct names.distinct in
      let typed : HasType (type.record_type fs) (value.record_value all) = makes.fits in
      let has : HasFields fs all = subst (HasFields fs) (sym (once all typed.0 typed.2)) typed.1 in
      let same : field_trees tree hs ≡ value.field_list all = moved_same (field_trees tree hs) (value.field_list all) (subst AreDistinct (sym names.names) distinct.0) (names.names ∙ sym (typed_names fs all has)) moved in
      let are : all ≡ field_values (field_trees tree hs) = sym (ap field_values same ∙ fields_back all) in
      built_read tree of Full (type.record_type fs) (value_at (type.record_type fs) j) (value.record_value (field_values (field_trees tree hs))) (Ok v) (Ok y) b
      (λ d. subst (λ (x : FieldValues). Makes tree of (value.record_value x) (type.record_type fs) v) are makes) tt
      reads distinct
  record_made fs j hs (Ok v) (Err s) each reads b ok err = absurd b
  record_made fs j hs (Err e) (Ok y) each reads b ok err = absurd b
  record_made fs j hs (Err e) (Err stops.Memory) each reads b ok err = λ distinct. tt
  record_made fs j hs (Err e) (Err (stops.Refused trail)) each reads b ok err = λ distinct full.
      b (err full fs refl (handed fs hs distinct.0 (each distinct)).distinct hs (IsPermutation-refl hs) (each distinct))
  record_made fs j hs (Err e) (Err (stops.Fault kind trail)) each reads b ok err = absurd b

  pub record_typed : (T : TypeTree) (fs : Fields) (ms : Members) (x : Vec (Bor (List ℕ) × S)) → T ≡ type.record_type fs → FieldsAreRead tree of Full (type.field_list fs) ms (Ok x) → HasDistinctNames T → TypedRecord of T x.items
  record_typed T fs ms x is h =
      subst (λ (U : TypeTree). HasDistinctNames U → TypedRecord of U x.items) (sym is) (λ distinct.
      let are = (h (fields_all AreDistinct fs distinct.1)).1 in
      ((handed fs x.items distinct.0 are).distinct, x.items, IsPermutation-refl x.items, are))

  pub record_read : (T : TypeTree) (fs : Fields) (j : Json) (ms : Members) (x : Vec (Bor (List ℕ) × S)) (made : Result S WasmValueError) (r : Result S Stop) → AreMembers T fs j ms → FieldsAreRead tree of Full (type.field_list fs) ms (Ok x) → IsBuilt made r → IfOk made (MakesRecord tree of T x.items) → IfErr made (FullRecord of Full T x.items) → IsRead tree of Full T j r
  record_read T fs j ms x made r is h b ok err =
      as_type tree of Full T (type.record_type fs) j r is.is (record_made fs j x.items made r
      (λ distinct. (h (fields_all AreDistinct fs distinct.1)).1)
      (λ distinct. record_is T fs j ms is ∙ ap (λ (q : Reading (List (List ℕ × Value))). q >>= λ l. as_fields l >>= as_record) (h (fields_all AreDistinct fs distinct.1)).0) b
      (subst (λ (U : TypeTree). IfOk made (MakesRecord tree of U x.items)) is.is ok) (subst (λ (U : TypeTree). IfErr made (FullRecord of Full U x.items)) is.is err))
