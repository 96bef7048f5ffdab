-- Maps, from the entries that were read.
use Rattle.std.proofs.Common.{◌≡◌, ◌≢◌, ℕ, ◌++◌, List, [], ◌∷◌, length, get_or, map, Option, Some, None, Result, Ok, Err, Global, refl, sym, ap, subst, ◌∙◌, arith}
use Rattle.std.specs.Prelude.{IfOk, IfErr}
use Rattle.std.specs.Global.{Vec}
use Rattle.json.specs.Json.{Json, Items, Members, null, boolean, number, string, array, object, no_items, item, no_members, member}
use Rattle.json.specs.Find.{as_array, as_object}
use Rattle.json.specs.Value.{value_view, items_view}
use Rattle.json.specs.declared.value.Value as declared
use Rattle.wave_wasm.specs.ConstructorContracts.{IsMemory, Makes, MakesMap, FullMap, HasFullParts, TypedMap, entry_trees, leaf_entries}
use Rattle.wave_wasm.specs.Lists.{AllOf}
use Rattle.wave_wasm.specs.Text.{text, leaf_text}
use Rattle.wave_wasm.specs.Types as type
use Rattle.wave_wasm.specs.Types.{Simple, TypeTree, HasDistinctNames, kind_of}
use Rattle.wave_wasm.specs.Values as value
use Rattle.wave_wasm.specs.Values.{Leaf, Value, entries}
use Rattle.wave_wasm.specs.declared.wasm.WasmTypeKind.TheVariants as type_kinds
use Rattle.wave_wasm.specs.declared.wasm.WasmValueError.{WasmValueError}
use Rattle.wave_json.specs.declared.error.JsonErrorKind.TheVariants as kinds
use Rattle.wave_json.specs.declared.error.Stop.{Stop}
use Rattle.wave_json.specs.declared.error.Stop.TheVariants as stops
use Rattle.wave_json.specs.Private.Readers.{AreEntriesRead, AreMembersRead, ArePairsRead, Fails, IsBuilt, IsRead, Reads, keyed, with_leaf}
use Rattle.wave_json.specs.Reading.{Fault, Reading, ◌>>=◌, here, or_fault, under, item_step, unless_found, first_repeated, both_at, each_at, leaf_at, pair_at, pairs_of, members_at, distinct_members, distinct_entries, entries_at, value_at}
use Rattle.wave_json.proofs.Builds.{array_read, as_type, built_read, ok_is}
use Rattle.wave_json.proofs.Stops.{fails_of, stops_at}
use Rattle.wave_json.proofs.TypeParts.{IsMapType}

abbrev failed : {A : Type 0} → Fault → Reading A
failed e = Err e

fault_is : (e f : Fault) → failed {A = Value} e ≡ Err f → e ≡ f
fault_is e f h = cc

-- a fault of what is read, whatever is read
moved : {A B : Type 0} (e f : Fault) → failed {A = A} e ≡ Err f → failed {A = B} e ≡ Err f
moved {B = B} e f h = let same : e ≡ f = cc in ap (failed {A = B}) same

pub one_list : (a b : List (Leaf × Value)) → leaf_entries a ≡ leaf_entries b → a ≡ b
one_list [] [] e = refl
one_list [] (y ∷ b) e = absurd cc
one_list (x ∷ a) [] e = absurd cc
one_list (x ∷ a) (y ∷ b) e =
    let first : with_leaf x ≡ with_leaf y = cc in
    let more : leaf_entries a ≡ leaf_entries b = cc in
    let key : x.0 ≡ y.0 = leaf_same x.0 y.0 (ap (λ (p : Value × Value). p.0) first) in
    let val : x.1 ≡ y.1 = ap (λ (p : Value × Value). p.1) first in
    ap (λ (k : Leaf). (k, x.1) ∷ a) key ∙ (ap (λ (v : Value). (y.0, v) ∷ a) val ∙ ap (λ (l : List (Leaf × Value)). y ∷ l) (one_list a b more))
  where
    leaf_same : (k l : Leaf) → value.leaf k ≡ value.leaf l → k ≡ l
    leaf_same k l e = cc

-- entries whose keys are values
pub keyed_ok : (q : Reading (List (Leaf × Value))) (pairs : List (Value × Value)) → keyed q ≡ Ok pairs → (es : List (Leaf × Value)) × (q ≡ Ok es) × (leaf_entries es ≡ pairs)
keyed_ok (Ok es) pairs e = (es, refl, ok_is (leaf_entries es) pairs e)
keyed_ok (Err x) pairs e = absurd (cc)

abbrev as_map : List (Leaf × Value) → Reading Value
as_map es = Ok (value.map (entries es))

keyed_fault : (q : Reading (List (Leaf × Value))) (e : Fault) → keyed q ≡ Err e → (q >>= as_map) ≡ Err e
keyed_fault (Ok es) e h = absurd (cc)
keyed_fault (Err x) e h = moved x e h

-- ---- objects and arrays as entries

pub object_entries : (read : Json → Reading Value) (j : Json) (ms : Members) → Some ms ≡ as_object j → distinct_members ms ≡ Ok ms → entries_at type.string read j ≡ members_at read ms
object_entries read j ms e distinct =
    ap (λ (o : Option Members). (or_fault o kinds.Mismatch >>= distinct_members) >>= members_at read) (sym e) ∙ ap (λ (q : Reading Members). q >>= members_at read) distinct

pub array_pairs : (R : Simple) (read : Json → Reading Value) (j : Json) → R ≢ type.string → entries_at R read j ≡ ((pairs_of j >>= each_at (pair_at (leaf_at R) read) 0) >>= distinct_entries)
array_pairs type.bool read j other = refl
array_pairs (type.whole kind) read j other = refl
array_pairs type.char read j other = refl
array_pairs type.string read j other = absurd (other refl)

no_empty : (j : Json) → j ≢ object no_members → pairs_of j ≡ or_fault (as_array j) kinds.Mismatch
no_empty null other = refl
no_empty (boolean b) other = refl
no_empty (number s) other = refl
no_empty (string s) other = refl
no_empty (array js) other = refl
no_empty (object no_members) other = absurd (other refl)
no_empty (object (member k j ms)) other = refl

pub pairs_entries : (R : Simple) (read : Json → Reading Value) (j : Json) (js : Items) → R ≢ type.string → j ≢ object no_members → Some js ≡ as_array j → entries_at R read j ≡ (each_at (pair_at (leaf_at R) read) 0 js >>= distinct_entries)
pairs_entries R read j js other full e =
    array_pairs R read j other
    ∙ (ap (λ (q : Reading Items). (q >>= each_at (pair_at (leaf_at R) read) 0) >>= distinct_entries) (no_empty j full)
    ∙ ap (λ (o : Option Items). (or_fault o kinds.Mismatch >>= each_at (pair_at (leaf_at R) read) 0) >>= distinct_entries) (sym e))

pub no_entries : (R : Simple) (read : Json → Reading Value) (j : Json) → R ≢ type.string → j ≡ object no_members → keyed (entries_at R read j) ≡ Ok []
no_entries R read j other is = ap keyed (array_pairs R read j other ∙ ap (λ (k : Json). (pairs_of k >>= each_at (pair_at (leaf_at R) read) 0) >>= distinct_entries) is)

-- the texts of the keys
key_texts : (es : List (Leaf × Value)) → map (λ e. leaf_text e.0) es ≡ map (λ (e : Value × Value). text e.0) (leaf_entries es)
key_texts [] = refl
key_texts (e ∷ es) = ap (λ (l : List (List ℕ)). leaf_text e.0 ∷ l) (key_texts es)

abbrev pub unless_repeated : {B : Type 0} → List (List ℕ) → B → Reading B
unless_repeated keys x = unless_found kinds.Repeated (λ p. item_step p.0) (first_repeated keys) x

abbrev not_found : {B : Type 0} → Option (ℕ × List ℕ) → B → Reading B
not_found o x = unless_found {A = ℕ × List ℕ} kinds.Repeated (λ p. item_step p.0) o x

found_ok : {B : Type 0} (o : Option (ℕ × List ℕ)) (x : B) → not_found {B = Unit {0}} o tt ≡ Ok tt → unless_found kinds.Repeated (λ p. item_step p.0) o x ≡ Ok x
found_ok None x e = refl
found_ok (Some p) x e = absurd (cc)

found_fault : {B : Type 0} (o : Option (ℕ × List ℕ)) (x : B) (f : Fault) → not_found {B = Unit {0}} o tt ≡ Err f → unless_found kinds.Repeated (λ p. item_step p.0) o x ≡ Err f
found_fault None x f e = absurd (cc)
found_fault {B = B} (Some p) x f e = moved {B = B} (record { kind = kinds.Repeated; path = item_step p.0 ++ [] }) f e

module _ {S : Type 0} (tree : S → Value) where
  tree_texts : (hs : List (S × S)) → map (λ (e : Value × Value). text e.0) (entry_trees tree hs) ≡ map (λ e. text (tree e.0)) hs
  tree_texts [] = refl
  tree_texts (h ∷ hs) = ap (λ (l : List (List ℕ)). text (tree h.0) ∷ l) (tree_texts hs)

  texts_are : (es : List (Leaf × Value)) (hs : List (S × S)) → leaf_entries es ≡ entry_trees tree hs → map (λ e. leaf_text e.0) es ≡ map (λ e. text (tree e.0)) hs
  texts_are es hs e = key_texts es ∙ (ap (map (λ (p : Value × Value). text p.0)) e ∙ tree_texts hs)

  -- no key is repeated
  pub distinct_ok : (q : Reading (List (Leaf × Value))) (hs : List (S × S)) → keyed q ≡ Ok (entry_trees tree hs) → unless_repeated {B = Unit {0}} (map (λ e. text (tree e.0)) hs) tt ≡ Ok tt → keyed (q >>= distinct_entries) ≡ Ok (entry_trees tree hs)
  distinct_ok q hs e none =
      let r = keyed_ok q (entry_trees tree hs) e in
      let same = texts_are r.0 hs r.2 in
      ap (λ (p : Reading (List (Leaf × Value))). keyed (p >>= distinct_entries)) r.1
      ∙ (ap keyed (found_ok (first_repeated (map (λ x. leaf_text x.0) r.0)) r.0 (subst (λ (keys : List (List ℕ)). unless_repeated {B = Unit {0}} keys tt ≡ Ok tt) (sym same) none)) ∙ ap (λ (l : List (Value × Value)). Ok l) r.2)

  -- a key is repeated
  pub distinct_fault : (q : Reading (List (Leaf × Value))) (hs : List (S × S)) (f : Fault) → keyed q ≡ Ok (entry_trees tree hs) → unless_repeated {B = Unit {0}} (map (λ e. text (tree e.0)) hs) tt ≡ Err f → keyed (q >>= distinct_entries) ≡ Err f
  distinct_fault q hs f e some =
      let r = keyed_ok q (entry_trees tree hs) e in
      let same = texts_are r.0 hs r.2 in
      ap (λ (p : Reading (List (Leaf × Value))). keyed (p >>= distinct_entries)) r.1
      ∙ ap keyed (found_fault (first_repeated (map (λ x. leaf_text x.0) r.0)) r.0 f (subst (λ (keys : List (List ℕ)). unless_repeated {B = Unit {0}} keys tt ≡ Err f) (sym same) some))

-- a fault of the pairs is one of the entries
pub behind_pairs : (q : Reading (List (Leaf × Value))) (f : Fault) → keyed q ≡ Err f → keyed (q >>= distinct_entries) ≡ Err f
behind_pairs (Ok es) f h = absurd (cc)
behind_pairs (Err x) f h = moved x f h

-- ---- a pair

pub two_items : (js : List (declared.Value Global)) (a b : declared.Value Global) → length js ≡ 2 → a ≡ get_or js 0 a → b ≡ get_or js 1 b → items_view js ≡ item (value_view a) (item (value_view b) no_items)
two_items [] a b e f g = absurd (omega (arith, e))
two_items (x ∷ []) a b e f g = absurd (omega (arith, e))
two_items (x ∷ y ∷ []) a b e f g = ap (λ (z : declared.Value Global). item (value_view z) (item (value_view y) no_items)) (sym f) ∙ ap (λ (z : declared.Value Global). item (value_view a) (item (value_view z) no_items)) (sym g)
two_items (x ∷ y ∷ z ∷ js) a b e f g = absurd (omega (arith, e))

abbrev pub keyed_pair : Reading (Leaf × Value) → Reading (Value × Value)
keyed_pair q = q >>= λ e. Ok (with_leaf e)

pub pair_other : (R : Simple) (V : TypeTree) (j : Json) (js : List (declared.Value Global)) → Some (items_view js) ≡ as_array j → length js ≢ 2 → keyed_pair (pair_at (leaf_at R) (value_at V) j) ≡ Err (here kinds.Length)
pair_other R V j js e other = ap keyed_pair (array_read (as_array j) (items_view js) (both_at (leaf_at R) (value_at V)) e) ∙ by js other
  where
    by : (js : List (declared.Value Global)) → length js ≢ 2 → keyed_pair (both_at (leaf_at R) (value_at V) (items_view js)) ≡ Err (here kinds.Length)
    by [] other = refl
    by (x ∷ []) other = refl
    by (x ∷ y ∷ []) other = absurd (other refl)
    by (x ∷ y ∷ z ∷ js) other = refl

module _ (R : Simple) (V : TypeTree) (j : Json) (js : List (declared.Value Global)) (a b : declared.Value Global) (e : Some (items_view js) ≡ as_array j) (two : length js ≡ 2) (first : a ≡ get_or js 0 a) (second : b ≡ get_or js 1 b) where
  abbrev key_at : Reading Leaf
  key_at = under (item_step 0) (leaf_at R (value_view a))

  abbrev then_value : Leaf → Reading (Leaf × Value)
  then_value k = under (item_step 1) (value_at V (value_view b)) >>= λ v. Ok (k, v)

  pair_is : pair_at (leaf_at R) (value_at V) j ≡ (key_at >>= then_value)
  pair_is = array_read (as_array j) (items_view js) (both_at (leaf_at R) (value_at V)) e ∙ ap (both_at (leaf_at R) (value_at V)) (two_items js a b two first second)

  key_ok : (q : Reading Leaf) (k : Value) → under (item_step 0) (q >>= λ one. Ok (value.leaf one)) ≡ Ok k → (one : Leaf) × (under (item_step 0) q ≡ Ok one) × (value.leaf one ≡ k)
  key_ok (Ok one) k h = (one, refl, ok_is (value.leaf one) k h)
  key_ok (Err x) k h = absurd (cc)

  key_fault : (q : Reading Leaf) (f : Fault) → under (item_step 0) (q >>= λ one. Ok (value.leaf one)) ≡ Err f → under (item_step 0) q ≡ Err f
  key_fault (Ok one) f h = absurd (cc)
  key_fault (Err x) f h = moved (record { kind = x.kind; path = item_step 0 ++ x.path }) f h

  pub key_stops : (f : Fault) → under (item_step 0) (value_at (type.simple R) (value_view a)) ≡ Err f → keyed_pair (pair_at (leaf_at R) (value_at V) j) ≡ Err f
  key_stops f h = ap keyed_pair (pair_is ∙ stops_at key_at then_value f (key_fault (leaf_at R (value_view a)) f h))

  pub value_stops : (k : Value) (f : Fault) → under (item_step 0) (value_at (type.simple R) (value_view a)) ≡ Ok k → under (item_step 1) (value_at V (value_view b)) ≡ Err f → keyed_pair (pair_at (leaf_at R) (value_at V) j) ≡ Err f
  value_stops k f h g =
      let r = key_ok (leaf_at R (value_view a)) k h in
      ap keyed_pair (pair_is ∙ (ap (λ (q : Reading Leaf). q >>= then_value) r.1 ∙ stops_at (under (item_step 1) (value_at V (value_view b))) (λ v. Ok (r.0, v)) f g))

  pub pair_read : (k v : Value) → under (item_step 0) (value_at (type.simple R) (value_view a)) ≡ Ok k → under (item_step 1) (value_at V (value_view b)) ≡ Ok v → keyed_pair (pair_at (leaf_at R) (value_at V) j) ≡ Ok (k, v)
  pair_read k v h g =
      let r = key_ok (leaf_at R (value_view a)) k h in
      ap keyed_pair (pair_is ∙ (ap (λ (q : Reading Leaf). q >>= then_value) r.1 ∙ ap (λ (q : Reading Value). q >>= λ w. Ok (r.0, w)) g))
      ∙ ap (λ (x : Value). Ok (x, v)) r.2

-- ---- what stops a reader of entries

pub built_fails : {S A : Type 0} (Full : Type 0) (made : Result S WasmValueError) (s : Stop) (read : Reading A) → IsBuilt made (Err s) → IfErr made (λ e. Full → IsMemory e) → Fails Full s read
built_fails Full (Ok v) s read b err = absurd b
built_fails Full (Err e) stops.Memory read b err = tt
built_fails Full (Err e) (stops.Refused trail) read b err = λ full. b (err full)
built_fails Full (Err e) (stops.Fault kind trail) read b err = absurd b

-- what a constructor made, handed on
pub built_ok : {S : Type 0} (P : S → Type 0) (made : Result S WasmValueError) (x : S) → IsBuilt made (Ok x) → IfOk made P → P x
built_ok P (Ok v) x b ok = subst P (sym b) ok
built_ok P (Err e) x b ok = absurd b

module _ {S : Type 0} (tree : S → Value) (of : S → TypeTree → Type 0) (Full : TypeTree → Type 0) where
  -- at string keys
  pub string_entries : (K V : TypeTree) (j : Json) (r : Result (Vec (S × S)) Stop) → kind_of K ≡ type_kinds.String → AreMembersRead tree of Full V j r → AreEntriesRead tree of Full K V j r
  string_entries K V j r k h = λ R is. by R is (only_string R (ap kind_of (sym is) ∙ k)) r h
    where
      only_string : (R : Simple) → type.simple_kind R ≡ type_kinds.String → R ≡ type.string
      only_string type.bool e = absurd (cc)
      only_string (type.whole type.s8) e = absurd (cc)
      only_string (type.whole type.s16) e = absurd (cc)
      only_string (type.whole type.s32) e = absurd (cc)
      only_string (type.whole type.s64) e = absurd (cc)
      only_string (type.whole type.u8) e = absurd (cc)
      only_string (type.whole type.u16) e = absurd (cc)
      only_string (type.whole type.u32) e = absurd (cc)
      only_string (type.whole type.u64) e = absurd (cc)
      only_string type.char e = absurd (cc)
      only_string type.string e = refl

      at_string : (r : Result (Vec (S × S)) Stop) → AreMembersRead tree of Full V j r
          → Reads (HasDistinctNames V) (Full (type.simple type.string) × Full V) (λ v. entry_trees tree v.items) (λ v. AllOf (λ e. of e.0 (type.simple type.string) × of e.1 V) v.items) (keyed (entries_at type.string (value_at V) j)) r
      at_string (Ok x) h = h
      at_string (Err s) h = λ distinct. fails_of (Full V × Full (type.simple type.string)) (Full (type.simple type.string) × Full V) s (keyed (entries_at type.string (value_at V) j)) (keyed (entries_at type.string (value_at V) j)) (λ full. (full.1, full.0)) (λ e f. f) (h distinct)

      by : (R : Simple) → K ≡ type.simple R → R ≡ type.string → (r : Result (Vec (S × S)) Stop) → AreMembersRead tree of Full V j r
          → Reads (HasDistinctNames V) (Full K × Full V) (λ v. entry_trees tree v.items) (λ v. AllOf (λ e. of e.0 K × of e.1 V) v.items) (keyed (entries_at R (value_at V) j)) r
      by R is one r h =
          subst (λ (X : TypeTree). Reads (HasDistinctNames V) (Full X × Full V) (λ v. entry_trees tree v.items) (λ v. AllOf (λ e. of e.0 X × of e.1 V) v.items) (keyed (entries_at R (value_at V) j)) r) (sym (is ∙ ap type.simple one))
          (subst (λ (X : Simple). Reads (HasDistinctNames V) (Full (type.simple type.string) × Full V) (λ v. entry_trees tree v.items) (λ v. AllOf (λ e. of e.0 (type.simple type.string) × of e.1 V) v.items) (keyed (entries_at X (value_at V) j)) r) (sym one) (at_string r h))

  -- at others
  pub other_entries : (K V : TypeTree) (j : Json) (r : Result (Vec (S × S)) Stop) → (kind_of K ≡ type_kinds.String → ⊥) → ArePairsRead tree of Full K V j r → AreEntriesRead tree of Full K V j r
  other_entries K V j r k h = λ R is. h R is (λ one. k (ap kind_of (is ∙ ap type.simple one)))

module _ {S : Type 0} (tree : S → Value) (of : S → TypeTree → Type 0) (Full : TypeTree → Type 0) (parts : HasFullParts Full) where
  pub map_stopped : (T K V : TypeTree) (j : Json) (s : Stop) → IsMapType T K V → AreEntriesRead tree of Full K V j (Err s) → IsRead tree of Full T j (Err s)
  map_stopped T K V j s is h =
      let L = is.key in
      as_type tree of Full T (type.map L V) j (Err s) is.is (λ distinct.
      fails_of (Full K × Full V) (Full (type.map L V)) s (keyed (entries_at L (value_at V) j)) (value_at (type.map L V) j)
      (λ full. let all = parts (type.map L V) full in (subst Full (sym is.key_is) all.0, all.1.0))
      (λ x e. keyed_fault (entries_at L (value_at V) j) x e) (h L is.key_is distinct))

  pub map_typed : (T K V : TypeTree) (j : Json) (x : Vec (S × S)) → IsMapType T K V → AreEntriesRead tree of Full K V j (Ok x) → HasDistinctNames T → TypedMap of T x.items
  map_typed T K V j x is h =
      subst (λ (U : TypeTree). HasDistinctNames U → TypedMap of U x.items) (sym is.is) (λ distinct.
      subst (λ (U : TypeTree). AllOf (λ e. of e.0 U × of e.1 V) x.items) is.key_is (h is.key is.key_is distinct).1)

  map_made : (L : Simple) (V : TypeTree) (j : Json) (x : Vec (S × S)) (made : Result S WasmValueError) (r : Result S Stop) → AreEntriesRead tree of Full (type.simple L) V j (Ok x) → IsBuilt made r → IfOk made (MakesMap tree of (type.map L V) x.items) → IfErr made (FullMap of Full (type.map L V) x.items) → IsRead tree of Full (type.map L V) j r
  map_made L V j x (Ok v) (Ok y) each b ok err = λ distinct.
      let read = keyed_ok (entries_at L (value_at V) j) (entry_trees tree x.items) (each L refl distinct).0 in
      let (all, handed, makes) = ok distinct in
      let same : all ≡ read.0 = one_list all read.0 (sym handed ∙ sym read.2) in
      built_read tree of Full (type.map L V) (value_at (type.map L V) j) (value.map (entries read.0)) (Ok v) (Ok y) b
      (λ d. subst (λ (l : List (Leaf × Value)). Makes tree of (value.map (entries l)) (type.map L V) v) same makes) tt
      (λ d. ap (λ (q : Reading (List (Leaf × Value))). q >>= as_map) read.1) distinct
  map_made L V j x (Ok v) (Err s) each b ok err = absurd b
  map_made L V j x (Err e) (Ok y) each b ok err = absurd b
  map_made L V j x (Err e) (Err stops.Memory) each b ok err = λ distinct. tt
  map_made L V j x (Err e) (Err (stops.Refused trail)) each b ok err = λ distinct full. b (err full L V refl (each L refl distinct).1)
  map_made L V j x (Err e) (Err (stops.Fault kind trail)) each b ok err = absurd b

  pub map_read : (T K V : TypeTree) (j : Json) (x : Vec (S × S)) (made : Result S WasmValueError) (r : Result S Stop) → IsMapType T K V → AreEntriesRead tree of Full K V j (Ok x) → IsBuilt made r → IfOk made (MakesMap tree of T x.items) → IfErr made (FullMap of Full T x.items) → IsRead tree of Full T j r
  map_read T K V j x made r is h b ok err =
      let each = subst (λ (U : TypeTree). AreEntriesRead tree of Full U V j (Ok x)) is.key_is h in
      as_type tree of Full T (type.map is.key V) j r is.is (map_made is.key V j x made r each b
      (subst (λ (U : TypeTree). IfOk made (MakesMap tree of U x.items)) is.is ok) (subst (λ (U : TypeTree). IfErr made (FullMap of Full U x.items)) is.is err))
