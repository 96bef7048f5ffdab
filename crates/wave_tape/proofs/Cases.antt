-- Values of one part or of names, from what was read.
use Rattle.std.proofs.Common.{◌≡◌, inl, inr, ℕ, zero, suc, Bool, true, false, cond, List, [], ◌∷◌, length, Option, Some, None, Result, Ok, Err, Bor, refl, sym, ap, subst, ◌∙◌}
use Rattle.std.specs.Prelude.{IfOk, IfErr}
use Rattle.std.specs.Option.{option_map}
use Rattle.std.specs.Global.{Vec}
use Rattle.std.specs.Int.{w64}
use Rattle.std.specs.List.{filter, find}
use Rattle.std.specs.Str.{IsUtf8, bytes_eq}
use Rattle.std.proofs.lemmas.Result.{IfOk-weaker, IfErr-weaker}
use Rattle.std.proofs.lemmas.Slice.Eq.{bytes_eq-Decides}
use Rattle.wave_wasm.specs.Lists.{AllOf, SomeOf}
use Rattle.wave_wasm.specs.Names.{AreAllOf, AreDistinct, ArePicked, is_one_of}
use Rattle.wave_wasm.specs.Types as type
use Rattle.wave_wasm.specs.Types.{TypeTree, MaybeType, Cases, Simple, no_type, a_type, no_cases, case_of, case_list, case_names, maybe_type, type_option, HasDistinctNames, EachNamesOfMaybe, EachNamesOfCases}
use Rattle.wave_wasm.specs.Values as value
use Rattle.wave_wasm.specs.Values.{Value, MaybeValue, Leaf, no_value, a_value, entries, maybe_value}
use Rattle.wave_wasm.specs.Borrowed.{texts}
use Rattle.wave_wasm.specs.ConstructorContracts.{IsMemory, Makes, MakesVariant, MakesEnum, MakesOption, MakesResult, MakesFlags, MakesMap, FullVariant, FullEnum, FullOption, FullResult, FullFlags, FullMap, HasFullParts, payload_and, payload_types, PayloadIsOf, TypedVariant, TypedOption, TypedResult, TypedMap, entry_trees, leaf_entries}
use Rattle.wave_wasm.specs.declared.wasm.WasmValueError.{WasmValueError}
use Rattle.wave_wasm.proofs.Names.NameTests.{passes, is_one}
use Rattle.wave_wasm.proofs.Names.Subsequences.{unlike, picked_distinct, picked_of}
use Rattle.wave_tape.specs.Names.{AreTexts, HasTextNames}
use Rattle.wave_tape.specs.declared.error.TapeErrorKind.TheVariants as kinds
use Rattle.wave_tape.specs.declared.error.Stop.{Stop}
use Rattle.wave_tape.specs.declared.error.Stop.TheVariants as stops
use Rattle.wave_tape.specs.Reading.{Fault, Reading, fault, ◌>>=◌, number_at, choice_at, name_at, leaf_at, times, names_behind, or_fault, flags_at, pair_at, value_at, payload_at, case_at}
use Rattle.wave_tape.specs.Private.Readers.{IsFaultOf, Fails, IsBuilt, IsRead, EntriesAreRead, IsPayloadRead, IsFullOption, AreNamesRead}
use Rattle.wave_tape.proofs.Fields.{bind_ok, ok_is}
use Rattle.wave_tape.proofs.TypeParts.{IsMapType}
use Rattle.wave_tape.proofs.Readings.{stops_at, fails_of, read_as, built_read}
use Rattle.wave_tape.proofs.Builds.{as_type, first_stopped, bind_err}

-- ---- what is read behind the first part

abbrev pub as_some : Value × List ℕ → Reading Value
as_some x = Ok (value.option (a_value x.0), x.1)

abbrev pub option_behind : TypeTree → Bool × List ℕ → Reading Value
option_behind P some = cond some.0 (value_at P some.1 >>= as_some) (Ok (value.option no_value, some.1))

abbrev pub as_payload : Value × List ℕ → Reading MaybeValue
as_payload x = Ok (a_value x.0, x.1)

abbrev pub as_ok : MaybeValue × List ℕ → Reading Value
as_ok x = Ok (value.ok x.0, x.1)

abbrev pub as_err : MaybeValue × List ℕ → Reading Value
as_err x = Ok (value.err x.0, x.1)

abbrev pub result_behind : MaybeType → MaybeType → Bool × List ℕ → Reading Value
result_behind A B err = cond err.0 (payload_at B err.1 >>= as_err) (payload_at A err.1 >>= as_ok)

abbrev pub as_case : List ℕ → MaybeValue × List ℕ → Reading Value
as_case name x = Ok (value.variant name x.0, x.1)

abbrev pub case_behind : Cases → List ℕ → List ℕ × List ℕ → Reading Value
case_behind cs bytes name = case_at cs bytes name.0 name.1

abbrev pub enum_behind : List (List ℕ) → List ℕ → List ℕ × List ℕ → Reading Value
enum_behind names bytes name = cond (is_one_of names name.0) (Ok (value.enum name.0, name.1)) (Err (fault kinds.Name bytes))

abbrev pub as_flags : List (List ℕ) × List ℕ → Reading Value
as_flags x = Ok (value.flags x.0, x.1)

abbrev pub flags_behind : List (List ℕ) → ℕ × List ℕ → Reading Value
flags_behind names n = flags_at names n.0 n.1 >>= as_flags

abbrev pub as_map : List (Leaf × Value) × List ℕ → Reading Value
as_map x = Ok (value.map (entries x.0), x.1)

abbrev pub map_behind : Simple → TypeTree → ℕ × List ℕ → Reading Value
map_behind K V n = times (pair_at (leaf_at K) (value_at V)) n.0 n.1 >>= as_map

-- ---- cases

-- a name that is no text is none of names that are
not_text : (name other : List ℕ) → (IsUtf8 name → ⊥) → IsUtf8 other → bytes_eq name other ≡ false
not_text name other apart text = unlike name other (λ same. apart (subst IsUtf8 (sym same) text))

pub no_text_case : (cs : Cases) (bytes name rest : List ℕ) → AreTexts (case_names cs) → (IsUtf8 name → ⊥) → case_at cs bytes name rest ≡ Err (fault kinds.Name bytes)
no_text_case no_cases bytes name rest texts apart = refl
no_text_case (case_of other P more) bytes name rest texts apart = rw (not_text name other apart texts.0) (no_text_case more bytes name rest texts.1 apart)

pub no_text_name : (names : List (List ℕ)) (name : List ℕ) → AreTexts names → (IsUtf8 name → ⊥) → is_one_of names name ≡ false
no_text_name [] name texts apart = refl
no_text_name (other ∷ names) name texts apart = rw (not_text name other apart texts.0) (no_text_name names name texts.1 apart)

-- the case has the name
abbrev pub has_name : List ℕ → List ℕ × Option TypeTree → Bool
has_name name c = bytes_eq name c.0

-- the case that was found among them
pub record FoundCase (Full : TypeTree → Type 0) (cs : Cases) (name : List ℕ) (P : Option TypeTree) : Type 0 where
  pub reads : (bytes rest : List ℕ) → case_at cs bytes name rest ≡ (payload_at (maybe_type P) rest >>= as_case name)
  pub one : SomeOf (λ c. c ≡ (name, P)) (case_list cs)
  pub distinct : EachNamesOfCases AreDistinct cs → EachNamesOfMaybe AreDistinct (maybe_type P)
  pub texts : EachNamesOfCases AreTexts cs → EachNamesOfMaybe AreTexts (maybe_type P)
  pub full : AllOf Full (payload_types cs) → IsFullOption Full P

payload_names : (P : MaybeType) (Pass : List (List ℕ) → Type 0) → EachNamesOfMaybe Pass P → EachNamesOfMaybe Pass (maybe_type (type_option P))
payload_names no_type Pass h = h
payload_names (a_type T) Pass h = h

payload_reads : (P : MaybeType) (name rest : List ℕ) → (payload_at P rest >>= as_case name) ≡ (payload_at (maybe_type (type_option P)) rest >>= as_case name)
payload_reads no_type name rest = refl
payload_reads (a_type T) name rest = refl

first_full : (P : MaybeType) (more : List TypeTree) (Full : TypeTree → Type 0) → AllOf Full (payload_and P more) → IsFullOption Full (type_option P)
first_full no_type more Full h = tt
first_full (a_type T) more Full h = h.0

later_full : (P : MaybeType) (more : List TypeTree) (Full : TypeTree → Type 0) → AllOf Full (payload_and P more) → AllOf Full more
later_full no_type more Full h = h
later_full (a_type T) more Full h = h.1

found_here : (Full : TypeTree → Type 0) (other name : List ℕ) (P : MaybeType) (more : Cases) → bytes_eq name other ≡ true → FoundCase Full (case_of other P more) name (type_option P)
found_here Full other name P more same = record {
  reads = λ bytes rest. ap (λ (b : Bool). cond b (payload_at P rest >>= as_case name) (case_at more bytes name rest)) same ∙ payload_reads P name rest;
  one = inl (ap (λ (n : List ℕ). (n, type_option P)) (sym ((bytes_eq-Decides name other).0 same)));
  distinct = λ h. payload_names P AreDistinct h.0;
  texts = λ h. payload_names P AreTexts h.0;
  full = λ h. first_full P (payload_types more) Full h;
}

found_later : (Full : TypeTree → Type 0) (other name : List ℕ) (P : MaybeType) (more : Cases) (Q : Option TypeTree) → bytes_eq name other ≡ false → FoundCase Full more name Q → FoundCase Full (case_of other P more) name Q
found_later Full other name P more Q apart found = record {
  reads = λ bytes rest. ap (λ (b : Bool). cond b (payload_at P rest >>= as_case name) (case_at more bytes name rest)) apart ∙ found.reads bytes rest;
  one = inr found.one;
  distinct = λ h. found.distinct h.1;
  texts = λ h. found.texts h.1;
  full = λ h. found.full (later_full P (payload_types more) Full h);
}

some_case : (c d : List ℕ × Option TypeTree) → Some c ≡ Some d → c ≡ d
some_case c d e = cc

pub found_case : (Full : TypeTree → Type 0) (cs : Cases) (name : List ℕ) (c : List ℕ × Option TypeTree) → Some c ≡ find (has_name name) (case_list cs) → FoundCase Full cs name c.1
found_case Full no_cases name c e = absurd cc
found_case Full (case_of other P more) name c e = by (bytes_eq name other) refl (found_case Full more name c) e
  where
    by : (b : Bool) → bytes_eq name other ≡ b → (Some c ≡ find (has_name name) (case_list more) → FoundCase Full more name c.1) → Some c ≡ cond b (Some (other, type_option P)) (find (has_name name) (case_list more)) → FoundCase Full (case_of other P more) name c.1
    by true same rest e = subst (λ (d : List ℕ × Option TypeTree). FoundCase Full (case_of other P more) name d.1) (sym (some_case c (other, type_option P) e)) (found_here Full other name P more same)
    by false apart rest e = found_later Full other name P more c.1 apart (rest e)

pub no_case : (cs : Cases) (bytes name rest : List ℕ) → None ≡ find (has_name name) (case_list cs) → case_at cs bytes name rest ≡ Err (fault kinds.Name bytes)
no_case no_cases bytes name rest e = refl
no_case (case_of other P more) bytes name rest e = by (bytes_eq name other) (no_case more bytes name rest) e
  where
    by : (b : Bool) → (None ≡ find (has_name name) (case_list more) → case_at more bytes name rest ≡ Err (fault kinds.Name bytes)) → None ≡ cond b (Some (other, type_option P)) (find (has_name name) (case_list more)) → cond b (payload_at P rest >>= as_case name) (case_at more bytes name rest) ≡ Err (fault kinds.Name bytes)
    by true rest e = absurd cc
    by false rest e = rest e

-- ---- names of flags

pub picked_at : (names : List (List ℕ)) (name : List ℕ) (later picked : List (List ℕ)) → names_behind names name ≡ Some later → ArePicked later picked → ArePicked names (name ∷ picked)
picked_at [] name later picked e h = absurd cc
picked_at (other ∷ names) name later picked e h = by (bytes_eq name other) refl (λ f. picked_at names name later picked f h) e
  where
    by : (b : Bool) → bytes_eq name other ≡ b → (names_behind names name ≡ Some later → ArePicked names (name ∷ picked)) → cond b (Some names) (names_behind names name) ≡ Some later → ArePicked (other ∷ names) (name ∷ picked)
    by true same rest e =
        let here : names ≡ later = cc in
        inr (picked, ap (λ (n : List ℕ). n ∷ picked) ((bytes_eq-Decides name other).0 same), subst (λ (l : List (List ℕ)). ArePicked l picked) (sym here) h)
    by false apart rest e = inl (rest e)

none_picked : (names : List (List ℕ)) → ArePicked names []
none_picked [] = refl
none_picked (name ∷ names) = inl (none_picked names)

found_some : {A : Type 0} (o : Option A) (f : Fault) (x : A) → or_fault o f ≡ Ok x → o ≡ Some x
found_some None f x e = absurd cc
found_some (Some y) f x e = ap Some (ok_is y x e)

pub flags_picked : (names : List (List ℕ)) (n : ℕ) (bytes : List ℕ) (picked : List (List ℕ)) (rest : List ℕ) → flags_at names n bytes ≡ Ok (picked, rest) → ArePicked names picked
flags_picked names zero bytes picked rest e = subst (λ (x : List (List ℕ) × List ℕ). ArePicked names x.0) (ok_is ([], bytes) (picked, rest) e) (none_picked names)
flags_picked names (suc n) bytes picked rest e =
    let a = bind_ok (name_at bytes) (λ name. or_fault (names_behind names name.0) (fault kinds.Name bytes) >>= λ later. flags_at later n name.1 >>= λ others. Ok (name.0 ∷ others.0, others.1)) (picked, rest) e in
    let b = bind_ok (or_fault (names_behind names a.0.0) (fault kinds.Name bytes)) (λ later. flags_at later n a.0.1 >>= λ others. Ok (a.0.0 ∷ others.0, others.1)) (picked, rest) a.2 in
    let c = bind_ok (flags_at b.0 n a.0.1) (λ others. Ok (a.0.0 ∷ others.0, others.1)) (picked, rest) b.2 in
    subst (λ (x : List (List ℕ) × List ℕ). ArePicked names x.0) (ok_is (a.0.0 ∷ c.0.0, c.0.1) (picked, rest) c.2)
    (picked_at names a.0.0 b.0 c.0.0 (found_some (names_behind names a.0.0) (fault kinds.Name bytes) b.0 b.1) (flags_picked b.0 n a.0.1 c.0.0 c.0.1 c.1))

all_kept : (names picked : List (List ℕ)) → AreAllOf names picked → filter (is_one_of names) picked ≡ picked
all_kept names [] h = refl
all_kept names (one ∷ picked) h = rw (passes names one h.0) (ap (λ (l : List (List ℕ)). one ∷ l) (all_kept names picked h.1))

-- ---- entries

-- a key and its value, the key as a value
abbrev as_pair : Leaf × Value → Value × Value
as_pair e = (value.leaf e.0, e.1)

pair_keyed : (K : Simple) (V : TypeTree) (bytes : List ℕ) → pair_at (value_at (type.simple K)) (value_at V) bytes ≡ (pair_at (leaf_at K) (value_at V) bytes >>= λ x. Ok (as_pair x.0, x.1))
pair_keyed K V bytes = by (leaf_at K bytes)
  where
    second : (k : Leaf) (q : Reading Value) → (q >>= λ b. read_as (value.leaf k, b.0) b.1) ≡ ((q >>= λ b. read_as (k, b.0) b.1) >>= λ x. read_as (as_pair x.0) x.1)
    second k (Ok b) = refl
    second k (Err e) = refl

    by : (q : Reading Leaf) → ((q >>= λ x. read_as (value.leaf x.0) x.1) >>= λ a. value_at V a.1 >>= λ b. read_as (a.0, b.0) b.1) ≡ ((q >>= λ a. value_at V a.1 >>= λ b. read_as (a.0, b.0) b.1) >>= λ x. read_as (as_pair x.0) x.1)
    by (Ok k) = second k.0 (value_at V k.1)
    by (Err e) = refl

times_keyed : (K : Simple) (V : TypeTree) (n : ℕ) (bytes : List ℕ) → times (pair_at (value_at (type.simple K)) (value_at V)) n bytes ≡ (times (pair_at (leaf_at K) (value_at V)) n bytes >>= λ x. Ok (leaf_entries x.0, x.1))
times_keyed K V zero bytes = refl
times_keyed K V (suc n) bytes =
    ap (λ (q : Reading (Value × Value)). q >>= λ first. times (pair_at (value_at (type.simple K)) (value_at V)) n first.1 >>= λ others. read_as (first.0 ∷ others.0) others.1) (pair_keyed K V bytes)
    ∙ by (pair_at (leaf_at K) (value_at V) bytes) (λ rest. times_keyed K V n rest)
  where
    others_of : (e : Leaf × Value) (q : Reading (List (Leaf × Value))) → ((q >>= λ x. read_as (leaf_entries x.0) x.1) >>= λ others. read_as (as_pair e ∷ others.0) others.1) ≡ ((q >>= λ others. read_as (e ∷ others.0) others.1) >>= λ x. read_as (leaf_entries x.0) x.1)
    others_of e (Ok x) = refl
    others_of e (Err f) = refl

    by : (q : Reading (Leaf × Value)) → ((rest : List ℕ) → times (pair_at (value_at (type.simple K)) (value_at V)) n rest ≡ (times (pair_at (leaf_at K) (value_at V)) n rest >>= λ x. Ok (leaf_entries x.0, x.1)))
        → ((q >>= λ x. read_as (as_pair x.0) x.1) >>= λ first. times (pair_at (value_at (type.simple K)) (value_at V)) n first.1 >>= λ others. read_as (first.0 ∷ others.0) others.1)
        ≡ ((q >>= λ first. times (pair_at (leaf_at K) (value_at V)) n first.1 >>= λ others. read_as (first.0 ∷ others.0) others.1) >>= λ x. read_as (leaf_entries x.0) x.1)
    by (Ok e) rest =
        ap (λ (q : Reading (List (Value × Value))). q >>= λ others. read_as (as_pair e.0 ∷ others.0) others.1) (rest e.1)
        ∙ others_of e.0 (times (pair_at (leaf_at K) (value_at V)) n e.1)
    by (Err f) rest = refl

pub one_list : (a b : List (Leaf × Value)) → leaf_entries a ≡ leaf_entries b → a ≡ b
one_list [] [] e = refl
one_list [] (y ∷ b) e = absurd cc
one_list (x ∷ a) [] e = absurd cc
one_list (x ∷ a) (y ∷ b) e =
    let first : as_pair x ≡ as_pair y = cc in
    let more : leaf_entries a ≡ leaf_entries b = cc in
    let key : x.0 ≡ y.0 = leaf_same x.0 y.0 (ap (λ (p : Value × Value). p.0) first) in
    let val : x.1 ≡ y.1 = ap (λ (p : Value × Value). p.1) first in
    ap (λ (k : Leaf). (k, x.1) ∷ a) key ∙ (ap (λ (v : Value). (y.0, v) ∷ a) val ∙ ap (λ (l : List (Leaf × Value)). y ∷ l) (one_list a b more))
  where
    leaf_same : (k l : Leaf) → value.leaf k ≡ value.leaf l → k ≡ l
    leaf_same k l e = cc

-- the entries that were read
pub record EntriesRead (K : Simple) (V : TypeTree) (n : ℕ) (bytes : List ℕ) (pairs : List (Value × Value)) (rest : List ℕ) : Type 0 where
  pub es : List (Leaf × Value)
  pub are : leaf_entries es ≡ pairs
  pub read : times (pair_at (leaf_at K) (value_at V)) n bytes ≡ Ok (es, rest)

pub entries_read : (K : Simple) (V : TypeTree) (n : ℕ) (bytes : List ℕ) (pairs : List (Value × Value)) (rest : List ℕ) → times (pair_at (value_at (type.simple K)) (value_at V)) n bytes ≡ Ok (pairs, rest) → EntriesRead K V n bytes pairs rest
entries_read K V n bytes pairs rest e =
    let a = bind_ok (times (pair_at (leaf_at K) (value_at V)) n bytes) (λ x. Ok (leaf_entries x.0, x.1)) (pairs, rest) (sym (times_keyed K V n bytes) ∙ e) in
    let same = ok_is (leaf_entries a.0.0, a.0.1) (pairs, rest) a.2 in
    record {
      es = a.0.0;
      are = ap (λ (x : List (Value × Value) × List ℕ). x.0) same;
      read = a.1 ∙ ap (λ (s : List ℕ). read_as a.0.0 s) (ap (λ (x : List (Value × Value) × List ℕ). x.1) same);
    }

pub entries_err : (K : Simple) (V : TypeTree) (n : ℕ) (bytes : List ℕ) (x : Fault) → times (pair_at (value_at (type.simple K)) (value_at V)) n bytes ≡ Err x → times (pair_at (leaf_at K) (value_at V)) n bytes ≡ Err x
entries_err K V n bytes x e = bind_err (times (pair_at (leaf_at K) (value_at V)) n bytes) (λ y. (leaf_entries y.0, y.1)) x (sym (times_keyed K V n bytes) ∙ e)

-- ---- values of one part or of names

module _ {S : Type 0} (tree : S → Value) (of : S → TypeTree → Type 0) (Full : TypeTree → Type 0) (parts : HasFullParts Full) where
  -- a variant

  pub name_stopped : (T : TypeTree) (cs : Cases) (bytes : List ℕ) (s : Stop) → T ≡ type.variant cs → IsFaultOf s (name_at bytes) → IsRead tree of Full T bytes (Err s)
  name_stopped T cs bytes s is h = first_stopped tree of Full parts T (type.variant cs) bytes s (name_at bytes) (case_behind cs bytes) is refl h

  -- the fault of a name
  name_fault : (T U : TypeTree) (bytes : List ℕ) → T ≡ U → (HasTextNames U → value_at U bytes ≡ Err (fault kinds.Name bytes)) → IsRead tree of Full T bytes (Err (stops.Fault kinds.Name (length bytes)))
  name_fault T U bytes is f = as_type tree of Full parts T U bytes (Err (stops.Fault kinds.Name (length bytes))) is (λ distinct named. f named)

  pub case_no_text : (T : TypeTree) (cs : Cases) (bytes name rest : List ℕ) → T ≡ type.variant cs → name_at bytes ≡ Ok (name, rest) → (IsUtf8 name → ⊥) → IsRead tree of Full T bytes (Err (stops.Fault kinds.Name (length bytes)))
  case_no_text T cs bytes name rest is reads apart =
      name_fault T (type.variant cs) bytes is (λ named. ap (λ (q : Reading (List ℕ)). q >>= case_behind cs bytes) reads ∙ no_text_case cs bytes name rest named.0 apart)

  pub case_unknown : (T : TypeTree) (cs : Cases) (bytes name rest : List ℕ) → T ≡ type.variant cs → name_at bytes ≡ Ok (name, rest) → None ≡ find (has_name name) (case_list cs) → IsRead tree of Full T bytes (Err (stops.Fault kinds.Name (length bytes)))
  case_unknown T cs bytes name rest is reads none =
      name_fault T (type.variant cs) bytes is (λ named. ap (λ (q : Reading (List ℕ)). q >>= case_behind cs bytes) reads ∙ no_case cs bytes name rest none)

  pub case_stopped : (T : TypeTree) (cs : Cases) (bytes name rest : List ℕ) (P : Option TypeTree) (s : Stop) → T ≡ type.variant cs → name_at bytes ≡ Ok (name, rest) → FoundCase Full cs name P → IsPayloadRead tree of Full P rest (Err s) → IsRead tree of Full T bytes (Err s)
  case_stopped T cs bytes name rest P s is reads found h =
      as_type tree of Full parts T (type.variant cs) bytes (Err s) is (λ distinct named.
      fails_of (IsFullOption Full P) (Full (type.variant cs)) s (payload_at (maybe_type P) rest) (value_at (type.variant cs) bytes) (λ full. found.full (parts (type.variant cs) full))
      (λ x e. ap (λ (q : Reading (List ℕ)). q >>= case_behind cs bytes) reads ∙ (found.reads bytes rest ∙ stops_at (payload_at (maybe_type P) rest) (as_case name) x e))
      (h (found.distinct distinct.1) (found.texts named.1)))

  pub case_typed : (T : TypeTree) (cs : Cases) (name rest : List ℕ) (P : Option TypeTree) (x : Option S × Bor (List ℕ)) → T ≡ type.variant cs → FoundCase Full cs name P → IsPayloadRead tree of Full P rest (Ok x) → HasDistinctNames T → TypedVariant of T name x.0
  case_typed T cs name rest P x is found h =
      subst (λ (U : TypeTree). HasDistinctNames U → TypedVariant of U name x.0) (sym is) (λ distinct. (P, found.one, (h (found.distinct distinct.1)).1))

  pub case_read : (T : TypeTree) (cs : Cases) (bytes name rest : List ℕ) (P : Option TypeTree) (x : Option S × Bor (List ℕ)) (made : Result S WasmValueError) (r : Result (S × Bor (List ℕ)) Stop) → T ≡ type.variant cs → name_at bytes ≡ Ok (name, rest) → FoundCase Full cs name P → IsPayloadRead tree of Full P rest (Ok x) → IsBuilt made x.1.now r → IfOk made (MakesVariant tree of T name x.0) → IfErr made (FullVariant of Full T name x.0) → IsRead tree of Full T bytes r
  case_read T cs bytes name rest P x made r is reads found h b ok err =
      as_type tree of Full parts T (type.variant cs) bytes r is (built_read tree of Full (type.variant cs) bytes (value.variant name (maybe_value (option_map tree x.0))) x.1.now made r b
      (subst (λ (U : TypeTree). IfOk made (MakesVariant tree of U name x.0)) is ok)
      (IfErr-weaker made (FullVariant of Full (type.variant cs) name x.0) (λ e. HasDistinctNames (type.variant cs) → Full (type.variant cs) → IsMemory e)
      (λ e f distinct full. f full cs refl P found.one (h (found.distinct distinct.1)).1) (subst (λ (U : TypeTree). IfErr made (FullVariant of Full U name x.0)) is err))
      (λ distinct. ap (λ (q : Reading (List ℕ)). q >>= case_behind cs bytes) reads ∙ (found.reads bytes rest ∙ ap (λ (q : Reading MaybeValue). q >>= as_case name) (h (found.distinct distinct.1)).0)))

  -- an enum

  pub enum_stopped : (T : TypeTree) (names : List (List ℕ)) (bytes : List ℕ) (s : Stop) → T ≡ type.enum names → IsFaultOf s (name_at bytes) → IsRead tree of Full T bytes (Err s)
  enum_stopped T names bytes s is h = first_stopped tree of Full parts T (type.enum names) bytes s (name_at bytes) (enum_behind names bytes) is refl h

  pub enum_no_text : (T : TypeTree) (names : List (List ℕ)) (bytes name rest : List ℕ) → T ≡ type.enum names → name_at bytes ≡ Ok (name, rest) → (IsUtf8 name → ⊥) → IsRead tree of Full T bytes (Err (stops.Fault kinds.Name (length bytes)))
  enum_no_text T names bytes name rest is reads apart =
      name_fault T (type.enum names) bytes is (λ named. ap (λ (q : Reading (List ℕ)). q >>= enum_behind names bytes) reads ∙ ap (λ (b : Bool). cond b (read_as (value.enum name) rest) (Err (fault kinds.Name bytes))) (no_text_name names name named apart))

  pub enum_unknown : (T : TypeTree) (names : List (List ℕ)) (bytes name rest : List ℕ) → T ≡ type.enum names → name_at bytes ≡ Ok (name, rest) → is_one_of names name ≡ false → IsRead tree of Full T bytes (Err (stops.Fault kinds.Name (length bytes)))
  enum_unknown T names bytes name rest is reads none =
      name_fault T (type.enum names) bytes is (λ named. ap (λ (q : Reading (List ℕ)). q >>= enum_behind names bytes) reads ∙ ap (λ (b : Bool). cond b (read_as (value.enum name) rest) (Err (fault kinds.Name bytes))) none)

  pub enum_read : (T : TypeTree) (names : List (List ℕ)) (bytes name rest : List ℕ) (made : Result S WasmValueError) (r : Result (S × Bor (List ℕ)) Stop) → T ≡ type.enum names → name_at bytes ≡ Ok (name, rest) → is_one_of names name ≡ true → IsBuilt made rest r → IfOk made (MakesEnum tree of T name) → IfErr made (FullEnum of Full T name) → IsRead tree of Full T bytes r
  enum_read T names bytes name rest made r is reads one b ok err =
      as_type tree of Full parts T (type.enum names) bytes r is (built_read tree of Full (type.enum names) bytes (value.enum name) rest made r b
      (subst (λ (U : TypeTree). IfOk made (MakesEnum tree of U name)) is ok)
      (IfErr-weaker made (FullEnum of Full (type.enum names) name) (λ e. HasDistinctNames (type.enum names) → Full (type.enum names) → IsMemory e)
      (λ e f distinct full. f full names refl (is_one names name one)) (subst (λ (U : TypeTree). IfErr made (FullEnum of Full U name)) is err))
      (λ distinct. ap (λ (q : Reading (List ℕ)). q >>= enum_behind names bytes) reads ∙ ap (λ (b : Bool). cond b (read_as (value.enum name) rest) (Err (fault kinds.Name bytes))) one))

  -- an option

  pub option_stopped : (T P : TypeTree) (bytes : List ℕ) (s : Stop) → T ≡ type.option P → IsFaultOf s (choice_at bytes) → IsRead tree of Full T bytes (Err s)
  option_stopped T P bytes s is h = first_stopped tree of Full parts T (type.option P) bytes s (choice_at bytes) (option_behind P) is refl h

  pub none_read : (T P : TypeTree) (bytes rest : List ℕ) (b : Bool) (made : Result S WasmValueError) (r : Result (S × Bor (List ℕ)) Stop) → T ≡ type.option P → choice_at bytes ≡ Ok (b, rest) → b ≡ false → IsBuilt made rest r → IfOk made (MakesOption tree of T None) → IfErr made (FullOption of Full T None) → IsRead tree of Full T bytes r
  none_read T P bytes rest b made r is reads none built ok err =
      as_type tree of Full parts T (type.option P) bytes r is (built_read tree of Full (type.option P) bytes (value.option no_value) rest made r built
      (subst (λ (U : TypeTree). IfOk made (MakesOption tree of U None)) is ok)
      (IfErr-weaker made (FullOption of Full (type.option P) None) (λ e. HasDistinctNames (type.option P) → Full (type.option P) → IsMemory e) (λ e f distinct full. f full P refl tt) (subst (λ (U : TypeTree). IfErr made (FullOption of Full U None)) is err))
      (λ distinct. ap (λ (q : Reading Bool). q >>= option_behind P) reads ∙ ap (λ (c : Bool). option_behind P (c, rest)) none))

  pub payload_stopped : (T P : TypeTree) (bytes rest : List ℕ) (b : Bool) (s : Stop) → T ≡ type.option P → choice_at bytes ≡ Ok (b, rest) → b ≡ true → IsRead tree of Full P rest (Err s) → IsRead tree of Full T bytes (Err s)
  payload_stopped T P bytes rest b s is reads some h =
      as_type tree of Full parts T (type.option P) bytes (Err s) is (λ distinct named.
      fails_of (Full P) (Full (type.option P)) s (value_at P rest) (value_at (type.option P) bytes) (λ full. (parts (type.option P) full).0)
      (λ x e. ap (λ (q : Reading Bool). q >>= option_behind P) reads ∙ (ap (λ (c : Bool). option_behind P (c, rest)) some ∙ stops_at (value_at P rest) as_some x e)) (h distinct named))

  pub option_typed : (T P : TypeTree) (rest : List ℕ) (x : S × Bor (List ℕ)) → T ≡ type.option P → IsRead tree of Full P rest (Ok x) → HasDistinctNames T → TypedOption of T (Some x.0)
  option_typed T P rest x is h = subst (λ (U : TypeTree). HasDistinctNames U → TypedOption of U (Some x.0)) (sym is) (λ distinct. (h distinct).1)

  pub some_read : (T P : TypeTree) (bytes rest : List ℕ) (b : Bool) (x : S × Bor (List ℕ)) (made : Result S WasmValueError) (r : Result (S × Bor (List ℕ)) Stop) → T ≡ type.option P → choice_at bytes ≡ Ok (b, rest) → b ≡ true → IsRead tree of Full P rest (Ok x) → IsBuilt made x.1.now r → IfOk made (MakesOption tree of T (Some x.0)) → IfErr made (FullOption of Full T (Some x.0)) → IsRead tree of Full T bytes r
  some_read T P bytes rest b x made r is reads some h built ok err =
      as_type tree of Full parts T (type.option P) bytes r is (built_read tree of Full (type.option P) bytes (value.option (a_value (tree x.0))) x.1.now made r built
      (subst (λ (U : TypeTree). IfOk made (MakesOption tree of U (Some x.0))) is ok)
      (IfErr-weaker made (FullOption of Full (type.option P) (Some x.0)) (λ e. HasDistinctNames (type.option P) → Full (type.option P) → IsMemory e) (λ e f distinct full. f full P refl (h distinct).1) (subst (λ (U : TypeTree). IfErr made (FullOption of Full U (Some x.0))) is err))
      (λ distinct. ap (λ (q : Reading Bool). q >>= option_behind P) reads ∙ (ap (λ (c : Bool). option_behind P (c, rest)) some ∙ ap (λ (q : Reading Value). q >>= as_some) (h distinct).0)))

  -- a result

  pub result_stopped : (T : TypeTree) (A B : Option TypeTree) (bytes : List ℕ) (s : Stop) → T ≡ type.result (maybe_type A) (maybe_type B) → IsFaultOf s (choice_at bytes) → IsRead tree of Full T bytes (Err s)
  result_stopped T A B bytes s is h =
      first_stopped tree of Full parts T (type.result (maybe_type A) (maybe_type B)) bytes s (choice_at bytes) (result_behind (maybe_type A) (maybe_type B)) is refl h

  pub option_again : (A : Option TypeTree) → type_option (maybe_type A) ≡ A
  option_again None = refl
  option_again (Some T) = refl

  pub ok_full : (A : Option TypeTree) (more : List TypeTree) → AllOf Full (payload_and (maybe_type A) more) → IsFullOption Full A
  ok_full None more h = tt
  ok_full (Some T) more h = h.0

  pub err_full : (A B : Option TypeTree) → AllOf Full (payload_and (maybe_type A) (payload_and (maybe_type B) [])) → IsFullOption Full B
  err_full None B h = ok_full B [] h
  err_full (Some T) B h = ok_full B [] h.1

  pub err_stopped : (T : TypeTree) (A B : Option TypeTree) (bytes rest : List ℕ) (b : Bool) (s : Stop) → T ≡ type.result (maybe_type A) (maybe_type B) → choice_at bytes ≡ Ok (b, rest) → b ≡ true → IsPayloadRead tree of Full B rest (Err s) → IsRead tree of Full T bytes (Err s)
  err_stopped T A B bytes rest b s is reads err h =
      let U = type.result (maybe_type A) (maybe_type B) in
      as_type tree of Full parts T U bytes (Err s) is (λ distinct named.
      fails_of (IsFullOption Full B) (Full U) s (payload_at (maybe_type B) rest) (value_at U bytes) (λ full. err_full A B (parts U full))
      (λ x e. ap (λ (q : Reading Bool). q >>= result_behind (maybe_type A) (maybe_type B)) reads ∙ (ap (λ (c : Bool). result_behind (maybe_type A) (maybe_type B) (c, rest)) err ∙ stops_at (payload_at (maybe_type B) rest) as_err x e)) (h distinct.1 named.1))

  pub ok_stopped : (T : TypeTree) (A B : Option TypeTree) (bytes rest : List ℕ) (b : Bool) (s : Stop) → T ≡ type.result (maybe_type A) (maybe_type B) → choice_at bytes ≡ Ok (b, rest) → b ≡ false → IsPayloadRead tree of Full A rest (Err s) → IsRead tree of Full T bytes (Err s)
  ok_stopped T A B bytes rest b s is reads ok h =
      let U = type.result (maybe_type A) (maybe_type B) in
      as_type tree of Full parts T U bytes (Err s) is (λ distinct named.
      fails_of (IsFullOption Full A) (Full U) s (payload_at (maybe_type A) rest) (value_at U bytes) (λ full. ok_full A (payload_and (maybe_type B) []) (parts U full))
      (λ x e. ap (λ (q : Reading Bool). q >>= result_behind (maybe_type A) (maybe_type B)) reads ∙ (ap (λ (c : Bool). result_behind (maybe_type A) (maybe_type B) (c, rest)) ok ∙ stops_at (payload_at (maybe_type A) rest) as_ok x e)) (h distinct.0 named.0))

  pub err_typed : (T : TypeTree) (A B : Option TypeTree) (rest : List ℕ) (x : Option S × Bor (List ℕ)) → T ≡ type.result (maybe_type A) (maybe_type B) → IsPayloadRead tree of Full B rest (Ok x) → HasDistinctNames T → TypedResult of T (Err x.0)
  err_typed T A B rest x is h =
      subst (λ (U : TypeTree). HasDistinctNames U → TypedResult of U (Err x.0)) (sym is) (λ distinct. subst (λ (P : Option TypeTree). PayloadIsOf of P x.0) (sym (option_again B)) (h distinct.1).1)

  pub ok_typed : (T : TypeTree) (A B : Option TypeTree) (rest : List ℕ) (x : Option S × Bor (List ℕ)) → T ≡ type.result (maybe_type A) (maybe_type B) → IsPayloadRead tree of Full A rest (Ok x) → HasDistinctNames T → TypedResult of T (Ok x.0)
  ok_typed T A B rest x is h =
      subst (λ (U : TypeTree). HasDistinctNames U → TypedResult of U (Ok x.0)) (sym is) (λ distinct. subst (λ (P : Option TypeTree). PayloadIsOf of P x.0) (sym (option_again A)) (h distinct.0).1)

  pub err_read : (T : TypeTree) (A B : Option TypeTree) (bytes rest : List ℕ) (b : Bool) (x : Option S × Bor (List ℕ)) (made : Result S WasmValueError) (r : Result (S × Bor (List ℕ)) Stop) → T ≡ type.result (maybe_type A) (maybe_type B) → choice_at bytes ≡ Ok (b, rest) → b ≡ true → IsPayloadRead tree of Full B rest (Ok x) → IsBuilt made x.1.now r → IfOk made (MakesResult tree of T (Err x.0)) → IfErr made (FullResult of Full T (Err x.0)) → IsRead tree of Full T bytes r
  err_read T A B bytes rest b x made r is reads err h built ok full_err =
      let U = type.result (maybe_type A) (maybe_type B) in
      as_type tree of Full parts T U bytes r is (built_read tree of Full U bytes (value.err (maybe_value (option_map tree x.0))) x.1.now made r built
      (subst (λ (V : TypeTree). IfOk made (MakesResult tree of V (Err x.0))) is ok)
      (IfErr-weaker made (FullResult of Full U (Err x.0)) (λ e. HasDistinctNames U → Full U → IsMemory e)
      (λ e f distinct full. f full (maybe_type A) (maybe_type B) refl (subst (λ (P : Option TypeTree). PayloadIsOf of P x.0) (sym (option_again B)) (h distinct.1).1)) (subst (λ (V : TypeTree). IfErr made (FullResult of Full V (Err x.0))) is full_err))
      (λ distinct. ap (λ (q : Reading Bool). q >>= result_behind (maybe_type A) (maybe_type B)) reads ∙ (ap (λ (c : Bool). result_behind (maybe_type A) (maybe_type B) (c, rest)) err ∙ ap (λ (q : Reading MaybeValue). q >>= as_err) (h distinct.1).0)))

  pub ok_read : (T : TypeTree) (A B : Option TypeTree) (bytes rest : List ℕ) (b : Bool) (x : Option S × Bor (List ℕ)) (made : Result S WasmValueError) (r : Result (S × Bor (List ℕ)) Stop) → T ≡ type.result (maybe_type A) (maybe_type B) → choice_at bytes ≡ Ok (b, rest) → b ≡ false → IsPayloadRead tree of Full A rest (Ok x) → IsBuilt made x.1.now r → IfOk made (MakesResult tree of T (Ok x.0)) → IfErr made (FullResult of Full T (Ok x.0)) → IsRead tree of Full T bytes r
  ok_read T A B bytes rest b x made r is reads fine h built ok full_err =
      let U = type.result (maybe_type A) (maybe_type B) in
      as_type tree of Full parts T U bytes r is (built_read tree of Full U bytes (value.ok (maybe_value (option_map tree x.0))) x.1.now made r built
      (subst (λ (V : TypeTree). IfOk made (MakesResult tree of V (Ok x.0))) is ok)
      (IfErr-weaker made (FullResult of Full U (Ok x.0)) (λ e. HasDistinctNames U → Full U → IsMemory e)
      (λ e f distinct full. f full (maybe_type A) (maybe_type B) refl (subst (λ (P : Option TypeTree). PayloadIsOf of P x.0) (sym (option_again A)) (h distinct.0).1)) (subst (λ (V : TypeTree). IfErr made (FullResult of Full V (Ok x.0))) is full_err))
      (λ distinct. ap (λ (q : Reading Bool). q >>= result_behind (maybe_type A) (maybe_type B)) reads ∙ (ap (λ (c : Bool). result_behind (maybe_type A) (maybe_type B) (c, rest)) fine ∙ ap (λ (q : Reading MaybeValue). q >>= as_ok) (h distinct.0).0)))

  -- flags

  pub flags_counted : (T : TypeTree) (names : List (List ℕ)) (bytes : List ℕ) (s : Stop) → T ≡ type.flags names → IsFaultOf s (number_at w64 bytes) → IsRead tree of Full T bytes (Err s)
  flags_counted T names bytes s is h = first_stopped tree of Full parts T (type.flags names) bytes s (number_at w64 bytes) (flags_behind names) is refl h

  pub flags_stopped : (T : TypeTree) (names : List (List ℕ)) (bytes : List ℕ) (n : ℕ) (rest : List ℕ) (s : Stop) → T ≡ type.flags names → number_at w64 bytes ≡ Ok (n, rest) → AreNamesRead names n rest (Err s) → IsRead tree of Full T bytes (Err s)
  flags_stopped T names bytes n rest s is count h =
      as_type tree of Full parts T (type.flags names) bytes (Err s) is (λ distinct named.
      names_fail s (λ x e. ap (λ (q : Reading ℕ). q >>= flags_behind names) count ∙ stops_at (flags_at names n rest) as_flags x e) h)
    where
      names_fail : (s : Stop) → ((x : Fault) → flags_at names n rest ≡ Err x → value_at (type.flags names) bytes ≡ Err x) → AreNamesRead names n rest (Err s) → Fails (Full (type.flags names)) s (value_at (type.flags names) bytes)
      names_fail stops.Memory f h = tt
      names_fail (stops.Refused left) f h = absurd (h tt)
      names_fail (stops.Fault kind left) f h = f (record { kind = kind; left = left }) h

  pub flags_read : (T : TypeTree) (names : List (List ℕ)) (bytes : List ℕ) (n : ℕ) (rest : List ℕ) (x : Vec (Bor (List ℕ)) × Bor (List ℕ)) (handed : List (Bor (List ℕ))) (made : Result S WasmValueError) (r : Result (S × Bor (List ℕ)) Stop) → T ≡ type.flags names → number_at w64 bytes ≡ Ok (n, rest) → AreNamesRead names n rest (Ok x) → handed ≡ x.0.items → IsBuilt made x.1.now r → IfOk made (MakesFlags tree of T handed) → IfErr made (FullFlags of Full T handed) → IsRead tree of Full T bytes r
  flags_read T names bytes n rest x handed made r is count h same b ok err =
      let picked = texts x.0.items in
      let are = flags_picked names n rest picked x.1.now h in
      as_type tree of Full parts T (type.flags names) bytes r is (built_read tree of Full (type.flags names) bytes (value.flags picked) x.1.now made r b
      (IfOk-weaker made (MakesFlags tree of (type.flags names) x.0.items) (λ v. HasDistinctNames (type.flags names) → Makes tree of (value.flags picked) (type.flags names) v)
      (λ v f distinct. f distinct (picked_distinct names picked are distinct) (subst (ArePicked names) (sym (all_kept names picked (picked_of names picked are))) are))
      (subst (λ (l : List (Bor (List ℕ))). IfOk made (MakesFlags tree of (type.flags names) l)) same (subst (λ (U : TypeTree). IfOk made (MakesFlags tree of U handed)) is ok)))
      (IfErr-weaker made (FullFlags of Full (type.flags names) x.0.items) (λ e. HasDistinctNames (type.flags names) → Full (type.flags names) → IsMemory e)
      (λ e f distinct full. f full names refl (picked_distinct names picked are distinct) are)
      (subst (λ (l : List (Bor (List ℕ))). IfErr made (FullFlags of Full (type.flags names) l)) same (subst (λ (U : TypeTree). IfErr made (FullFlags of Full U handed)) is err)))
      (λ distinct. ap (λ (q : Reading ℕ). q >>= flags_behind names) count ∙ ap (λ (q : Reading (List (List ℕ))). q >>= as_flags) h))

  -- a map

  pub map_counted : (T K V : TypeTree) (bytes : List ℕ) (s : Stop) → IsMapType T K V → IsFaultOf s (number_at w64 bytes) → IsRead tree of Full T bytes (Err s)
  map_counted T K V bytes s is h = first_stopped tree of Full parts T (type.map is.key V) bytes s (number_at w64 bytes) (map_behind is.key V) is.is refl h

  pub map_stopped : (T K V : TypeTree) (bytes : List ℕ) (n : ℕ) (rest : List ℕ) (s : Stop) → IsMapType T K V → number_at w64 bytes ≡ Ok (n, rest) → EntriesAreRead tree of Full K V n rest (Err s) → IsRead tree of Full T bytes (Err s)
  map_stopped T K V bytes n rest s is count h =
      let L = is.key in
      let each = subst (λ (U : TypeTree). EntriesAreRead tree of Full U V n rest (Err s)) is.key_is h in
      as_type tree of Full parts T (type.map L V) bytes (Err s) is.is (λ distinct named.
      fails_of (Full (type.simple L) × Full V) (Full (type.map L V)) s (times (pair_at (value_at (type.simple L)) (value_at V)) n rest) (value_at (type.map L V) bytes)
      (λ full. let all = parts (type.map L V) full in (all.0, all.1.0))
      (λ x e. ap (λ (q : Reading ℕ). q >>= map_behind L V) count ∙ stops_at (times (pair_at (leaf_at L) (value_at V)) n rest) as_map x (entries_err L V n rest x e)) (each tt distinct tt named))

  pub map_typed : (T K V : TypeTree) (n : ℕ) (rest : List ℕ) (x : Vec (S × S) × Bor (List ℕ)) → IsMapType T K V → EntriesAreRead tree of Full K V n rest (Ok x) → HasDistinctNames T → TypedMap of T x.0.items
  map_typed T K V n rest x is h =
      let L = is.key in
      let each = subst (λ (U : TypeTree). EntriesAreRead tree of Full U V n rest (Ok x)) is.key_is h in
      subst (λ (U : TypeTree). HasDistinctNames U → TypedMap of U x.0.items) (sym is.is) (λ distinct. (each tt distinct).1)

  map_made : (L : Simple) (V : TypeTree) (bytes : List ℕ) (n : ℕ) (rest : List ℕ) (x : Vec (S × S) × Bor (List ℕ)) (made : Result S WasmValueError) (r : Result (S × Bor (List ℕ)) Stop) → number_at w64 bytes ≡ Ok (n, rest) → EntriesAreRead tree of Full (type.simple L) V n rest (Ok x) → IsBuilt made x.1.now r → IfOk made (MakesMap tree of (type.map L V) x.0.items) → IfErr made (FullMap of Full (type.map L V) x.0.items) → IsRead tree of Full (type.map L V) bytes r
  map_made L V bytes n rest x (Ok v) (Ok y) count each b ok err = λ distinct.
      let read = entries_read L V n rest (entry_trees tree x.0.items) x.1.now (each tt distinct).0 in
      let (all, handed, makes) = ok distinct in
      let same : all ≡ read.es = one_list all read.es (sym handed ∙ sym read.are) in
      built_read tree of Full (type.map L V) bytes (value.map (entries read.es)) x.1.now (Ok v) (Ok y) b
      (λ d. subst (λ (l : List (Leaf × Value)). Makes tree of (value.map (entries l)) (type.map L V) v) same makes) tt
      (λ d. ap (λ (q : Reading ℕ). q >>= map_behind L V) count ∙ ap (λ (q : Reading (List (Leaf × Value))). q >>= as_map) read.read) distinct
  map_made L V bytes n rest x (Ok v) (Err s) count each b ok err = absurd b
  map_made L V bytes n rest x (Err e) (Ok y) count each b ok err = absurd b
  map_made L V bytes n rest x (Err e) (Err stops.Memory) count each b ok err = λ distinct named. tt
  map_made L V bytes n rest x (Err e) (Err (stops.Refused left)) count each b ok err = λ distinct named full. b (err full L V refl (each tt distinct).1)
  map_made L V bytes n rest x (Err e) (Err (stops.Fault kind left)) count each b ok err = absurd b

  pub map_read : (T K V : TypeTree) (bytes : List ℕ) (n : ℕ) (rest : List ℕ) (x : Vec (S × S) × Bor (List ℕ)) (made : Result S WasmValueError) (r : Result (S × Bor (List ℕ)) Stop) → IsMapType T K V → number_at w64 bytes ≡ Ok (n, rest) → EntriesAreRead tree of Full K V n rest (Ok x) → IsBuilt made x.1.now r → IfOk made (MakesMap tree of T x.0.items) → IfErr made (FullMap of Full T x.0.items) → IsRead tree of Full T bytes r
  map_read T K V bytes n rest x made r is count h b ok err =
      let L = is.key in
      let each = subst (λ (U : TypeTree). EntriesAreRead tree of Full U V n rest (Ok x)) is.key_is h in
      as_type tree of Full parts T (type.map L V) bytes r is.is (map_made L V bytes n rest x made r count each b
      (subst (λ (U : TypeTree). IfOk made (MakesMap tree of U x.0.items)) is.is ok) (subst (λ (U : TypeTree). IfErr made (FullMap of Full U x.0.items)) is.is err))

  -- a payload

  pub payload_some : (P : Option TypeTree) (T : TypeTree) (bytes : List ℕ) (x : S × Bor (List ℕ)) → P ≡ Some T → IsRead tree of Full T bytes (Ok x) → IsPayloadRead tree of Full P bytes (Ok (Some x.0, x.1))
  payload_some P T bytes x is h =
      subst (λ (Q : Option TypeTree). IsPayloadRead tree of Full Q bytes (Ok (Some x.0, x.1))) (sym is)
      (λ distinct. (ap (λ (q : Reading Value). q >>= as_payload) (h distinct).0, (h distinct).1))

  pub payload_err : (P : Option TypeTree) (T : TypeTree) (bytes : List ℕ) (s : Stop) → P ≡ Some T → IsRead tree of Full T bytes (Err s) → IsPayloadRead tree of Full P bytes (Err s)
  payload_err P T bytes s is h =
      subst (λ (Q : Option TypeTree). IsPayloadRead tree of Full Q bytes (Err s)) (sym is)
      (λ distinct named. fails_of (Full T) (Full T) s (value_at T bytes) (payload_at (a_type T) bytes) (λ full. full) (λ x e. stops_at (value_at T bytes) as_payload x e) (h distinct named))

  pub payload_none : (P : Option TypeTree) (bytes : Bor (List ℕ)) → P ≡ None → IsPayloadRead tree of Full P bytes.now (Ok (None, bytes))
  payload_none P bytes is = subst (λ (Q : Option TypeTree). IsPayloadRead tree of Full Q bytes.now (Ok (None, bytes))) (sym is) (λ distinct. (refl, tt))
