-- Steps to parts: the types get smaller, a key has no parts, and steps join to a path.
use Rattle.std.proofs.Common.{ℕ, zero, suc, ◌≡◌, ◌≢◌, ◌<◌, ◌≤◌, ◌⊎◌, inl, inr, ◌++◌, Bool, true, false, cond, max, List, [], ◌∷◌, Option, Some, None, option_map, refl, sym, ap, ◌∙◌, arith, append_assoc, subst, ◌+◌, get_or, length, Bor}
use Rattle.std.specs.Prelude.{slice_get, IsTrue, ◌↔◌, IfOk, IfSome, IfNone, Result, Ok, Err}
use Rattle.std.specs.List.{find}
use Rattle.std.specs.Str.{bytes_eq}
use Rattle.std.specs.declared.ops.Range.{Range}
use Rattle.std.proofs.lemmas.List.{append-nil, length-map}
use Rattle.std.proofs.lemmas.Option.{slice_get_within, get_or_from_slice_get, slice_get-map, slice_get_read}
use borrow.Author.Count.{below_more}
use Rattle.wave_wasm.specs.Lists.{AllOf, SomeOf}
use Rattle.wave_wasm.specs.Types as type
use Rattle.wave_wasm.specs.Types.{TypeTree, MaybeType, Types, Fields, Cases, Simple, type_option, type_list, field_list, case_list, list_part, tuple_parts, record_parts, variant_parts, option_part, result_parts, map_parts}
use Rattle.wave_wasm.specs.Types.{depth, depth_of_maybe, depth_of_types, depth_of_fields, depth_of_cases}
use Rattle.wave_grammar.specs.LeafTokens.{name_of}
use Rattle.wave_grammar.specs.NodeTree.{NodeTree, type_of, children_of}
use Rattle.wave_grammar.specs.NodeAccessors.{node_pairs, node_text, first_of, GivesOption, GivesResult, GivesVariant}
use Rattle.wave_grammar.specs.TypedReading.{IsValueOf}
use Rattle.wave_grammar.specs.declared.form.NodeType.TheVariants as form
use Rattle.wave_wasm.specs.Borrowed.{denoted_all, denoted_fields}
use Rattle.wave_wasm.proofs.Names.MappedSearch.{find-map}
use Rattle.wave_grammar.specs.ErrorSpans.{LiesInNode}
use Rattle.wave_place.specs.Paths.{Step, field, case, entry, key, item, some, ok, err, alone, field_type, case_type, StepsTo, IsDeepest, IsPartAt, StandsAlone, HoldsAlone, step_text, path_text}
use Rattle.wave_place.specs.Private.Steps.{LeadsNowhere, IsTaken, NoneHolds, IsNamed}

-- what follows from either
either : {A B C : Type 0} → (A → C) → (B → C) → A ⊎ B → C
either f g (inl a) = f a
either f g (inr b) = g b

-- nothing is something
no_type : {A : Type 0} {a : A} → None ≡ Some a → ⊥
no_type e = cc

-- the parts of equal pairs are equal
first_same : {A B : Type 0} {p q : A × B} → Some p ≡ Some q → p.0 ≡ q.0
first_same {A} {B} {p} {q} e = let same : p ≡ q = cc in ap (λ (x : A × B). x.0) same

second_same : {A B : Type 0} {p q : A × B} → Some p ≡ Some q → p.1 ≡ q.1
second_same {A} {B} {p} {q} e = let same : p ≡ q = cc in ap (λ (x : A × B). x.1) same

-- ---- types get smaller

list_smaller : (T U : TypeTree) → list_part T ≡ Some U → depth U < depth T
list_smaller (type.list E) U e = let same : E ≡ U = cc in omega (arith, ap depth same)
list_smaller (type.fixed E n) U e = let same : E ≡ U = cc in omega (arith, ap depth same)
list_smaller _ U e = absurd (cc)

option_smaller : (T U : TypeTree) → option_part T ≡ Some U → depth U < depth T
option_smaller (type.option P) U e = let same : P ≡ U = cc in omega (arith, ap depth same)
option_smaller _ U e = absurd (cc)

maybe_depth : (A : MaybeType) (U : TypeTree) → type_option A ≡ Some U → depth U ≤ depth_of_maybe A
maybe_depth type.no_type U e = absurd (cc)
maybe_depth (type.a_type T) U e = let same : T ≡ U = cc in omega (arith, ap depth same)

ok_smaller : (T U : TypeTree) (B : Option TypeTree) → result_parts T ≡ Some (Some U, B) → depth U < depth T
ok_smaller (type.result A B) U b e = let same : type_option A ≡ Some U = first_same e in omega (arith, maybe_depth A U same)
ok_smaller _ U b e = absurd (cc)

err_smaller : (T U : TypeTree) (A : Option TypeTree) → result_parts T ≡ Some (A, Some U) → depth U < depth T
err_smaller (type.result A B) U a e = let same : type_option B ≡ Some U = second_same e in omega (arith, maybe_depth B U same)
err_smaller _ U a e = absurd (cc)

value_smaller : (T K V : TypeTree) → map_parts T ≡ Some (K, V) → depth V < depth T
value_smaller (type.map S E) K V e = let same : E ≡ V = second_same e in omega (arith, ap depth same)
value_smaller _ K V e = absurd (cc)

key_smaller : (T K V : TypeTree) → map_parts T ≡ Some (K, V) → depth K < depth T
key_smaller (type.map S E) K V e = let same : type.simple S ≡ K = first_same e in omega (arith, ap depth same)
key_smaller _ K V e = absurd (cc)

types_depth : (Ts : Types) (i : ℕ) (U : TypeTree) → slice_get (type_list Ts) i ≡ Some U → depth U ≤ depth_of_types Ts
types_depth type.no_types i U e = absurd (cc)
types_depth (type.type_and T more) zero U e = let same : T ≡ U = cc in omega (arith, ap depth same)
types_depth (type.type_and T more) (suc i) U e = omega (arith, types_depth more i U e)

tuple_smaller : (T U : TypeTree) (i : ℕ) → slice_get (tuple_parts T) i ≡ Some U → depth U < depth T
tuple_smaller (type.tuple Ts) U i e = omega (arith, types_depth Ts i U e)
tuple_smaller _ U i e = absurd (cc)

-- the first field, or a later one
first_or_later : (b : Bool) (name : List ℕ) (T : TypeTree) (later : Option (List ℕ × TypeTree)) (U : TypeTree) (deep : ℕ) → option_map (λ f. f.1) (cond b (Some (name, T)) later) ≡ Some U → (option_map (λ f. f.1) later ≡ Some U → depth U ≤ deep) → depth U ≤ max (depth T) deep
first_or_later true name T later U deep e more = let same : T ≡ U = cc in omega (arith, ap depth same)
first_or_later false name T later U deep e more = omega (arith, more e)

fields_depth : (name : List ℕ) (fs : Fields) (U : TypeTree) → option_map (λ f. f.1) (find (λ f. bytes_eq name f.0) (field_list fs)) ≡ Some U → depth U ≤ depth_of_fields fs
fields_depth name type.no_fields U e = absurd (cc)
fields_depth name (type.field other T more) U e = first_or_later (bytes_eq name other) other T _ U (depth_of_fields more) e (fields_depth name more U)

field_smaller : (name : List ℕ) (T U : TypeTree) → field_type name T ≡ Some U → depth U < depth T
field_smaller name (type.record_type fs) U e = omega (arith, fields_depth name fs U e)
field_smaller name _ U e = absurd (cc)

-- the first case, or a later one
first_case_or_later : (b : Bool) (name : List ℕ) (payload : MaybeType) (later : Option (List ℕ × Option TypeTree)) (U : TypeTree) (deep : ℕ) → option_map (λ c. c.1) (cond b (Some (name, type_option payload)) later) ≡ Some (Some U) → (option_map (λ c. c.1) later ≡ Some (Some U) → depth U ≤ deep) → depth U ≤ max (depth_of_maybe payload) deep
first_case_or_later true name payload later U deep e more = let same : type_option payload ≡ Some U = cc in omega (arith, maybe_depth payload U same)
first_case_or_later false name payload later U deep e more = omega (arith, more e)

cases_depth : (name : List ℕ) (cs : Cases) (U : TypeTree) → option_map (λ c. c.1) (find (λ c. bytes_eq name c.0) (case_list cs)) ≡ Some (Some U) → depth U ≤ depth_of_cases cs
cases_depth name type.no_cases U e = absurd (cc)
cases_depth name (type.case_of other payload more) U e = first_case_or_later (bytes_eq name other) other payload _ U (depth_of_cases more) e (cases_depth name more U)

case_smaller : (name : List ℕ) (T U : TypeTree) → case_type name T ≡ Some (Some U) → depth U < depth T
case_smaller name (type.variant cs) U e = omega (arith, cases_depth name cs U e)
case_smaller name _ U e = absurd (cc)

-- the type of the part that a step leads to is less deep
pub step_smaller : (source : List ℕ) (s : Step) (n : NodeTree) (T : TypeTree) (m : NodeTree) (U : TypeTree) → StepsTo source s n T m U → depth U < depth T
step_smaller source (field name) n T m U s = field_smaller name T U s.4
step_smaller source (case name) n T m U s = case_smaller name T U s.4
step_smaller source (entry text) n T m U s = value_smaller T _ U s.3.1
step_smaller source (key text) n T m U s = key_smaller T U _ s.3.1
step_smaller source (item i) n T m U s = either (λ l. list_smaller T U l.1) (λ t. tuple_smaller T U i t.1) s.1
step_smaller source some n T m U s = option_smaller T U s.2
step_smaller source ok n T m U s = ok_smaller T U _ s.2.1
step_smaller source err n T m U s = err_smaller T U _ s.2.1
step_smaller source alone n T m U s = either (λ o. option_smaller T U o) (λ r. ok_smaller T U r.0 r.1) s.2.0

-- ---- a key has no parts

no_part : (S : Simple) (source : List ℕ) (s : Step) (n m : NodeTree) (U : TypeTree) → StepsTo source s n (type.simple S) m U → ⊥
no_part S source (field name) n m U s = no_type s.4
no_part S source (case name) n m U s = no_type s.4
no_part S source (entry text) n m U s = no_type s.3.1
no_part S source (key text) n m U s = no_type s.3.1
no_part S source (item i) n m U s = either (λ l. no_type l.1) (λ t. no_type t.1) s.1
no_part S source some n m U s = no_type s.2
no_part S source ok n m U s = no_type s.2.1
no_part S source err n m U s = no_type s.2.1
no_part S source alone n m U s = either (λ o. no_type o) (λ r. no_type r.1) s.2.0

-- no step leads on from a key
pub key_deepest : (source : List ℕ) (span : Range ℕ) (T K V : TypeTree) (k : NodeTree) → map_parts T ≡ Some (K, V) → IsDeepest source span k K
key_deepest source span (type.map S E) K V k e = let same : type.simple S ≡ K = first_same e in rw (sym same) (λ s m U steps lies. no_part S source s k m U steps)
key_deepest source span _ K V k e = absurd (cc)

-- ---- paths

-- a step, and a path from there
pub farther : (source : List ℕ) (span : Range ℕ) (n : NodeTree) (T : TypeTree) (old mid new : List ℕ) (k : NodeTree) (E : TypeTree) (m : NodeTree) (U : TypeTree) → IsTaken source span n T old mid k E → ((steps : List Step) × (new ≡ mid ++ path_text steps) × IsPartAt source span k E steps m U) → (steps : List Step) × (new ≡ old ++ path_text steps) × IsPartAt source span n T steps m U
farther source span n T old mid new k E m U taken (steps, text, part) = (
  taken.step ∷ steps,
  text ∙ (ap (λ x. x ++ path_text steps) taken.text_is ∙ append_assoc old (step_text taken.step) (path_text steps)),
  record {
    leads = (k, E, taken.steps, part.leads);
    holds = λ _. part.holds (inr taken.holds);
    deepest = part.deepest;
  },
)

-- no step
pub no_farther : (source : List ℕ) (span : Range ℕ) (n : NodeTree) (T : TypeTree) (old new : List ℕ) → new ≡ old → IsDeepest source span n T → (steps : List Step) × (new ≡ old ++ path_text steps) × IsPartAt source span n T steps n T
no_farther source span n T old new same deepest = (
  [],
  same ∙ sym (append-nil old),
  record {
    leads = (refl, refl);
    holds = λ h. either (λ path. absurd (path refl)) (λ lies. lies) h;
    deepest = deepest;
  },
)

-- neither a step to a value nor one to a key
pub neither : (source : List ℕ) (span : Range ℕ) (n : NodeTree) (T : TypeTree) → ((s : Step) → ((text : List ℕ) → s ≢ key text) → LeadsNowhere source span n T s) → ((text : List ℕ) → LeadsNowhere source span n T (key text)) → IsDeepest source span n T
neither source span n T values keys (key text) = keys text
neither source span n T values keys (field name) = values (field name) (λ text e. cc)
neither source span n T values keys (case name) = values (case name) (λ text e. cc)
neither source span n T values keys (entry other) = values (entry other) (λ text e. cc)
neither source span n T values keys (item i) = values (item i) (λ text e. cc)
neither source span n T values keys some = values some (λ text e. cc)
neither source span n T values keys ok = values ok (λ text e. cc)
neither source span n T values keys err = values err (λ text e. cc)
neither source span n T values keys alone = values alone (λ text e. cc)

-- ---- entries

-- what holds of all holds of one of them
pub all_at : {A : Type 0} (P : A → Type 0) (xs : List A) (a : A) → AllOf P xs → SomeOf (λ x. x ≡ a) xs → P a
all_at P [] a all one = absurd one
all_at P (x ∷ xs) a (first, all) (inl is) = subst P is first
all_at P (x ∷ xs) a (first, all) (inr one) = all_at P xs a all one

-- a search through entries, of which these are left: so far P holds of each, and those that are left are among all
pub record IsSearch {A : Type 0} (P : A → Type 0) (whole left : List A) : Type 0 where
  pub so_far : AllOf P left → AllOf P whole
  pub among : (a : A) → SomeOf (λ x. x ≡ a) left → SomeOf (λ x. x ≡ a) whole

-- P holds of the next
pub search_more : {A : Type 0} (P : A → Type 0) (whole left : List A) (a : A) (more : List A) → IsSearch P whole left → left ≡ a ∷ more → P a → IsSearch P whole more
search_more P whole left a more s is holds = let now = subst (IsSearch P whole) is s in record {
  so_far = λ all. now.so_far (holds, all);
  among = λ b one. now.among b (inr one);
}

-- the next is one of all
pub search_found : {A : Type 0} (P : A → Type 0) (whole left : List A) (a : A) (more : List A) → IsSearch P whole left → left ≡ a ∷ more → SomeOf (λ x. x ≡ a) whole
search_found P whole left a more s is = (subst (IsSearch P whole) is s).among a (inl refl)

-- none is left
pub search_end : {A : Type 0} (P : A → Type 0) (whole left : List A) → IsSearch P whole left → left ≡ [] → (a : A) → SomeOf (λ x. x ≡ a) whole → P a
search_end P whole left s is a one = all_at P whole a ((subst (IsSearch P whole) is s).so_far tt) one

-- no field of the type has the name of the entry's key and a value that holds the span
abbrev pub NoField : List ℕ → Range ℕ → TypeTree → NodeTree × NodeTree → Type 0
NoField source span T e = (name : List ℕ) (U : TypeTree) → IsNamed source e.0 name → field_type name T ≡ Some U → LiesInNode e.1 span → ⊥

-- where no entry has one, no step to a field leads on
pub no_field : (source : List ℕ) (span : Range ℕ) (n : NodeTree) (T : TypeTree) → ((e : NodeTree × NodeTree) → SomeOf (λ x. x ≡ e) (node_pairs (children_of n)) → NoField source span T e) → (name : List ℕ) → LeadsNowhere source span n T (field name)
no_field source span n T none name m U s lies = none (s.0, m) s.1.1 name U (s.2, s.3) s.4 lies

-- ---- items

-- the next of the nodes doesn't hold the span either
pub none_more : (nodes : List NodeTree) (i : ℕ) (span : Range ℕ) (n : NodeTree) → NoneHolds nodes i span → n ≡ get_or nodes i n → (LiesInNode n span → ⊥) → NoneHolds nodes (i + 1) span
none_more nodes i span n so_far is not = λ k m lt at lies.
    below_more (λ k. (m : NodeTree) → slice_get nodes k ≡ Some m → LiesInNode m span → ⊥) i (λ k lt m at. so_far k m lt at)
    (λ m at lies. not (subst (λ x. LiesInNode x span) (sym (is ∙ get_or_from_slice_get nodes i m n at)) lies)) k lt m at lies

-- ---- what a call found

-- a test that failed
pub refused : {P : Type 0} {b : Bool} → b ≡ false → IsTrue b ↔ P → P → ⊥
refused is test holds = let true_is = test.1 holds in cc

-- a test that passed
pub so : {P : Type 0} {b : Bool} → b ≡ true → IsTrue b ↔ P → P
so {P} {b} is test = test.0 is

-- what holds of what is answered
pub ok_so : {A E : Type 0} {P Q : A → Type 0} (r : Result A E) → ((a : A) → P a → Q a) → IfOk r P → IfOk r Q
ok_so (Ok a) f h = f a h
ok_so (Err e) f h = tt

-- what holds of all holds of the one at a place
pub all_get : {A : Type 0} (P : A → Type 0) (xs : List A) (i : ℕ) (a : A) → AllOf P xs → slice_get xs i ≡ Some a → P a
all_get P [] i a all at = absurd (no_type at)
all_get P (x ∷ xs) zero a (first, all) at = let same : x ≡ a = cc in subst P same first
all_get P (x ∷ xs) (suc i) a (first, all) at = all_get P xs i a all at

-- the payload of `some`
pub some_payload : (n : NodeTree) (p : Bor NodeTree) → GivesOption n (Ok (Some p)) → (type_of n ≡ form.OptionSome) × (first_of (children_of n) ≡ Some p.now) × ((source : List ℕ) → IsValueOf source n → IsValueOf source p.now)
some_payload n p (inl (is, child, value)) = (is, sym child, value)
some_payload n p (inr (is, none)) = absurd (no_type (sym none))

-- the payload of `ok`
pub ok_payload : (n : NodeTree) (p : Bor NodeTree) → GivesResult n (Ok (Ok (Some p))) → (type_of n ≡ form.ResultOk) × (first_of (children_of n) ≡ Some p.now) × ((source : List ℕ) → IsValueOf source n → IsValueOf source p.now)
ok_payload n p (is, child, value) = (is, sym child, value)

-- the payload of `err`
pub err_payload : (n : NodeTree) (p : Bor NodeTree) → GivesResult n (Ok (Err (Some p))) → (type_of n ≡ form.ResultErr) × (first_of (children_of n) ≡ Some p.now) × ((source : List ℕ) → IsValueOf source n → IsValueOf source p.now)
err_payload n p (is, child, value) = (is, sym child, value)

-- the payload of a case
pub case_payload : (source : List ℕ) (n : NodeTree) (name : Bor (List ℕ)) (p : Bor NodeTree) → GivesVariant source n (Ok (name, Some p)) → (c : NodeTree) × (type_of n ≡ form.VariantWithPayload) × (children_of n ≡ c ∷ p.now ∷ []) × (name_of (node_text source c) ≡ name.now) × IsValueOf source p.now
case_payload source n name p (inl (is, named, none)) = absurd (no_type (sym none))
case_payload source n name p (inr (c, t, is, parts, named, shows, value)) =
    let same : p.now ≡ t = cc in
    (c, is, parts ∙ ap (λ x. c ∷ x ∷ []) (sym same), sym named, subst (IsValueOf source) (sym same) value)

module _ {S : Type 0} (tree : S → TypeTree) where
  -- the type of a field, by the first of the fields that has the name
  pub field_found : (T : TypeTree) (name : List ℕ) (items : List (Bor (List ℕ) × Bor S)) (o : Option (Bor (List ℕ) × Bor S)) → o ≡ find (λ d. bytes_eq name d.0.now) items → denoted_fields tree items ≡ record_parts T → option_map (λ d. tree d.1.now) o ≡ field_type name T
  field_found T name items o found parts =
      ap (option_map (λ d. tree d.1.now)) found
      ∙ (sym (denoted_type (find (λ d. bytes_eq name d.0.now) items))
      ∙ (ap (option_map (λ f. f.1)) (sym (find-map (λ f. bytes_eq name f.0) (λ d. (d.0.now, tree d.1.now)) items))
      ∙ ap (λ fs. option_map (λ f. f.1) (find (λ f. bytes_eq name f.0) fs)) parts))
    where
      denoted_type : (o : Option (Bor (List ℕ) × Bor S)) → option_map (λ (f : List ℕ × TypeTree). f.1) (option_map (λ d. (d.0.now, tree d.1.now)) o) ≡ option_map (λ d. tree d.1.now) o
      denoted_type None = refl
      denoted_type (Some d) = refl

-- the first case that has the name is none
pub no_case : (T : TypeTree) (name : List ℕ) → None ≡ find (λ c. bytes_eq name c.0) (variant_parts T) → (U : TypeTree) → case_type name T ≡ Some (Some U) → ⊥
no_case T name is U e = no_type (ap (option_map (λ (c : List ℕ × Option TypeTree). c.1)) is ∙ e)

-- a step to a key, from which none leads on
pub key_found : (source : List ℕ) (span : Range ℕ) (n : NodeTree) (T : TypeTree) (old mid new : List ℕ) (k : NodeTree) (K : TypeTree) → mid ≡ old → IsTaken source span n T mid new k K × ((s : Step) → LeadsNowhere source span k K s) → (steps : List Step) × (new ≡ old ++ path_text steps) × IsPartAt source span n T steps k K
key_found source span n T old mid new k K same (taken, deepest) =
    farther source span n T old new new k K k K (subst (λ x. IsTaken source span n T x new k K) same taken) (no_farther source span k K new new refl deepest)

module _ {S : Type 0} (tree : S → TypeTree) where
  -- the type of an item of a tuple, by the item of the types that were answered
  pub type_at : (T : TypeTree) (items : List (Bor S)) (n i : ℕ) (t : Bor S) → n ≡ length items → i < n → t ≡ get_or items i t → denoted_all tree items ≡ tuple_parts T → slice_get (tuple_parts T) i ≡ Some (tree t.now)
  type_at T items n i t count lt is parts =
      ap (λ ts. slice_get ts i) (sym parts)
      ∙ (slice_get-map (λ t. tree t.now) items i
      ∙ ap (option_map (λ t. tree t.now)) (slice_get_read items n i t count lt is))

  -- a type of an item is one of those that were answered
  pub type_within : (T : TypeTree) (items : List (Bor S)) (n i : ℕ) (U : TypeTree) → n ≡ length items → denoted_all tree items ≡ tuple_parts T → slice_get (tuple_parts T) i ≡ Some U → i < n
  type_within T items n i U count parts at =
      let same : length items ≡ length (tuple_parts T) = sym (length-map items (λ (t : Bor S). tree t.now)) ∙ ap length parts in
      omega (arith, slice_get_within (tuple_parts T) i U at, same, count)

-- of a tuple node it is the type that the tuple has there
pub tuple_item : (n m : NodeTree) (T U : TypeTree) (i : ℕ) → type_of n ≡ form.Tuple → (type_of n ≡ form.List) × (list_part T ≡ Some U) ⊎ (type_of n ≡ form.Tuple) × (slice_get (tuple_parts T) i ≡ Some U) → slice_get (tuple_parts T) i ≡ Some U
tuple_item n m T U i is (inl (list_is, part)) = absurd (cc)
tuple_item n m T U i is (inr (tuple_is, part)) = part

-- ---- what the steps found

-- what holds where nothing is
pub none_at : {A P : Type 0} {o : Option A} → o ≡ None → IfNone o P → P
none_at {A} {P} is h = subst (λ x. IfNone x P) is h

-- what follows where nothing is
pub none_so : {A P Q : Type 0} (o : Option A) → (P → Q) → IfNone o P → IfNone o Q
none_so None f h = f h
none_so (Some a) f h = tt

-- what follows of what is there
pub some_so : {A : Type 0} {P Q : A → Type 0} (o : Option A) → ((a : A) → P a → Q a) → IfSome o P → IfSome o Q
some_so None f h = tt
some_so (Some a) f h = f a h

-- no step of any form to a value leads on
pub each_step : (source : List ℕ) (span : Range ℕ) (n : NodeTree) (T : TypeTree)
    → ((source : List ℕ) (i : ℕ) → type_of n ≡ form.List → LeadsNowhere source span n T (item i))
    → ((source : List ℕ) (i : ℕ) → type_of n ≡ form.Tuple → LeadsNowhere source span n T (item i))
    → ((name : List ℕ) → LeadsNowhere source span n T (field name))
    → ((text : List ℕ) → LeadsNowhere source span n T (entry text))
    → ((name : List ℕ) → LeadsNowhere source span n T (case name))
    → ((source : List ℕ) → LeadsNowhere source span n T some)
    → ((source : List ℕ) → LeadsNowhere source span n T ok)
    → ((source : List ℕ) → LeadsNowhere source span n T err)
    → ((source : List ℕ) → LeadsNowhere source span n T alone)
    → (s : Step) → ((text : List ℕ) → s ≢ key text) → LeadsNowhere source span n T s
each_step source span n T items tuples fields entries cases somes oks errs alones (field name) other = fields name
each_step source span n T items tuples fields entries cases somes oks errs alones (case name) other = cases name
each_step source span n T items tuples fields entries cases somes oks errs alones (entry text) other = entries text
each_step source span n T items tuples fields entries cases somes oks errs alones (key text) other = absurd (other text refl)
each_step source span n T items tuples fields entries cases somes oks errs alones (item i) other = λ m U s lies. either (λ l. items source i l.0 m U s lies) (λ t. tuples source i t.0 m U s lies) s.1
each_step source span n T items tuples fields entries cases somes oks errs alones some other = somes source
each_step source span n T items tuples fields entries cases somes oks errs alones ok other = oks source
each_step source span n T items tuples fields entries cases somes oks errs alones err other = errs source
each_step source span n T items tuples fields entries cases somes oks errs alones alone other = alones source

-- the node itself as a payload
pub alone_taken : (source : List ℕ) (span : Range ℕ) (n : NodeTree) (T : TypeTree) (old new : List ℕ) (m : NodeTree) (U : TypeTree) → m ≡ n → LiesInNode n span → StandsAlone n → HoldsAlone T U → new ≡ old → IsTaken source span n T old new m U
alone_taken source span n T old new m U is lies stands holds same = record {
  step = alone;
  steps = (is, stands, holds);
  holds = subst (λ x. LiesInNode x span) (sym is) lies;
  text_is = same ∙ sym (append-nil old);
}

-- the same place and node
pub moved : (source : List ℕ) (p q : Range ℕ) (n k : NodeTree) (T : TypeTree) (steps : List Step) (m : NodeTree) (U : TypeTree) → p ≡ q → n ≡ k → IsPartAt source p n T steps m U → IsPartAt source q k T steps m U
moved source p q n k T steps m U same_place same_node part =
    subst (λ x. IsPartAt source x k T steps m U) same_place (subst (λ x. IsPartAt source p x T steps m U) same_node part)
