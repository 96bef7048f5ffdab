-- What the constructors of values with parts make and refuse.
use Rattle.std.proofs.Common.{ℕ, suc, ◌≡◌, ◌<◌, ◌≤◌, ◌+◌, Bool, true, false, List, [], ◌∷◌, map, length, get_or, refl, sym, ap, subst, ◌∙◌, arith, inl, inr, Some, None, cond, nat_lt}
use Rattle.std.proofs.lemmas.Bool.Decides.{nat_tests}
use Rattle.std.specs.List.{position, position_or_len}
use Rattle.std.specs.Prelude.{not, string_bytes}
use Rattle.std.specs.Str.{bytes_eq}
use Rattle.std.proofs.lemmas.Bool.{false≢true}
use Rattle.std.proofs.lemmas.Option.{same_Some, none-some}
use Rattle.std.proofs.lemmas.List.Quantifiers.{position-Some}
use Rattle.std.proofs.lemmas.Slice.Eq.{bytes_eq-Decides}
use Rattle.wave_wasm.specs.Lists.{AllOf, SomeOf}
use Rattle.wave_wasm.specs.Names.{IsOneOf}
use Rattle.wave_wasm.specs.Types as type
use Rattle.wave_wasm.specs.Types.{TypeTree, list_part, option_part, kind_of, enum_names}
use Rattle.wave_wasm.specs.Values as value
use Rattle.wave_wasm.specs.Values.{Value}
use Rattle.wave_wasm.specs.HasType.{HasType}
use Rattle.wave_wasm.specs.ConstructorContracts.{IsOfListKind, list_value}
use Rattle.wave_wasm.specs.declared.wasm.WasmTypeKind.{WasmTypeKind}
use Rattle.wave_wasm.specs.declared.wasm.WasmTypeKind.TheVariants as kinds
use Rattle.wave_wasm.specs.declared.wasm.WasmValueError.{WasmValueError}
use Rattle.wave_wasm.specs.declared.wasm.WasmValueError.TheVariants as error
use Rattle.wave_type.specs.TypeEquality.{same_tree}
use Rattle.wave_type.specs.TypeEqualityLaws.{one_tree, same_itself}
use Rattle.wave_value.specs.declared.value.Content.{Content}
use Rattle.wave_value.specs.TypedValue.{TypedValue, IsAt}
use Rattle.wave_value.specs.ValueModel.{name_at, trees}
use Rattle.wave_value.specs.Private.ValueModel.{content_tree, AllAt, ListFits, Fits}
use Rattle.wave_value.specs.ConstructorRules.{Built, AllOwn, HasLength, TakesList, TakesEnum, TellsOther, TellsOne, list_stated, RefusesList, RefusesParts, RefusesEnum}
use Rattle.wave_value.specs.Private.ConstructorRules.{Reports, SaysLength, SaysType, SaysCase}
use Rattle.wave_value.proofs.ValueModel.Lists.{some_mapped}
use Rattle.wave_value.proofs.ValueModel.ContentMeaning.{means, list_means, one_of}

-- a test of the own type
pub tells : (b : Bool) (own T : TypeTree) (c : Content) → b ≡ same_tree own T → Fits own c → Reports b T (record { own = own; tree = content_tree own c })
tells true own T c e h =
    let same : own ≡ T = one_tree own T (sym e) in
    record { own = same; fits = subst (λ U. HasType U (content_tree own c)) same (means own c h) }
tells false own T c e h = λ same. absurd (false≢true (e ∙ subst (λ U. same_tree own U ≡ true) same (same_itself own)))

pub is_at : (b : Bool) (T : TypeTree) (v : TypedValue) → b ≡ true → Reports b T v → IsAt T v
is_at b T v e h = subst (λ b. Reports b T v) e h

pub not_at : (b : Bool) (T : TypeTree) (v : TypedValue) → b ≡ false → Reports b T v → v.own ≡ T → ⊥
not_at b T v e h = subst (λ b. Reports b T v) e h

-- ---- a component of another type than the stated one

pub some_so : (P : TypeTree × TypedValue → Type 0) (q : TypeTree × TypedValue) (stated : List (TypeTree × TypedValue)) → SomeOf (λ p. q ≡ p) stated → P q → SomeOf P stated
some_so P q [] one h = absurd one
some_so P q (p ∷ ps) (inl e) h = inl (subst P e h)
some_so P q (p ∷ ps) (inr one) h = inr (some_so P q ps one h)

pub tells_so : (words : TypedValue → List ℕ) (kind : WasmTypeKind) (T : TypeTree) (stated : List (TypeTree × TypedValue)) (U : TypeTree) (v : TypedValue) (e : WasmValueError) → kind_of T ≡ kind → SomeOf (λ p. (U, v) ≡ p) stated → (v.own ≡ U → ⊥) → SaysType words U v e → RefusesParts words kind T stated e
tells_so words kind T stated U v (error.WrongValueType t s) is one other says =
    (is, some_so (λ p. TellsOther words (string_bytes t) (string_bytes s) p.0 p.1) (U, v) stated one (other, says.0, says.1))
tells_so words kind T stated U v (error.Memory r) is one other says = tt
tells_so words kind T stated U v _ is one other says = absurd says

-- ---- lists

pub all_own : (E : TypeTree) (vs : List TypedValue) → AllAt E vs → AllOwn E vs
all_own E [] h = tt
all_own E (v ∷ vs) h = (h.0.own, all_own E vs h.1)

-- items of the element type, as many as the type says
pub list_fits : (T E : TypeTree) (vs : List TypedValue) → Some E ≡ list_part T → HasLength T vs → AllAt E vs → ListFits T vs
list_fits (type.list F) E vs is counted h = subst (λ U. AllAt U vs) (same_Some E F is) h
list_fits (type.fixed F n) E vs is counted h = (counted, subst (λ U. AllAt U vs) (same_Some E F is) h)
list_fits _ E vs is counted h = absurd (cc)

pub list_taken : (T : TypeTree) (vs : List TypedValue) → ListFits T vs → TakesList T vs
list_taken (type.list E) vs h = all_own E vs h
list_taken (type.fixed E n) vs h = (h.0, all_own E vs h.1)
list_taken _ vs h = absurd h

pub list_built : (T own : TypeTree) (vs : List TypedValue) → own ≡ T → ListFits own vs → Built (list_value T (trees vs)) T (record { own = own; tree = list_value own (trees vs) })
list_built T own vs same h = record {
  own = same;
  tree = ap (λ U. list_value U (trees vs)) same;
  fits = subst (λ U. HasType U (list_value U (trees vs))) same (list_means own vs h);
}

-- another count
pub length_refused : (words : TypedValue → List ℕ) (T : TypeTree) (vs : List TypedValue) (e : WasmValueError) → SaysLength T (length vs) e → RefusesList words T vs e
length_refused words T vs (error.WrongNumberOfElements want got) says = says
length_refused words T vs _ says = absurd says

list_kind : (T E : TypeTree) → Some E ≡ list_part T → IsOfListKind (kind_of T)
list_kind (type.list F) E is = tt
list_kind (type.fixed F n) E is = tt
list_kind _ E is = absurd (cc)

items_stated : (T E : TypeTree) (vs : List TypedValue) → Some E ≡ list_part T → map (λ v. (E, v)) vs ≡ list_stated T vs
items_stated (type.list F) E vs is = ap (λ U. map (λ v. (U, v)) vs) (same_Some E F is)
items_stated (type.fixed F n) E vs is = ap (λ U. map (λ v. (U, v)) vs) (same_Some E F is)
items_stated _ E vs is = absurd (cc)

-- an item of another type
pub list_refused : (words : TypedValue → List ℕ) (T E : TypeTree) (xs vs : List TypedValue) (i : ℕ) (v : TypedValue) (e : WasmValueError) → Some E ≡ list_part T → HasLength T vs → xs ≡ vs → i < length xs → v ≡ get_or xs i v → (v.own ≡ E → ⊥) → SaysType words E v e → RefusesList words T vs e
list_refused words T E xs vs i v (error.WrongValueType t s) is counted same lt at other says =
    let reported : TellsOne words (string_bytes t) (string_bytes s) (map (λ w. (E, w)) xs) =
    some_mapped (λ w. (E, w)) (λ p. TellsOther words (string_bytes t) (string_bytes s) p.0 p.1) xs i v lt at (other, says.0, says.1) in
    (list_kind T E is, counted, subst (TellsOne words (string_bytes t) (string_bytes s)) (ap (map (λ w. (E, w))) same ∙ items_stated T E vs is) reported)
list_refused words T E xs vs i v (error.Memory r) is counted same lt at other says = tt
list_refused words T E xs vs i v _ is counted same lt at other says = absurd says

-- ---- enums

name_there : (n : List ℕ) (ns : List (List ℕ)) (i : ℕ) → Some i ≡ position (λ m. bytes_eq n m) ns → (i < length ns) × (name_at ns i ≡ n)
name_there n ns i e = let p = position-Some (λ m. bytes_eq n m) ns i [] (sym e) in (p.0, sym ((bytes_eq-Decides n (name_at ns i)).0 p.1))

pub enum_taken : (T : TypeTree) (n : List ℕ) (i : ℕ) → Some i ≡ position (λ m. bytes_eq n m) (enum_names T) → TakesEnum T n
enum_taken (type.enum ns) n i e = let p = name_there n ns i e in subst (IsOneOf ns) p.1 (one_of ns i p.0)
enum_taken _ n i e = absurd (omega (arith, (name_there n [] i e).0))

enum_has : (T : TypeTree) (n : List ℕ) → TakesEnum T n → HasType T (value.enum n)
enum_has (type.enum ns) n h = (n, h, refl)
enum_has _ n h = absurd h

pub enum_built : (T own : TypeTree) (n : List ℕ) (i : ℕ) → own ≡ T → Some i ≡ position (λ m. bytes_eq n m) (enum_names T) → Built (value.enum n) T (record { own = own; tree = value.enum (name_at (enum_names own) i) })
enum_built T own n i same e = record {
  own = same;
  tree = ap (λ U. value.enum (name_at (enum_names U) i)) same ∙ ap value.enum (name_there n (enum_names T) i e).1;
  fits = enum_has T n (enum_taken T n i e);
}

no_place : (b : Bool) (k l : ℕ) → nat_lt k l ≡ b → None ≡ cond b (Some k) None → l ≤ k
no_place true k l is e = absurd (none-some k e)
no_place false k l is e = grind (arith, nat_tests)

fails_step : (b : Bool) (k l : ℕ) → suc l ≤ cond (not b) (1 + k) 0 → (b ≡ false) × (l ≤ k)
fails_step true k l le = absurd (omega (arith, le))
fails_step false k l le = (refl, omega (arith, le))

module _ {A : Type 0} (test : A → Bool) where
  fails : (xs : List A) → length xs ≤ position_or_len test xs → AllOf (λ x. test x ≡ false) xs
  fails [] le = tt
  fails (x ∷ xs) le = let p = fails_step (test x) (position_or_len test xs) (length xs) le in (p.0, fails xs p.1)

  -- what isn't found passes nowhere
  pub none_found : (xs : List A) → None ≡ position test xs → AllOf (λ x. test x ≡ false) xs
  none_found xs e = fails xs (no_place (nat_lt (position_or_len test xs) (length xs)) (position_or_len test xs) (length xs) refl e)

no_one : (n : List ℕ) (ns : List (List ℕ)) → AllOf (λ m. bytes_eq n m ≡ false) ns → IsOneOf ns n → ⊥
no_one n [] h one = one
no_one n (m ∷ ns) h (inl is) = false≢true (sym h.0 ∙ (bytes_eq-Decides n m).1 is)
no_one n (m ∷ ns) h (inr one) = no_one n ns h.1 one

-- a case of the type has a place
has_place : (T : TypeTree) (n : List ℕ) → None ≡ position (λ m. bytes_eq n m) (enum_names T) → TakesEnum T n → ⊥
has_place (type.enum ns) n e h = no_one n ns (none_found (λ m. bytes_eq n m) ns e) h
has_place _ n e h = absurd h

-- the refusal of an unknown case
pub enum_refused : (T : TypeTree) (n : List ℕ) (e : WasmValueError) → kinds.Enum ≡ kind_of T → None ≡ position (λ m. bytes_eq n m) (enum_names T) → SaysCase n e → RefusesEnum T n e
enum_refused T n (error.UnknownCase m) is none says = (sym is, says, has_place T n none)
enum_refused T n (error.Memory r) is none says = tt
enum_refused T n _ is none says = absurd says
