-- What the constructors of variants and flags make and refuse.
use Rattle.std.proofs.Common.{ℕ, zero, suc, ◌≡◌, ◌≢◌, ◌<◌, true, false, List, [], ◌∷◌, length, get_or, refl, sym, ap, subst, ◌∙◌, arith, inl, inr, Option, Some, None}
use Rattle.std.specs.List.{position}
use Rattle.std.specs.Str.{bytes_eq}
use Rattle.std.proofs.lemmas.Bool.{false≢true}
use Rattle.std.proofs.lemmas.List.Quantifiers.{position-Some}
use Rattle.std.proofs.lemmas.Slice.Eq.{bytes_eq-Decides}
use Rattle.wave_wasm.specs.Lists.{AllOf}
use Rattle.wave_wasm.specs.Names.{IsNoneOf}
use Rattle.wave_wasm.specs.Types as type
use Rattle.wave_wasm.specs.Types.{TypeTree, kind_of, variant_parts}
use Rattle.wave_wasm.specs.Values as value
use Rattle.wave_wasm.specs.Values.{Value, maybe_value}
use Rattle.wave_wasm.specs.HasType.{HasType}
use Rattle.wave_wasm.specs.declared.wasm.WasmTypeKind.TheVariants as kinds
use Rattle.wave_wasm.specs.declared.wasm.WasmValueError.{WasmValueError}
use Rattle.wave_wasm.specs.declared.wasm.WasmValueError.TheVariants as error
use Rattle.wave_value.specs.TypedValue.{TypedValue}
use Rattle.wave_value.specs.ValueModel.{name_at, first_names, payload_tree}
use Rattle.wave_value.specs.Private.ValueModel.{PayloadAt, CaseAt, VariantFits}
use Rattle.wave_value.specs.ConstructorRules.{Built, PayloadOwn, RefusesPayload}
use Rattle.wave_value.specs.Private.ConstructorRules.{SaysCase}
use Rattle.wave_value.specs.CaseRules.{IsFirstCase, TakesVariant, RefusesVariant}
use Rattle.wave_value.proofs.ConstructorAnswers.ListsAndEnums.{none_found}
use Rattle.wave_value.proofs.ValueModel.ContentMeaning.{variant_value}

-- ---- the first case of a name

-- a case, and none past the end
abbrev pub case_at : List (List ℕ × Option TypeTree) → ℕ → List ℕ × Option TypeTree
case_at cs i = get_or cs i ([], None)

-- the case at this place is the first of this name
abbrev IsAtPlace : List (List ℕ × Option TypeTree) → List ℕ → ℕ → Type 0
IsAtPlace cs name i = (i < length cs) × (bytes_eq name (case_at cs i).0 ≡ true) × ((k : ℕ) → k < i → bytes_eq name (case_at cs k).0 ≡ false)

other_name : (name other : List ℕ) → bytes_eq name other ≡ false → name ≢ other
other_name name other no_match e = false≢true (sym no_match ∙ (bytes_eq-Decides name other).1 e)

first_at : (cs : List (List ℕ × Option TypeTree)) (name : List ℕ) (i : ℕ) → IsAtPlace cs name i → IsFirstCase cs name (case_at cs i).1
first_at [] name i h = absurd (omega (arith, h.0))
first_at (c ∷ cs) name zero h = inl ((bytes_eq-Decides name c.0).0 h.1, refl)
first_at (c ∷ cs) name (suc i) h = inr (other_name name c.0 (h.2 0 (omega arith)), first_at cs name i (omega (arith, h.0), h.1, λ k lt. h.2 (suc k) (omega (arith, lt))))

named_at : (cs : List (List ℕ × Option TypeTree)) (name : List ℕ) (i : ℕ) → i < length cs → bytes_eq name (case_at cs i).0 ≡ true → name_at (first_names cs) i ≡ name
named_at [] name i lt e = absurd (omega (arith, lt))
named_at (c ∷ cs) name zero lt e = sym ((bytes_eq-Decides name c.0).0 e)
named_at (c ∷ cs) name (suc i) lt e = named_at cs name i (omega (arith, lt)) e

fits_at : (cs : List (List ℕ × Option TypeTree)) (name : List ℕ) (i : ℕ) (p : Option TypedValue) → IsAtPlace cs name i → PayloadAt (case_at cs i).1 p → CaseAt cs i p
fits_at [] name i p h at = absurd (omega (arith, h.0))
fits_at (c ∷ cs) name zero p h at = at
fits_at (c ∷ cs) name (suc i) p h at =
    (λ e. other_name name c.0 (h.2 0 (omega arith)) (sym (named_at cs name i (omega (arith, h.0)) h.1) ∙ e), fits_at cs name i p (omega (arith, h.0), h.1, λ k lt. h.2 (suc k) (omega (arith, lt))) at)

place_is : (cs : List (List ℕ × Option TypeTree)) (name : List ℕ) (i : ℕ) → Some i ≡ position (λ c. bytes_eq name c.0) cs → IsAtPlace cs name i
place_is cs name i e = position-Some (λ (c : List ℕ × Option TypeTree). bytes_eq name c.0) cs i ([], None) (sym e)

-- the place that was found is the first case's
pub first_found : (cs : List (List ℕ × Option TypeTree)) (name : List ℕ) (i : ℕ) (c : List ℕ × Option TypeTree) → Some i ≡ position (λ c. bytes_eq name c.0) cs → c ≡ case_at cs i → IsFirstCase cs name c.1
first_found cs name i c e is = subst (λ (d : List ℕ × Option TypeTree). IsFirstCase cs name d.1) (sym is) (first_at cs name i (place_is cs name i e))

-- a payload as stated fits there
fits : (T : TypeTree) (i : ℕ) (p : Option TypedValue) → CaseAt (variant_parts T) i p → VariantFits T i p
fits (type.variant cs) i p h = h
fits _ i p h = absurd h

pub variant_fits : (T own : TypeTree) (name : List ℕ) (i : ℕ) (c : List ℕ × Option TypeTree) (p q : Option TypedValue) → own ≡ T → Some i ≡ position (λ c. bytes_eq name c.0) (variant_parts T) → c ≡ case_at (variant_parts T) i → p ≡ q → PayloadAt c.1 q → VariantFits own i p
variant_fits T own name i c p q same e is given at =
    let here : PayloadAt (case_at (variant_parts T) i).1 q = subst (λ (d : List ℕ × Option TypeTree). PayloadAt d.1 q) is at in
    subst (λ U. VariantFits U i p) (sym same) (subst (λ (z : Option TypedValue). VariantFits T i z) (sym given) (fits T i q (fits_at (variant_parts T) name i q (place_is (variant_parts T) name i e) here)))

-- what was made is what was asked for
pub variant_built : (T own : TypeTree) (name : List ℕ) (i : ℕ) (p q : Option TypedValue) → own ≡ T → Some i ≡ position (λ c. bytes_eq name c.0) (variant_parts T) → p ≡ q → VariantFits own i p
    → Built (value.variant name (maybe_value (payload_tree q))) T (record { own = own; tree = value.variant (name_at (first_names (variant_parts own)) i) (maybe_value (payload_tree p)) })
variant_built T own name i p q same e given h =
    let at = place_is (variant_parts T) name i e in
    let called : name_at (first_names (variant_parts own)) i ≡ name = ap (λ U. name_at (first_names (variant_parts U)) i) same ∙ named_at (variant_parts T) name i at.0 at.1 in
    let means : value.variant (name_at (first_names (variant_parts own)) i) (maybe_value (payload_tree p)) ≡ value.variant name (maybe_value (payload_tree q)) =
    λ j. value.variant (called j) (maybe_value (payload_tree (given j))) in
    record { own = same; tree = means; fits = subst (λ U. HasType U (value.variant name (maybe_value (payload_tree q)))) same (subst (HasType own) means (variant_value own i p h)) }

pub own_payload : (P : Option TypeTree) (p : Option TypedValue) → PayloadAt P p → PayloadOwn P p
own_payload None None at = tt
own_payload None (Some v) at = absurd at
own_payload (Some T) None at = absurd at
own_payload (Some T) (Some v) at = at.own

pub variant_taken : (T : TypeTree) (name : List ℕ) (i : ℕ) (c : List ℕ × Option TypeTree) (p : Option TypedValue) → Some i ≡ position (λ c. bytes_eq name c.0) (variant_parts T) → c ≡ case_at (variant_parts T) i → PayloadAt c.1 p → TakesVariant T name p
variant_taken T name i c p e is at = (c.1, first_found (variant_parts T) name i c e is, own_payload c.1 p at)

-- the first case of the name doesn't take the payload
pub payload_refused : (words : TypedValue → List ℕ) (T : TypeTree) (name : List ℕ) (i : ℕ) (c : List ℕ × Option TypeTree) (p : Option TypedValue) (e : WasmValueError) → kinds.Variant ≡ kind_of T → Some i ≡ position (λ c. bytes_eq name c.0) (variant_parts T) → c ≡ case_at (variant_parts T) i → RefusesPayload words name c.1 p e → RefusesVariant words T name p e
payload_refused words T name i c p (error.MissingPayload n) kind e is refuses = (sym kind, c.1, first_found (variant_parts T) name i c e is, refuses)
payload_refused words T name i c p (error.UnexpectedPayload n) kind e is refuses = (sym kind, c.1, first_found (variant_parts T) name i c e is, refuses)
payload_refused words T name i c p (error.WrongValueType t v) kind e is refuses = (sym kind, c.1, first_found (variant_parts T) name i c e is, refuses)
payload_refused words T name i c p (error.Memory r) kind e is refuses = tt
payload_refused words T name i c p _ kind e is refuses = absurd refuses

-- ---- a name that isn't found

no_name : (cs : List (List ℕ × Option TypeTree)) (name : List ℕ) → AllOf (λ c. bytes_eq name c.0 ≡ false) cs → IsNoneOf (first_names cs) name
no_name [] name h = tt
no_name (c ∷ cs) name h = (other_name name c.0 h.0, no_name cs name h.1)

-- no case has the name
pub unknown : (words : TypedValue → List ℕ) (T : TypeTree) (name : List ℕ) (p : Option TypedValue) (e : WasmValueError) → kinds.Variant ≡ kind_of T → None ≡ position (λ c. bytes_eq name c.0) (variant_parts T) → SaysCase name e → RefusesVariant words T name p e
unknown words T name p (error.UnknownCase n) kind e says = (sym kind, says, no_name (variant_parts T) name (none_found (λ (c : List ℕ × Option TypeTree). bytes_eq name c.0) (variant_parts T) e))
unknown words T name p (error.Memory r) kind e says = tt
unknown words T name p _ kind e says = absurd says
