-- Types made of parts that are trees of `Type`.
use Rattle.std.proofs.Common.{◌≡◌, ℕ, Bool, true, false, ◌==◌, List, [], ◌∷◌, ◌++◌, map, length, String, string_bytes, Option, refl, sym, ap, ◌∙◌, Bor}
use Rattle.std.proofs.lemmas.Bool.{false≢true}
use Rattle.std.proofs.lemmas.List.{map-append}
use Rattle.std.specs.Cmp.Derive.{both_true}
use Rattle.std.specs.declared.alloc.Global.{Global}
use Rattle.wave_wasm.specs.Lists.{AllOf}
use Rattle.wave_wasm.specs.Borrowed.{named}
use Rattle.wave_wasm.specs.Types.{TypeTree, types_of, fields_of, cases_of, maybe_type, IsRepresentable, every_type, every_field, every_case, every_maybe, can_be_built, record_type, tuple, variant}
use Rattle.wave_type.specs.TypeModel.{by_bytes}

-- the payload's type, where there is one, is a tree of `Type`
abbrev pub IsRepresentablePayload : Option TypeTree → Type 0
IsRepresentablePayload payload = every_maybe can_be_built (maybe_type payload) ≡ true

types_representable : (Ts : List TypeTree) → AllOf IsRepresentable Ts → every_type can_be_built (types_of Ts) ≡ true
types_representable [] h = refl
types_representable (T ∷ Ts) h = both_true h.0 (types_representable Ts h.1)

fields_representable : (fs : List (String Global × TypeTree)) → AllOf (λ f. IsRepresentable f.1) fs → every_field can_be_built (fields_of (map by_bytes fs)) ≡ true
fields_representable [] h = refl
fields_representable (f ∷ fs) h = both_true h.0 (fields_representable fs h.1)

cases_representable : (cs : List (String Global × Option TypeTree)) → AllOf (λ c. IsRepresentablePayload c.1) cs → every_case can_be_built (cases_of (map by_bytes cs)) ≡ true
cases_representable [] h = refl
cases_representable (c ∷ cs) h = both_true h.0 (cases_representable cs h.1)

-- one more part is kept under the bytes of its name
pub names_pushed : {A : Type 0} (owned more : List (String Global × A)) (given : List (Bor (List ℕ) × A)) (name : String Global) (text : Bor (List ℕ)) (x : A) → map by_bytes owned ≡ named given → string_bytes name ≡ text.now → more ≡ owned ++ ((name, x) ∷ []) → map by_bytes more ≡ named (given ++ ((text, x) ∷ []))
names_pushed owned more given name text x same spelled is =
    ap (map by_bytes) is ∙ (map-append by_bytes owned ((name, x) ∷ []) ∙ ((λ i. same i ++ ((spelled i, x) ∷ [])) ∙ sym (map-append _ given ((text, x) ∷ []))))

-- some fields of types of `Type` make a record of `Type`
pub record_representable : (owned : List (String Global × TypeTree)) (given : List (Bor (List ℕ) × TypeTree)) → map by_bytes owned ≡ named given → (length given ≡ 0 → ⊥) → AllOf (λ f. IsRepresentable f.1) owned → IsRepresentable (record_type (fields_of (map by_bytes owned)))
record_representable [] [] e some h = absurd (some refl)
record_representable [] (g ∷ gs) e some h = absurd (cc)
record_representable (f ∷ fs) given e some h = fields_representable (f ∷ fs) h

-- some cases, likewise
pub variant_representable : (owned : List (String Global × Option TypeTree)) (given : List (Bor (List ℕ) × Option TypeTree)) → map by_bytes owned ≡ named given → (length given ≡ 0 → ⊥) → AllOf (λ c. IsRepresentablePayload c.1) owned → IsRepresentable (variant (cases_of (map by_bytes owned)))
variant_representable [] [] e some h = absurd (some refl)
variant_representable [] (g ∷ gs) e some h = absurd (cc)
variant_representable (f ∷ fs) given e some h = cases_representable (f ∷ fs) h

-- some types, likewise
pub tuple_representable : (Ts : List TypeTree) → (length Ts ≡ 0 → ⊥) → AllOf IsRepresentable Ts → IsRepresentable (tuple (types_of Ts))
tuple_representable [] some h = absurd (some refl)
tuple_representable (T ∷ Ts) some h = types_representable (T ∷ Ts) h

-- a list that was tested isn't empty
pub not_empty : (n m : ℕ) (test : Bool) → test ≡ (n == 0) → test ≡ false → n ≡ m → m ≡ 0 → ⊥
not_empty n m test says refused same none = false≢true (sym refused ∙ (says ∙ ap (λ k. k == 0) (same ∙ none)))
