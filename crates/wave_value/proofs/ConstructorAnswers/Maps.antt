-- What the constructor of maps makes and refuses.
use Rattle.std.proofs.Common.{ℕ, zero, suc, ◌≡◌, ◌<◌, List, [], ◌∷◌, length, get_or, refl, sym, ap, subst, ◌∙◌, arith, inl, inr, Some}
use Rattle.std.proofs.lemmas.Option.{same_Some}
use Rattle.wave_wasm.specs.Lists.{SomeOf}
use Rattle.wave_wasm.specs.Types as type
use Rattle.wave_wasm.specs.Types.{TypeTree, Simple, kind_of, map_parts}
use Rattle.wave_wasm.specs.Values as value
use Rattle.wave_wasm.specs.Values.{entries}
use Rattle.wave_wasm.specs.ConstructorContracts.{leaf_entries}
use Rattle.wave_wasm.specs.declared.wasm.WasmTypeKind.TheVariants as kinds
use Rattle.wave_wasm.specs.declared.wasm.WasmValueError.{WasmValueError}
use Rattle.wave_value.specs.TypedValue.{TypedValue}
use Rattle.wave_value.specs.Private.ValueModel.{entry_trees, EntriesAt, MapFits}
use Rattle.wave_value.specs.ConstructorRules.{RefusesParts}
use Rattle.wave_value.specs.Private.ConstructorRules.{SaysType}
use Rattle.wave_value.specs.CaseRules.{BuiltMap, EntriesOwn, TakesMap, entries_stated, map_stated}
use Rattle.wave_value.proofs.ConstructorAnswers.ListsAndEnums.{tells_so}
use Rattle.wave_value.proofs.ValueModel.ContentMeaning.{map_value}
use Rattle.wave_value.proofs.ValueModel.Lists.{map_back, entry_list-entries}

-- a type with a key type and a value type is a map's
map_is : (T A B : TypeTree) → Some (A, B) ≡ map_parts T → (K : Simple) × (A ≡ type.simple K) × (T ≡ type.map K B)
map_is (type.map K V) A B e =
    let same : ◌≡◌ {A = TypeTree × TypeTree} (A, B) (type.simple K, V) = same_Some _ _ e in
    (K, ap (λ (p : TypeTree × TypeTree). p.0) same, ap (λ (p : TypeTree × TypeTree). type.map K p.1) (sym same))
map_is _ A B e = absurd (cc)

pub map_fits : (T own A B : TypeTree) (es : List (TypedValue × TypedValue)) → own ≡ T → Some (A, B) ≡ map_parts T → EntriesAt A B es → MapFits own es
map_fits T own A B es same e h =
    let (K, key, is) = map_is T A B e in
    subst (λ U. MapFits U es) (sym (same ∙ is)) (subst (λ Z. EntriesAt Z B es) key h)

pub entries_own : (A B : TypeTree) (es : List (TypedValue × TypedValue)) → EntriesAt A B es → EntriesOwn A B es
entries_own A B [] h = tt
entries_own A B (e ∷ es) h = ((h.0.0.own, h.0.1.own), entries_own A B es h.1)

pub map_taken : (T A B : TypeTree) (es : List (TypedValue × TypedValue)) → Some (A, B) ≡ map_parts T → EntriesAt A B es → TakesMap T es
map_taken T A B es e h =
    let (K, key, is) = map_is T A B e in
    subst (λ U. TakesMap U es) (sym is) (subst (λ Z. EntriesOwn Z B es) key (entries_own A B es h))

-- the map has the entries as they were handed over
pub map_built : (T own A B : TypeTree) (es : List (TypedValue × TypedValue)) → own ≡ T → Some (A, B) ≡ map_parts T → EntriesAt A B es → BuiltMap es T (record { own = own; tree = value.map (entries (entry_trees es)) })
map_built T own A B es same e h =
    let fits = map_fits T T A B es refl e h in
    (entry_trees es, map_back T es fits ∙ ap leaf_entries (entry_list-entries (entry_trees es)), record { own = same; tree = refl; fits = map_value T es fits })

key_stated : (A B : TypeTree) (es : List (TypedValue × TypedValue)) (i : ℕ) (e : TypedValue × TypedValue) → i < length es → e ≡ get_or es i e → SomeOf (λ p. (A, e.0) ≡ p) (entries_stated A B es)
key_stated A B [] i e lt is = absurd (omega (arith, lt))
key_stated A B (d ∷ es) zero e lt is = inl (λ j. (A, (is j).0))
key_stated A B (d ∷ es) (suc i) e lt is = inr (inr (key_stated A B es i e (omega (arith, lt)) is))

value_stated : (A B : TypeTree) (es : List (TypedValue × TypedValue)) (i : ℕ) (e : TypedValue × TypedValue) → i < length es → e ≡ get_or es i e → SomeOf (λ p. (B, e.1) ≡ p) (entries_stated A B es)
value_stated A B [] i e lt is = absurd (omega (arith, lt))
value_stated A B (d ∷ es) zero e lt is = inr (inl (λ j. (B, (is j).1)))
value_stated A B (d ∷ es) (suc i) e lt is = inr (inr (value_stated A B es i e (omega (arith, lt)) is))

refused : (words : TypedValue → List ℕ) (T A B : TypeTree) (es : List (TypedValue × TypedValue)) (U : TypeTree) (v : TypedValue) (r : WasmValueError) → Some (A, B) ≡ map_parts T → SomeOf (λ p. (U, v) ≡ p) (entries_stated A B es) → (v.own ≡ U → ⊥) → SaysType words U v r → RefusesParts words kinds.Map T (map_stated T es) r
refused words T A B es U v r e one other says =
    let (K, key, is) = map_is T A B e in
    let there = subst (λ Z. SomeOf (λ p. (U, v) ≡ p) (entries_stated Z B es)) key one in
    subst (λ X. RefusesParts words kinds.Map X (map_stated X es) r) (sym is) (tells_so words kinds.Map (type.map K B) (entries_stated (type.simple K) B es) U v r refl there other says)

-- a key of another type
pub key_refused : (words : TypedValue → List ℕ) (T A B : TypeTree) (xs es : List (TypedValue × TypedValue)) (i : ℕ) (d : TypedValue × TypedValue) (r : WasmValueError) → Some (A, B) ≡ map_parts T → xs ≡ es → i < length xs → d ≡ get_or xs i d → (d.0.own ≡ A → ⊥) → SaysType words A d.0 r → RefusesParts words kinds.Map T (map_stated T es) r
key_refused words T A B xs es i d r e same lt at other says =
    refused words T A B es A d.0 r e (subst (λ zs. SomeOf (λ p. (A, d.0) ≡ p) (entries_stated A B zs)) same (key_stated A B xs i d lt at)) other says

-- a value of another type
pub value_refused : (words : TypedValue → List ℕ) (T A B : TypeTree) (xs es : List (TypedValue × TypedValue)) (i : ℕ) (d : TypedValue × TypedValue) (r : WasmValueError) → Some (A, B) ≡ map_parts T → xs ≡ es → i < length xs → d ≡ get_or xs i d → (d.1.own ≡ B → ⊥) → SaysType words B d.1 r → RefusesParts words kinds.Map T (map_stated T es) r
value_refused words T A B xs es i d r e same lt at other says =
    refused words T A B es B d.1 r e (subst (λ zs. SomeOf (λ p. (B, d.1) ≡ p) (entries_stated A B zs)) same (value_stated A B xs i d lt at)) other says
