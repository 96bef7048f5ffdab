-- What the views of a value answer is what its constructor takes at the value's own type.
use Rattle.std.proofs.Common.{ℕ, zero, suc, ◌≡◌, List, [], ◌∷◌, Option, refl, inl, inr, subst, sym}
use Rattle.wave_wasm.specs.Types as type
use Rattle.wave_wasm.specs.Types.{TypeTree, variant_parts}
use Rattle.wave_wasm.specs.Values.{list_items}
use Rattle.wave_wasm.specs.ConstructorContracts.{list_value}
use Rattle.wave_value.specs.TypedValue.{TypedValue}
use Rattle.wave_value.specs.ValueModel.{name_at, first_names, trees}
use Rattle.wave_value.specs.Private.ValueModel.{CaseAt, ListFits, TupleFits, VariantFits, MapFits}
use Rattle.wave_value.specs.ConstructorRules.{PayloadOwn, TakesList, TakesTuple}
use Rattle.wave_value.specs.CaseRules.{IsFirstCase, TakesVariant, TakesMap}
use Rattle.wave_value.proofs.ConstructorAnswers.ListsAndEnums.{list_taken}
use Rattle.wave_value.proofs.ValueModel.Lists.{value_list-values}
use Rattle.wave_value.proofs.ConstructorAnswers.Tuples.{each_own}
use Rattle.wave_value.proofs.ConstructorAnswers.Maps.{entries_own}
use Rattle.wave_value.proofs.ConstructorAnswers.VariantsAndFlags.{own_payload}

-- a list's items
pub items_taken : (T : TypeTree) (vs ws : List TypedValue) → ListFits T vs → ws ≡ vs → TakesList T ws
items_taken T vs ws h same = subst (TakesList T) (sym same) (list_taken T vs h)

-- they are the items of the list that they mean
pub items_denoted : (T : TypeTree) (vs : List TypedValue) → trees vs ≡ list_items (list_value T (trees vs))
items_denoted (type.fixed E n) vs = sym (value_list-values (trees vs))
items_denoted _ vs = sym (value_list-values (trees vs))

-- a tuple's items
pub places_taken : (T : TypeTree) (vs ws : List TypedValue) → TupleFits T vs → ws ≡ vs → TakesTuple T ws
places_taken (type.tuple Ts) vs ws h same = subst (λ us. TakesTuple (type.tuple Ts) us) (sym same) (each_own (type.type_list Ts) vs h)
places_taken _ vs ws h same = absurd h

-- a map's entries
pub entries_taken : (T : TypeTree) (es ds : List (TypedValue × TypedValue)) → MapFits T es → ds ≡ es → TakesMap T ds
entries_taken (type.map K V) es ds h same = subst (λ cs. TakesMap (type.map K V) cs) (sym same) (entries_own (type.simple K) V es h)
entries_taken _ es ds h same = absurd h

-- the case at a place, where it is the first of its name
case_taken : (cs : List (List ℕ × Option TypeTree)) (i : ℕ) (p : Option TypedValue) → CaseAt cs i p → (P : Option TypeTree) × IsFirstCase cs (name_at (first_names cs) i) P × PayloadOwn P p
case_taken [] i p h = absurd h
case_taken (c ∷ cs) zero p h = (c.1, inl (refl, refl), own_payload c.1 p h)
case_taken (c ∷ cs) (suc i) p h = let (P, first, own) = case_taken cs i p h.1 in (P, inr (h.0, first), own)

-- a variant's case and payload
pub variant_denoted : (T : TypeTree) (i : ℕ) (p : Option TypedValue) (name : List ℕ) → VariantFits T i p → name ≡ name_at (first_names (variant_parts T)) i → TakesVariant T name p
variant_denoted (type.variant cs) i p name h called = subst (λ n. TakesVariant (type.variant cs) n p) (sym called) (case_taken (type.case_list cs) i p h)
variant_denoted _ i p name h called = absurd h
