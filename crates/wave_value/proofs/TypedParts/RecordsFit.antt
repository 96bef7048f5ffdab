-- Fields that a record of the type has are at their types, where they stand in its order.
use Rattle.std.proofs.Common.{ℕ, ◌≡◌, ◌↔◌, IsTrue, Bool, true, false, List, [], ◌∷◌, map, refl, sym, ap, subst, ◌∙◌, Option, Some, None, Bor, String, IsPermutation}
use Rattle.std.specs.Bool.{OnTrue}
use Rattle.std.specs.declared.alloc.Global.{Global}
use Rattle.wave_wasm.specs.Lists.{AllOf}
use Rattle.wave_wasm.specs.Names.{AreDistinct}
use Rattle.wave_wasm.specs.Borrowed.{named}
use Rattle.wave_wasm.specs.Types.{TypeTree, HasDistinctNames, fields_of}
use Rattle.wave_wasm.specs.ConstructorContracts.{FieldsAreOf, TypedRecord}
use Rattle.wave_type.specs.TypeModel.{by_bytes, record_part}
use Rattle.wave_type.proofs.TypeTrees.Lists.{field_list-fields_of}
use Rattle.wave_value.specs.TypedValue.{TypedValue, IsAt}
use Rattle.wave_value.specs.ValueModel.{first_names}
use Rattle.wave_value.specs.Private.ValueModel.{FieldsAt}
use Rattle.wave_value.specs.Private.RecordConstructor.{InOrder, IsInTurn}
use Rattle.wave_value.specs.RecordConstructor.{last_under}
use Rattle.wave_value.proofs.Lawful.Records.{all_moved, each_last, names_of_parts}
use Rattle.wave_value.proofs.ConstructorAnswers.Records.{record_is, parts_of}
use Rattle.wave_value.proofs.TypedParts.RecordsInTurn.{are_in_order}

-- there is a value, which is at the type
abbrev HasAt : TypeTree → Option TypedValue → Type 0
HasAt T None = ⊥
HasAt T (Some v) = IsAt T v

-- the last value under each field's name is at the field's type
under_at : (under : List ℕ → Option TypedValue) (fs : List (List ℕ × TypeTree)) (ordered : List (Bor (List ℕ) × TypedValue)) → AllOf (λ f. under f.0.now ≡ Some f.1) ordered → FieldsAreOf (λ v T. IsAt T v) fs ordered → AllOf (λ f. HasAt f.1 (under f.0)) fs
under_at under [] ordered last h = tt
under_at under (f ∷ fs) [] last h = absurd h
under_at under (f ∷ fs) (g ∷ gs) last h = (subst (HasAt f.1) (sym (ap under (sym h.0) ∙ last.0)) h.1, under_at under fs gs last.1 h.2)

-- so the values are, which stand under the fields' names in turn
in_turn : (under : List ℕ → Option TypedValue) (fs : List (List ℕ × TypeTree)) (given : List (Bor (List ℕ) × TypedValue)) → first_names (named given) ≡ first_names fs → AllOf (λ f. under f.0.now ≡ Some f.1) given → AllOf (λ f. HasAt f.1 (under f.0)) fs → FieldsAt fs (map (λ f. f.1) given)
in_turn under [] [] same last h = tt
in_turn under [] (g ∷ gs) same last h = absurd (cc)
in_turn under (f ∷ fs) [] same last h = absurd (cc)
in_turn under (f ∷ fs) (g ∷ gs) same last h =
    let heads : g.0.now ≡ f.0 = cc (same) in
    let tails : first_names (named gs) ≡ first_names fs = cc (same) in
    (subst (HasAt f.1) (ap under (sym heads) ∙ last.0) h.0, in_turn under fs gs tails last.1 h.1)

fields_at : (fs : List (List ℕ × TypeTree)) (given ordered : List (Bor (List ℕ) × TypedValue)) → first_names (named given) ≡ first_names fs → AreDistinct (first_names (named given)) → IsPermutation given ordered → FieldsAreOf (λ v T. IsAt T v) fs ordered → FieldsAt fs (map (λ f. f.1) given)
fields_at fs given ordered same distinct moved h =
    let under : List ℕ → Option TypedValue = last_under (named given) in
    let last = each_last given distinct in
    in_turn under fs given same last (under_at under fs ordered (all_moved (λ f. under f.0.now ≡ Some f.1) given ordered moved last) h)

-- fields in turn are in the type's order, where those of a type with distinct names are the type's
pub typed_in_order : (T : TypeTree) (xs : List (String Global × TypeTree)) (given : List (Bor (List ℕ) × TypedValue)) (vs : List TypedValue) (b : Bool) → Some (fields_of (map by_bytes xs)) ≡ record_part T → b ≡ true → OnTrue b (IsInTurn (map by_bytes xs) (named given)) → OnTrue b (HasDistinctNames T)
    → (HasDistinctNames T → TypedRecord (λ v T. IsAt T v) T given) → vs ≡ map (λ f. f.1) given → InOrder (map by_bytes xs) (last_under (named given)) vs
typed_in_order T xs given vs b is stands turned apart known all =
    let turn : IsInTurn (map by_bytes xs) (named given) = subst (λ b. OnTrue b (IsInTurn (map by_bytes xs) (named given))) stands turned in
    let parts : List (List ℕ × TypeTree) = map by_bytes xs in
    let (distinct, ordered, moved, typed) = subst (λ U. TypedRecord (λ v T. IsAt T v) U given) (sym (record_is T parts is)) (known (subst (λ b. OnTrue b (HasDistinctNames T)) stands apart)) in
    let at : FieldsAreOf (λ v T. IsAt T v) parts ordered = subst (λ ps. FieldsAreOf (λ v T. IsAt T v) ps ordered) (field_list-fields_of parts) typed in
    are_in_order xs given vs turn (fields_at parts given ordered turn.same (subst AreDistinct (sym turn.same) turn.distinct) moved at) all

-- a record type with distinct names has distinct fields
pub fields_in_turn : {V : Type 0} (T : TypeTree) (xs : List (String Global × TypeTree)) (given : List (Bor (List ℕ) × V)) (a b : Bool) → Some (fields_of (map by_bytes xs)) ≡ record_part T → a ≡ true → OnTrue a (first_names (named given) ≡ first_names (map by_bytes xs)) → IsTrue b ↔ HasDistinctNames T → OnTrue b (IsInTurn (map by_bytes xs) (named given))
fields_in_turn T xs given a true is have same says = record {
  same = subst (λ b. OnTrue b (first_names (named given) ≡ first_names (map by_bytes xs))) have same;
  distinct = subst (λ fs. AreDistinct (first_names fs)) (sym (parts_of T (map by_bytes xs) is)) (names_of_parts T (says.0 refl));
}
fields_in_turn T xs given a false is have same says = tt
