-- A `Bare` means what the laws of values ask.
use Rattle.std.proofs.Common.{◌≡◌, ℕ, length, List, [], ◌∷◌, map, Some, None, refl, sym, ap, subst, ◌∙◌, rules, Vec, Global}
use Rattle.std.proofs.lemmas.List.{length-map}
use Rattle.wave_wasm.specs.Lists.{AllOf}
use Rattle.wave_wasm.specs.Types as type
use Rattle.wave_wasm.specs.Types.{TypeTree, list_part, list_length}
use Rattle.wave_wasm.specs.Values as value
use Rattle.wave_wasm.specs.Values.{Value, values, value_list, list_items, IsWellFormed, AreWellFormed}
use Rattle.wave_wasm.specs.HasType.{HasType}
use Rattle.wave_wasm.specs.ConstructorContracts.{MakesList, list_value}
use Rattle.wave_value.proofs.ValueModel.Lists.{value_list-values}
use Rattle.wave_example_settings.specs.BareTree.{tree, one_level}
use Rattle.wave_example_settings.specs.Refusals.{AreElements}
use Rattle.wave_example_settings.specs.declared.bare.Bare.{Bare, List as list_of, Fixed as fixed_of, the_lemmas}
use Rattle.wave_example_settings.specs.declared.bare.Bare.TheOpen.{Bare-F}
use Rattle.wave_example_settings.specs.declared.bare.Bare.TheViews.{roll-Bare}
use Rattle.wave_example_settings.specs.declared.bare.Bare.TheFolds.{map-Bare, fold-roll-Bare, ind-Bare}

pub tree_list : (v : Vec Bare Global) → tree (list_of v) ≡ value.list (values (map tree v.items))
tree_list v = search (rules, the_lemmas)

pub tree_fixed : (v : Vec Bare Global) → tree (fixed_of v) ≡ value.fixed (values (map tree v.items))
tree_fixed v = search (rules, the_lemmas)

-- the items of a list and of a fixed-length list
pub items_listed : (v : Vec Bare Global) → list_items (tree (list_of v)) ≡ map tree v.items
items_listed v = ap list_items (tree_list v) ∙ value_list-values (map tree v.items)

pub items_fixed : (v : Vec Bare Global) → list_items (tree (fixed_of v)) ≡ map tree v.items
items_fixed v = ap list_items (tree_fixed v) ∙ value_list-values (map tree v.items)

-- ---- well-formed trees

abbrev IsFormed : Bare → Type 0
IsFormed b = IsWellFormed (tree b)

items_formed : (bs : List ((b : Bare) × IsFormed b)) → AreWellFormed (values (map tree (map (λ e. e.0) bs)))
items_formed [] = tt
items_formed (b ∷ bs) = (b.1, items_formed bs)

-- a value of formed items is formed
level_formed : (y : Bare-F ((b : Bare) × IsFormed b)) → IsFormed (roll-Bare (map-Bare ((b : Bare) × IsFormed b) Bare (λ e. e.0) y))
level_formed (Bare-F.List items) = subst IsWellFormed (sym (fold-roll-Bare Value one_level _)) (items_formed items.items)
level_formed (Bare-F.Fixed items) = subst IsWellFormed (sym (fold-roll-Bare Value one_level _)) (items_formed items.items)
level_formed Bare-F.Unsupported = subst IsWellFormed (sym (fold-roll-Bare Value one_level _)) tt

pub formed : (b : Bare) → IsFormed b
formed = ind-Bare IsFormed (λ x y is. subst (λ z. IsFormed (roll-Bare z)) is (level_formed y))

-- ---- lists at a type

-- the trees of items that are values at a type
pub trees_at : (E : TypeTree) (bs : List Bare) → AllOf (λ b. HasType E (tree b)) bs → AllOf (HasType E) (map tree bs)
trees_at E [] h = tt
trees_at E (b ∷ bs) h = (h.0, trees_at E bs h.1)

-- elements of a type without a length are a list at it, and the list that it asks for
pub list_at : (T : TypeTree) (vs : List Value) → None ≡ list_length T → AreElements T vs → HasType T (value.list (values vs)) × (value.list (values vs) ≡ list_value T vs)
list_at (type.list D) vs none (E, e, h) = let same : E ≡ D = cc e in ((vs, subst (λ F. AllOf (HasType F) vs) same h, refl), refl)
list_at (type.fixed D n) vs none h = absurd (cc none)
list_at _ vs none (E, e, h) = absurd (cc e)

-- as many elements as a type asks for are a fixed-length list at it, and the list that it asks for
pub fixed_at : (T : TypeTree) (vs : List Value) (n : ℕ) → Some n ≡ list_length T → length vs ≡ n → AreElements T vs → HasType T (value.fixed (values vs)) × (value.fixed (values vs) ≡ list_value T vs)
fixed_at (type.fixed D m) vs n some count (E, e, h) = let same : E ≡ D = cc e in let as_many : n ≡ m = cc some in ((vs, subst (λ F. AllOf (HasType F) vs) same h, count ∙ as_many, refl), refl)
fixed_at _ vs n some count h = absurd (cc some)

pub is_list_at : (T : TypeTree) (v : Vec Bare Global) → None ≡ list_length T → AreElements T (map tree v.items) → HasType T (tree (list_of v))
is_list_at T v none h = subst (HasType T) (sym (tree_list v)) (list_at T _ none h).0

pub is_fixed_at : (T : TypeTree) (v : Vec Bare Global) (n : ℕ) → Some n ≡ list_length T → length v.items ≡ n → AreElements T (map tree v.items) → HasType T (tree (fixed_of v))
is_fixed_at T v n some count h = subst (HasType T) (sym (tree_fixed v)) (fixed_at T _ n some (length-map v.items tree ∙ count) h).0

-- what `make_list` makes
pub makes_list : (T : TypeTree) (v : Vec Bare Global) → None ≡ list_length T → AreElements T (map tree v.items) → MakesList tree (λ b U. HasType U (tree b)) T v.items (list_of v)
makes_list T v none h =
    let at = list_at T _ none h in
    λ distinct. record { means = tree_list v ∙ at.1; fits = subst (HasType T) at.1 at.0; is_of = is_list_at T v none h }

pub makes_fixed : (T : TypeTree) (v : Vec Bare Global) (n : ℕ) → Some n ≡ list_length T → length v.items ≡ n → AreElements T (map tree v.items) → MakesList tree (λ b U. HasType U (tree b)) T v.items (fixed_of v)
makes_fixed T v n some count h =
    let at = fixed_at T _ n some (length-map v.items tree ∙ count) h in
    λ distinct. record { means = tree_fixed v ∙ at.1; fits = subst (HasType T) at.1 at.0; is_of = is_fixed_at T v n some count h }
