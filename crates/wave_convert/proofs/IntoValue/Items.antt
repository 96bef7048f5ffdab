-- What the items of a list stand for, one after another.
use Rattle.std.proofs.Common.{◌≡◌, List, [], ◌∷◌, ◌++◌, map, ap, sym, ◌∙◌}
use Rattle.std.proofs.lemmas.List.{map-append}
use Rattle.wave_wasm.specs.Types.{TypeTree}
use Rattle.wave_wasm.specs.Values.{Value}
use Rattle.wave_value.specs.TypedValue.{TypedValue}
use Rattle.wave_value.specs.ConstructorRules.{Built, AllOwn}

-- the values mean these, in their order, and each has the type as its own
abbrev pub AreBuilt : List Value → TypeTree → List TypedValue → Type 0
AreBuilt asked T vs = AllOwn T vs × (map (λ v. v.tree) vs ≡ asked)

own_more : (T : TypeTree) (vs : List TypedValue) (v : TypedValue) → AllOwn T vs → v.own ≡ T → AllOwn T (vs ++ v ∷ [])
own_more T [] v h one = (one, tt)
own_more T (w ∷ vs) v h one = (h.0, own_more T vs v h.1 one)

trees_more : {A : Type 0} (tree : A → Value) (xs : List A) (x : A) (vs : List TypedValue) (v : TypedValue) → map (λ w. w.tree) vs ≡ map tree xs → v.tree ≡ tree x → map (λ w. w.tree) (vs ++ v ∷ []) ≡ map tree (xs ++ x ∷ [])
trees_more tree xs x vs v all one =
    map-append (λ w. w.tree) vs (v ∷ []) ∙ (ap (λ ts. ts ++ v.tree ∷ []) all ∙ (ap (λ t. map tree xs ++ t ∷ []) one ∙ sym (map-append tree xs (x ∷ []))))

-- one more value is made
pub one_more : {A : Type 0} (tree : A → Value) (T : TypeTree) (xs : List A) (x : A) (vs : List TypedValue) (v : TypedValue) → AreBuilt (map tree xs) T vs → Built (tree x) T v → AreBuilt (map tree (xs ++ x ∷ [])) T (vs ++ v ∷ [])
one_more tree T xs x vs v all one = (own_more T vs v all.0 one.own, trees_more tree xs x vs v all.1 one.tree)
