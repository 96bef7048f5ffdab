-- The parts of a tuple, one after another.
use Rattle.std.proofs.Common.{◌≡◌, List, [], ◌∷◌, ◌++◌, refl, ap, sym, subst, ◌∙◌}
use Rattle.std.proofs.lemmas.List.{append_assoc}
use Rattle.wave_wasm.specs.Types as type
use Rattle.wave_wasm.specs.Types.{TypeTree, type_list, types_of}
use Rattle.wave_wasm.specs.Values.{Value}
use Rattle.wave_type.proofs.TypeTrees.Lists.{type_list-types_of}
use Rattle.wave_value.specs.TypedValue.{TypedValue}
use Rattle.wave_value.specs.ConstructorRules.{Built, EachOwn, TakesTuple}
use Rattle.wave_convert.specs.Private.TupleParts.{typed_as}

-- what was made is what was asked for, of its type
built_is : (asked : Value) (T : TypeTree) (v : TypedValue) → Built asked T v → v ≡ typed_as T asked
built_is asked T v m =
    subst (λ U. v ≡ typed_as U asked) m.own (subst (λ t. v ≡ typed_as v.own t) m.tree refl)

-- one part more, and then the others
pub parts_more : (asked : Value) (T : TypeTree) (v : TypedValue) (old others : List TypedValue) → Built asked T v → (old ++ v ∷ []) ++ others ≡ old ++ typed_as T asked ∷ others
parts_more asked T v old others m = append_assoc old (v ∷ []) others ∙ ap (λ w. old ++ w ∷ others) (built_is asked T v m)

-- parts of the types at their places are taken, once they stand in an empty list
pub parts_taken : (Ts : List TypeTree) (T : TypeTree) (vs old new : List TypedValue) → T ≡ type.tuple (types_of Ts) → old ≡ [] → new ≡ old ++ vs → EachOwn Ts vs → TakesTuple T new
parts_taken Ts T vs old new is none added h =
    let stated : EachOwn (type_list (types_of Ts)) vs = subst (λ Us. EachOwn Us vs) (sym (type_list-types_of Ts)) h in
    let taken : TakesTuple T vs = subst (λ U. TakesTuple U vs) (sym is) stated in
    subst (λ us. TakesTuple T us) (sym (added ∙ ap (λ us. us ++ vs) none)) taken
