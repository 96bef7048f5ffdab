-- Each part of a value nests less deep.
use Rattle.std.proofs.Common.{arith, rules, ap, ℕ, ◌≤◌, ◌<◌, ◌*◌, suc, max, List, [], ◌∷◌}
use Rattle.wave_wasm.specs.Values.{depth}
use Rattle.wave_value.specs.TypedValue.{TypedValue}
use Rattle.wave_value.specs.declared.value.Value.TheDeep.{size-Value}
use Rattle.wave_value.proofs.ValueModel.Depths.{values_depth, pairs_depth, content_depth, content_deep}
use Rattle.wave_value.proofs.value.Value.+values.Goals as goal
use denote.Param.Weighed.{most}

below : {a t : ℕ} (b : ℕ) → a ≤ 2 * b → 2 * b < t → a < t
below b p q = omega arith

values_most : (vs : List TypedValue) → most (λ v. size-Value v) vs ≤ 2 * suc (values_depth vs)
values_most [] = omega arith
values_most (v ∷ vs) = omega (arith, values_most vs)

pairs_most : (es : List (TypedValue × TypedValue)) → most (λ e. max (size-Value e.0) (max (size-Value e.1) 0)) es ≤ 2 * suc (pairs_depth es)
pairs_most [] = omega arith
pairs_most (e ∷ es) = omega (arith, pairs_most es)

pub drop-requires : goal.drop-requires
drop-requires t c κs =
    (((below _ (values_most _) (omega (arith, content_deep c.self.inside.own c.self.inside.content c.self.invariant, ap (λ (v : TypedValue). depth v.tree) c.self.view_is, ap (λ s. content_depth s) c.drop-arg-2-1.given.1)), tt), tt), search rules)

pub drop-requires-2 : goal.drop-requires-2
drop-requires-2 t c κs =
    (((below _ (values_most _) (omega (arith, content_deep c.self.inside.own c.self.inside.content c.self.invariant, ap (λ (v : TypedValue). depth v.tree) c.self.view_is, ap (λ s. content_depth s) c.drop-arg-3-1.given.1)), tt), tt), search rules)

pub drop-requires-3 : goal.drop-requires-3
drop-requires-3 t c κs =
    (((below _ (values_most _) (omega (arith, content_deep c.self.inside.own c.self.inside.content c.self.invariant, ap (λ (v : TypedValue). depth v.tree) c.self.view_is, ap (λ s. content_depth s) c.drop-arg-4-1.given.1)), tt), tt), search rules)

pub drop-requires-9 : goal.drop-requires-9
drop-requires-9 t c κs =
    (((below _ (pairs_most _) (omega (arith, content_deep c.self.inside.own c.self.inside.content c.self.invariant, ap (λ (v : TypedValue). depth v.tree) c.self.view_is, ap (λ s. content_depth s) c.drop-arg-10-1.given.1)), tt), tt), search rules)
