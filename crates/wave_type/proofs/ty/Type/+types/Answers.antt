-- Each part of a type is of less depth.
use Rattle.std.proofs.Common.{arith, rules, ap, ℕ, ◌≤◌, ◌<◌, ◌*◌, max}
use Rattle.wave_wasm.specs.Types.{depth}
use Rattle.wave_type.specs.Private.TypeModel.{shape_tree}
use Rattle.wave_type.proofs.TypeTrees.Sizes.{types_most, fields_most, cases_most}
use Rattle.wave_type.proofs.ty.Type.+types.Goals as goal

-- beside what holds no type
beside : {a t : ℕ} (b : ℕ) → a ≤ 2 * b → 2 * b < t → max a 0 < t
beside b p q = omega arith

pub drop-requires-2 : goal.drop-requires-2
drop-requires-2 t c κs =
    (((beside _ (fields_most _) (omega (arith, ap depth c.self.view_is, ap (λ s. depth (shape_tree s)) c.drop-arg-3-1.given.1)), tt), tt), search rules)

pub drop-requires-3 : goal.drop-requires-3
drop-requires-3 t c κs =
    (((beside _ (types_most _) (omega (arith, ap depth c.self.view_is, ap (λ s. depth (shape_tree s)) c.drop-arg-4-1.given.1)), tt), tt), search rules)

pub drop-requires-4 : goal.drop-requires-4
drop-requires-4 t c κs =
    (((beside _ (cases_most _ (λ n. omega arith) (λ n t. omega arith) _) (omega (arith, ap depth c.self.view_is, ap (λ s. depth (shape_tree s)) c.drop-arg-5-1.given.1)), tt), tt), search rules)
