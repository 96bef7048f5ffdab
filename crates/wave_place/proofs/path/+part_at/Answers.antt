use Rattle.std.proofs.Common.{arith, ◌∙◌}
use Rattle.wave_place.proofs.Steps.{step_smaller, farther, no_farther, neither, key_found, ok_so}
use Rattle.wave_place.proofs.path.+part_at.Goals as goal

pub part_at-requires : goal.part_at-requires
part_at-requires g t c κs within =
    let taken = rw c.in-Some.is at c.in_ok-child.ensures.taken in
    let value = rw c.in-Some.is at c.in_ok-child.ensures.value in
    (omega (arith, step_smaller c.args.source.now taken.step c.args.node.now (g.T.WasmType.tree c.args.ty.now) c.in-Some.child.now (g.T.WasmType.tree c.in-Some.child_type.now) taken.steps), (within, value))

pub returns-in-Some : goal.returns-in-Some
returns-in-Some g t c =
    let taken = rw c.in-Some.is at c.in_ok-child.ensures.taken in
    ok_so c.part_at.result (λ p. farther _ _ _ _ _ _ _ _ _ _ _ taken) c.part_at.ensures

pub returns-in-Some-2 : goal.returns-in-Some-2
returns-in-Some-2 g t c =
    let taken = rw c.in-Some-2.is at c.in_ok-key-in-None.ensures.taken in
    let same = rw c.in-None.is at c.in_ok-child.ensures.same in
    key_found _ _ _ _ _ _ _ _ _ same taken

pub returns-in-None-2 : goal.returns-in-None-2
returns-in-None-2 g t c =
    let values = rw c.in-None.is at c.in_ok-child.ensures.none in
    let same = rw c.in-None.is at c.in_ok-child.ensures.same in
    let keys = rw c.in-None-2.is at c.in_ok-key-in-None.ensures.none in
    let again = rw c.in-None-2.is at c.in_ok-key-in-None.ensures.same in
    no_farther _ _ _ _ _ _ (again ∙ same) (neither _ _ _ _ values keys)
