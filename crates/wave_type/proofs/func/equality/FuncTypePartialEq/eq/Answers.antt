use Rattle.wave_type.proofs.TypeTexts.FunctionParts.{first_tell, second_tell}
use Rattle.wave_type.proofs.func.equality.FuncTypePartialEq.eq.Goals as goal

pub returns-then-eq : goal.returns-then-eq
returns-then-eq c =
    let a = c.self.inside in
    let b = c.other.inside in
    rw (← c.self.view_is) (rw (← c.other.view_is) (second_tell a.params.items b.params.items a.results.items b.results.items _ _ c.eq.ensures c.if-eq.true c.eq-then-eq.ensures))

pub returns-else-eq : goal.returns-else-eq
returns-else-eq c =
    let a = c.self.inside in
    let b = c.other.inside in
    rw (← c.self.view_is) (rw (← c.other.view_is) (first_tell a.params.items b.params.items a.results.items b.results.items _ c.eq.ensures c.if-eq.false))
