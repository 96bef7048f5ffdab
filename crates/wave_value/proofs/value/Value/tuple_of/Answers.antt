use Rattle.std.proofs.Common.{arith, sym, ap, ◌∙◌, ◌≡◌, length}
use Rattle.wave_type.specs.TypeModel.{tuple_part}
use Rattle.wave_value.proofs.ConstructorAnswers.ListsAndEnums.{is_at, not_at}
use Rattle.wave_value.proofs.ConstructorAnswers.Tuples.{each_fits, tuple_taken, each_more, each_at, tuple_built, count_refused, tuple_refused}
use Rattle.wave_value.proofs.value.Value.tuple_of.Goals as goal

pub returns-then-want-got-clause-refused : goal.returns-then-want-got-clause-refused
returns-then-want-got-clause-refused g c =
    count_refused g.S.ShowsValue.words _ c.in-Some.types.now.items _ _ _ c.in-Some.ensures (c.len-want.ensures ∙ c.in-Some.types.now.ok.0) (c.len-got.ensures ∙ c.args.vals.ok.0) c.if-want-got.true

pub returns-then-not-is_at-clause-refused : goal.returns-then-not-is_at-clause-refused
returns-then-not-is_at-clause-refused g c =
    let same : length c.in-Some.types.now.items ≡ length c.args.vals.items = omega arith in
    tuple_refused g.S.ShowsValue.words _ c.in-Some.types.now.items _ c.loop-i.i c.index-stated.result.now c.index-val.result.now _ c.in-Some.ensures same (omega arith) c.index-stated.ensures c.index-val.ensures (not_at _ _ _ c.if-not-is_at.true c.is_at.ensures) c.wrong_type.ensures

pub loop-i-preserved : goal.loop-i-preserved
loop-i-preserved g c =
    each_more c.in-Some.types.now.items c.args.vals.items c.loop-i.i c.index-stated.result.now c.index-val.result.now (omega arith) (omega arith) c.index-stated.ensures c.index-val.ensures (is_at _ _ _ c.if-not-is_at.false c.is_at.ensures) c.loop-i.invariant

pub invariant_of-result : goal.invariant_of-result
invariant_of-result g c =
    each_fits c.in_ok-clone.field-0 c.in-Some.types.now.items c.args.vals.items (c.in-Some.ensures ∙ ap tuple_part (sym c.in_ok-clone.ensures.cases)) (each_at _ _ c.loop-i.i (omega arith) (omega arith) c.loop-i.invariant)

pub returns-clause-built : goal.returns-clause-built
returns-clause-built g c = tuple_built _ _ _ c.in_ok-clone.ensures.cases (invariant_of-result g c)

pub returns-clause-taken : goal.returns-clause-taken
returns-clause-taken g c =
    tuple_taken _ c.in-Some.types.now.items _ c.in-Some.ensures (each_at _ _ c.loop-i.i (omega arith) (omega arith) c.loop-i.invariant)
