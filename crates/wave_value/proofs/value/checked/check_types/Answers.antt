use Rattle.std.proofs.Common.{arith}
use Rattle.wave_value.proofs.ConstructorAnswers.ListsAndEnums.{is_at, not_at}
use Rattle.wave_value.proofs.TypedParts.RecordsInTurn.{same_count, at_more, other_in_turn}
use Rattle.wave_value.proofs.value.checked.check_types.Goals as goal

pub returns-then-not-is_at-clause-refused : goal.returns-then-not-is_at-clause-refused
returns-then-not-is_at-clause-refused g c =
    other_in_turn g.S.ShowsValue.words c.args.stated.now.items c.args.fields.now.items c.loop-i.i c.index-field.result.now c.index.result.now c.wrong_type.result (omega (arith, c.args.stated.now.ok.0)) (omega (arith, c.args.stated.now.ok.0, same_count c.args.stated.now.items c.args.fields.now.items c.requires)) c.index-field.ensures c.index.ensures c.requires (not_at _ _ _ c.if-not-is_at.true c.is_at.ensures) c.wrong_type.ensures

pub loop-i-preserved : goal.loop-i-preserved
loop-i-preserved g c =
    at_more c.args.stated.now.items c.args.fields.now.items c.loop-i.i c.index-field.result.now c.index.result.now (omega (arith, c.args.stated.now.ok.0)) (omega (arith, c.args.stated.now.ok.0, same_count c.args.stated.now.items c.args.fields.now.items c.requires)) c.index-field.ensures c.index.ensures (is_at _ _ _ c.if-not-is_at.false c.is_at.ensures) c.loop-i.invariant
