use Rattle.std.proofs.Common.{sym, ◌∙◌}
use Rattle.wave_faults.proofs.Walk.Records.{label_missing, label_new, label_repeated}
use Rattle.wave_faults.proofs.records.tell_key.Goals as goal

pub returns-in-Err : goal.returns-in-Err
returns-in-Err c = λ earlier e has token.
    label_missing earlier e c.args.source.now c.args.key.now c.no_label.result c.args.seen.now c.args.told.now.items c.tell_error.new.told.items has token c.in-Err.ensures.0 c.no_label.ensures c.in_ok-tell_error-in-Err.ensures

pub returns-in-None : goal.returns-in-None
returns-in-None c = λ earlier e has token.
    label_new earlier e c.args.source.now c.args.key.now c.in-Ok.name tt c.args.seen.now c.insert.new.self c.args.told.now.items has token c.in-Ok.ensures.0 c.in-Ok.ensures.1 (sym c.in-None.is ∙ c.in_ok-insert.ensures.old) c.in_ok-insert.ensures.updates

pub returns-in_ok-tell_error-in-Some : goal.returns-in_ok-tell_error-in-Some
returns-in_ok-tell_error-in-Some c = λ earlier e has token.
    label_repeated earlier e c.args.source.now c.args.key.now c.in-Ok.name c.in_ok-repeated-in-Some.field-0 c.in-Some.field-0 tt c.args.seen.now c.insert.new.self c.args.told.now.items c.tell_error-in-Some.new.told.items has token c.in-Ok.ensures.0 c.in-Ok.ensures.1
    (sym c.in-Some.is ∙ c.in_ok-insert.ensures.old) c.in_ok-insert.ensures.updates c.in_ok-repeated-in-Some.ensures c.in_ok-tell_error-in-Some.ensures
