use Rattle.std.proofs.Common.{◌≡◌, ◌+◌, ◌-◌, arith}
use Rattle.std.proofs.lemmas.List.{drop-set}
use Rattle.wave_writer.proofs.CanonicalText.Labels.{keyword_labelled, name_labelled}
use Rattle.wave_writer.proofs.CanonicalText.Rows.{label_utf8}
use Rattle.wave_writer.proofs.rows.put_case.Goals as goal

pub returns-in_err-start-clause-utf8 : goal.returns-in_err-start-clause-utf8
returns-in_err-start-clause-utf8 c = label_utf8 c.args.case.now c.utf8.case

pub returns-then-start-eq0-clause-utf8 : goal.returns-then-start-eq0-clause-utf8
returns-then-start-eq0-clause-utf8 c = label_utf8 c.args.case.now c.utf8.case

pub returns-else-start-eq0-clause-put : goal.returns-else-start-eq0-clause-put
returns-else-start-eq0-clause-put c =
    let start = c.in_ok-start.start in
    let e : start - 1 + 1 ≡ start = omega (arith, c.if-start-eq0.false) in
    rw (drop-set c.put_text.new.room (start - 1) 37 (omega (arith, c.in_ok-start.ensures.within, c.requires, c.put_text.array_long)), e, c.in_ok-start.ensures.put, keyword_labelled _ _ _ c.decode.ensures c.in-Some.is)

pub returns-else-start-eq0-clause-utf8 : goal.returns-else-start-eq0-clause-utf8
returns-else-start-eq0-clause-utf8 c = label_utf8 c.args.case.now c.utf8.case

pub returns-in-None-clause-put : goal.returns-in-None-clause-put
returns-in-None-clause-put c = rw (name_labelled _ _ c.decode.ensures c.in-None.is) c.in_ok-start.ensures.put

pub returns-in-None-clause-utf8 : goal.returns-in-None-clause-utf8
returns-in-None-clause-utf8 c = label_utf8 c.args.case.now c.utf8.case
