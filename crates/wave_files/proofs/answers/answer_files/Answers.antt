use Rattle.std.proofs.Common.{[], codes, ◌≡◌, ◌<◌, ◌≤◌, ◌+◌, suc, inl, inr, refl, ap, subst, length, arith}
use Rattle.wave_files.specs.Answers.{entry_of}
use Rattle.wave_files.specs.Written.{WritesWhole, WritesLess}
use Rattle.wave_files.proofs.Entries.{AreAnsweredTo, at_start, one_more, cut_short, all_answered}
use Rattle.wave_files.proofs.Outputs.{whole_nothing}
use Rattle.wave_files.proofs.answers.answer_files.Goals as goal

pub loop-place-init : goal.loop-place-init
loop-place-init g c =
    at_start g.F.Folder.holds g.J.Job.answers c.args.job.now g.W.Write.contents g.E.Write.contents c.args.names.now c.args.folder.now c.args.output.now c.args.errors.now c.new-tally.result c.new-tally.ensures

pub returns-then-not-write_whole : goal.returns-then-not-write_whole
returns-then-not-write_whole g c =
    let less : c.loop-place.place < length c.args.names.now = omega (arith, c.loop-place-test.true) in
    let shows = c.write_unless_failed-is_shown in
    cut_short g.F.Folder.holds g.J.Job.answers c.args.job.now g.W.Write.contents g.E.Write.contents c.args.names.now c.args.folder.now c.args.output.now c.args.errors.now
    c.loop-place.folder c.file_answer-answer.new.folder c.loop-place.output c.write_whole.new.output c.loop-place.errors shows.new.output c.loop-place.place c.loop-place.tally c.loop-place.is_shown shows.result c.loop-place.invariant
    c.index-names-place.result (entry_of c.in-Ok.answer) less c.index-names-place.is (inl c.in-Ok.ensures.answer)
    (λ was is. subst (WritesWhole g.E.Write.contents c.loop-place.errors shows.new.output) c.as_str.ensures.value (shows.ensures.whole was is))
    (λ was is. subst (WritesLess g.E.Write.contents c.loop-place.errors shows.new.output) c.as_str.ensures.value (shows.ensures.cut was is))
    shows.ensures.none
    _ (ap (λ t. t.faults) c.with-tally.ensures) (ap (λ t. t.faulty) c.with-tally.ensures) refl
    (subst (WritesLess g.W.Write.contents c.loop-place.output c.write_whole.new.output) c.as_bytes.ensures.value (c.write_whole.ensures.cut c.if-not-write_whole.true))

pub loop-place-preserved-in-Ok : goal.loop-place-preserved-in-Ok
loop-place-preserved-in-Ok g c =
    let less : c.loop-place.place < length c.args.names.now = omega (arith, c.loop-place-test.true) in
    let next : suc c.loop-place.place ≡ c.loop-place.place + 1 = omega arith in
    let shows = c.write_unless_failed-is_shown in
    subst
    (λ n. AreAnsweredTo g.F.Folder.holds g.J.Job.answers c.args.job.now g.W.Write.contents g.E.Write.contents c.args.names.now c.args.folder.now c.args.output.now c.args.errors.now c.file_answer-answer.new.folder c.write_whole.new.output shows.new.output n c.with-tally.result shows.result)
    next
    (one_more g.F.Folder.holds g.J.Job.answers c.args.job.now g.W.Write.contents g.E.Write.contents c.args.names.now c.args.folder.now c.args.output.now c.args.errors.now
    c.loop-place.folder c.file_answer-answer.new.folder c.loop-place.output c.write_whole.new.output c.loop-place.errors shows.new.output c.loop-place.place c.loop-place.tally c.loop-place.is_shown shows.result c.loop-place.invariant
    c.index-names-place.result (entry_of c.in-Ok.answer) less c.index-names-place.is (inl c.in-Ok.ensures.answer)
    (λ was is. subst (WritesWhole g.E.Write.contents c.loop-place.errors shows.new.output) c.as_str.ensures.value (shows.ensures.whole was is))
    (λ was is. subst (WritesLess g.E.Write.contents c.loop-place.errors shows.new.output) c.as_str.ensures.value (shows.ensures.cut was is))
    shows.ensures.none
    c.with-tally.result c.with-tally.ensures
    (subst (WritesWhole g.W.Write.contents c.loop-place.output c.write_whole.new.output) c.as_bytes.ensures.value (c.write_whole.ensures.whole c.if-not-write_whole.false)))

pub loop-place-preserved : goal.loop-place-preserved
loop-place-preserved g c =
    let less : c.loop-place.place < length c.args.names.now = omega (arith, c.loop-place-test.true) in
    let next : suc c.loop-place.place ≡ c.loop-place.place + 1 = omega arith in
    let shows = c.write_unless_failed-is_shown-in-Err in
    subst
    (λ n. AreAnsweredTo g.F.Folder.holds g.J.Job.answers c.args.job.now g.W.Write.contents g.E.Write.contents c.args.names.now c.args.folder.now c.args.output.now c.args.errors.now c.file_answer-answer.new.folder c.loop-place.output shows.new.output n c.with-tally-in-Err.result shows.result)
    next
    (one_more g.F.Folder.holds g.J.Job.answers c.args.job.now g.W.Write.contents g.E.Write.contents c.args.names.now c.args.folder.now c.args.output.now c.args.errors.now
    c.loop-place.folder c.file_answer-answer.new.folder c.loop-place.output c.loop-place.output c.loop-place.errors shows.new.output c.loop-place.place c.loop-place.tally c.loop-place.is_shown shows.result c.loop-place.invariant
    c.index-names-place.result (record { printed = []; shown = codes "out of memory\n"; faults = 0; status = 3 }) less c.index-names-place.is (inr (c.in-Err.ensures.memory, refl))
    shows.ensures.whole shows.ensures.cut shows.ensures.none
    c.with-tally-in-Err.result c.with-tally-in-Err.ensures
    (whole_nothing g.W.Write.contents c.loop-place.output))

pub returns : goal.returns
returns g c =
    let all : length c.args.names.now ≤ c.loop-place.place = omega (arith, c.loop-place-test.false) in
    all_answered g.F.Folder.holds g.J.Job.answers c.args.job.now g.W.Write.contents g.E.Write.contents c.args.names.now c.args.folder.now c.args.output.now c.args.errors.now
    c.loop-place.folder c.loop-place.output c.loop-place.errors c.loop-place.place c.loop-place.tally c.loop-place.is_shown c.loop-place.invariant all
