use Rattle.std.proofs.Common.{◌∙◌, [], Err, refl, sym, ap, subst}
use Rattle.wave.specs.ByLines.{IsPlaceShown}
use Rattle.wave.specs.Options.{unless_quiet}
use Rattle.wave_files.specs.Written.{WritesWhole, WritesLess}
use Rattle.wave.proofs.LinesAnswered.{shows_nothing, shows_last, unwritten, unreported, all_reported}
use Rattle.wave.proofs.by_lines.fail_at.Goals as goal

pub returns-then-not-write_whole : goal.returns-then-not-write_whole
returns-then-not-write_whole g c = (
  [],
  unwritten g.W.Write.contents c.args.is_quiet _ _ _ _ _ c.at.result (subst (WritesLess g.W.Write.contents c.args.output.now c.write_whole.new.output) c.as_bytes.ensures.value (c.write_whole.ensures.cut c.if-not-write_whole.true)) c.at.ensures.status c.at.ensures.shown,
  shows_nothing g.E.Write.contents c.args.errors.now c.args.is_shown,
)

pub returns-then-not-write_whole-2 : goal.returns-then-not-write_whole-2
returns-then-not-write_whole-2 g c = (
  [],
  unreported g.W.Write.contents c.args.is_quiet _ _ _ _ _ _ c.at-then-not-write_whole-2.result (subst (WritesWhole g.W.Write.contents c.args.output.now c.write_whole.new.output) c.as_bytes.ensures.value (c.write_whole.ensures.whole c.if-not-write_whole.false))
      (subst (WritesLess g.W.Write.contents c.write_whole.new.output c.write_whole-2.new.output) (c.as_bytes-2.ensures.value ∙ (c.unless_quiet.ensures ∙ ap (unless_quiet c.args.is_quiet) c.fault_line.ensures)) (c.write_whole-2.ensures.cut c.if-not-write_whole-2.true)) c.at-then-not-write_whole-2.ensures.status c.at-then-not-write_whole-2.ensures.shown,
  shows_nothing g.E.Write.contents c.args.errors.now c.args.is_shown,
)

pub returns-in-InputFailed : goal.returns-in-InputFailed
returns-in-InputFailed g c = (
  [],
  all_reported g.W.Write.contents c.args.is_quiet _ _ _ _ _ _ _ _ (subst (WritesWhole g.W.Write.contents c.args.output.now c.write_whole.new.output) c.as_bytes.ensures.value (c.write_whole.ensures.whole c.if-not-write_whole.false))
      (subst (WritesWhole g.W.Write.contents c.write_whole.new.output c.write_whole-2.new.output) (c.as_bytes-2.ensures.value ∙ (c.unless_quiet.ensures ∙ ap (unless_quiet c.args.is_quiet) c.fault_line.ensures)) (c.write_whole-2.ensures.whole c.if-not-write_whole-2.false)) c.at-in-InputFailed.ensures.status
      (subst (λ fault. IsPlaceShown c.args.number fault [] c.at-in-InputFailed.result.shown) (sym c.in-InputFailed.is) (refl, c.at-in-InputFailed.ensures.shown)),
  shows_nothing g.E.Write.contents c.args.errors.now c.args.is_shown,
)

pub returns-in-OutOfMemory : goal.returns-in-OutOfMemory
returns-in-OutOfMemory g c = (
  [],
  all_reported g.W.Write.contents c.args.is_quiet _ _ _ _ _ _ _ _ (subst (WritesWhole g.W.Write.contents c.args.output.now c.write_whole.new.output) c.as_bytes.ensures.value (c.write_whole.ensures.whole c.if-not-write_whole.false))
      (subst (WritesWhole g.W.Write.contents c.write_whole.new.output c.write_whole-2.new.output) (c.as_bytes-2.ensures.value ∙ (c.unless_quiet.ensures ∙ ap (unless_quiet c.args.is_quiet) c.fault_line.ensures)) (c.write_whole-2.ensures.whole c.if-not-write_whole-2.false)) c.at-in-OutOfMemory.ensures.status
      (subst (λ fault. IsPlaceShown c.args.number fault [] c.at-in-OutOfMemory.result.shown) (sym c.in-OutOfMemory.is) (refl, c.at-in-OutOfMemory.ensures.shown)),
  shows_nothing g.E.Write.contents c.args.errors.now c.args.is_shown,
)

pub returns-in-Ok : goal.returns-in-Ok
returns-in-Ok g c = (
  c.as_str.result.now,
  all_reported g.W.Write.contents c.args.is_quiet _ _ _ _ _ _ _ _ (subst (WritesWhole g.W.Write.contents c.args.output.now c.write_whole.new.output) c.as_bytes.ensures.value (c.write_whole.ensures.whole c.if-not-write_whole.false))
      (subst (WritesWhole g.W.Write.contents c.write_whole.new.output c.write_whole-2.new.output) (c.as_bytes-2.ensures.value ∙ (c.unless_quiet.ensures ∙ ap (unless_quiet c.args.is_quiet) c.fault_line.ensures)) (c.write_whole-2.ensures.whole c.if-not-write_whole-2.false)) c.at-in-Ok.ensures.status
      (subst (λ fault. IsPlaceShown c.args.number fault c.as_str.result.now c.at-in-Ok.result.shown) (sym c.in-NotUtf8.is) (rw c.at-in-Ok.ensures.shown (c.as_str.ensures.value ∙ c.in-Ok.ensures.ok))),
  shows_last g.E.Write.contents _ _ _ c.args.is_shown c.show.result c.show.ensures.whole c.show.ensures.cut c.show.ensures.none,
)

pub returns-in-Err : goal.returns-in-Err
returns-in-Err g c = (
  [],
  all_reported g.W.Write.contents c.args.is_quiet _ _ _ _ _ _ _ _ (subst (WritesWhole g.W.Write.contents c.args.output.now c.write_whole.new.output) c.as_bytes.ensures.value (c.write_whole.ensures.whole c.if-not-write_whole.false))
      (subst (WritesWhole g.W.Write.contents c.write_whole.new.output c.write_whole-2.new.output) (c.as_bytes-2.ensures.value ∙ (c.unless_quiet.ensures ∙ ap (unless_quiet c.args.is_quiet) c.fault_line.ensures)) (c.write_whole-2.ensures.whole c.if-not-write_whole-2.false)) refl
      (subst (λ fault. IsPlaceShown c.args.number fault [] (Err c.in-Err.error)) (sym c.in-NotUtf8.is) refl),
  shows_nothing g.E.Write.contents c.args.errors.now c.args.is_shown,
)
