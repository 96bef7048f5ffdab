use Rattle.std.proofs.Common.{◌∙◌, inl, sym, ap, subst}
use Rattle.wave.specs.Private.Answers.{ShowsFault}
use Rattle.wave.specs.Options.{unless_quiet}
use Rattle.wave_files.specs.Written.{WritesWhole}
use Rattle.wave.proofs.Reported.{place_shown_of}
use Rattle.wave.proofs.program.fail.Goals as goal

pub returns-in-NotUtf8-clause-shown : goal.returns-in-NotUtf8-clause-shown
returns-in-NotUtf8-clause-shown g c =
    inl (
      subst (WritesWhole g.W.Write.contents c.args.output.now c.write_whole.new.output) (c.as_bytes.ensures.value ∙ (c.unless_quiet.ensures ∙ ap (unless_quiet c.args.is_quiet) c.fault_line.ensures)) (c.write_whole.ensures.whole c.if-not-write_whole.false),
      place_shown_of g.E.Write.contents _ _ c.format.result c.show.result c.args.fault c.in-NotUtf8.place c.in-NotUtf8.is c.show.ensures c.format.ensures.ok,
    )
