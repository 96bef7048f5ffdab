use Rattle.std.proofs.Common.{◌≡◌, ◌⊎◌, Ok, refl, sym, subst}
use Rattle.wave.specs.Private.Answers.{ShowsText}
use Rattle.wave_files.specs.Written.{WritesWhole, WritesLess}
use Rattle.wave.proofs.Reported.{written}
use Rattle.wave.proofs.program.show.Goals as goal

pub returns-in-Ok : goal.returns-in-Ok
returns-in-Ok g c =
    subst (λ text. ShowsText g.E.Write.contents c.args.errors.now c.write_whole.new.output text (Ok tt)) (sym c.in-Ok.is) (
      subst (λ t. WritesWhole g.E.Write.contents c.args.errors.now c.write_whole.new.output t ⊎ WritesLess g.E.Write.contents c.args.errors.now c.write_whole.new.output t) c.as_bytes.ensures.value
          (written c.write_whole.result c.write_whole.ensures.whole c.write_whole.ensures.cut),
      refl,
    )
