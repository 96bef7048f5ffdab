use Rattle.std.proofs.Common.{◌++◌, ◌∙◌, refl, sym, ap, subst, string_bytes}
use Rattle.std.specs.Prelude.{if◌then◌else◌}
use Rattle.wave.specs.Private.ByLines.{Releases}
use Rattle.wave_files.specs.Written.{WritesWhole, WritesLess}
use Rattle.wave.proofs.LinesAnswered.{released_with, released_less, less_more}
use Rattle.wave.proofs.by_lines.hold.Goals as goal

pub returns-then-write_if_needed : goal.returns-then-write_if_needed
returns-then-write_if_needed g c =
    let held = string_bytes c.args.held.now in
    let printed = c.args.printed.now in
    let same = c.push_str.ensures.bytes ∙ ap (λ b. if b then held ++ printed else held) (sym c.is_ok.ensures.value ∙ c.if-is_ok.false) in
    let released = subst (λ z. Releases g.W.Write.contents c.args.output.now c.write_if_needed-2.new.output z (string_bytes c.write_if_needed-2.new.held)) same (c.write_if_needed-2.ensures.whole c.if-write_if_needed.true) in
    let emptied = c.write_if_needed-2.ensures.emptied c.if-write_if_needed.true refl in
    record {
      whole = λ wrote.
          released_with g.W.Write.contents _ _ _ held printed _ released emptied
          (subst (WritesWhole g.W.Write.contents c.write_if_needed-2.new.output c.write_whole.new.output) c.as_bytes.ensures.value (c.write_whole.ensures.whole wrote));
      cut = λ failed.
          released_less g.W.Write.contents _ _ _ held printed _ released emptied
          (subst (WritesLess g.W.Write.contents c.write_if_needed-2.new.output c.write_whole.new.output) c.as_bytes.ensures.value (c.write_whole.ensures.cut failed));
    }

pub returns-else-write_if_needed-clause-cut : goal.returns-else-write_if_needed-clause-cut
returns-else-write_if_needed-clause-cut g c =
    let held = string_bytes c.args.held.now in
    let printed = c.args.printed.now in
    let same = c.push_str.ensures.bytes ∙ ap (λ b. if b then held ++ printed else held) (sym c.is_ok.ensures.value ∙ c.if-is_ok.false) in
    λ failed.
    less_more g.W.Write.contents _ _ held printed (subst (WritesLess g.W.Write.contents c.args.output.now c.write_if_needed-2.new.output) same (c.write_if_needed-2.ensures.cut failed))
