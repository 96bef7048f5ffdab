use Rattle.std.proofs.Common.{◌++◌, [], ap, codes, sym, true}
use Rattle.std.proofs.lemmas.List.{append-nil}
use Rattle.std.proofs.lemmas.Result.{IfErr-weaker, err_from_is_err_and}
use Rattle.wave_writer.proofs.CanonicalText.WrittenParts.{writing_as, writing_none}
use Rattle.wave_writer.proofs.CanonicalText.Gathering.{gathered_refused, writing_gathered}
use Rattle.wave_writer.proofs.room.Gathered.gather_later.Goals as goal

pub returns-in_err-gather-clause-err : goal.returns-in_err-gather-clause-err
returns-in_err-gather-clause-err g c =
    let p = err_from_is_err_and c.from_residual.result c.from_residual.ensures.1 in
    rw (p.1, p.2) ((gathered_refused c.args.self.now (codes ", ") c.args.text.now {all = true} (writing_none _ _) c.in_err-gather.ensures.err).err)

pub returns-clause-err : goal.returns-clause-err
returns-clause-err g c =
    let text = c.args.text.now in
    let gathered = c.gather.new.self in
    let w = writing_gathered text (writing_none (c.args.self.now ++ (codes ", " ++ text)) _) c.in_ok-gather.ensures.ok in
    let all = writing_as (ap (λ z. gathered ++ z) (sym (append-nil text))) w in
    IfErr-weaker c.gather-2.result _ _ (λ e r. (gathered_refused gathered text [] {all = true} all r).err) c.gather-2.ensures.err
