use Rattle.std.proofs.Common.{◌++◌, ◌∷◌, length, take, drop, sym, ap, ap₂, subst, ◌∙◌, rules}
use Rattle.std.proofs.Math.Seq.{drop-length}
use Rattle.wave.specs.Lines.{IsInOneLine}
use Rattle.wave.proofs.lines.Unread.move_line.Goals as goal

pub returns-in_ok-extend_from_slice-in-Some : goal.returns-in_ok-extend_from_slice-in-Some
returns-in_ok-extend_from_slice-in-Some c =
    let (below, one, is) = c.in-Some.ensures in
    let same = ap (take c.in-Some.end) (sym c.bytes-bytes.ensures) in (
      take c.in-Some.end c.bytes-bytes.result.now,
      subst IsInOneLine same one,
      search rules,
      is ∙ ap₂ (λ part rest. part ++ 10 ∷ rest) same (sym c.skip.ensures),
    )

pub returns-in_ok-extend_from_slice-in-None : goal.returns-in_ok-extend_from_slice-in-None
returns-in_ok-extend_from_slice-in-None c =
    let bytes = c.bytes-bytes.result.now in (
      bytes,
      subst IsInOneLine (sym c.bytes-bytes.ensures) c.in-None.ensures,
      search rules,
      (
        sym c.bytes-bytes.ensures,
        c.skip-in-None.ensures ∙ (ap (drop (length bytes)) (sym c.bytes-bytes.ensures) ∙ drop-length bytes),
      ),
    )
