use Rattle.std.proofs.Common.{◌≡◌, ◌≢◌, ℕ, ◌≤◌, ◌<◌, List, length, ap, subst, ◌∙◌, arith, get_or}
use Rattle.wave_lex.specs.Private.Lines.{BehindLastFeed}
use Rattle.wave_lex.proofs.MultilineStrings.Lines.{closing_return, closing_plain, behind_return, behind_last}
use Rattle.wave_lex.proofs.strings.closing_piece.Goals as goal
use Rattle.wave_lex.proofs.strings.closing_piece.Goals.{else-start-eq0-via-then-start-eq0+then-bytes-gt0+else-bytes-eq13, else-start-eq0-via-then-start-eq0+else-bytes-gt0, else-start-eq0-via-else-start-eq0}

pub range_from-requires : goal.range_from-requires
range_from-requires c = λ _. behind_return c.args.src.now c.utf8.src
    (subst (λ (z : List ℕ). 0 < length z) c.as_bytes-bytes.ensures.value c.if-bytes-gt0.true)
    (subst (λ (z : List ℕ). get_or z 0 0 ≡ 13) c.as_bytes-bytes.ensures.value c.if-bytes-eq13.true)

pub returns-then-bytes-eq13 : goal.returns-then-bytes-eq13
returns-then-bytes-eq13 c = c.range_from.ensures.value ∙ closing_return c.args.src.now
    (subst (λ (z : ℕ). BehindLastFeed c.args.src.now z) c.if-start-eq0.true c.requires)
    (subst (λ (z : List ℕ). 0 < length z) c.as_bytes-bytes.ensures.value c.if-bytes-gt0.true)
    (subst (λ (z : List ℕ). get_or z 0 0 ≡ 13) c.as_bytes-bytes.ensures.value c.if-bytes-eq13.true)

pub range_from-requires-2 : goal.range_from-requires-2
range_from-requires-2 c = λ _. behind_last c.args.src.now c.args.start c.utf8.src c.requires

pub returns : goal.returns
returns c = c.range_from-2.ensures.value ∙ closing_plain c.args.src.now c.args.start c.requires (λ zero_start some.
    subst (λ (z : List ℕ). get_or z 0 0 ≢ 13) c.as_bytes-bytes.ensures.value (elim c.else-start-eq0.branch [
      | else-start-eq0-via-then-start-eq0+then-bytes-gt0+else-bytes-eq13 w ↦ w.if-bytes-eq13.false
      | else-start-eq0-via-then-start-eq0+else-bytes-gt0 w ↦ (let none : length c.as_bytes-bytes.result.now ≤ 0 = omega arith in
          let same : length c.as_bytes-bytes.result.now ≡ length c.args.src.now = ap length c.as_bytes-bytes.ensures.value in
          let v : 0 < 0 = omega arith in omega arith)
      | else-start-eq0-via-else-start-eq0 w ↦ (let v : 0 < 0 = omega arith in omega arith)
    ]))
