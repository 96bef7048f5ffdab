use Rattle.std.proofs.Common.{sym, ◌∙◌, ap, arith, ◌≡◌}
use Rattle.wave_lex.specs.Classes.{class_of}
use Rattle.wave_lex.proofs.Tokenization.Classes.{class_here, class_counted, not_quoted, not_counted}
use Rattle.wave_lex.proofs.lex.class_at.Goals as goal
use Rattle.wave_lex.proofs.lex.class_at.Goals.{else-bytes-gt2-via-then-bytes-gt2+then-bytes-eq34+else-bytes-eq34-2, else-bytes-gt2-via-then-bytes-gt2+else-bytes-eq34, else-bytes-gt2-via-else-bytes-gt2}

pub returns-then-first-ne34 : goal.returns-then-first-ne34
returns-then-first-ne34 c =
    let b = sym c.chars.ensures.rest ∙ c.in_ok-first.ensures.steps.0 in
    class_here c.args.text.now _ _ _ b (not_quoted _ _ _ b c.if-first-ne34.true) c.class_of.ensures

pub returns-then-bytes-eq34-2 : goal.returns-then-bytes-eq34-2
returns-then-bytes-eq34-2 c =
    class_counted c.args.text.now _ _ _ (omega arith) c.as_bytes-bytes.ensures.value (sym c.chars.ensures.rest ∙ c.in_ok-first.ensures.steps.0)
    c.if-bytes-gt2.true c.if-bytes-eq34.true c.if-bytes-eq34-2.true

pub returns : goal.returns
returns c =
    let quote : c.in_ok-first.first ≡ 34 = omega arith in
    class_here c.args.text.now _ _ _ (sym c.chars.ensures.rest ∙ c.in_ok-first.ensures.steps.0)
    (not_counted _ _ c.as_bytes-bytes.ensures.value (λ long second third. elim c.else-bytes-gt2.branch [
      | else-bytes-gt2-via-then-bytes-gt2+then-bytes-eq34+else-bytes-eq34-2 w ↦ w.if-bytes-eq34-2.false third
      | else-bytes-gt2-via-then-bytes-gt2+else-bytes-eq34 w ↦ w.if-bytes-eq34.false second
      | else-bytes-gt2-via-else-bytes-gt2 w ↦ omega arith
    ])) (ap class_of (sym quote))
