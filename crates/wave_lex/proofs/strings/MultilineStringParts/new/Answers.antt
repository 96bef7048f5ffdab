use Rattle.std.proofs.Common.{arith, ◌≡◌, ◌≢◌, ℕ, ◌+◌, ◌<◌, ◌≤◌, inl, inr, List, length, sym, ap, subst, get_or}
use Rattle.wave_lex.specs.Multiline.{IsSpaces}
use Rattle.wave_lex.specs.Remaining.{Undecoded}
use Rattle.wave_lex.proofs.MultilineStrings.Lines.{not_spaces, all_spaces, behind_feed, behind_last, feed_before, begins_here, opened}
use Rattle.wave_lex.proofs.MultilineStrings.JoinedLines.{body_whole}
use Rattle.wave_lex.proofs.strings.MultilineStringParts.new.Goals as goal

pub returns-then-length_of_spaces-closing : goal.returns-then-length_of_spaces-closing
returns-then-length_of_spaces-closing c = inl (
  (λ h. not_spaces c.closing_piece-closing.result.now c.length_of_spaces.result c.if-length_of_spaces-closing.true
      (subst (λ (z : List ℕ). get_or z c.length_of_spaces.result 0 ≢ 32) c.as_bytes.ensures.value
      (c.length_of_spaces.ensures.stops (rw c.as_bytes.ensures.value c.if-length_of_spaces-closing.true)))
      (subst IsSpaces (sym c.closing_piece-closing.ensures) h)),
  record { refusal = c.with_static.ensures.refusal; at = c.with_static.ensures.span },
)

pub returns-in_default : goal.returns-in_default
returns-in_default c =
    let within : c.length_of_spaces.result ≤ length c.closing_piece-closing.result.now = rw (← ap length c.as_bytes.ensures.value) c.length_of_spaces.ensures.within in
    let all = all_spaces c.closing_piece-closing.result.now c.length_of_spaces.result within c.if-length_of_spaces-closing.false
    (λ i l. subst (λ (z : List ℕ). get_or z i 0 ≡ 32) c.as_bytes.ensures.value (c.length_of_spaces.ensures.spaces i l)) in
    inr (
      subst IsSpaces c.closing_piece-closing.ensures (length c.closing_piece-closing.result.now, all),
      c.in_default.ensures,
      record { refusal = c.with_static-in_default.ensures.refusal; at = c.with_static-in_default.ensures.span },
    )

pub range-requires-clause-start_boundary : goal.range-requires-clause-start_boundary
range-requires-clause-start_boundary c = λ _.
    behind_feed c.args.src.now c.in-Some.first c.utf8.src
    c.in-Some.ensures.0
    c.in-Some.ensures.1

pub range-requires-clause-end_boundary : goal.range-requires-clause-end_boundary
range-requires-clause-end_boundary c = behind_last c.args.src.now c.last_line_start-start.result c.utf8.src
    c.last_line_start-start.ensures

pub invariant_of-parts : goal.invariant_of-parts
invariant_of-parts c =
    let start = c.last_line_start-start.result in
    let before : c.in-Some.first < start = feed_before c.args.src.now c.in-Some.first start c.last_line_start-start.ensures c.in-Some.ensures.0 c.in-Some.ensures.1 in
    let fits : start ≤ length c.args.src.now = c.last_line_start-start.ensures.fits in
    (omega (arith, c.range.ensures.len, c.requires), body_whole c.args.src.now c.range.result.now (c.in-Some.first + 1) start (omega arith) c.last_line_start-start.ensures c.range.ensures.value)

pub returns : goal.returns
returns c =
    let within : c.length_of_spaces.result ≤ length c.closing_piece-closing.result.now = rw (← ap length c.as_bytes.ensures.value) c.length_of_spaces.ensures.within in
    let begins = begins_here c.args.src.now c.closing_piece-closing.result.now c.range.result.now c.in-Some.first c.last_line_start-start.result c.args.pos c.length_of_spaces.result c.new.result
    c.last_line_start-start.ensures
    c.in-Some.ensures
    c.closing_piece-closing.ensures within c.if-length_of_spaces-closing.false
    (λ i l. subst (λ (z : List ℕ). get_or z i 0 ≡ 32) c.as_bytes.ensures.value (c.length_of_spaces.ensures.spaces i l))
    c.range.ensures.value (ap (λ (u : Undecoded). u.rest) c.new.ensures) in
    (_, begins, opened _ _ c.next_line.result c.next_line.ensures)
