use Rattle.std.proofs.Common.{◌≡◌, ℕ, ◌-◌, take, ap, ◌∙◌, arith}
use Rattle.wave_lex.proofs.MultilineStrings.Lines.{no_stop_found, plain_feed_found, line_run, none_found, feed_found, line_split, behind_feed}
use Rattle.wave_lex.proofs.strings.split_line.Goals as goal

pub returns-in_err-stop : goal.returns-in_err-stop
returns-in_err-stop c = rw c.from_residual.ensures (no_stop_found c.args.text.now _ c.as_bytes-bytes.ensures.value c.in_err-stop.ensures)

pub range_from-requires : goal.range_from-requires
range_from-requires c = λ _.
    let (feed, plain) = plain_feed_found c.args.text.now _ c.in_ok-stop.stop c.as_bytes-bytes.ensures.value c.in_ok-stop.ensures c.if-bytes-stop-eq10.true in
    behind_feed c.args.text.now c.in_ok-stop.stop c.utf8.text feed.within feed.there

pub returns-then-bytes-stop-eq10 : goal.returns-then-bytes-stop-eq10
returns-then-bytes-stop-eq10 c =
    let (feed, plain) = plain_feed_found c.args.text.now _ c.in_ok-stop.stop c.as_bytes-bytes.ensures.value c.in_ok-stop.ensures c.if-bytes-stop-eq10.true in
    let whole : c.in_ok-stop.stop - 0 ≡ c.in_ok-stop.stop = omega arith in
    let line : c.range.result.now ≡ take c.in_ok-stop.stop c.args.text.now = c.range.ensures.value ∙ ap (λ (k : ℕ). take k c.args.text.now) whole in
    let within = feed.within in (
      line_split c.args.text.now _ _ c.in_ok-stop.stop feed line c.range_from.ensures.value,
      λ _. line_run c.args.text.now c.range.result.now c.in_ok-stop.stop (omega arith) line plain,
    )

pub returns-in_err-end : goal.returns-in_err-end
returns-in_err-end c = rw c.from_residual-in_err-end.ensures (none_found c.args.text.now _ c.as_bytes-bytes.ensures.value c.in_err-end.ensures)

pub range_from-requires-2 : goal.range_from-requires-2
range_from-requires-2 c = λ _.
    let feed = feed_found c.args.text.now _ c.in_ok-end.end c.as_bytes-bytes.ensures.value c.in_ok-end.ensures in
    behind_feed c.args.text.now c.in_ok-end.end c.utf8.text feed.within feed.there

pub returns : goal.returns
returns c =
    let whole : c.in_ok-end.end - 0 ≡ c.in_ok-end.end = omega arith in (
      line_split c.args.text.now _ _ c.in_ok-end.end (feed_found c.args.text.now _ c.in_ok-end.end c.as_bytes-bytes.ensures.value c.in_ok-end.ensures)
          (c.range-2.ensures.value ∙ ap (λ (k : ℕ). take k c.args.text.now) whole) c.range_from-2.ensures.value,
      λ never. absurd (cc),
    )
