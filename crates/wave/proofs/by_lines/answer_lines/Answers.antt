use Rattle.std.proofs.Common.{string_bytes, sym, ◌∙◌, rules, subst}
use Rattle.wave.specs.ByLines.{IsLineAnswer, EndsAtFault}
use Rattle.wave.proofs.LinesAnswered.{at_start, had_ended, released, all_answered, cut_off, one_answered, cut_short, cut_behind, emptiness}
use Rattle.wave.proofs.by_lines.answer_lines.Goals as goal

pub returns-then-has_ended-clause-answered : goal.returns-then-has_ended-clause-answered
returns-then-has_ended-clause-answered g c =
    had_ended g.R.Read.remaining g.W.Write.contents g.E.Write.contents c.args.is_quiet c.args.request.now c.args.input.now c.args.output.now c.fail_at.new.output c.args.errors.now c.fail_at.new.errors c.fail_at.result (search rules) c.fail_at.ensures

pub lines-init : goal.lines-init
lines-init g c =
    at_start g.R.Read.remaining g.W.Write.contents g.E.Write.contents c.args.request.now c.args.input.now c.new-unread.result c.args.output.now (string_bytes c.new-held.result) c.args.errors.now c.new-unread.ensures c.new-held.ensures.bytes (search rules)

pub returns-then-not-write_if_needed-clause-answered : goal.returns-then-not-write_if_needed-clause-answered
returns-then-not-write_if_needed-clause-answered g c =
    cut_short g.R.Read.remaining g.W.Write.contents g.E.Write.contents c.args.is_quiet _ _ _ _ _ _ _ _ _ _ _ _ c.lines.invariant _ c.write_if_needed.new.output c.at.result
    (c.write_if_needed.ensures.cut c.if-not-write_if_needed.true) c.at.ensures.status c.at.ensures.shown

pub returns-in-Ok-None-clause-answered : goal.returns-in-Ok-None-clause-answered
returns-in-Ok-None-clause-answered g c =
    let so_far = released g.R.Read.remaining g.W.Write.contents g.E.Write.contents c.args.is_quiet _ _ _ _ _ _ _ _ _ _ _ _ c.lines.invariant c.write_if_needed.new.output (string_bytes c.write_if_needed.new.held) (c.write_if_needed.ensures.whole c.if-not-write_if_needed.false) in
    let last = rw c.in-Ok-None.field-0-is at c.in-Ok-None.ensures.answer in
    all_answered g.R.Read.remaining g.W.Write.contents g.E.Write.contents c.args.is_quiet _ _ _ _ _ _ _ _ _ _ _ _ so_far c.next_answer.new.input c.print.new.output c.deref.result.now c.from.result c.print.result c.at-in-Ok-None.result
    (search rules) last.0 last.1 c.in-Ok-None.ensures.went_well c.from.ensures c.deref.ensures c.print.ensures c.at-in-Ok-None.ensures.status c.at-in-Ok-None.ensures.shown

pub returns-in-Err-clause-answered : goal.returns-in-Err-clause-answered
returns-in-Err-clause-answered g c =
    let so_far = released g.R.Read.remaining g.W.Write.contents g.E.Write.contents c.args.is_quiet _ _ _ _ _ _ _ _ _ _ _ _ c.lines.invariant c.write_if_needed.new.output (string_bytes c.write_if_needed.new.held) (c.write_if_needed.ensures.whole c.if-not-write_if_needed.false) in
    let (last, ends, shows) = c.fail_at-in-Err.ensures in
    cut_off g.R.Read.remaining g.W.Write.contents g.E.Write.contents c.args.is_quiet _ _ _ _ _ _ _ _ _ _ _ _ so_far c.next_answer.new.input c.next_answer.new.unread c.fail_at-in-Err.new.output c.fail_at-in-Err.new.errors c.fail_at-in-Err.result
    c.in-Err.fault c.in-Err.ensures.fault c.next_answer.ensures.read c.in-Err.ensures.cut
    (last, subst (λ t. EndsAtFault g.W.Write.contents c.args.is_quiet c.write_if_needed.new.output c.fail_at-in-Err.new.output c.in-Err.fault c.lines.number t last c.fail_at-in-Err.result) c.deref-in-Err.ensures ends, shows)

pub returns-then-not-write_if_needed-2-clause-answered : goal.returns-then-not-write_if_needed-2-clause-answered
returns-then-not-write_if_needed-2-clause-answered g c =
    let so_far = released g.R.Read.remaining g.W.Write.contents g.E.Write.contents c.args.is_quiet _ _ _ _ _ _ _ _ _ _ _ _ c.lines.invariant c.write_if_needed.new.output (string_bytes c.write_if_needed.new.held) (c.write_if_needed.ensures.whole c.if-not-write_if_needed.false) in
    cut_short g.R.Read.remaining g.W.Write.contents g.E.Write.contents c.args.is_quiet _ _ _ _ _ _ _ _ _ _ _ _ so_far _ c.write_if_needed-in-lines.new.output c.at-then-not-write_if_needed-2.result
    (c.write_if_needed-in-lines.ensures.cut c.if-not-write_if_needed-2.true) c.at-then-not-write_if_needed-2.ensures.status c.at-then-not-write_if_needed-2.ensures.shown

pub returns-then-not-hold-clause-answered : goal.returns-then-not-hold-clause-answered
returns-then-not-hold-clause-answered g c =
    let (text, said, taken, is, printed, progress) = rw c.in-Ok-Some.field-0-is at c.in-Ok-Some.ensures.answer in
    let before = released g.R.Read.remaining g.W.Write.contents g.E.Write.contents c.args.is_quiet _ _ _ _ _ _ _ _ _ _ _ _ c.lines.invariant c.write_if_needed.new.output (string_bytes c.write_if_needed.new.held) (c.write_if_needed.ensures.whole c.if-not-write_if_needed.false) in
    let so_far = released g.R.Read.remaining g.W.Write.contents g.E.Write.contents c.args.is_quiet _ _ _ _ _ _ _ _ _ _ _ _ before c.write_if_needed-in-lines.new.output (string_bytes c.write_if_needed-in-lines.new.held) (c.write_if_needed-in-lines.ensures.whole c.if-not-write_if_needed-2.false) in
    cut_behind g.R.Read.remaining g.W.Write.contents g.E.Write.contents c.args.is_quiet _ _ _ _ _ _ _ _ _ _ _ _ so_far
    c.next_answer.new.input c.next_answer.new.unread text said c.as_str-shown.result.now c.as_str.result.now taken (subst (IsLineAnswer c.args.request.now c.lines.number text said) (sym c.as_str-shown.ensures.value) is)
    (c.as_str.ensures.value ∙ printed) c.show-is_shown.new.errors c.show-is_shown.result c.show-is_shown.ensures.whole c.show-is_shown.ensures.cut c.show-is_shown.ensures.none
    c.hold.new.output c.at-then-not-hold.result (c.hold.ensures.cut c.if-not-hold.true) c.at-then-not-hold.ensures.status c.at-then-not-hold.ensures.shown

pub lines-preserved : goal.lines-preserved
lines-preserved g c =
    let (text, said, taken, is, printed, progress) = rw c.in-Ok-Some.field-0-is at c.in-Ok-Some.ensures.answer in
    let before = released g.R.Read.remaining g.W.Write.contents g.E.Write.contents c.args.is_quiet _ _ _ _ _ _ _ _ _ _ _ _ c.lines.invariant c.write_if_needed.new.output (string_bytes c.write_if_needed.new.held) (c.write_if_needed.ensures.whole c.if-not-write_if_needed.false) in
    let so_far = released g.R.Read.remaining g.W.Write.contents g.E.Write.contents c.args.is_quiet _ _ _ _ _ _ _ _ _ _ _ _ before c.write_if_needed-in-lines.new.output (string_bytes c.write_if_needed-in-lines.new.held) (c.write_if_needed-in-lines.ensures.whole c.if-not-write_if_needed-2.false) in
    one_answered g.R.Read.remaining g.W.Write.contents g.E.Write.contents c.args.is_quiet _ _ _ _ _ _ _ _ _ _ _ _ so_far
    c.next_answer.new.input c.next_answer.new.unread text said c.as_str-shown.result.now c.as_str.result.now taken (subst (IsLineAnswer c.args.request.now c.lines.number text said) (sym c.as_str-shown.ensures.value) is)
    (c.as_str.ensures.value ∙ printed) c.show-is_shown.new.errors c.show-is_shown.result c.show-is_shown.ensures.whole c.show-is_shown.ensures.cut c.show-is_shown.ensures.none
    c.hold.new.output (string_bytes c.hold.new.held) c.is_empty-in-lines.result (c.hold.ensures.whole c.if-not-hold.false) (emptiness c.as_str-shown.result.now c.is_empty-in-lines.result c.is_empty-in-lines.ensures)
    progress c.next_answer.ensures.known c.in-Ok-Some.ensures.went_well c.next_answer.ensures.counted
