use Rattle.std.proofs.Common.{rules}
use Rattle.wave.proofs.LineReading.{filled, lengthened, ended, ends, whole, partly, line_and_chunk, line_alone, on_err}
use Rattle.wave.proofs.lines.Unread.next_line.Goals as goal

pub returns-then-branch-2-clause-line : goal.returns-then-branch-2-clause-line
returns-then-branch-2-clause-line g c =
    let gathered = filled g.R.Read.remaining _ _ _ _ _ c.parts.invariant c.fill.new.input c.fill.new.self c.fill.ensures.kept c.fill.ensures.known c.in_ok-fill.ensures.went_well c.fill.ensures.counted c.in_ok-fill.ensures.fewer in
    let (part, one, is, rest) = c.in_ok-move_line.ensures in
    ended g.R.Read.remaining _ _ _ _ _ gathered c.move_line.new.self part c.move_line.new.line.items _ one is (whole _ _ _ c.if-branch-2.true rest) c.without_return.ensures

pub parts-preserved : goal.parts-preserved
parts-preserved g c =
    let gathered = filled g.R.Read.remaining _ _ _ _ _ c.parts.invariant c.fill.new.input c.fill.new.self c.fill.ensures.kept c.fill.ensures.known c.in_ok-fill.ensures.went_well c.fill.ensures.counted c.in_ok-fill.ensures.fewer in
    let (part, one, is, rest) = c.in_ok-move_line.ensures in
    lengthened g.R.Read.remaining _ _ _ _ _ gathered c.move_line.new.self part c.move_line.new.line.items one is (partly _ _ _ c.if-branch-2.false rest)

pub returns-else-is_empty-clause-line : goal.returns-else-is_empty-clause-line
returns-else-is_empty-clause-line g c =
    let gathered = filled g.R.Read.remaining _ _ _ _ _ c.parts.invariant c.fill.new.input c.fill.new.self c.fill.ensures.kept c.fill.ensures.known c.in_ok-fill.ensures.went_well c.fill.ensures.counted c.in_ok-fill.ensures.fewer in
    let h = c.in_ok-fill.ensures.ended c.if-branch.false in
    ends g.R.Read.remaining _ _ _ _ _ gathered (search rules) h.0 h.1

pub returns-then-branch-2-clause-read : goal.returns-then-branch-2-clause-read
returns-then-branch-2-clause-read g c =
    let gathered = filled g.R.Read.remaining _ _ _ _ _ c.parts.invariant c.fill.new.input c.fill.new.self c.fill.ensures.kept c.fill.ensures.known c.in_ok-fill.ensures.went_well c.fill.ensures.counted c.in_ok-fill.ensures.fewer in
    line_and_chunk g.R.Read.remaining _ _ _ _ _ gathered

pub returns-then-is_empty-clause-read : goal.returns-then-is_empty-clause-read
returns-then-is_empty-clause-read g c =
    let gathered = filled g.R.Read.remaining _ _ _ _ _ c.parts.invariant c.fill.new.input c.fill.new.self c.fill.ensures.kept c.fill.ensures.known c.in_ok-fill.ensures.went_well c.fill.ensures.counted c.in_ok-fill.ensures.fewer in
    line_and_chunk g.R.Read.remaining _ _ _ _ _ gathered

pub returns-else-is_empty-clause-read : goal.returns-else-is_empty-clause-read
returns-else-is_empty-clause-read g c =
    let gathered = filled g.R.Read.remaining _ _ _ _ _ c.parts.invariant c.fill.new.input c.fill.new.self c.fill.ensures.kept c.fill.ensures.known c.in_ok-fill.ensures.went_well c.fill.ensures.counted c.in_ok-fill.ensures.fewer in
    line_and_chunk g.R.Read.remaining _ _ _ _ _ gathered

pub returns-in_err-move_line-clause-read : goal.returns-in_err-move_line-clause-read
returns-in_err-move_line-clause-read g c =
    let gathered = filled g.R.Read.remaining _ _ _ _ _ c.parts.invariant c.fill.new.input c.fill.new.self c.fill.ensures.kept c.fill.ensures.known c.in_ok-fill.ensures.went_well c.fill.ensures.counted c.in_ok-fill.ensures.fewer in
    line_and_chunk g.R.Read.remaining _ _ _ _ _ gathered

pub returns-in_err-fill-clause-read : goal.returns-in_err-fill-clause-read
returns-in_err-fill-clause-read g c = line_alone g.R.Read.remaining _ _ _ _ _ c.parts.invariant 65536 c.fill.new.input c.fill.new.self c.fill.ensures.kept c.in_err-fill.ensures.cut

pub returns-in_err-fill-clause-cut : goal.returns-in_err-fill-clause-cut
returns-in_err-fill-clause-cut g c =
    on_err c.from_residual.result _ (λ _ _. line_alone g.R.Read.remaining _ _ _ _ _ c.parts.invariant 0 c.fill.new.input c.fill.new.self c.fill.ensures.kept c.in_err-fill.ensures.cut)
