use Rattle.std.proofs.Common.{arith}
use Rattle.wave_lex.proofs.Machines.Rows.{column_right, row_right, past_right}
use Rattle.wave_lex.proofs.machine.next_row.Goals as goal

pub overflow_sub-column : goal.overflow_sub-column
overflow_sub-column c = (column_right c.args.c (omega (arith, c.if-code-lt128.true))).0

pub bounds-column : goal.bounds-column
bounds-column c =
    let h = (column_right c.args.c (omega (arith, c.if-code-lt128.true))).1 in
    omega (arith, h)

pub overflow_sub-result : goal.overflow_sub-result
overflow_sub-result c = (row_right c.args.row c.args.c c.requires (omega (arith, c.if-code-lt128.true))).0

pub returns-then-code-lt128-clause-row : goal.returns-then-code-lt128-clause-row
returns-then-code-lt128-clause-row c = (row_right c.args.row c.args.c c.requires (omega (arith, c.if-code-lt128.true))).1

pub returns-then-code-lt128-clause-next : goal.returns-then-code-lt128-clause-next
returns-then-code-lt128-clause-next c = (row_right c.args.row c.args.c c.requires (omega (arith, c.if-code-lt128.true))).2

pub overflow_sub-result-2 : goal.overflow_sub-result-2
overflow_sub-result-2 c = (past_right c.args.row c.args.c c.requires c.if-code-lt128.false).0

pub returns-clause-row : goal.returns-clause-row
returns-clause-row c = (past_right c.args.row c.args.c c.requires c.if-code-lt128.false).1

pub returns-clause-next : goal.returns-clause-next
returns-clause-next c = (past_right c.args.row c.args.c c.requires c.if-code-lt128.false).2
