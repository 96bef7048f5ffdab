use Rattle.std.proofs.Common.{◌+◌, ◌<◌, length, arith, refl, sym, ap, ◌∙◌}
use Rattle.std.specs.Str.{chars}
use Rattle.std.specs.Char.{len_utf8}
use Rattle.std.proofs.lemmas.Iterator.{YieldsList-from_chars}
use Rattle.std.proofs.lemmas.Iterator.Consumers.{YieldsList-turn, YieldsList-end}
use Rattle.std.proofs.lemmas.List.{length_push}
use Rattle.std.proofs.lemmas.Str.{len_utf8_bounds}
use Rattle.wave_lex.specs.Derive.{nullable}
use Rattle.wave_lex.specs.Machines.{rest_at}
use Rattle.wave_lex.proofs.LongestPrefix.MachineWalks.{seen_same, seen_new, seen_all, seen_dead, place_fits, get_or_default}
use Rattle.wave_lex.proofs.Machines.Counted.{counted_some, counted_begins}
use Rattle.wave_lex.proofs.Machines.Rows.{start_right}
use Rattle.wave_lex.proofs.machine.longest_prefix.Goals as goal

pub loop-c-init : goal.loop-c-init
loop-c-init c =
    let s = start_right c.args.start in
    let same = s.1 ∙ ap rest_at (sym c.first_row-first.ensures) in (
      omega (arith, s.0, c.first_row-first.ensures),
      rw same (counted_begins _ _ _ refl),
    )

pub returns-then-row-eq-NOTHING : goal.returns-then-row-eq-NOTHING
returns-then-row-eq-NOTHING c =
    let t = YieldsList-turn (YieldsList-from_chars c.args.text.now c.utf8.text (cc)) c.loop-c.yielded _ c.loop-c.yielded_by _ _ c.in-Some.c c.in-Some.is c.next.ensures.steps in
    rw c.longest_of.ensures
    (seen_dead _ _ _ _ _ _ c.in-Some.c c.utf8.text t.0 t.1 c.loop-c.invariant.1 (c.next_row-next.ensures.next ∙ ap rest_at c.if-row-eq-NOTHING.true))

pub overflow_add-place : goal.overflow_add-place
overflow_add-place c =
    let t = YieldsList-turn (YieldsList-from_chars c.args.text.now c.utf8.text (cc)) c.loop-c.yielded _ c.loop-c.yielded_by _ _ c.in-Some.c c.in-Some.is c.next.ensures.steps in
    let same = t.1 ∙ get_or_default (chars c.args.text.now) (length c.loop-c.yielded) c.in-Some.c 0 t.0 in
    let wide = ap len_utf8 same in
    let fits = place_fits c.args.text.now (length c.loop-c.yielded) c.utf8.text t.0 in
    omega (arith, wide, fits, c.loop-c.invariant.1.at, c.next_row-next.ensures.width)

pub loop-c-preserved-then-may_end : goal.loop-c-preserved-then-may_end
loop-c-preserved-then-may_end c =
    let t = YieldsList-turn (YieldsList-from_chars c.args.text.now c.utf8.text (cc)) c.loop-c.yielded _ c.loop-c.yielded_by _ _ c.in-Some.c c.in-Some.is c.next.ensures.steps in
    let wide = (len_utf8_bounds c.in-Some.c).0 in
    let some : 0 < c.loop-c.place + len_utf8 c.in-Some.c = omega (arith, wide) in (
      c.next_row-next.ensures.row,
      rw (length_push c.loop-c.yielded c.in-Some.c, c.next_row-next.ensures.width, counted_some (nullable (rest_at c.first_row-first.result)) (c.loop-c.place + len_utf8 c.in-Some.c) some)
          (seen_new _ _ _ _ _ _ _ c.in-Some.c t.0 t.1 c.loop-c.invariant.1 c.next_row-next.ensures.next (sym c.may_end.ensures ∙ c.if-may_end.true)),
    )

pub loop-c-preserved : goal.loop-c-preserved
loop-c-preserved c =
    let t = YieldsList-turn (YieldsList-from_chars c.args.text.now c.utf8.text (cc)) c.loop-c.yielded _ c.loop-c.yielded_by _ _ c.in-Some.c c.in-Some.is c.next.ensures.steps in (
      c.next_row-next.ensures.row,
      rw (length_push c.loop-c.yielded c.in-Some.c, c.next_row-next.ensures.width)
          (seen_same _ _ _ _ _ _ _ c.in-Some.c t.0 t.1 c.loop-c.invariant.1 c.next_row-next.ensures.next (sym c.may_end.ensures ∙ c.if-may_end.false)),
    )

pub returns : goal.returns
returns c =
    let t = YieldsList-end (YieldsList-from_chars c.args.text.now c.utf8.text (cc)) c.loop-c.yielded _ c.loop-c.yielded_by _ _ c.in-None.is c.next.ensures.steps in
    rw c.longest_of-2.ensures
    (seen_all _ _ _ _ _ _ c.utf8.text t.1 c.loop-c.invariant.1)
