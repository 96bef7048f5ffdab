use Rattle.std.proofs.Common.{ℕ, List, refl, sym, subst}
use Rattle.wave_lex.specs.Multiline.{pieces}
use Rattle.wave_format.specs.Words.{is_comment, trimmed}
use Rattle.wave_format.specs.Private.Sheets.{Sheet, PutsLine, PutsLines}
use Rattle.wave_format.proofs.Lines.{first_line, no_line, trim_is, trim_fixed}
use Rattle.wave_format.proofs.page.Page.put_comments.Goals as goal

pub put_comment-requires : goal.put_comment-requires
put_comment-requires c = trim_fixed c.in-Some.line.now c.trim_ascii.result.now c.trim_ascii.ensures.value

pub put_comment-requires-2 : goal.put_comment-requires-2
put_comment-requires-2 c = trim_fixed c.loop-line.rest.now c.trim_ascii-2.result.now c.trim_ascii-2.ensures.value

pub loop-line-preserved : goal.loop-line-preserved
loop-line-preserved c =
    let first = first_line c.loop-line.rest.now c.in-Some.line c.in-Some.behind c.in-Some.ensures.cases c.loop-line.invariant.0 in
    let line = c.in-Some.line.now in
    let put : PutsLine (is_comment (trimmed line)) (trimmed line) c.loop-line.self c.put_comment.new.self =
    subst (λ (z : List ℕ). PutsLine (is_comment z) z c.loop-line.self c.put_comment.new.self) (trim_is line c.trim_ascii.result.now c.trim_ascii.ensures.value) c.in_ok-put_comment.ensures in (
      first.1,
      λ end lines. c.loop-line.invariant.1 end (subst (λ (ps : List (List ℕ)). PutsLines ps c.loop-line.self end) (sym first.0)
          (c.put_comment.new.self, put, subst (λ (s : Sheet). PutsLines (pieces c.in-Some.behind.now) s end) c.self.view_is lines)),
    )

pub returns-then-joined : goal.returns-then-joined
returns-then-joined c =
    let rest = c.loop-line.rest.now in
    let put : PutsLine (is_comment (trimmed rest)) (trimmed rest) c.loop-line.self c.put_comment-2.new.self =
    subst (λ (z : List ℕ). PutsLine (is_comment z) z c.loop-line.self c.put_comment-2.new.self) (trim_is rest c.trim_ascii-2.result.now c.trim_ascii-2.ensures.value) c.in_ok-put_comment-2.ensures in
    subst (λ (s : Sheet). PutsLines (pieces c.args.gap.now) c.args.self.now s) (sym c.self-2.view_is)
    (c.loop-line.invariant.1 c.put_comment-2.new.self (subst (λ (ps : List (List ℕ)). PutsLines ps c.loop-line.self c.put_comment-2.new.self) (sym (no_line rest c.in_default.ensures.cases)) (c.put_comment-2.new.self, put, refl)))

pub returns-else-joined : goal.returns-else-joined
returns-else-joined c =
    let rest = c.loop-line.rest.now in
    let put : PutsLine (is_comment (trimmed rest)) (trimmed rest) c.loop-line.self c.put_comment-2.new.self =
    subst (λ (z : List ℕ). PutsLine (is_comment z) z c.loop-line.self c.put_comment-2.new.self) (trim_is rest c.trim_ascii-2.result.now c.trim_ascii-2.ensures.value) c.in_ok-put_comment-2.ensures in
    c.loop-line.invariant.1 c.put_comment-2.new.self (subst (λ (ps : List (List ℕ)). PutsLines ps c.loop-line.self c.put_comment-2.new.self) (sym (no_line rest c.in_default.ensures.cases)) (c.put_comment-2.new.self, put, refl))
