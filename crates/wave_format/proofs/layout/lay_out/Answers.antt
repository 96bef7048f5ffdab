use Rattle.std.proofs.Common.{◌≡◌, ℕ, false, List, [], Some, None, Ok, refl, sym, subst, ◌∙◌, take, string_bytes}
use Rattle.std.specs.Prelude.{slice_range}
use Rattle.std.proofs.lemmas.Result.{IfOk-weaker}
use Rattle.wave_lex.specs.Multiline.{pieces}
use Rattle.wave_lex.specs.Tokenization.{NextIs, remainder_of}
use Rattle.wave_format.specs.Private.Sheets.{Sheet, PutsLines, Puts}
use Rattle.wave_format.specs.Private.Laying.{IsLaid, IsEmptyLaid}
use Rattle.wave_format.proofs.Ending.{laid_start, laid_next, laid_end, laid_bad}
use Rattle.wave_format.proofs.EmptyCalls.{copied_start, copied_next, copied_end, copied_bad}
use Rattle.wave_format.proofs.Gaps.{name_before, gap_between, rest_behind}
use Rattle.wave_format.proofs.layout.lay_out.Goals as goal

pub tokens-init : goal.tokens-init
tokens-init c =
    let l = c.args.lexer in
    let named : c.range-name.result.now ≡ take l.end l.source = name_before c.range-name.result.now c.source-source.result.now l c.span.result c.source-source.ensures c.span.ensures.span c.range-name.ensures.value in
    let page = subst (λ (z : List ℕ). c.in_ok-page.page ≡ record { text = z; payloads = []; last = None; held = false; in_comment = false }) named c.in_ok-page.ensures in (
      c.source-source.ensures,
      λ n t spells. laid_start n t (take l.end l.source) (remainder_of l) l c.in_ok-page.page refl page spells,
      λ cut. copied_start (take l.end l.source) (remainder_of l) l c.in_ok-page.page refl page cut,
    )

pub tokens-preserved : goal.tokens-preserved
tokens-preserved c =
    let name = take c.args.lexer.end c.args.lexer.source in
    let text = remainder_of c.args.lexer in
    let l = c.tokens.lexer in
    let m = c.next.new.self in
    let class = c.in-Some-Ok.class in
    let next : NextIs c.tokens.lexer c.next.new.self (Some (Ok c.in-Some-Ok.class)) = subst (λ r. NextIs c.tokens.lexer c.next.new.self (Some r)) c.in-Some-Ok.field-0-is c.in-Some-Ok.ensures.steps in
    let gap : c.range-gap.result.now ≡ slice_range l.source l.end m.start =
    gap_between c.range-gap.result.now c.source-source.result.now l m c.span-end.result c.span-in-Some-Ok.result c.tokens.invariant.0 c.span-end.ensures.span c.span-in-Some-Ok.ensures.span c.range-gap.ensures.value in
    let puts : Puts class (slice_range l.source l.end m.start) (slice_range m.source m.start m.end) c.tokens.page c.put.new.self =
    subst (λ (z : List ℕ). Puts class z (slice_range m.source m.start m.end) c.tokens.page c.put.new.self) gap
    (subst (λ (z : List ℕ). Puts class c.range-gap.result.now z c.tokens.page c.put.new.self) c.slice.ensures c.in_ok-put-in-Some-Ok.ensures) in (
      c.tokens.invariant.0 ∙ sym next.2.source,
      λ n t spells. laid_next n t name text l m c.tokens.page c.put.new.self class (c.tokens.invariant.1 n t spells) next puts,
      λ cut. copied_next name text l m c.tokens.page c.put.new.self class (c.tokens.invariant.2 cut) next puts,
    )

pub returns-in-Some-Err-clause-trees : goal.returns-in-Some-Err-clause-trees
returns-in-Some-Err-clause-trees c = λ n t spells.
    laid_bad n t (take c.args.lexer.end c.args.lexer.source) (remainder_of c.args.lexer) c.tokens.lexer c.next.new.self c.tokens.page c.in-Some-Err.field-0-0 (c.tokens.invariant.1 n t spells)
    (subst (λ r. NextIs c.tokens.lexer c.next.new.self (Some r)) c.in-Some-Err.field-0-is c.in-Some-Err.ensures.steps)

pub returns-in-Some-Err-clause-none : goal.returns-in-Some-Err-clause-none
returns-in-Some-Err-clause-none c = λ cut.
    copied_bad (take c.args.lexer.end c.args.lexer.source) (remainder_of c.args.lexer) c.tokens.lexer c.next.new.self c.tokens.page c.in-Some-Err.field-0-0 (c.tokens.invariant.2 cut)
    (subst (λ r. NextIs c.tokens.lexer c.next.new.self (Some r)) c.in-Some-Err.field-0-is c.in-Some-Err.ensures.steps)

pub returns-in-None-clause-trees : goal.returns-in-None-clause-trees
returns-in-None-clause-trees c = λ n t spells.
    let name = take c.args.lexer.end c.args.lexer.source in
    let text = remainder_of c.args.lexer in
    let rest = rest_behind c.range_from-in-None.result.now c.source-source.result.now c.tokens.lexer c.span-end.result c.tokens.invariant.0 c.span-end.ensures.span c.range_from-in-None.ensures.value in
    IfOk-weaker c.finish.result (λ w. (end : Sheet) × PutsLines (pieces c.range_from-in-None.result.now) c.tokens.page end × (string_bytes w ≡ end.text)) (λ w. IsLaid n t name text (string_bytes w))
    (λ w put. subst (λ (z : List ℕ). IsLaid n t name text z) (sym put.2)
    (laid_end n t name text c.tokens.lexer c.next.new.self c.tokens.page put.0 (c.tokens.invariant.1 n t spells) c.in-None.ensures.steps (subst (λ (z : List ℕ). PutsLines (pieces z) c.tokens.page put.0) rest put.1))) c.finish.ensures

pub returns-in-None-clause-none : goal.returns-in-None-clause-none
returns-in-None-clause-none c = λ cut.
    let name = take c.args.lexer.end c.args.lexer.source in
    let text = remainder_of c.args.lexer in
    let rest = rest_behind c.range_from-in-None.result.now c.source-source.result.now c.tokens.lexer c.span-end.result c.tokens.invariant.0 c.span-end.ensures.span c.range_from-in-None.ensures.value in
    IfOk-weaker c.finish.result (λ w. (end : Sheet) × PutsLines (pieces c.range_from-in-None.result.now) c.tokens.page end × (string_bytes w ≡ end.text)) (λ w. IsEmptyLaid name text (string_bytes w))
    (λ w put. subst (λ (z : List ℕ). IsEmptyLaid name text z) (sym put.2)
    (copied_end name text c.tokens.lexer c.next.new.self c.tokens.page put.0 (c.tokens.invariant.2 cut) c.in-None.ensures.steps (subst (λ (z : List ℕ). PutsLines (pieces z) c.tokens.page put.0) rest put.1))) c.finish.ensures
