use Rattle.std.proofs.Common.{IfOk, string_bytes, sym, subst, ◌∙◌}
use Rattle.wave_lex.specs.Errors.{error_text}
use Rattle.wave_place.proofs.Steps.{ok_so}
use Rattle.wave_commands.specs.Reports.{IsBlockIn, IsShortLine, IsReport}
use Rattle.wave_commands.specs.declared.report.Style.{Style}
use Rattle.wave_commands.proofs.report.report.Goals as goal

pub returns-in-Blocks : goal.returns-in-Blocks
returns-in-Blocks c =
    let name = c.args.name.now in
    let source = c.args.source.now in
    let e = c.args.error.now in
    let parts = c.args.parts.now in
    subst (λ (s : Style). IfOk c.block_in.result (λ text. IsReport s name source e parts.mark (string_bytes parts.path) (string_bytes parts.lines) (string_bytes text))) (sym c.in-Blocks.is)
    (ok_so c.block_in.result
    (λ text block.
    subst (λ n. IsBlockIn n source (error_text e) parts.mark (string_bytes parts.path) (string_bytes parts.lines) (string_bytes text)) c.as_str.ensures.value
    (subst (λ m. IsBlockIn c.as_str.result.now source m parts.mark (string_bytes parts.path) (string_bytes parts.lines) (string_bytes text)) (c.as_str-in-Blocks.ensures.value ∙ c.in_ok-message.ensures.ok) block))
    c.block_in.ensures)

pub returns-in-Short : goal.returns-in-Short
returns-in-Short c =
    let name = c.args.name.now in
    let source = c.args.source.now in
    let e = c.args.error.now in
    let parts = c.args.parts.now in
    subst (λ (s : Style). IfOk c.short_line.result (λ text. IsReport s name source e parts.mark (string_bytes parts.path) (string_bytes parts.lines) (string_bytes text))) (sym c.in-Short.is)
    (ok_so c.short_line.result
    (λ text line.
    subst (λ n. IsShortLine n source (error_text e) parts.mark (string_bytes text)) c.as_str-in-Short.ensures.value
    (subst (λ m. IsShortLine c.as_str-in-Short.result.now source m parts.mark (string_bytes text)) (c.as_str-in-Short-2.ensures.value ∙ c.in_ok-message.ensures.ok) line))
    c.short_line.ensures)
