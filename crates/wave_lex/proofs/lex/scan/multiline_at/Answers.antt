use Rattle.std.proofs.Common.{ap, sym, List, ℕ, ◌++◌, ◌∙◌}
use Rattle.wave_lex.specs.Tokenization.{three_quotes}
use Rattle.wave_lex.proofs.MultilineStrings.QuotesFound.{none_unquoted, none_unclosed, greatest_through}
use Rattle.wave_lex.proofs.lex.scan.multiline_at.Goals as goal

pub returns-in_err-inside : goal.returns-in_err-inside
returns-in_err-inside c = rw c.from_residual.ensures (none_unquoted _ c.in_err-inside.ensures.cases)

pub returns-in_err-count : goal.returns-in_err-count
returns-in_err-count c =
    let cut = c.in_ok-inside.ensures.cases in
    rw c.from_residual-in_err-count.ensures (none_unclosed _ _ (cut.1.1 ∙ ap (λ (z : List ℕ). three_quotes ++ z) (sym cut.2 ∙ sym c.as_bytes.ensures.value)) c.in_err-count.ensures)

pub returns : goal.returns
returns c =
    let cut = c.in_ok-inside.ensures.cases in
    greatest_through _ _ _ (cut.1.1 ∙ ap (λ (z : List ℕ). three_quotes ++ z) (sym cut.2 ∙ sym c.as_bytes.ensures.value)) c.as_bytes.ensures.utf8 c.in_ok-count.ensures
