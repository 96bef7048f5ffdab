use Rattle.std.proofs.Common.{sym, ap, ◌∙◌, length}
use Rattle.std.proofs.lemmas.Str.{length-encode}
use Rattle.wave_grammar.proofs.Strings.Chars.{empty_none, longer_none, no_escape_none, more_none}
use Rattle.wave_grammar.proofs.text.char_in.Goals as goal

pub returns-in_err-first : goal.returns-in_err-first
returns-in_err-first c = rw c.from_residual.ensures (empty_none _ (ap length (sym c.chars.ensures.rest) ∙ c.in_err-first.ensures.steps.0.0))

pub returns-else-len_utf8-inside : goal.returns-else-len_utf8-inside
returns-else-len_utf8-inside c = longer_none _ _ _ (sym c.chars.ensures.rest ∙ c.in_ok-first.ensures.steps.0) c.if-first-ne92.true (λ e. c.if-len_utf8-inside.false (c.len_utf8.ensures.value ∙ (sym (length-encode c.in_ok-first.first) ∙ e)))

pub returns-in_err-scalar : goal.returns-in_err-scalar
returns-in_err-scalar c = rw c.from_residual-in_err-scalar.ensures (no_escape_none _ _ _ (sym c.chars.ensures.rest ∙ c.in_ok-first.ensures.steps.0) c.if-first-ne92.false c.in_err-scalar.ensures)

pub returns-else-count-inside : goal.returns-else-count-inside
returns-else-count-inside c = more_none _ _ _ _ _ (sym c.chars.ensures.rest ∙ c.in_ok-first.ensures.steps.0) c.if-first-ne92.false c.in_ok-scalar.ensures c.if-count-inside.false
