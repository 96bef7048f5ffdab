use Rattle.std.proofs.Common.{refl, arith, sym, ◌∙◌}
use Rattle.wave_lex.specs.Tokens.{label_or_keyword}
use Rattle.wave_lex.specs.Machines.{rest}
use Rattle.wave_lex.specs.declared.machine.Start.TheVariants.{LowerWord}
use Rattle.wave_lex.proofs.QuickScan.Prefixes.{prefix_there, prefix_behind, lead_boundary}
use Rattle.wave_lex.proofs.QuickScan.WordRuns.{word_first, words_are}
use Rattle.wave_lex.proofs.lex.scan.label_at.Goals as goal

pub words_end-place-requires : goal.words_end-place-requires
words_end-place-requires c = word_first _ _ _ c.as_bytes-bytes.ensures.value (omega arith) c.run_of-run.ensures.within c.run_of-run.ensures.all (sym c.is_digit.ensures ∙ c.if-is_digit.false) c.run_of-run.ensures.stops

pub range_from-requires : goal.range_from-requires
range_from-requires c = λ _. lead_boundary _ _ _ _ c.utf8.text c.words_end-place.ensures.leads

pub returns-in_default : goal.returns-in_default
returns-in_default c = absurd (prefix_there (rest LowerWord) _ refl c.in_default.ensures)

pub returns : goal.returns
returns c = prefix_behind label_or_keyword (rest LowerWord) _ _ _ _ c.range_from.ensures.value c.words_end-place.ensures.leads c.in-Some.ensures

pub returns-then-place-bytes : goal.returns-then-place-bytes
returns-then-place-bytes c = words_are _ _ _ c.as_bytes-bytes.ensures.value c.words_end-place.ensures (λ k. let w : ⊥ = omega arith in absurd w)

pub returns-then-bytes-place-ne45 : goal.returns-then-bytes-place-ne45
returns-then-bytes-place-ne45 c = words_are _ _ _ c.as_bytes-bytes.ensures.value c.words_end-place.ensures (λ _. c.if-bytes-place-ne45.true)

pub returns-then-bytes-run-ne45 : goal.returns-then-bytes-run-ne45
returns-then-bytes-run-ne45 c = words_are _ _ _ c.as_bytes-bytes.ensures.value
    (word_first _ _ _ c.as_bytes-bytes.ensures.value (omega arith) c.run_of-run.ensures.within c.run_of-run.ensures.all (sym c.is_digit.ensures ∙ c.if-is_digit.false) c.run_of-run.ensures.stops)
    (λ _. c.if-bytes-run-ne45.true)
