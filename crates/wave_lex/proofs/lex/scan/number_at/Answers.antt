use Rattle.std.proofs.Common.{◌≡◌, ℕ, ◌-◌, List, refl, arith, sym, ap, length, take, drop, ◌∙◌}
use Rattle.std.proofs.lemmas.List.{take_rest}
use Rattle.wave_lex.specs.Tokens.{number}
use Rattle.wave_lex.specs.Machines.{rest}
use Rattle.wave_lex.specs.declared.machine.Start.TheVariants.{Zero, WholePart}
use Rattle.wave_lex.proofs.QuickScan.Prefixes.{prefix_there, prefix_behind, lead_boundary}
use Rattle.wave_lex.proofs.QuickScan.ByteRuns.{digits_end, digits_lead, zero_end, zero_leads}
use Rattle.wave_lex.proofs.lex.scan.number_at.Goals as goal

-- what stands behind the sign
behind_sign : (s b : List ℕ) (p : ℕ) → b ≡ s → take (length b - p) (drop p b) ≡ drop p s
behind_sign s b p e = take_rest b p ∙ ap (drop p) e

pub range_from-requires : goal.range_from-requires
range_from-requires c = λ _. lead_boundary number (rest Zero) _ _ c.utf8.text
    (zero_leads _ _ _ (behind_sign _ _ _ c.as_bytes.ensures.value) c.sign_at-sign.ensures.leads (omega arith) (omega arith))

pub returns-in_default : goal.returns-in_default
returns-in_default c = absurd (prefix_there (rest Zero) _ refl c.in_default.ensures)

pub returns-then-whole-eq48 : goal.returns-then-whole-eq48
returns-then-whole-eq48 c = prefix_behind number (rest Zero) _ _ _ _ c.range_from.ensures.value
    (zero_leads _ _ _ (behind_sign _ _ _ c.as_bytes.ensures.value) c.sign_at-sign.ensures.leads (omega arith) (omega arith))
    c.in-Some.ensures

pub range_from-requires-2 : goal.range_from-requires-2
range_from-requires-2 c = λ _. lead_boundary number (rest WholePart) _ _ c.utf8.text
    (digits_lead _ _ _ _ (behind_sign _ _ _ c.as_bytes.ensures.value) c.sign_at-sign.ensures.leads (omega arith) c.run_of-run.ensures.within c.run_of-run.ensures.all c.if-whole-eq48.false)

pub returns-in_default-behind_whole : goal.returns-in_default-behind_whole
returns-in_default-behind_whole c = absurd (prefix_there (rest WholePart) _ refl c.in_default-behind_whole.ensures)

pub returns : goal.returns
returns c = prefix_behind number (rest WholePart) _ _ _ _ c.range_from-2.ensures.value
    (digits_lead _ _ _ _ (behind_sign _ _ _ c.as_bytes.ensures.value) c.sign_at-sign.ensures.leads (omega arith) c.run_of-run.ensures.within c.run_of-run.ensures.all c.if-whole-eq48.false)
    c.in-Some-behind_whole.ensures

pub returns-then-run-whole : goal.returns-then-run-whole
returns-then-run-whole c = digits_end _ _ _ _ (behind_sign _ _ _ c.as_bytes.ensures.value) c.sign_at-sign.ensures.leads (omega arith) c.run_of-run.ensures.within c.run_of-run.ensures.all c.if-whole-eq48.false
    c.run_of-run.ensures.stops (λ k. let w : ⊥ = omega arith in absurd w)

pub returns-then-ends_whole-2 : goal.returns-then-ends_whole-2
returns-then-ends_whole-2 c = digits_end _ _ _ _ (behind_sign _ _ _ c.as_bytes.ensures.value) c.sign_at-sign.ensures.leads (omega arith) c.run_of-run.ensures.within c.run_of-run.ensures.all c.if-whole-eq48.false
    c.run_of-run.ensures.stops (λ k. sym c.ends_whole-2.ensures ∙ c.if-ends_whole-2.true)

pub returns-then-whole-eq1 : goal.returns-then-whole-eq1
returns-then-whole-eq1 c = zero_end _ _ _ (behind_sign _ _ _ c.as_bytes.ensures.value) c.sign_at-sign.ensures.leads (omega arith) (omega arith) (λ k. let w : ⊥ = omega arith in absurd w)

pub returns-then-ends_whole : goal.returns-then-ends_whole
returns-then-ends_whole c = zero_end _ _ _ (behind_sign _ _ _ c.as_bytes.ensures.value) c.sign_at-sign.ensures.leads (omega arith) (omega arith) (λ k. sym c.ends_whole.ensures ∙ c.if-ends_whole.true)
