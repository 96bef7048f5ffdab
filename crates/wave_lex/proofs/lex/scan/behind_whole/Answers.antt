use Rattle.std.proofs.Common.{refl, arith, sym, ◌∙◌}
use Rattle.std.proofs.lemmas.List.{take_rest}
use Rattle.wave_lex.specs.Machines.{rest}
use Rattle.wave_lex.specs.declared.machine.Start.TheVariants.{Fraction}
use Rattle.wave_lex.proofs.QuickScan.Prefixes.{prefix_there, prefix_behind, lead_boundary}
use Rattle.wave_lex.proofs.QuickScan.ByteRuns.{fraction_leads, fraction_end}
use Rattle.wave_lex.proofs.lex.scan.behind_whole.Goals as goal

pub returns-then-run-digits : goal.returns-then-run-digits
returns-then-run-digits c = fraction_end (rest c.args.start) _ _ _ _ c.requires c.as_bytes-bytes.ensures.value (take_rest _ 1) (omega arith) (omega arith) (omega arith) c.run_of-run.ensures.within c.run_of-run.ensures.all
    c.run_of-run.ensures.stops (λ k. let w : ⊥ = omega arith in absurd w)

pub returns-then-ends_whole : goal.returns-then-ends_whole
returns-then-ends_whole c = fraction_end (rest c.args.start) _ _ _ _ c.requires c.as_bytes-bytes.ensures.value (take_rest _ 1) (omega arith) (omega arith) (omega arith) c.run_of-run.ensures.within c.run_of-run.ensures.all
    c.run_of-run.ensures.stops (λ k. sym c.ends_whole.ensures ∙ c.if-ends_whole.true)

pub range_from-requires : goal.range_from-requires
range_from-requires c = λ _. lead_boundary (rest c.args.start) (rest Fraction) _ _ c.utf8.text
    (fraction_leads (rest c.args.start) _ _ _ _ c.requires c.as_bytes-bytes.ensures.value (take_rest _ 1) (omega arith) (omega arith) (omega arith) c.run_of-run.ensures.within c.run_of-run.ensures.all)

pub returns-in_default : goal.returns-in_default
returns-in_default c = absurd (prefix_there (rest Fraction) _ refl c.in_default.ensures)

pub returns : goal.returns
returns c = prefix_behind (rest c.args.start) (rest Fraction) _ _ _ _ c.range_from.ensures.value
    (fraction_leads (rest c.args.start) _ _ _ _ c.requires c.as_bytes-bytes.ensures.value (take_rest _ 1) (omega arith) (omega arith) (omega arith) c.run_of-run.ensures.within c.run_of-run.ensures.all)
    c.in-Some.ensures
