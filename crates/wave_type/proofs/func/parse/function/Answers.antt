use Rattle.std.proofs.Common.{◌≡◌, Err, List, [], ◌∷◌, ◌++◌, ◌∙◌, rules, codes}
use Rattle.wave_wasm.specs.Borrowed.{named}
use Rattle.wave_type.specs.Private.TypeTokens.{Fails}
use Rattle.wave_type.specs.TypeFaults.{Expectation, mark_expected, last_expected, results_expected, more_fields, expected_of_function}
use Rattle.wave_type.proofs.TypeFaults.TokenSteps.{fails_onward, mark_runs}
use Rattle.wave_type.proofs.TypeReading.ReaderSteps.{answers_err}
use Rattle.wave_type.proofs.TypeFaults.SpelledIsTaken.{params_read_runs}
use Rattle.wave_type.proofs.func.parse.function.Goals as goal

pub returns-in_err-results : goal.returns-in_err-results
returns-in_err-results c =
    let n = c.args.levels in
    let old = c.args.reader.now in
    let kind = c.in_err-results.field-0.0 in
    let params = λ (expectations : List Expectation). last_expected (codes ")") (more_fields n []) ∷ results_expected n ∷ expectations in
    let h : Fails (λ expectations. expected_of_function n ++ expectations) old kind c.results.new.reader =
    fails_onward (λ expectations. expected_of_function n ++ expectations) (λ expectations. results_expected n ∷ expectations) old c.params.new.reader c.results.new.reader kind (λ expectations. mark_runs (codes "func") old c.expect.new.self (mark_expected (codes "(") ∷ params expectations) c.in_ok-expect.ensures.taken ∙ (mark_runs (codes "(") c.expect.new.self c.expect-2.new.self (params expectations) c.in_ok-expect-2.ensures.taken ∙ params_read_runs n c.expect-2.new.self c.params.new.reader (named c.in_ok-params.params.items) c.in_ok-params.ensures (results_expected n ∷ expectations))) c.in_err-results.ensures
    in
    let same : c.from_residual-in_err-results.result ≡ Err kind = search rules in
    answers_err _ _ _ _ _ _ _ same h
