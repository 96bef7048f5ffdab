use Rattle.std.proofs.Common.{◌≤◌, ◌≡◌, List, ◌++◌, Err, sym, subst, rules, arith}
use Rattle.wave_type.specs.Private.FunctionType.{named_function}
use Rattle.wave_type.specs.FunctionSpelling.{SpellsFunction, levels_of_function}
use Rattle.wave_type.specs.Private.TypeTokens.{IsRefusal}
use Rattle.wave_type.specs.TypeFaults.{Expectation, expected_of_function}
use Rattle.wave_type.proofs.TypeReading.Functions.{function_sound, made_of}
use Rattle.wave_type.specs.DistinctLabels.{FunctionHasDistinctLabels}
use Rattle.wave_type.proofs.TypeReading.SpelledNames.{function_labelled}
use Rattle.wave_type.proofs.TypeReading.Levels.{function_low}
use Rattle.wave_type.proofs.TypeFaults.WholeTexts.{err_if, fails_alone, function_is_left}
use Rattle.wave_type.proofs.func.parse.whole_function.Goals as goal

pub returns-then-count-gt0-clause-refused : goal.returns-then-count-gt0-clause-refused
returns-then-count-gt0-clause-refused c =
    let f = named_function c.in_ok-params.params.items c.in_ok-params.results.items in
    function_is_left c.args.levels c.args.reader.now c.function.new.reader f c.in_ok-params.ensures (λ none. omega (arith, none, c.count.ensures, c.if-count-gt0.true))

pub returns-in-Ok-clause-spelled : goal.returns-in-Ok-clause-spelled
returns-in-Ok-clause-spelled c =
    let f = named_function c.in_ok-params.params.items c.in_ok-params.results.items in
    let made : c.in-Ok.function ≡ f = made_of c.in_ok-params-2.params.items c.in_ok-results.results.items c.in_ok-params.params.items c.in_ok-params.results.items c.in-Ok.function c.in-Ok.ensures.built.0 c.in_ok-params-2.ensures c.in_ok-results.ensures in
    let spelled = function_sound c.args.levels c.args.reader.now c.function.new.reader f c.in_ok-params.ensures (omega (arith, c.count.ensures, c.if-count-gt0.false)) in
    subst (λ g. SpellsFunction g c.args.reader.now) (sym made) spelled

pub returns-in-Ok-clause-levels : goal.returns-in-Ok-clause-levels
returns-in-Ok-clause-levels c =
    let f = named_function c.in_ok-params.params.items c.in_ok-params.results.items in
    let made : c.in-Ok.function ≡ f = made_of c.in_ok-params-2.params.items c.in_ok-results.results.items c.in_ok-params.params.items c.in_ok-params.results.items c.in-Ok.function c.in-Ok.ensures.built.0 c.in_ok-params-2.ensures c.in_ok-results.ensures in
    let low = function_low c.args.levels c.args.reader.now c.function.new.reader f c.in_ok-params.ensures in
    subst (λ g. levels_of_function g ≤ c.args.levels) (sym made) low

pub returns-in-Ok-clause-labels : goal.returns-in-Ok-clause-labels
returns-in-Ok-clause-labels c =
    let f = named_function c.in_ok-params.params.items c.in_ok-params.results.items in
    let made : c.in-Ok.function ≡ f = made_of c.in_ok-params-2.params.items c.in_ok-results.results.items c.in_ok-params.params.items c.in_ok-params.results.items c.in-Ok.function c.in-Ok.ensures.built.0 c.in_ok-params-2.ensures c.in_ok-results.ensures in
    let spelled = function_sound c.args.levels c.args.reader.now c.function.new.reader f c.in_ok-params.ensures (omega (arith, c.count.ensures, c.if-count-gt0.false)) in
    subst (λ g. FunctionHasDistinctLabels g) (sym made) (function_labelled f c.args.reader.now spelled)

pub returns-in_err-params-clause-refused : goal.returns-in_err-params-clause-refused
returns-in_err-params-clause-refused c =
    let kind = c.in_err-params.field-0.0 in
    let same : c.from_residual.result ≡ Err kind = search rules in
    err_if (λ kind. IsRefusal (expected_of_function c.args.levels) c.args.reader.now kind c.function.new.reader) c.from_residual.result kind same (fails_alone (λ (expectations : List Expectation). expected_of_function c.args.levels ++ expectations) c.args.reader.now c.function.new.reader kind c.in_err-params.ensures)
