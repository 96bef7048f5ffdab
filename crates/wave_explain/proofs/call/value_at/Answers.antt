use Rattle.wave_grammar.specs.TypedReading.{IsValueOf}
use Rattle.wave_place.proofs.Steps.{all_get, some_so}
use Rattle.wave_explain.proofs.call.value_at.Goals as goal

pub returns-clause-value : goal.returns-clause-value
returns-clause-value c =
    some_so c.item_at.result (λ found s. all_get (IsValueOf c.args.call.now.source) c.in-Ok.values.now found.0 found.1.now (c.in-Ok.ensures.2 c.args.call.now.source c.in-Some.ensures.parsed.0) s.1) c.item_at.ensures.some
