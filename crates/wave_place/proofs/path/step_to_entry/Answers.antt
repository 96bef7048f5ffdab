use Rattle.std.proofs.Common.{inr, sym}
use Rattle.wave_place.specs.Paths.{entry}
use Rattle.wave_place.proofs.path.step_to_entry.Goals as goal

pub text_of-requires : goal.text_of-requires
text_of-requires g c = inr (c.in-Some-entry_at.ensures.parsed c.args.source.now c.requires).0

pub returns-in_ok-push_key-in-Some-entry_at-clause-taken : goal.returns-in_ok-push_key-in-Some-entry_at-clause-taken
returns-in_ok-push_key-in-Some-entry_at-clause-taken g c =
    let found = c.in-Some-entry_at.ensures.some in
    record {
      step = entry c.text_of.result.now;
      steps = (c.in-Some-entry_at.key.now, found.0, sym c.text_of.ensures, (g.T.WasmType.tree c.in-Some.field-0-0.now, sym c.in-Some.ensures));
      holds = found.1;
      text_is = c.in_ok-push_key-in-Some-entry_at.ensures;
    }

pub returns-in_ok-push_key-in-Some-entry_at-clause-value : goal.returns-in_ok-push_key-in-Some-entry_at-clause-value
returns-in_ok-push_key-in-Some-entry_at-clause-value g c = (c.in-Some-entry_at.ensures.parsed c.args.source.now c.requires).1

pub returns-in-None-clause-none : goal.returns-in-None-clause-none
returns-in-None-clause-none g c = λ text m U s lies. c.in-None.ensures.none s.0 m s.1 lies
