use Rattle.std.proofs.Common.{sym}
use Rattle.wave_place.specs.Paths.{key}
use Rattle.wave_place.proofs.Steps.{key_deepest}
use Rattle.wave_place.proofs.path.step_to_key.Goals as goal

pub text_of-requires : goal.text_of-requires
text_of-requires g c = c.in-Some-key_at.ensures.parsed c.args.source.now c.requires

pub returns-in_ok-push_key-in-Some-key_at-clause-taken : goal.returns-in_ok-push_key-in-Some-key_at-clause-taken
returns-in_ok-push_key-in-Some-key_at-clause-taken g c =
    let found = c.in-Some-key_at.ensures.some in (
      record {
        step = key c.text_of.result.now;
        steps = (found.0.0, found.0.1, sym c.text_of.ensures, (g.T.WasmType.tree c.in-Some.field-0-1.now, sym c.in-Some.ensures));
        holds = found.1;
        text_is = c.in_ok-push_key-in-Some-key_at.ensures;
      },
      key_deepest c.args.source.now c.args.span.now (g.T.WasmType.tree c.args.ty.now) _ _ c.in-Some-key_at.key.now (sym c.in-Some.ensures),
    )

pub returns-in-None-clause-none : goal.returns-in-None-clause-none
returns-in-None-clause-none g c = λ text m U s lies. c.in-None.ensures.none m s.0 s.1 lies
