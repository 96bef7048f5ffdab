use Rattle.std.proofs.Common.{◌++◌, string_bytes, sym, ap, ◌∙◌}
use Rattle.std.specs.List.{flat_map}
use Rattle.std.proofs.lemmas.Iterator.{YieldsList-from_chars}
use Rattle.std.proofs.lemmas.Iterator.Consumers.{YieldsList-end}
use Rattle.std.proofs.lemmas.List.{map-id, flat_map_more}
use Rattle.wave_files.specs.Json.{json_scalar}
use Rattle.wave_files.proofs.json.push_json_scalars.Goals as goal

pub scalars-preserved : goal.scalars-preserved
scalars-preserved c =
    let grown =
    c.in_ok-push_json_scalar.ensures
    ∙ (ap (λ x. x ++ json_scalar c.in-Some.scalar) c.scalars.invariant.2
    ∙ flat_map_more json_scalar (string_bytes c.args.to.now) c.scalars.yielded c.in-Some.scalar) in (
      tt,
      tt,
      grown,
    )

pub returns : goal.returns
returns c =
    let t = YieldsList-end (YieldsList-from_chars c.args.text.now c.utf8.text (cc)) c.scalars.yielded _ c.scalars.yielded_by _ _ c.in-None.is c.next.ensures.steps in
    c.scalars.invariant.2 ∙ ap (λ x. string_bytes c.args.to.now ++ flat_map json_scalar x) (sym (map-id c.scalars.yielded) ∙ t.0)
