use Rattle.std.proofs.Common.{◌≡◌, ap, subst, ◌∙◌, refl}
use Rattle.wave_wasm.specs.Types as type
use Rattle.wave_wasm.specs.Values.{IsWellFormed}
use Rattle.wave_value.specs.TypedValue.{TypedValue}
use Rattle.wave_convert.proofs.convert.scalars.AnyIntoValue.into_value.Goals as goal

pub returns : goal.returns
returns g c =
    let made = g.met.T.OneToken.is_made c.args.self c.into-val.result c.into-val.ensures in
    let sound = subst (λ (v : TypedValue). IsWellFormed v.tree) made c.kind.ensures.formed in
    record {
      own = ap (λ (v : TypedValue). v.own) made ∙ ap type.simple (g.T.OneToken.is_simple c.args.self);
      tree = ap (λ (v : TypedValue). v.tree) made;
      fits = (g.T.OneToken.leaf c.args.self, (g.T.OneToken.is_simple c.args.self, sound), refl);
    }
