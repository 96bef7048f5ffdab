use Rattle.std.proofs.Common.{◌≡◌, ap, subst, ◌∙◌}
use Rattle.std.specs.Prelude.{IfOk}
use Rattle.wave_wasm.specs.Types as type
use Rattle.wave_wasm.specs.Types.{TypeTree}
use Rattle.wave_value.specs.TypedValue.{TypedValue}
use Rattle.wave_convert.proofs.convert.scalars.AnyIntoValue.value_type.Goals as goal

pub returns : goal.returns
returns g c =
    let made = g.met.T.OneToken.is_made c.default.result c.into-val.result c.into-val.ensures in
    let own : c.into-val.result.own ≡ type.simple g.T.OneToken.simple = ap (λ (v : TypedValue). v.own) made ∙ ap type.simple (g.T.OneToken.is_simple c.default.result) in
    subst (λ (T : TypeTree). IfOk c.ty.result (λ t. t ≡ T)) own c.ty.ensures.own
