use Rattle.wave.proofs.HavingValue.{exact}
use Rattle.wave.proofs.inhabited.is_inhabited.Goals as goal

pub returns : goal.returns
returns g c = exact (g.T.WasmType.tree c.args.ty.now) c.type_has_value.result c.type_has_value.ensures
