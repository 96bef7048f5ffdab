use Rattle.wave_wasm.specs.Types.{depth}
use Rattle.wave_place.proofs.path.+part_at.Given as goal

abbrev pub decreases-part_at : goal.decreases-part_at
decreases-part_at g l = depth (g.T.WasmType.tree l.ty.now)
