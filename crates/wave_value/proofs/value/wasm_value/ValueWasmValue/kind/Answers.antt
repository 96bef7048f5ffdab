use Rattle.std.proofs.Common.{subst}
use Rattle.wave_value.specs.TypedValue.{IsTyped}
use Rattle.wave_value.proofs.Lawful.Values.{well_formed}
use Rattle.wave_value.proofs.ValueModel.ContentMeaning.{means}
use Rattle.wave_value.proofs.value.wasm_value.ValueWasmValue.kind.Goals as goal

pub returns-clause-formed : goal.returns-clause-formed
returns-clause-formed c =
    well_formed c.args.self.now (subst IsTyped c.self.view_is (means c.self.inside.own c.self.inside.content c.self.invariant))
