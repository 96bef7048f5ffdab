use Rattle.wave_example_settings.proofs.Lawful.{formed}
use Rattle.wave_example_settings.proofs.bare.BareWasmValue.kind.Goals as goal

pub returns-in-List-clause-formed : goal.returns-in-List-clause-formed
returns-in-List-clause-formed c = formed c.args.self.now

pub returns-in-Fixed-clause-formed : goal.returns-in-Fixed-clause-formed
returns-in-Fixed-clause-formed c = formed c.args.self.now
