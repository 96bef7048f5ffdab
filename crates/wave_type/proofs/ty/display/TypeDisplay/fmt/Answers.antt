use Rattle.std.proofs.Common.{subst}
use Rattle.wave_wasm.specs.Types.{IsRepresentable}
use Rattle.wave_type.proofs.TypeTexts.Injective.{text_tells}
use Rattle.wave_type.proofs.ty.display.TypeDisplay.fmt.Goals as goal

pub returns-clause-apart : goal.returns-clause-apart
returns-clause-apart g c = text_tells _ (subst IsRepresentable c.self.view_is c.self.invariant.representable)
