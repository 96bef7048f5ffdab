use Rattle.wave_tree.proofs.Displays.Meaning.{kept_by_display}
use Rattle.wave_tree.proofs.untyped.display.UntypedValueDisplay.fmt.Goals as goal

pub returns-clause-kept : goal.returns-clause-kept
returns-clause-kept g c = kept_by_display c.args.self.now.source c.args.self.now.node
