use Rattle.wave_tree.proofs.ErrorSpans.Syntax.{refusals_lie}
use Rattle.wave_grammar.proofs.ErrorSpans.Faults.{faults_lie}
use Rattle.wave_tree.proofs.laws.refusals_lie_in_the_text.Goals as goal

pub returns-clause-syntax : goal.returns-clause-syntax
returns-clause-syntax c = refusals_lie

pub returns-clause-faults : goal.returns-clause-faults
returns-clause-faults c = faults_lie
