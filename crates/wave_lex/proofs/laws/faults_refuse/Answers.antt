use Rattle.wave_lex.proofs.StringDecoding.Faults.{faults_refuse}
use Rattle.wave_lex.proofs.laws.faults_refuse.Goals as goal

pub returns : goal.returns
returns c = faults_refuse
