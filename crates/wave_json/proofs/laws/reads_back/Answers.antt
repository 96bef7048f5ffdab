use Rattle.wave_json.proofs.Again.{again}
use Rattle.wave_json.proofs.laws.reads_back.Goals as goal

pub returns : goal.returns
returns c = λ T v distinct h. again T distinct v h
