use Rattle.wave_tape.specs.TypeTape.{has_func_tape}
use Rattle.wave_tape.proofs.Puts.{no_tape}
use Rattle.wave_tape.proofs.encode_type.encode_func.Goals as goal

pub returns-in-Err-clause-cause : goal.returns-in-Err-clause-cause
returns-in-Err-clause-cause g c = no_tape c.in-Err.stop c.new.result (has_func_tape (g.F.WasmFunc.func c.args.func.now)) c.new.ensures.kind c.new.ensures.place c.in-Err.ensures.err
