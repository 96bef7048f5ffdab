use Rattle.std.proofs.Common.{map}
use Rattle.std.specs.List.{list_all}
use Rattle.wave_wasm.specs.Text.{is_writable}
use Rattle.wave_tape.proofs.Puts.{no_tape}
use Rattle.wave_tape.proofs.encode.encode_call.Goals as goal

pub returns-in-Err-clause-cause : goal.returns-in-Err-clause-cause
returns-in-Err-clause-cause g c = no_tape c.in-Err.stop c.new.result (list_all is_writable (map g.V.WasmValue.tree c.args.args.now)) c.new.ensures.kind c.new.ensures.place c.in-Err.ensures.err
