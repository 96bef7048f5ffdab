use Rattle.std.proofs.Common.{string_bytes}
use Rattle.wave.proofs.Misused.{valueless_said, type_refused_said}
use Rattle.wave.proofs.misuse.bad_type.Goals as goal

pub returns-in-Ok : goal.returns-in-Ok
returns-in-Ok c = valueless_said c.from_str.result c.args.word.now c.text_of-text.result.now c.in-Ok.field-0 c.text_of-text.ensures c.in-Ok.ensures.spelled c.in-Ok.ensures.levels c.requires c.from_str.ensures.ok

pub returns : goal.returns
returns c = type_refused_said c.format.result c.args.word.now c.text_of-text.result.now c.in-Err.error (string_bytes c.in_ok-shown-in-Err.shown) c.text_of-text.ensures c.in_ok-shown-in-Err.ensures.reported c.in-Err.ensures.refused c.in-Err.ensures.fault c.in_ok-shown-in-Err.ensures.shown c.format.ensures.ok
