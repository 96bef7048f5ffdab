use Rattle.std.proofs.Common.{ap, ◌∙◌}
use Rattle.std.proofs.lemmas.Result.{err_from_is_err_and}
use Rattle.wave_wasm.specs.Borrowed.{texts}
use Rattle.wave_tape.proofs.Puts.{memory_stop, puts_as}
use Rattle.wave_tape.proofs.Values.{flags_is}
use Rattle.wave_tape.proofs.encode.put_flags.Goals as goal

pub returns : goal.returns
returns g c =
    let s = flags_is _ (texts c.deref.result.now) c.requires (ap texts c.deref.ensures.value ∙ c.in_ok-names.ensures) in
    puts_as s.bytes_are s.has_is c.put_names.ensures

pub returns-in_err-names : goal.returns-in_err-names
returns-in_err-names g c =
    let p = err_from_is_err_and c.from_residual.result c.from_residual.ensures.1 in
    rw (p.1, p.2) (memory_stop _)
