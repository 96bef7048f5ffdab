use Rattle.std.proofs.Common.{[], ◌∷◌, refl}
use Rattle.std.proofs.lemmas.Result.{err_from_is_err_and}
use Rattle.wave_tape.proofs.Puts.{bytes_stop, puts_last}
use Rattle.wave_tape.proofs.encode_type.put_head.Goals as goal

pub returns-in_err-put_bytes : goal.returns-in_err-put_bytes
returns-in_err-put_bytes c =
    let p = err_from_is_err_and c.from_residual.result c.from_residual.ensures.1 in
    rw (p.1, p.2) (bytes_stop c.in_err-put_bytes.ensures)

pub returns : goal.returns
returns c = puts_last (c.args.kind ∷ []) c.in_ok-put_bytes.ensures.ok.0 refl refl c.put_count.ensures
