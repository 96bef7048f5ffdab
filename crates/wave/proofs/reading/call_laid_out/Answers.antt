use Rattle.std.proofs.Common.{inl, inr, ap, subst, string_bytes}
use Rattle.wave_tree.specs.UntypedCall.{RefusesCall}
use Rattle.wave.specs.Readings.{IsCallLayoutOf}
use Rattle.wave.proofs.FileWords.{ok_with}
use Rattle.wave.proofs.reading.call_laid_out.Goals as goal

pub returns-in-Ok : goal.returns-in-Ok
returns-in-Ok c =
    inl (subst (λ s. IsCallLayoutOf s (string_bytes c.in-Ok.text)) c.as_str.ensures.value (record { laid_out = c.in-Ok.ensures.laid; calls = c.in-Ok.ensures.calls }))

pub returns-in-Err : goal.returns-in-Err
returns-in-Err c =
    ok_with c.unless_memory.result
    (λ text kept reported. inr (ap string_bytes kept, (c.in-Err.error, reported, subst (λ s. RefusesCall s c.in-Err.error) c.as_str.ensures.value c.in-Err.ensures.refused)))
    c.unless_memory.ensures.kept c.unless_memory.ensures.reported
