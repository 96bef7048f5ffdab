use Rattle.std.proofs.Common.{inl, inr, sym, ap, subst, string_bytes}
use Rattle.wave_commands.specs.Formatted.{IsLayoutOf}
use Rattle.wave_tree.specs.Untyped.{RefusesTree}
use Rattle.wave.proofs.FileWords.{ok_with}
use Rattle.wave.proofs.reading.value_laid_out.Goals as goal

pub returns-in-Ok : goal.returns-in-Ok
returns-in-Ok c =
    inl (subst (λ s. IsLayoutOf s (string_bytes c.in-Ok.text)) c.as_str.ensures.value (record { laid_out = c.in-Ok.ensures.laid; trees = c.in-Ok.ensures.trees; means = c.in-Ok.ensures.means }))

pub returns-in-Err : goal.returns-in-Err
returns-in-Err c =
    ok_with c.unless_memory.result
    (λ text kept reported. inr (ap string_bytes kept, (c.in-Err.error, reported, subst (λ s. RefusesTree 100 s c.in-Err.error) c.as_str.ensures.value c.in-Err.ensures.refused)))
    c.unless_memory.ensures.kept c.unless_memory.ensures.reported
