use Rattle.std.proofs.Common.{Ok, Err, refl, sym, subst}
use Rattle.wave_grammar.specs.NodeTree.{place_of}
use Rattle.wave_leaf.specs.Faults.{Reports}
use Rattle.wave_read.specs.Private.NamedFlags.{IsReported}
use Rattle.wave_read.proofs.flags.read_flags.Goals as goal

pub returns-in-Ok-clause-read : goal.returns-in-Ok-clause-read
returns-in-Ok-clause-read g c = λ o w source n flags place named.
    c.read_names.ensures.read source n flags named o w (Ok c.in-Ok.val) (subst (λ r. IsReported r (place_of n) (Ok c.in-Ok.val)) (sym c.in-Ok.is) refl)

pub returns-in-Err-clause-read : goal.returns-in-Err-clause-read
returns-in-Err-clause-read g c = λ o w source n flags place named.
    c.read_names.ensures.read source n flags named o w (Err c.report.result)
    (subst (λ r. IsReported r (place_of n) (Err c.report.result)) (sym c.in-Err.is) (subst (λ p. Reports c.in-Err.fault p c.report.result) (sym place) c.report.ensures))
