use Rattle.std.proofs.Common.{List, ◌++◌, sym, ap, ◌∙◌, subst}
use Rattle.wave_lex.specs.Errors.{Diagnostic}
use Rattle.wave_faults.specs.AllFaults.{AreFaults}
use Rattle.wave_faults.proofs.faults.faults.Goals as goal

pub returns : goal.returns
returns g c = λ t h.
    let a = c.in_ok-tell.ensures t h in
    subst (AreFaults (g.T.WasmType.tree c.args.ty.now) t) (sym (a.is ∙ ap (λ (l : List Diagnostic). l ++ a.added) c.new-told.ensures.items)) a.these
